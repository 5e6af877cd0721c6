-- Sets that are within others by computing are.
use Rattle.std.proofs.Common.{◌≡◌, inl, inr, ℕ, nat_eq, ◌&&◌, Bool, true, false, ◌||◌, List, [], ◌∷◌, refl, ap, ◌∙◌, subst, arith}
use Rattle.std.proofs.lemmas.Bool.Decides.{nat_tests}
use Rattle.std.specs.Str.{bytes_eq}
use Rattle.ir_lexer.specs.declared.table.Token.{Token}
use Rattle.ir_lexer.specs.declared.table.Token.TheVariants as tokens
use Rattle.ir_grammar.specs.declared.kinds.Kind.{Kind}
use Rattle.ir_grammar.specs.declared.kinds.Kind.TheVariants as kinds
use Rattle.ir_grammar.specs.Pieces.{Piece, Is, Bad}
use Rattle.ir_grammar.specs.Sets.{Set, Item, IsWord, Other, IsSign, OfKind, BeforeName, Any, same_kind, meta_kind, hash_kind, kind_fits, fits, has, in_set, head_in}
use Rattle.ir_grammar.proofs.Apart.{and_true, or_true, bytes_same}

abbrev pub same_words : List (List ℕ) → List (List ℕ) → Bool
same_words [] [] = true
same_words [] (w ∷ ws) = false
same_words (v ∷ vs) [] = false
same_words (v ∷ vs) (w ∷ ws) = bytes_eq v w && same_words vs ws

words_same : (vs ws : List (List ℕ)) → same_words vs ws ≡ true → vs ≡ ws
words_same [] [] e = refl
words_same [] (w ∷ ws) e = absurd cc
words_same (v ∷ vs) [] e = absurd cc
words_same (v ∷ vs) (w ∷ ws) e =
    let both = and_true (bytes_eq v w) (same_words vs ws) e in
    ap (λ x. x ∷ vs) (bytes_same v w both.0) ∙ ap (λ x. w ∷ x) (words_same vs ws both.1)

abbrev pub item_same : Item → Item → Bool
item_same (IsWord v) (IsWord w) = bytes_eq v w
item_same (Other vs) (Other ws) = same_words vs ws
item_same (IsSign c) (IsSign d) = nat_eq c d
item_same (OfKind k) (OfKind l) = same_kind k l
item_same BeforeName BeforeName = true
item_same _ _ = false

abbrev pub has_item : Set → Item → Bool
has_item [] i = false
has_item (j ∷ js) i = item_same i j || has_item js i

abbrev pub within : Set → Set → Bool
within [] y = true
within (i ∷ is) y = has_item y i && within is y

kind_same : (t k l : Kind) → same_kind k l ≡ true → kind_fits t (OfKind k) ≡ true → kind_fits t (OfKind l) ≡ true
kind_same t k l e f = grind (arith, nat_tests)

of_kind : (t : Token) (k l : Kind) → same_kind k l ≡ true → fits t (OfKind k) ≡ true → fits t (OfKind l) ≡ true
of_kind (tokens.Word w) k l e f = absurd cc
of_kind (tokens.Sign c) k l e f = absurd cc
of_kind (tokens.Int n) k l e f = kind_same kinds.Int k l e f
of_kind (tokens.Label n) k l e f = kind_same kinds.Label k l e f
of_kind (tokens.Local n) k l e f = kind_same kinds.Local k l e f
of_kind (tokens.Global n) k l e f = kind_same kinds.Global k l e f
of_kind (tokens.Str n) k l e f = kind_same kinds.Str k l e f
of_kind (tokens.CStr n) k l e f = kind_same kinds.CStr k l e f
of_kind (tokens.Meta n) k l e f = kind_same (meta_kind n) k l e f
of_kind (tokens.Hash n) k l e f = kind_same (hash_kind n) k l e f
of_kind tokens.End k l e f = kind_same kinds.End k l e f

same_fits : (t : Token) (i j : Item) → item_same i j ≡ true → fits t i ≡ true → fits t j ≡ true
same_fits t (IsWord v) (IsWord w) e f = rw (← bytes_same v w e) f
same_fits t (IsWord v) (Other ws) e f = absurd cc
same_fits t (IsWord v) (IsSign c) e f = absurd cc
same_fits t (IsWord v) (OfKind k) e f = absurd cc
same_fits t (IsWord v) BeforeName e f = absurd cc
same_fits t (IsWord v) Any e f = absurd cc
same_fits t (Other vs) (IsWord w) e f = absurd cc
same_fits t (Other vs) (Other ws) e f = subst (λ x. fits t (Other x) ≡ true) (words_same vs ws e) f
same_fits t (Other vs) (IsSign c) e f = absurd cc
same_fits t (Other vs) (OfKind k) e f = absurd cc
same_fits t (Other vs) BeforeName e f = absurd cc
same_fits t (Other vs) Any e f = absurd cc
same_fits t (IsSign c) (IsWord w) e f = absurd cc
same_fits t (IsSign c) (Other ws) e f = absurd cc
same_fits t (IsSign c) (IsSign d) e f = let h : c ≡ d = grind (arith, nat_tests) in subst (λ x. fits t (IsSign x) ≡ true) h f
same_fits t (IsSign c) (OfKind k) e f = absurd cc
same_fits t (IsSign c) BeforeName e f = absurd cc
same_fits t (IsSign c) Any e f = absurd cc
same_fits t (OfKind k) (IsWord w) e f = absurd cc
same_fits t (OfKind k) (Other ws) e f = absurd cc
same_fits t (OfKind k) (IsSign d) e f = absurd cc
same_fits t (OfKind k) (OfKind l) e f = of_kind t k l e f
same_fits t (OfKind k) BeforeName e f = absurd cc
same_fits t (OfKind k) Any e f = absurd cc
same_fits t BeforeName (IsWord w) e f = absurd cc
same_fits t BeforeName (Other w) e f = absurd cc
same_fits t BeforeName (IsSign w) e f = absurd cc
same_fits t BeforeName (OfKind w) e f = absurd cc
same_fits t BeforeName BeforeName e f = f
same_fits t BeforeName Any e f = absurd cc
same_fits t Any j e f = absurd cc

or_left : (a b : Bool) → a ≡ true → (a || b) ≡ true
or_left true b e = refl
or_left false b e = absurd cc

or_right : (a b : Bool) → b ≡ true → (a || b) ≡ true
or_right true b e = refl
or_right false b e = e

item_in : (y : Set) (i : Item) (t : Token) → has_item y i ≡ true → fits t i ≡ true → has y t ≡ true
item_in [] i t e f = absurd cc
item_in (j ∷ js) i t e f = elim (or_true (item_same i j) (has_item js i) e) [ inl h ↦ or_left (fits t j) (has js t) (same_fits t i j h f) | inr h ↦ or_right (fits t j) (has js t) (item_in js i t h f) ]

within_has : (x y : Set) (t : Token) → within x y ≡ true → has x t ≡ true → has y t ≡ true
within_has [] y t e f = absurd cc
within_has (i ∷ is) y t e f =
    let both = and_true (has_item y i) (within is y) e in
    elim (or_true (fits t i) (has is t) f) [ inl h ↦ item_in y i t both.0 h | inr h ↦ within_has is y t both.1 h ]

pub within_in : (x y : Set) (t : Piece) → within x y ≡ true → in_set x t ≡ true → in_set y t ≡ true
within_in x y (Is s) e f = within_has x y s.token e f
within_in x y (Bad b) e f = absurd cc

pub within_head : (x y : Set) (ts : List Piece) → within x y ≡ true → head_in y ts ≡ false → head_in x ts ≡ false
within_head x y [] e f = refl
within_head x y (t ∷ ts) e f = at (in_set x t) (within_in x y t e) f
  where
    at : (b : Bool) → (b ≡ true → in_set y t ≡ true) → in_set y t ≡ false → b ≡ false
    at true h g = absurd (cc (h refl, g))
    at false h g = refl
