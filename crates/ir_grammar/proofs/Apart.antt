-- Sets that are apart by computing have no token in common.
use Rattle.std.proofs.Common.{◌≡◌, ◌⊎◌, inl, inr, ℕ, Bool, true, false, nat_eq, ◌&&◌, ◌||◌, List, [], ◌∷◌, ◌++◌, refl, sym, ap, ◌∙◌, arith}
use Rattle.std.specs.Prelude.{not}
use Rattle.std.proofs.lemmas.Bool.Decides.{nat_tests}
use Rattle.std.specs.Str.{bytes_eq}
use Rattle.std.proofs.lemmas.Slice.Eq.{bytes_eq-Decides}
use Rattle.ir_lexer.specs.declared.table.Token.{Token}
use Rattle.ir_lexer.specs.declared.table.Token.TheVariants as tokens
use Rattle.ir_grammar.specs.declared.kinds.Kind.{Kind}
use Rattle.ir_grammar.specs.declared.kinds.Kind.TheVariants as kinds
use Rattle.ir_grammar.specs.Pieces.{Piece, Is, Bad}
use Rattle.ir_grammar.specs.Sets.{Set, Item, IsWord, Other, IsSign, OfKind, BeforeName, Any, number, same_kind, is_integer_type, meta_kind, hash_kind, among, word_fits, sign_fits, kind_fits, fits, has, in_set, head_in, item_apart, all_apart, apart, set_if}

pub and_true : (a b : Bool) → (a && b) ≡ true → (a ≡ true) × (b ≡ true)
and_true true true e = (refl, refl)
and_true true false e = absurd cc
and_true false b e = absurd cc

pub or_true : (a b : Bool) → (a || b) ≡ true → (a ≡ true) ⊎ (b ≡ true)
or_true true b e = inl refl
or_true false b e = inr e

pub or_false : (a b : Bool) → (a || b) ≡ false → (a ≡ false) × (b ≡ false)
or_false true b e = absurd cc
or_false false b e = (refl, e)

has_append : (x y : Set) (t : Token) → has (x ++ y) t ≡ (has x t || has y t)
has_append [] y t = refl
has_append (i ∷ x) y t = or_step (fits t i) (has x t) (has y t) (has (x ++ y) t) (has_append x y t)
  where
    or_step : (a b c d : Bool) → d ≡ (b || c) → (a || d) ≡ ((a || b) || c)
    or_step true b c d e = refl
    or_step false b c d e = e

pub in_append : (x y : Set) (t : Piece) → in_set (x ++ y) t ≡ (in_set x t || in_set y t)
in_append x y (Is s) = has_append x y s.token
in_append x y (Bad e) = refl

not_true : (b : Bool) → not b ≡ true → b ≡ true → ⊥
not_true true e f = cc
not_true false e f = cc

pub bytes_same : (v w : List ℕ) → bytes_eq v w ≡ true → v ≡ w
bytes_same v w e = grind (arith, bytes_eq-Decides v w)

word_apart : (w : List ℕ) (i j : Item) → item_apart i j ≡ true → word_fits w i ≡ true → word_fits w j ≡ true → ⊥
word_apart w (IsWord a) (IsWord b) e f g = not_true (bytes_eq a b) e (rw (← bytes_same w a f) g)
word_apart w (IsWord a) (Other bs) e f g = not_true (is_integer_type w || among bs w) g (rw (bytes_same w a f) e)
word_apart w (IsWord a) (IsSign c) e f g = cc
word_apart w (IsWord a) (OfKind k) e f g = cc
word_apart w (IsWord a) BeforeName e f g = cc
word_apart w (IsWord a) Any e f g = cc
word_apart w (Other as') (IsWord b) e f g = not_true (is_integer_type w || among as' w) f (rw (bytes_same w b g) e)
word_apart w (Other as') (Other bs) e f g = cc
word_apart w (Other a) (IsSign c) e f g = cc
word_apart w (Other a) (OfKind k) e f g = cc
word_apart w (Other a) BeforeName e f g = cc
word_apart w (Other a) Any e f g = cc
word_apart w (IsSign c) j e f g = cc
word_apart w (OfKind k) j e f g = cc
word_apart w BeforeName (IsWord b) e f g = cc
word_apart w BeforeName (Other b) e f g = cc
word_apart w BeforeName (IsSign b) e f g = cc
word_apart w BeforeName (OfKind b) e f g = cc
word_apart w BeforeName BeforeName e f g = cc
word_apart w BeforeName Any e f g = cc
word_apart w Any j e f g = cc

sign_apart : (d : ℕ) (i j : Item) → item_apart i j ≡ true → sign_fits d i ≡ true → sign_fits d j ≡ true → ⊥
sign_apart d (IsWord a) j e f g = cc
sign_apart d (Other a) j e f g = cc
sign_apart d (OfKind k) j e f g = cc
sign_apart d (IsSign c) (IsWord a) e f g = cc
sign_apart d (IsSign c) (Other a) e f g = cc
sign_apart d (IsSign c) (OfKind k) e f g = cc
sign_apart d (IsSign c) BeforeName e f g = cc
sign_apart d (IsSign c) Any e f g = cc
sign_apart d (IsSign c) (IsSign b) e f g = grind (arith, nat_tests, not_true (nat_eq c b) e)
sign_apart d BeforeName (IsWord b) e f g = cc
sign_apart d BeforeName (Other b) e f g = cc
sign_apart d BeforeName (IsSign b) e f g = cc
sign_apart d BeforeName (OfKind b) e f g = cc
sign_apart d BeforeName BeforeName e f g = cc
sign_apart d BeforeName Any e f g = cc
sign_apart d Any j e f g = cc

same_number : (t k : Kind) → same_kind t k ≡ true → number t ≡ number k
same_number t k e = grind (arith, nat_tests)

kind_apart : (t : Kind) (i j : Item) → item_apart i j ≡ true → kind_fits t i ≡ true → kind_fits t j ≡ true → ⊥
kind_apart t (IsWord a) j e f g = cc
kind_apart t (Other a) j e f g = cc
kind_apart t (IsSign c) j e f g = cc
kind_apart t (OfKind c) (IsWord a) e f g = cc
kind_apart t (OfKind c) (Other a) e f g = cc
kind_apart t (OfKind c) (IsSign a) e f g = cc
kind_apart t (OfKind c) Any e f g = cc
kind_apart t (OfKind c) BeforeName e f g = not_true (same_kind t kinds.Global || same_kind t kinds.End) g (rw (same_number t c f) e)
kind_apart t BeforeName (OfKind c) e f g = not_true (same_kind t kinds.Global || same_kind t kinds.End) f (rw (same_number t c g) e)
kind_apart t BeforeName (IsWord b) e f g = cc
kind_apart t BeforeName (Other b) e f g = cc
kind_apart t BeforeName (IsSign b) e f g = cc
kind_apart t BeforeName BeforeName e f g = cc
kind_apart t BeforeName Any e f g = cc
kind_apart t Any j e f g = cc
kind_apart t (OfKind c) (OfKind b) e f g = grind (arith, nat_tests, not_true (same_kind c b) e)

fits_apart : (t : Token) (i j : Item) → item_apart i j ≡ true → fits t i ≡ true → fits t j ≡ true → ⊥
fits_apart (tokens.Word w) i j e f g = word_apart w i j e f g
fits_apart (tokens.Sign c) i j e f g = sign_apart c i j e f g
fits_apart (tokens.Int n) i j e f g = kind_apart kinds.Int i j e f g
fits_apart (tokens.Label n) i j e f g = kind_apart kinds.Label i j e f g
fits_apart (tokens.Local n) i j e f g = kind_apart kinds.Local i j e f g
fits_apart (tokens.Global n) i j e f g = kind_apart kinds.Global i j e f g
fits_apart (tokens.Str n) i j e f g = kind_apart kinds.Str i j e f g
fits_apart (tokens.CStr n) i j e f g = kind_apart kinds.CStr i j e f g
fits_apart (tokens.Meta n) i j e f g = kind_apart (meta_kind n) i j e f g
fits_apart (tokens.Hash n) i j e f g = kind_apart (hash_kind n) i j e f g
fits_apart tokens.End i j e f g = kind_apart kinds.End i j e f g

all_apart_not : (i : Item) (y : Set) (t : Token) → all_apart i y ≡ true → fits t i ≡ true → has y t ≡ true → ⊥
all_apart_not i [] t e f g = cc
all_apart_not i (j ∷ js) t e f g =
    let both = and_true (item_apart i j) (all_apart i js) e in
    elim (or_true (fits t j) (has js t) g) [ inl h ↦ fits_apart t i j both.0 f h | inr h ↦ all_apart_not i js t both.1 f h ]

has_apart : (x y : Set) (t : Token) → apart x y ≡ true → has x t ≡ true → has y t ≡ true → ⊥
has_apart [] y t e f g = cc
has_apart (i ∷ is) y t e f g =
    let both = and_true (all_apart i y) (apart is y) e in
    elim (or_true (fits t i) (has is t) f) [ inl h ↦ all_apart_not i y t both.0 h g | inr h ↦ has_apart is y t both.1 h g ]

apart_not : (x y : Set) (t : Piece) → apart x y ≡ true → in_set x t ≡ true → in_set y t ≡ true → ⊥
apart_not x y (Is s) e f g = has_apart x y s.token e f g
apart_not x y (Bad b) e f g = cc

false_if : (b : Bool) → (b ≡ true → ⊥) → b ≡ false
false_if true h = absurd (h refl)
false_if false h = refl

-- a token of the second set isn't in the first, and the other way round
pub not_in_first : (x y : Set) (t : Piece) → apart x y ≡ true → in_set y t ≡ true → in_set x t ≡ false
not_in_first x y t e g = false_if (in_set x t) (λ f. apart_not x y t e f g)

pub not_in_second : (x y : Set) (t : Piece) → apart x y ≡ true → in_set x t ≡ true → in_set y t ≡ false
not_in_second x y t e f = false_if (in_set y t) (λ g. apart_not x y t e f g)

-- the same of the heads of lists
pub head_append : (x y : Set) (ts : List Piece) → head_in (x ++ y) ts ≡ false → (head_in x ts ≡ false) × (head_in y ts ≡ false)
head_append x y [] e = (refl, refl)
head_append x y (t ∷ ts) e = or_false (in_set x t) (in_set y t) (sym (in_append x y t) ∙ e)

pub head_set_if : (b : Bool) (x : Set) (ts : List Piece) → head_in (set_if b x) ts ≡ false → b ≡ true → head_in x ts ≡ false
head_set_if true x ts e f = e
head_set_if false x ts e f = absurd cc

pub in_left : (x y : Set) (t : Piece) → in_set x t ≡ true → in_set (x ++ y) t ≡ true
in_left x y t e = in_append x y t ∙ ap (λ b. b || in_set y t) e

pub in_right : (x y : Set) (t : Piece) → in_set y t ≡ true → in_set (x ++ y) t ≡ true
in_right x y t e = in_append x y t ∙ right (in_set x t) (in_set y t) e
  where
    right : (a b : Bool) → b ≡ true → (a || b) ≡ true
    right true b e = refl
    right false b e = e
