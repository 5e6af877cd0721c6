-- Forms that leave the local names alone: they read the same from other local names, and add only type names.
use Rattle.std.proofs.Common.{◌≡◌, ◌⊎◌, inl, inr, refl, sym, ap, ◌∙◌, ℕ, ℤ, zero, suc, Bool, true, List, [], ◌∷◌, ◌++◌, length, take}
use Rattle.std.specs.Prelude.{Option}
use Rattle.std.proofs.lemmas.List.{append_assoc, append-nil, take_at}
use Rattle.ir_lexer.specs.declared.table.Token.{Token}
use Rattle.ir_core.specs.declared.ty.IrType.{IrType}
use Rattle.ir_core.specs.declared.ty.IrType as types
use Rattle.ir_grammar.specs.declared.kinds.Barred.{Barred}
use Rattle.ir_grammar.specs.declared.kinds.Barred.TheVariants as barred
use Rattle.ir_grammar.specs.declared.kinds.Kind.TheVariants as kinds
use Rattle.ir_grammar.specs.declared.parts.Attribute.{Attribute}
use Rattle.ir_grammar.specs.declared.parts.Marks.{Marks}
use Rattle.ir_grammar.specs.Pieces.{Piece}
use Rattle.ir_grammar.specs.Names.{Names, type_name}
use Rattle.ir_grammar.specs.Sets.{Set}
use Rattle.ir_grammar.specs.Forms.{Form, ret, Verdict, token, ◌>>=◌, either, Rounds, rounds}
use Rattle.ir_grammar.specs.Tokens.{Limits, sign, kind, words_of, listed}
use Rattle.ir_grammar.specs.Groups.{group}
use Rattle.ir_grammar.specs.Types.{named, scalars, last_of, type_set, array, struct, type_in, type_form}
use Rattle.ir_grammar.specs.Attributes.{attribute_words, attribute_argument, attribute_value, attribute_set, attribute, no_marks, attribute_list}
use Rattle.ir_grammar.specs.Operations.{tail_word, call_head}
use Rattle.ir_proper.proofs.KeptNames.{numbered_begins}

-- other local names, and another number of what has no name
abbrev pub with_locals : List (List ℕ) → ℕ → Names → Names
with_locals locals next s = record s { locals = locals; next = next }

-- some type names more
abbrev pub AddsTypes : Names → Names → Type 0
AddsTypes s t = (more : List (List ℕ)) × (t ≡ record s { types = s.types ++ more })

-- a form adds only type names, and reads the same from other local names
pub record LocalFree {A : Type 0} (f : Form A) : Type 0 where
  pub adds : (s : Names) (u : List Piece) (a : A) (t : Names) → f.reads s u a t → AddsTypes s t
  pub moves : (s : Names) (u : List Piece) (a : A) (t : Names) → f.reads s u a t → (locals : List (List ℕ)) (next : ℕ) → f.reads (with_locals locals next s) u a (with_locals locals next t)

-- ---- ways of making forms

adds_none : (s t : Names) → s ≡ t → AddsTypes s t
adds_none s t e = ([], sym e ∙ ap (λ (xs : List (List ℕ)). record s { types = xs }) (sym (append-nil s.types)))

adds_both : (s t w : Names) → AddsTypes s t → AddsTypes t w → AddsTypes s w
adds_both s t w h k = (
  h.0 ++ k.0,
  k.1 ∙ ap (λ (x : Names). record x { types = x.types ++ k.0 }) h.1 ∙ ap (λ (xs : List (List ℕ)). record s { types = xs }) (append_assoc s.types h.0 k.0),
)

free_token : {A : Type 0} (v : Token → Verdict A) → LocalFree (token v)
free_token v = record {
  adds = λ s u a t r. adds_none s t r.3;
  moves = λ s u a t r locals next. (r.0, r.1, r.2, ap (with_locals locals next) r.3);
}

free_ret : {A : Type 0} {a : A} → LocalFree (ret a)
free_ret {A = A} = record {
  adds = λ s u b t r. adds_none s t (ap (λ (x : A × Names). x.1) r.1);
  moves = λ s u b t r locals next. (r.0, ap (λ (x : A × Names). (x.0, with_locals locals next x.1)) r.1);
}

free_then : {A B : Type 0} {f : Form A} {g : A → Form B} → LocalFree f → ((a : A) → LocalFree (g a)) → LocalFree (f >>= g)
free_then hf hg = record {
  adds = λ s u b t r. adds_both s r.1 t (hf.adds s r.2 r.0 r.1 r.5) ((hg r.0).adds r.1 r.3 b t r.6);
  moves = λ s u b t r locals next. (r.0, with_locals locals next r.1, r.2, r.3, r.4, hf.moves s r.2 r.0 r.1 r.5 locals next, (hg r.0).moves r.1 r.3 b t r.6 locals next);
}

free_either : {A : Type 0} {f g : Form A} (z : Set) → LocalFree f → LocalFree g → LocalFree (either z f g)
free_either {A = A} {f = f} {g = g} z hf hg = record { adds = adds; moves = moves }
  where
    adds : (s : Names) (u : List Piece) (a : A) (t : Names) → f.reads s u a t ⊎ g.reads s u a t → AddsTypes s t
    adds s u a t (inl r) = hf.adds s u a t r
    adds s u a t (inr r) = hg.adds s u a t r

    moves : (s : Names) (u : List Piece) (a : A) (t : Names) → f.reads s u a t ⊎ g.reads s u a t → (locals : List (List ℕ)) (next : ℕ) → f.reads (with_locals locals next s) u a (with_locals locals next t) ⊎ g.reads (with_locals locals next s) u a (with_locals locals next t)
    moves s u a t (inl r) locals next = inl (hf.moves s u a t r locals next)
    moves s u a t (inr r) locals next = inr (hg.moves s u a t r locals next)

adds_in : {X Y : Type 0} (go : X → Form X) (stop : X → Form Y) → ((x : X) → LocalFree (go x)) → ((x : X) → LocalFree (stop x)) → (k : ℕ) (x : X) (s : Names) (u : List Piece) (y : Y) (t : Names) → Rounds go stop k x s u y t → AddsTypes s t
adds_in go stop hg hs zero x s u y t r = (hs x).adds s u y t r
adds_in go stop hg hs (suc k) x s u y t r = adds_both s r.1 t ((hg x).adds s r.2 r.0 r.1 r.5) (adds_in go stop hg hs k r.0 r.1 r.3 y t r.6)

moves_in : {X Y : Type 0} (go : X → Form X) (stop : X → Form Y) → ((x : X) → LocalFree (go x)) → ((x : X) → LocalFree (stop x)) → (k : ℕ) (x : X) (s : Names) (u : List Piece) (y : Y) (t : Names) → Rounds go stop k x s u y t → (locals : List (List ℕ)) (next : ℕ) → Rounds go stop k x (with_locals locals next s) u y (with_locals locals next t)
moves_in go stop hg hs zero x s u y t r locals next = (hs x).moves s u y t r locals next
moves_in go stop hg hs (suc k) x s u y t r locals next = (r.0, with_locals locals next r.1, r.2, r.3, r.4, (hg x).moves s r.2 r.0 r.1 r.5 locals next, moves_in go stop hg hs k r.0 r.1 r.3 y t r.6 locals next)

free_rounds : {X Y : Type 0} {go : X → Form X} {stop : X → Form Y} (z : X → Set) (x : X) → ((x : X) → LocalFree (go x)) → ((x : X) → LocalFree (stop x)) → LocalFree (rounds z go stop x)
free_rounds {go = go} {stop = stop} z x hg hs = record {
  adds = λ s u y t r. adds_in go stop hg hs r.0 x s u y t r.1;
  moves = λ s u y t r locals next. (r.0, moves_in go stop hg hs r.0 x s u y t r.1 locals next);
}

free_listed : {A : Type 0} {f : Form A} (z : Set) → LocalFree f → LocalFree (listed z f)
free_listed {A = A} z h =
    free_either z (free_then h (λ (a : A). free_rounds (λ xs. sign 44) (a ∷ []) (λ xs. free_then (free_then (free_token _) (λ (c : Unit {0}). h)) (λ (x : A). free_ret)) (λ xs. free_ret))) free_ret

-- ---- types

-- the type of a name
abbrev named_as : List ℕ → Names → IrType × Names
named_as name s = (types.Named (type_name name s).0, (type_name name s).1)

named_adds : (name : List ℕ) (s : Names) (a : IrType) (t : Names) → named_as name s ≡ (a, t) → AddsTypes s t
unfolding type_name
named_adds name s a t e =
    let m = numbered_begins name s.types in
    (m.0, ap (λ (x : IrType × Names). x.1) (sym e) ∙ ap (λ (xs : List (List ℕ)). record s { types = xs }) (sym m.1))

named_moves : (name : List ℕ) (s : Names) (a : IrType) (t : Names) → named_as name s ≡ (a, t) → (locals : List (List ℕ)) (next : ℕ) → named_as name (with_locals locals next s) ≡ (a, with_locals locals next t)
unfolding type_name
named_moves name s a t e locals next = ap (λ (x : IrType × Names). (x.0, with_locals locals next x.1)) e

free_named : LocalFree named
unfolding named
free_named = free_then (free_token _) (λ (name : List ℕ). record {
  adds = λ s u a t r. named_adds name s a t r.1;
  moves = λ s u a t r locals next. (r.0, named_moves name s a t r.1 locals next);
})

free_array : (most : Option ℕ) {f : Form IrType} → LocalFree f → LocalFree (array most f)
free_array most h =
    free_then (free_token _) (λ (o : Unit {0}). free_then (free_token _) (λ (k : ℕ). free_then (free_token _) (λ (x : Unit {0}).
    free_then h (λ (t : IrType). free_then (free_token _) (λ (c : Unit {0}). free_ret)))))

free_struct : {f : Form IrType} → LocalFree f → LocalFree (struct f)
free_struct h = free_then (free_token _) (λ (o : Unit {0}). free_then (free_listed (type_set true) h) (λ (ts : List IrType). free_then (free_token _) (λ (c : Unit {0}). free_ret)))

free_type : (void : Bool) (most : Option ℕ) (k : ℕ) → LocalFree (type_in void most k)
unfolding type_in
free_type void most zero = free_either (kind kinds.Local) free_named (free_token (last_of void))
free_type void most (suc k) =
    free_either (kind kinds.Local) free_named
    (free_either (words_of (scalars void)) (free_token _) (free_either (sign 91) (free_array most (free_type true most k)) (free_struct (free_type true most k))))

pub free_type_form : (l : Limits) → LocalFree (type_form l)
unfolding type_form
free_type_form l = free_type true l.length l.levels

-- only the type names before stay
pub types_kept : (s t : Names) → AddsTypes s t → record t { types = take (length s.types) t.types } ≡ s
types_kept s t h = ap (λ (x : Names). record x { types = take (length s.types) x.types }) h.1 ∙ ap (λ (xs : List (List ℕ)). record s { types = xs }) (take_at s.types h.0 (length s.types) refl)

-- ---- the head of a call

free_group : (c a : ℕ) → LocalFree (group c a)
unfolding group
free_group c a = free_then (free_token _) (λ (o : Unit {0}). record {
  adds = λ s u x t r. adds_none s t r.2;
  moves = λ s u x t r locals next. (r.0, r.1, ap (with_locals locals next) r.2);
})

free_argument : LocalFree attribute_argument
unfolding attribute_argument
free_argument = free_either (kind kinds.Int) (free_then (free_token _) (λ (n : ℤ). free_ret)) (free_either (sign 40) (free_then (free_group 40 41) (λ (g : Bool). free_ret)) free_ret)

free_value : LocalFree attribute_value
unfolding attribute_value
free_value = free_either (sign 61) (free_then (free_token _) (λ (e : Unit {0}). free_then (free_token _) (λ (s : List ℕ). free_ret))) free_ret

free_attribute : (b : Barred) → LocalFree (attribute b)
unfolding attribute
free_attribute b =
    free_either (attribute_words b) (free_then (free_token _) (λ (a : Attribute). free_then free_argument (λ (e : Unit {0}). free_ret)))
    (free_either (kind kinds.Str) (free_then (free_token _) (λ (s : List ℕ). free_then free_value (λ (e : Unit {0}). free_ret)))
    (free_then (free_token _) (λ (n : List ℕ). free_ret)))

free_attribute_list : (b : Barred) (m : Marks) → LocalFree (attribute_list b m)
unfolding attribute_list
free_attribute_list b m = free_rounds (λ x. attribute_set b) m (λ x. free_then (free_attribute b) (λ (a : Attribute). free_ret)) (λ x. free_ret)

pub free_call_head : LocalFree call_head
unfolding call_head
free_call_head =
    free_then (free_either tail_word (free_then (free_token _) (λ (t : Unit {0}). free_token _)) (free_token _)) (λ (w : Unit {0}).
    free_then (free_attribute_list barred.Values no_marks) (λ (m : Marks). free_ret))
