-- Lists of items keep the names.
use Rattle.std.proofs.Common.{◌≡◌, ℕ, ◌≤◌, ◌+◌, Bool, true, false, nat_lt, List, [], ◌∷◌, ◌++◌, length, subst, arith}
use Rattle.std.specs.List.{AllByRecursion as Each}
use Rattle.std.proofs.lemmas.Bool.Decides.{nat_tests}
use Rattle.std.proofs.lemmas.List.{length_push}
use Rattle.ir_grammar.specs.declared.kinds.Kind.TheVariants as kinds
use Rattle.ir_grammar.specs.declared.which.Which.TheVariants as limits
use Rattle.ir_grammar.specs.Names.{Names}
use Rattle.ir_grammar.specs.Forms.{Form}
use Rattle.ir_grammar.specs.Tokens.{Limits, stated, is_past, sign, kind}
use Rattle.ir_grammar.specs.Types.{type_set}
use Rattle.ir_grammar.specs.Operations.{listing, items_and_notes, next_item, more_items, item_list, in_brackets}
use Rattle.ir_proper.proofs.Kept.{each_push, Keeps, keeps_more, keeps_if, keeps_ret, keeps_expect, keeps_then, keeps_either, keeps_choose, keeps_rounds}
use Rattle.ir_proper.proofs.KeptTokens.{keeps_over}
use Rattle.ir_proper.proofs.KeptAttributes.{keeps_note}

-- ---- items and notes

-- right items, at least so many
abbrev pub AtLeast : {A : Type 0} → (A → Type 0) → ℕ → List A → Type 0
AtLeast P k xs = Each P xs × (k ≤ length xs)

at_least_push : {A : Type 0} (P : A → Type 0) (k : ℕ) (xs : List A) (a : A) → AtLeast P k xs → P a → AtLeast P k (xs ++ a ∷ [])
at_least_push P k xs a h p = let e = length_push xs a in (each_push P xs a h.0 p, omega (arith, e, h.1))

keeps_listing : {A : Type 0} {b : Bool} {n : Names} {H : Type 0} {f : Form A} (P : A → Type 0) (k : ℕ) (noted : Bool) (xs : List A) → Keeps b n H f P → (H → AtLeast P k xs) → Keeps b n H (listing f noted xs) (λ (x : Bool × List A). AtLeast P k x.1)
keeps_listing P k true xs h i = keeps_then keeps_note (λ (e : Unit). keeps_ret (true, xs) (λ g. i g.1))
keeps_listing {A = A} P k false xs h i =
    keeps_either (kind kinds.Meta) (keeps_then keeps_note (λ (e : Unit). keeps_ret (true, xs) (λ g. i g.1)))
    (keeps_then h (λ (a : A). keeps_ret (false, xs ++ a ∷ []) (λ g. at_least_push P k xs a (i g.1) g.0)))

pub keeps_items : {A : Type 0} {b : Bool} {n : Names} {H : Type 0} {f : Form A} (P : A → Type 0) (k : ℕ) (xs : List A) → Keeps b n H f P → (H → AtLeast P k xs) → Keeps b n H (items_and_notes f xs) (AtLeast P k)
keeps_items {A = A} P k xs h i =
    keeps_rounds (λ x. sign 44) (λ (x : Bool × List A). AtLeast P k x.1)
    (λ (x : Bool × List A). keeps_then (keeps_expect (sign 44)) (λ (c : Unit). keeps_listing P k x.0 x.1 (keeps_if h (λ g. g.1.1)) (λ g. g.1.0)))
    (λ (x : Bool × List A). keeps_ret x.1 (λ g. g.0)) (false, xs) i

-- ---- items in brackets

-- right items, at most eight within the limits of a text
abbrev pub AtMostEight : {A : Type 0} → Limits → (A → Type 0) → List A → Type 0
AtMostEight l P xs = Each P xs × (l ≡ stated → length xs ≤ 8)

eight_push : {A : Type 0} (l : Limits) (P : A → Type 0) (xs : List A) (a : A) → Each P xs → P a → (l ≡ stated → length xs + 1 ≤ 8) → AtMostEight l P (xs ++ a ∷ [])
eight_push l P xs a h p few = let e = length_push xs a in (each_push P xs a h p, λ w. let k = few w in omega (arith, e, k))

one_within : (k : ℕ) → nat_lt 8 (k + 1) ≡ false → k + 1 ≤ 8
one_within k e = grind (arith, nat_tests)

one_more : (l : Limits) (k : ℕ) → is_past l.params (k + 1) ≡ false → l ≡ stated → k + 1 ≤ 8
one_more l k e w = one_within k (subst (λ (x : Limits). is_past x.params (k + 1) ≡ false) w e)

keeps_next_item : {A : Type 0} {b : Bool} {n : Names} {H : Type 0} {f : Form A} {P : A → Type 0} (l : Limits) (xs : List A) → Keeps b n H f P → Keeps b n H (next_item l f xs) (λ (a : A). P a × (l ≡ stated → length xs + 1 ≤ 8))
keeps_next_item l xs h = keeps_choose (is_past l.params (length xs + 1)) (keeps_over limits.Params) (keeps_more (keeps_if h (λ g. g.1)) (λ g a p. (p, one_more l (length xs) g.0)))

keeps_more_items : {A : Type 0} {b : Bool} {n : Names} {H : Type 0} {f : Form A} (l : Limits) (P : A → Type 0) (xs : List A) → Keeps b n H f P → (H → AtMostEight l P xs) → Keeps b n H (more_items l f xs) (AtMostEight l P)
keeps_more_items {A = A} l P xs h i =
    keeps_rounds (λ xs. sign 44) (AtMostEight l P)
    (λ (xs : List A). keeps_then (keeps_expect (sign 44)) (λ (c : Unit). keeps_then (keeps_next_item l xs (keeps_if h (λ g. g.1.1))) (λ (a : A). keeps_ret (xs ++ a ∷ []) (λ g. eight_push l P xs a g.1.1.0.0 g.0.0 g.0.1))))
    (λ (xs : List A). keeps_ret xs (λ g. g.0)) xs i

keeps_item_list : {A : Type 0} {b : Bool} {n : Names} {H : Type 0} {f : Form A} (l : Limits) (P : A → Type 0) → Keeps b n H f P → Keeps b n H (item_list l f) (AtMostEight l P)
keeps_item_list {A = A} l P h =
    keeps_either (type_set true) (keeps_then h (λ (a : A). keeps_more_items l P (a ∷ []) (keeps_if h (λ g. g.1)) (λ g. ((g.0, tt), λ w. omega arith)))) (keeps_ret [] (λ g. (tt, λ w. omega arith)))

pub keeps_in_brackets : {A : Type 0} {b : Bool} {n : Names} {H : Type 0} {f : Form A} (l : Limits) (P : A → Type 0) → Keeps b n H f P → Keeps b n H (in_brackets l f) (AtMostEight l P)
keeps_in_brackets {A = A} l P h =
    keeps_then (keeps_expect (sign 40)) (λ (o : Unit). keeps_then (keeps_item_list l P (keeps_if h (λ g. g.1))) (λ (xs : List A). keeps_then (keeps_expect (sign 41)) (λ (c : Unit). keeps_ret xs (λ g. g.1.0))))
