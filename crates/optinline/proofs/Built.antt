-- What the tests of forms say of what passes them, and lists of which nothing is left.
use Rattle.std.proofs.Common.{◌≡◌, ℕ, zero, suc, ◌+◌, ◌-◌, ◌≤◌, ◌<◌, nat_eq, nat_lt, Bool, true, false, not, cond, ◌&&◌, List, [], ◌∷◌, ◌++◌, drop, length, length-drop, Option, Some, None, All, Contains, slice_index_or, refl, sym, ap, ◌∙◌, arith}
use Rattle.std.specs.Prelude.{IsSome, position}
use Rattle.std.specs.List.{flat_map, position_or_len, AllByRecursion as Each}
use Rattle.std.proofs.lemmas.Bool.Decides.{nat_tests}
use Rattle.std.proofs.lemmas.List.Elements.{All-head, All-tail}
use Rattle.oi_base.specs.declared.ids.Place.{Place}
use Rattle.ir_core.specs.declared.op.LocalId.{LocalId}
use Rattle.ir_core.specs.declared.op.Op.{Op}
use Rattle.ir_core.specs.declared.op.Op.TheVariants as ops
use Rattle.ir_core.specs.declared.func.Instr.{Instr}
use Rattle.ir_core.specs.Proper.{HasItsResult}
use Rattle.module_rules.specs.Faults.{place_if}
use Rattle.optinline.specs.Unbuilt.{is_sum}

-- ---- tests

pub left_passes : (a b : Bool) → (a && b) ≡ true → a ≡ true
left_passes true b e = refl
left_passes false b e = e

pub right_passes : (a b : Bool) → (a && b) ≡ true → b ≡ true
right_passes true b e = e
right_passes false b e = absurd cc

pub none_if : (t : Bool) (p : Place) → place_if (not t) p ≡ [] → t ≡ true
none_if true p e = refl
none_if false p e = absurd cc

-- ---- lists

pub first_none : {A : Type 0} (xs ys : List A) → xs ++ ys ≡ [] → xs ≡ []
first_none [] ys e = refl
first_none (x ∷ xs) ys e = absurd cc

pub rest_none : {A : Type 0} (xs ys : List A) → xs ++ ys ≡ [] → ys ≡ []
rest_none [] ys e = e
rest_none (x ∷ xs) ys e = absurd cc

pub singles_none : {A B : Type 0} (f : A → List B) (one : A → B) → ((x : A) → f x ≡ one x ∷ []) → (xs : List A) → flat_map f xs ≡ [] → xs ≡ []
singles_none f one is [] e = refl
singles_none f one is (x ∷ xs) e = absurd (not_none (sym (is x) ∙ first_none (f x) (flat_map f xs) e))
  where
    not_none : one x ∷ [] ≡ [] → ⊥
    not_none z = cc

pub parts_none : {A B : Type 0} (f : A → List B) (xs : List A) → flat_map f xs ≡ [] → Each (λ (x : A). f x ≡ []) xs
parts_none f [] e = tt
parts_none f (x ∷ xs) e = (first_none (f x) (flat_map f xs) e, parts_none f xs (rest_none (f x) (flat_map f xs) e))

pub dropped_none : {A : Type 0} (n : ℕ) (xs : List A) → drop n xs ≡ [] → length xs ≤ n
dropped_none n xs e = let l : length xs - n ≡ 0 = sym (length-drop n xs) ∙ ap length e in omega (arith, l)

pub each_of_all : {A : Type 0} (P : A → Type 0) (xs : List A) → All P xs → Each P xs
each_of_all P [] h = tt
each_of_all P (x ∷ xs) h = (All-head P x xs h, each_of_all P xs (All-tail P x xs h))

pub none_in : {A : Type 0} (x : A) → Contains [] x → ⊥
none_in x h = let lt = h.1 in omega (arith, lt)

pub one_in : {A : Type 0} (y x : A) → Contains (y ∷ []) x → y ≡ x
one_in y x h = by_place h.0 h.1 h.2
  where
    by_place : (k : ℕ) → k < length (y ∷ []) → slice_index_or (y ∷ []) k x ≡ x → y ≡ x
    by_place zero lt e = e
    by_place (suc k) lt e = absurd (omega (arith, lt))

-- ---- forms

some_result : (r : Option LocalId) → IsSome r → (d : LocalId) × (r ≡ Some d)
some_result None h = absurd cc
some_result (Some d) h = (d, refl)

-- a sum has a result
pub has_result : (i : Instr) → HasItsResult i → is_sum i.op ≡ true → (d : LocalId) × (i.result ≡ Some d)
has_result i h e = some_result i.result (by_op i.op h e)
  where
    by_op : (op : Op) → HasItsResult (record i { op = op }) → is_sum op ≡ true → IsSome i.result
    by_op (ops.Bin kind t a b) h e = h
    by_op (ops.Icmp c t a b) h e = absurd cc
    by_op (ops.Select c a b) h e = absurd cc
    by_op (ops.Cast c a t) h e = absurd cc
    by_op (ops.Alloca t count align) h e = absurd cc
    by_op (ops.Load t a align) h e = absurd cc
    by_op (ops.Store a p align) h e = absurd cc
    by_op (ops.Gep t a is) h e = absurd cc
    by_op (ops.Phi t es) h e = absurd cc
    by_op (ops.Call t f as') h e = absurd cc
