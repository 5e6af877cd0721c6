-- Sets of numbers, lists made from lists, and names by their numbers.
use Rattle.std.proofs.Common.{◌≡◌, ◌⊎◌, inl, inr, refl, ap, subst, Bool, true, false, ◌||◌, if◌then◌else◌, nat_eq, ℕ, List, [], ◌∷◌, ◌++◌, map, arith}
use Rattle.std.specs.List.{flat_map, list_any}
use Rattle.std.proofs.lemmas.Bool.Decides.{nat_tests}
use Rattle.ir_core.specs.declared.module.SymId.{SymId}
use Rattle.ir_core.specs.declared.module.Module.{Module}
use Rattle.ir_core.specs.declared.op.LocalId.{LocalId}
use Rattle.ir_core.specs.ValidConsts.{IsVariable}
use Rattle.ir_core.proofs.Lists.{Has, has_left, has_right, contains}
use Rattle.module_rules.specs.Faults.{with_number, with_numbers, global_number, global_numbers}
use Rattle.std.specs.Bool.{Decides}
use Rattle.module_rules.proofs.Decided.{never}
use Rattle.module_rules.proofs.Faulty.{has, has_in}

-- ---- a number in a set

-- what stands in a set of numbers
pub number_decides : (n : ℕ) (ns : List ℕ) → Decides (list_any (nat_eq n) ns) (Has ns n)
number_decides n [] = never (λ h. h)
number_decides n (m ∷ ms) = by_test (nat_eq n m) refl (number_decides n ms)
  where
    by_test : (t : Bool) → nat_eq n m ≡ t → Decides (list_any (nat_eq n) ms) (Has ms n) → Decides (t || list_any (nat_eq n) ms) (Has (m ∷ ms) n)
    by_test true t d = (λ e. inl (let same : m ≡ n = grind (arith, nat_tests) in same), λ h. refl)
    by_test false t d = (λ e. inr (d.0 e), of_has)
      where
        of_has : (m ≡ n) ⊎ Has ms n → list_any (nat_eq n) ms ≡ true
        of_has (inl same) = absurd (grind (arith, nat_tests))
        of_has (inr h) = d.1 h

pub with_one : (ns : List ℕ) (m n : ℕ) → Has (with_number ns m) n → Has ns n ⊎ (m ≡ n)
with_one ns m n h = by_test (list_any (nat_eq m) ns) h
  where
    last : Has ns n ⊎ Has (m ∷ []) n → Has ns n ⊎ (m ≡ n)
    last (inl g) = inl g
    last (inr (inl e)) = inr e
    last (inr (inr g)) = absurd g

    by_test : (t : Bool) → Has (if t then ns else ns ++ m ∷ []) n → Has ns n ⊎ (m ≡ n)
    by_test true g = inl g
    by_test false g = last (has_in ns (m ∷ []) n g)

pub one_with : (ns : List ℕ) (m n : ℕ) → Has ns n ⊎ (m ≡ n) → Has (with_number ns m) n
one_with ns m n h = by_test (list_any (nat_eq m) ns) refl h
  where
    by_test : (t : Bool) → list_any (nat_eq m) ns ≡ t → Has ns n ⊎ (m ≡ n) → Has (if t then ns else ns ++ m ∷ []) n
    by_test true t (inl g) = g
    by_test true t (inr e) = subst (Has ns) e ((number_decides m ns).0 t)
    by_test false t (inl g) = has_left ns (m ∷ []) n g
    by_test false t (inr e) = has_right ns (m ∷ []) n (inl e)

pub in_numbers : (more ns : List ℕ) (n : ℕ) → Has (with_numbers ns more) n → Has ns n ⊎ Has more n
in_numbers [] ns n h = inl h
in_numbers (m ∷ ms) ns n h = joined (in_numbers ms (with_number ns m) n h)
  where
    first : Has ns n ⊎ (m ≡ n) → Has ns n ⊎ Has (m ∷ ms) n
    first (inl g) = inl g
    first (inr e) = inr (inl e)

    joined : Has (with_number ns m) n ⊎ Has ms n → Has ns n ⊎ Has (m ∷ ms) n
    joined (inl g) = first (with_one ns m n g)
    joined (inr g) = inr (inr g)

pub numbers_in : (more ns : List ℕ) (n : ℕ) → Has ns n ⊎ Has more n → Has (with_numbers ns more) n
numbers_in [] ns n (inl h) = h
numbers_in [] ns n (inr h) = absurd h
numbers_in (m ∷ ms) ns n h = numbers_in ms (with_number ns m) n (split h)
  where
    split : Has ns n ⊎ Has (m ∷ ms) n → Has (with_number ns m) n ⊎ Has ms n
    split (inl g) = inl (one_with ns m n (inl g))
    split (inr (inl e)) = inl (one_with ns m n (inr e))
    split (inr (inr g)) = inr g

-- a mapped list
pub has_mapped : {A : Type 0} (key : A → ℕ) (xs : List A) (n : ℕ) → Has (map key xs) n → (x : A) × Has xs x × (key x ≡ n)
has_mapped key [] n h = absurd h
has_mapped key (x ∷ xs) n (inl e) = (x, inl refl, e)
has_mapped key (x ∷ xs) n (inr h) = let r = has_mapped key xs n h in (r.0, inr r.1, r.2)

pub mapped_has : {A : Type 0} (key : A → ℕ) (xs : List A) (x : A) → Has xs x → Has (map key xs) (key x)
mapped_has key [] x h = absurd h
mapped_has key (y ∷ ys) x (inl e) = inl (ap key e)
mapped_has key (y ∷ ys) x (inr h) = inr (mapped_has key ys x h)

-- an element that made a part
pub has_made : {A B : Type 0} (g : A → List B) (xs : List A) (y : B) → Has (flat_map g xs) y → (x : A) × Has xs x × Has (g x) y
has_made g [] y h = absurd h
has_made {A} {B} g (x ∷ xs) y h = by_part (has_in (g x) (flat_map g xs) y h) (has_made g xs y)
  where
    by_part : Has (g x) y ⊎ Has (flat_map g xs) y → (Has (flat_map g xs) y → (z : A) × Has xs z × Has (g z) y) → (z : A) × Has (x ∷ xs) z × Has (g z) y
    by_part (inl e) rest = (x, inl refl, e)
    by_part (inr e) rest = let r = rest e in (r.0, inr r.1, r.2)

pub local_of : (x y : LocalId) → x.0 ≡ y.0 → x ≡ y
local_of x y e = ap (λ (n : ℕ). record { 0 = n }) e

pub symbol_of : (x y : SymId) → x.0 ≡ y.0 → x ≡ y
symbol_of x y e = ap (λ (n : ℕ). record { 0 = n }) e

-- ---- global variables

pub variable_decides : (m : Module) (x : SymId) → Decides (list_any (nat_eq x.0) (global_numbers m)) (IsVariable m x)
variable_decides m x = (λ e. of_number (in_numbers (map global_number m.globals) [] x.0 (d.0 e)), λ b. d.1 (to_number b))
  where
    d : Decides (list_any (nat_eq x.0) (global_numbers m)) (Has (global_numbers m) x.0)
    d = number_decides x.0 (global_numbers m)

    of_number : Has [] x.0 ⊎ Has (map global_number m.globals) x.0 → IsVariable m x
    of_number (inl h) = absurd h
    of_number (inr h) = let r = has_mapped global_number m.globals x.0 h in (r.0, contains m.globals r.0 r.1, symbol_of r.0.name x r.2)

    to_number : IsVariable m x → Has (global_numbers m) x.0
    to_number b = numbers_in (map global_number m.globals) [] x.0 (inr (subst (λ (y : SymId). Has (map global_number m.globals) y.0) b.2 (mapped_has global_number m.globals b.0 (has m.globals b.0 b.1))))
