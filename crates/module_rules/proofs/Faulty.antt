-- Elements of lists of places, and of lists that a test goes over.
use Rattle.std.proofs.Common.{◌≡◌, ◌⊎◌, inl, inr, refl, sym, ap, subst, Bool, true, false, cond, ◌||◌, ℕ, zero, suc, ◌<◌, List, [], ◌∷◌, ◌++◌, length, slice_index_or, Contains, arith}
use Rattle.std.proofs.lemmas.Bool.Decides.{nat_tests}
use Rattle.std.specs.List.{flat_map, list_any}
use Rattle.oi_base.specs.declared.ids.Place.{Place}
use Rattle.ir_core.specs.declared.op.LocalId.{LocalId}
use Rattle.ir_core.proofs.Lists.{Has, has_left, has_right}
use Rattle.module_rules.specs.Faults.{place_if, is_local}

-- the same as std's word, which goes by index
pub has : {A : Type 0} (xs : List A) (x : A) → Contains xs x → Has xs x
has [] x c = absurd (let lt = c.1 in omega (arith, lt))
has {A} (y ∷ ys) x c = by_index c.0 c.1 c.2 (has ys x)
  where
    by_index : (k : ℕ) → k < suc (length ys) → slice_index_or (y ∷ ys) k x ≡ x → (Contains ys x → Has ys x) → Has (y ∷ ys) x
    by_index zero lt e rest = inl e
    by_index (suc k) lt e rest = inr (rest (k, omega (arith, lt), e))

-- an element in a list or in the next
pub has_in : {A : Type 0} (xs ys : List A) (x : A) → Has (xs ++ ys) x → Has xs x ⊎ Has ys x
has_in [] ys x h = inr h
has_in (y ∷ xs) ys x (inl e) = inl (inl e)
has_in {A} (y ∷ xs) ys x (inr h) = widened (has_in xs ys x h)
  where
    widened : Has xs x ⊎ Has ys x → Has (y ∷ xs) x ⊎ Has ys x
    widened (inl g) = inl (inr g)
    widened (inr g) = inr g

-- a test that finds a name
pub named_has : (x : LocalId) (ys : List LocalId) → list_any (is_local x) ys ≡ true → Has ys x
named_has x [] e = absurd (let clash : false ≡ true = e in cc)
named_has x (y ∷ ys) e = by_test (is_local x y) refl e (named_has x ys)
  where
    by_test : (t : Bool) → is_local x y ≡ t → (t || list_any (is_local x) ys) ≡ true → (list_any (is_local x) ys ≡ true → Has ys x) → Has (y ∷ ys) x
    by_test true t g rest = inl (let n : y.0 ≡ x.0 = grind (arith, nat_tests) in ap (λ (k : ℕ). record { 0 = k }) n)
    by_test false t g rest = inr (rest g)

pub has_named : (x : LocalId) (ys : List LocalId) → Has ys x → list_any (is_local x) ys ≡ true
has_named x [] h = absurd h
has_named x (y ∷ ys) h = by_test (is_local x y) refl (has_named x ys) h
  where
    by_test : (t : Bool) → is_local x y ≡ t → (Has ys x → list_any (is_local x) ys ≡ true) → (y ≡ x) ⊎ Has ys x → (t || list_any (is_local x) ys) ≡ true
    by_test true t rest g = refl
    by_test false t rest (inl e) = absurd (let n : y.0 ≡ x.0 = ap (λ (k : LocalId). k.0) e in grind (arith, nat_tests))
    by_test false t rest (inr g) = rest g

module _ {A : Type 0} (bad : A → Bool) (place : A → Place) where
  -- the places of the elements that a test finds
  abbrev pub places : List A → List Place
  places xs = flat_map (λ (x : A). place_if (bad x) (place x)) xs

  pub has_fault : (xs : List A) (x : A) → Has xs x → bad x ≡ true → Has (places xs) (place x)
  has_fault [] x h b = absurd h
  has_fault (y ∷ ys) x (inl e) b =
      has_left (place_if (bad y) (place y)) (places ys) (place x) (subst (λ (z : A). Has (place_if (bad z) (place z)) (place x)) (sym e) (rw b (inl refl)))
  has_fault (y ∷ ys) x (inr h) b = has_right (place_if (bad y) (place y)) (places ys) (place x) (has_fault ys x h b)

  abbrev pub Faulty : List A → Place → Type 0
  Faulty xs p = (x : A) × Has xs x × (place x ≡ p) × (bad x ≡ true)

  pub fault_has : (xs : List A) (p : Place) → Has (places xs) p → Faulty xs p
  fault_has [] p h = absurd h
  fault_has (y ∷ ys) p h = by_part (has_in (place_if (bad y) (place y)) (places ys) p h) (fault_has ys p)
    where
      here : (t : Bool) → bad y ≡ t → Has (cond t (place y ∷ []) []) p → Faulty (y ∷ ys) p
      here true t (inl e) = (y, inl refl, e, t)
      here true t (inr g) = absurd g
      here false t g = absurd g

      later : Faulty ys p → Faulty (y ∷ ys) p
      later r = (r.0, inr r.1, r.2, r.3)

      by_part : Has (place_if (bad y) (place y)) p ⊎ Has (places ys) p → (Has (places ys) p → Faulty ys p) → Faulty (y ∷ ys) p
      by_part (inl g) rest = here (bad y) refl g
      by_part (inr g) rest = later (rest g)
