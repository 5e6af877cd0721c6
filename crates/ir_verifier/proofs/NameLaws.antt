-- The places at which the rule of names is broken.
use Rattle.std.proofs.Common.{◌≡◌, ◌⊎◌, inl, inr, refl, sym, ap, ◌∙◌, subst, Bool, true, false, if◌then◌else◌, nat_eq, ℕ, zero, suc, ◌<◌, List, [], ◌∷◌, ◌++◌, Some, None, slice_get, arith}
use Rattle.std.specs.List.{list_any}
use Rattle.oi_base.specs.declared.ids.Place.{Place}
use Rattle.ir_core.specs.declared.op.LocalId.{LocalId}
use Rattle.ir_core.specs.declared.func.Func.{Func}
use Rattle.ir_core.specs.ValidFunc.{LocalAt, locals_at, BreaksNames}
use Rattle.ir_core.proofs.Lists.{Has, has_left, has_right}
use Rattle.module_rules.specs.First.{earlier, earliest, IsFound}
use Rattle.module_rules.specs.Faults.{place_if, with_number}
use Rattle.ir_verifier.specs.Faults.{Introduced, nothing_yet, with_local, with_locals}
use Rattle.module_rules.proofs.Faulty.{has_in}
use Rattle.module_rules.proofs.Earliest.{found}
use Rattle.std.proofs.lemmas.List.Sums.{fold-append}
use Rattle.module_rules.proofs.Sets.{number_decides, with_one, one_with, local_of}

-- the places of names that are among these or stand before them
abbrev again : List ℕ → List LocalAt → List Place
again names [] = []
again names (l ∷ ls) = place_if (list_any (nat_eq l.name.0) names) l.place ++ again (with_number names l.name.0) ls

-- the fold counts these places in
counted : (s : Introduced) (ls : List LocalAt) → (with_locals s ls).first ≡ earliest s.first (again s.names ls)
counted s [] = refl
counted s (l ∷ ls) =
    counted (with_local s l) ls
    ∙ sym (fold-append earlier s.first (place_if (list_any (nat_eq l.name.0) s.names) l.place) (again (with_number s.names l.name.0) ls))

-- a name that is among these or stands before
abbrev Twice : List ℕ → List LocalAt → Place → Type 0
Twice names ls p =
    (j : ℕ) × (b : LocalAt) × (slice_get ls j ≡ Some b) × (b.place ≡ p)
    × (Has names b.name.0 ⊎ ((i : ℕ) × (a : LocalAt) × (i < j) × (slice_get ls i ≡ Some a) × (a.name ≡ b.name)))

sound : (ls : List LocalAt) (names : List ℕ) (p : Place) → Has (again names ls) p → Twice names ls p
sound [] names p h = absurd h
sound (l ∷ ls) names p h = by_part (has_in (place_if (list_any (nat_eq l.name.0) names) l.place) (again (with_number names l.name.0) ls) p h) (sound ls (with_number names l.name.0) p)
  where
    here : (t : Bool) → list_any (nat_eq l.name.0) names ≡ t → Has (if t then (l.place ∷ []) else []) p → Twice names (l ∷ ls) p
    here true t (inl e) = (0, l, refl, e, inl ((number_decides l.name.0 names).0 t))
    here true t (inr g) = absurd g
    here false t g = absurd g

    next : Twice (with_number names l.name.0) ls p → Twice names (l ∷ ls) p
    next w = (suc w.0, w.1, w.2, w.3, reason w.4)
      where
        of_one : Has names w.1.name.0 ⊎ (l.name.0 ≡ w.1.name.0) → Has names w.1.name.0 ⊎ ((i : ℕ) × (a : LocalAt) × (i < suc w.0) × (slice_get (l ∷ ls) i ≡ Some a) × (a.name ≡ w.1.name))
        of_one (inl g) = inl g
        of_one (inr e) = inr (0, l, omega arith, refl, local_of l.name w.1.name e)

        reason : Has (with_number names l.name.0) w.1.name.0 ⊎ ((i : ℕ) × (a : LocalAt) × (i < w.0) × (slice_get ls i ≡ Some a) × (a.name ≡ w.1.name)) → Has names w.1.name.0 ⊎ ((i : ℕ) × (a : LocalAt) × (i < suc w.0) × (slice_get (l ∷ ls) i ≡ Some a) × (a.name ≡ w.1.name))
        reason (inl g) = of_one (with_one names l.name.0 w.1.name.0 g)
        reason (inr g) = inr (suc g.0, g.1, omega (arith, g.2), g.3, g.4)

    by_part : Has (place_if (list_any (nat_eq l.name.0) names) l.place) p ⊎ Has (again (with_number names l.name.0) ls) p → (Has (again (with_number names l.name.0) ls) p → Twice (with_number names l.name.0) ls p) → Twice names (l ∷ ls) p
    by_part (inl g) rest = here (list_any (nat_eq l.name.0) names) refl g
    by_part (inr g) rest = next (rest g)

complete : (ls : List LocalAt) (names : List ℕ) (p : Place) → Twice names ls p → Has (again names ls) p
complete [] names p w = absurd (let clash : None ≡ Some w.1 = w.2 in cc)
complete (l ∷ ls) names p w = by_index w.0 w.2 w.4 (complete ls (with_number names l.name.0) p)
  where
    Before : ℕ → Type 0
    Before j = Has names w.1.name.0 ⊎ ((i : ℕ) × (a : LocalAt) × (i < j) × (slice_get (l ∷ ls) i ≡ Some a) × (a.name ≡ w.1.name))

    here : (l ≡ w.1) → Before 0 → Has (again names (l ∷ ls)) p
    here same (inr b) = absurd (omega (arith, b.2))
    here same (inl g) =
        let t : list_any (nat_eq l.name.0) names ≡ true = (number_decides l.name.0 names).1 (subst (λ (a : LocalAt). Has names a.name.0) (sym same) g) in
        let at_p : l.place ≡ p = ap (λ (a : LocalAt). a.place) same ∙ w.3 in
        has_left (place_if (list_any (nat_eq l.name.0) names) l.place) (again (with_number names l.name.0) ls) p (rw t (inl at_p))

    by_index : (j : ℕ) → slice_get (l ∷ ls) j ≡ Some w.1 → Before j → (Twice (with_number names l.name.0) ls p → Has (again (with_number names l.name.0) ls) p) → Has (again names (l ∷ ls)) p
    by_index zero at b rest = here (let same : Some l ≡ Some w.1 = at in cc) b
    by_index (suc j) at b rest = has_right (place_if (list_any (nat_eq l.name.0) names) l.place) (again (with_number names l.name.0) ls) p (rest (j, w.1, at, w.3, reason b))
      where
        of_place : (i : ℕ) (a : LocalAt) → i < suc j → slice_get (l ∷ ls) i ≡ Some a → a.name ≡ w.1.name → Has (with_number names l.name.0) w.1.name.0 ⊎ ((k : ℕ) × (c : LocalAt) × (k < j) × (slice_get ls k ≡ Some c) × (c.name ≡ w.1.name))
        of_place zero a lt e same = inl (one_with names l.name.0 w.1.name.0 (inr ((let first : Some l ≡ Some a = e in let one : l ≡ a = cc in ap (λ (b : LocalAt). b.name.0) one ∙ ap (λ (x : LocalId). x.0) same))))
        of_place (suc i) a lt e same = inr (i, a, omega (arith, lt), e, same)

        reason : Before (suc j) → Has (with_number names l.name.0) w.1.name.0 ⊎ ((k : ℕ) × (c : LocalAt) × (k < j) × (slice_get ls k ≡ Some c) × (c.name ≡ w.1.name))
        reason (inl g) = inl (one_with names l.name.0 w.1.name.0 (inl g))
        reason (inr g) = of_place g.0 g.1 g.2 g.3 g.4

pub names_found : (f : Func) → IsFound (BreaksNames f) (with_locals nothing_yet (locals_at f)).first
names_found f =
    subst (IsFound (BreaksNames f)) (sym (counted nothing_yet (locals_at f)))
    (found (BreaksNames f) (again [] (locals_at f)) (λ p h. of_twice p (sound (locals_at f) [] p h)) (λ p b. complete (locals_at f) [] p (b.1, b.3, b.6, b.8, inr (b.0, b.2, b.4, b.5, b.7))))
  where
    of_twice : (p : Place) → Twice [] (locals_at f) p → BreaksNames f p
    of_twice p w = by_reason w.4
      where
        by_reason : Has [] w.1.name.0 ⊎ ((i : ℕ) × (a : LocalAt) × (i < w.0) × (slice_get (locals_at f) i ≡ Some a) × (a.name ≡ w.1.name)) → BreaksNames f p
        by_reason (inl h) = absurd h
        by_reason (inr g) = (g.0, w.0, g.1, w.1, g.2, g.3, w.2, g.4, w.3)
