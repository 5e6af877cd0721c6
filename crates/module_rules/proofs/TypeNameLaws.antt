-- The places at which the rule of type names is broken, where names that hold themselves are counted in one by one.
use Rattle.std.proofs.Common.{◌≡◌, ◌⊎◌, inl, inr, refl, sym, subst, ⊎_elim, ℕ, ◌+◌, ◌≤◌, true, List, length, Option, Some, slice_get, arith}
use Rattle.std.proofs.lemmas.Bool.{cases_lt}
use Rattle.std.proofs.lemmas.Option.{slice_get_within}
use Rattle.oi_base.specs.declared.ids.Place.{Place}
use Rattle.ir_core.specs.declared.ty.TypeDef.{TypeDef}
use Rattle.ir_core.specs.declared.module.Module.{Module}
use Rattle.ir_core.specs.Acyclic.{HoldsItself}
use Rattle.ir_core.specs.Operands.{is_up_to}
use Rattle.ir_core.specs.ValidTypes.{BreaksTypeNames, IsDefinedByItself}
use Rattle.module_rules.specs.First.{IsFound}
use Rattle.module_rules.specs.TypeFaults.{BreaksUses}
use Rattle.module_rules.specs.Cycles.{IsItselfAmong, IsWithItself}
use Rattle.module_rules.proofs.Earliest.{up_to_itself, found_more, found_same, found_beside}
use Rattle.module_rules.proofs.Listing.{one_at, contained, position}

module _ (m : Module) where
  abbrev defs : List TypeDef
  defs = m.types.defs

  abbrev pub BreaksSoFar : ℕ → Place → Type 0
  BreaksSoFar n p = BreaksUses m p ⊎ IsItselfAmong m.types.defs n p

  pub none_so_far : (before : Option Place) → IsFound (BreaksUses m) before → IsFound (BreaksSoFar 0) before
  none_so_far before f = found_same (BreaksUses m) (BreaksSoFar 0) before f (λ p b. inl b) back
    where
      back : (p : Place) → BreaksSoFar 0 p → BreaksUses m p
      back p (inl b) = b
      back p (inr h) = absurd (let lt = h.2 in omega (arith, lt))

  module _ (n : ℕ) (d : TypeDef) (here : slice_get m.types.defs n ≡ Some d) where
    up : (p : Place) → BreaksSoFar n p → BreaksSoFar (n + 1) p
    up p (inl b) = inl b
    up p (inr h) = let lt = h.2 in inr (h.0, h.1, omega (arith, lt), h.3, h.4, h.5)

    -- one before, or this one
    split : (p : Place) → BreaksSoFar (n + 1) p → BreaksSoFar n p ⊎ ((d.place ≡ p) × HoldsItself m.types.defs d.name)
    split p (inl b) = inl (inl b)
    split p (inr h) = ⊎_elim (λ lt. inl (inr (h.0, h.1, lt, h.3, h.4, h.5))) last (cases_lt h.0 n)
      where
        last : n ≤ h.0 → BreaksSoFar n p ⊎ ((d.place ≡ p) × HoldsItself m.types.defs d.name)
        last ge =
            let lt = h.2 in
            let k : h.0 ≡ n = omega (arith, lt, ge) in
            let is : h.1 ≡ d = one_at m.types.defs n h.1 d (subst (λ (j : ℕ). slice_get m.types.defs j ≡ Some h.1) k h.3) here in
            inr (subst (λ (e : TypeDef). e.place ≡ p) is h.4, subst (λ (e : TypeDef). HoldsItself m.types.defs e.name) is h.5)

    after : (p : Place) → BreaksSoFar (n + 1) p → BreaksSoFar n p ⊎ (is_up_to d.place p ≡ true)
    after p b = ⊎_elim inl (λ h. inr (subst (λ (z : Place). is_up_to d.place z ≡ true) h.0 (up_to_itself d.place))) (split p b)

    pub one_more : (before first : Option Place) → IsWithItself m.types.defs before d first → IsFound (BreaksSoFar n) before → IsFound (BreaksSoFar (n + 1)) first
    one_more before first (inl h) f =
        subst (IsFound (BreaksSoFar (n + 1))) (sym h.1)
        (found_more (BreaksSoFar n) (BreaksSoFar (n + 1)) before d.place f up (inr (n, d, omega arith, here, refl, h.0)) after)
    one_more before first (inr (inl other, e)) f =
        subst (IsFound (BreaksSoFar (n + 1))) (sym e)
        (found_same (BreaksSoFar n) (BreaksSoFar (n + 1)) before f up (λ p b. ⊎_elim (λ q. q) (λ h. absurd (other h.1)) (split p b)))
    one_more before first (inr (inr same, e)) f =
        subst (IsFound (BreaksSoFar (n + 1))) (sym e) (found_beside (BreaksSoFar n) (BreaksSoFar (n + 1)) before d.place f same up after)

  pub all_so_far : (n : ℕ) (first : Option Place) → length m.types.defs ≤ n → IsFound (BreaksSoFar n) first → IsFound (BreaksTypeNames m) first
  all_so_far n first le f = found_same (BreaksSoFar n) (BreaksTypeNames m) first f there back
    where
      itself : (p : Place) → IsItselfAmong m.types.defs n p → IsDefinedByItself m p
      itself p h = (h.1, contained m.types.defs h.0 h.1 h.3, h.4, h.5)

      among : (p : Place) → IsDefinedByItself m p → IsItselfAmong m.types.defs n p
      among p h =
          let at = position m.types.defs h.0 h.1 in
          let lt = slice_get_within m.types.defs h.1.0 h.0 at in
          (h.1.0, h.0, omega (arith, lt, le), at, h.2, h.3)

      there : (p : Place) → BreaksSoFar n p → BreaksTypeNames m p
      there p (inl (inl a)) = inl a
      there p (inl (inr (inl b))) = inr (inl b)
      there p (inl (inr (inr c))) = inr (inr (inl c))
      there p (inr h) = inr (inr (inr (itself p h)))

      back : (p : Place) → BreaksTypeNames m p → BreaksSoFar n p
      back p (inl a) = inl (inl a)
      back p (inr (inl b)) = inl (inr (inl b))
      back p (inr (inr (inl c))) = inl (inr (inr c))
      back p (inr (inr (inr h))) = inr (among p h)
