-- Where the rule of assignment is broken: at the uses that are missed.
use Rattle.std.proofs.Common.{◌≡◌, ◌<◌, ℕ, List, length, Option, Some, None, slice_get, Contains, refl, sym, ap, ◌∙◌, subst}
use Rattle.std.specs.Prelude.{IsTrue}
use Rattle.std.specs.List.Sorted.{IsPermutation}
use Rattle.std.proofs.lemmas.List.Sorted.{Contains-permutation, IsPermutation-sym}
use Rattle.std.proofs.lemmas.Option.{slice_get_within, slice_get-get_or}
use Rattle.oi_base.specs.declared.ids.Place.{Place}
use Rattle.ir_core.specs.declared.func.Func.{Func}
use Rattle.ir_core.specs.FirstBroken.{IsFirstPlace}
use Rattle.ir_core.specs.Operands.{is_up_to}
use Rattle.ir_core.specs.ValidPaths.{IsUse, IsAssigned, BreaksAssignment}
use Rattle.ir_core.proofs.Lists.{has_at, contains}
use Rattle.ir_assigned.specs.declared.fault.Unassigned.{Unassigned}
use Rattle.ir_assigned.specs.declared.uses.Use.{Use}
use Rattle.ir_assigned.specs.Assigned.{IsWitness}
use Rattle.ir_assigned.specs.Names.{AreLabels, LabelsDiffer}
use Rattle.ir_assigned.specs.Testing.{IsFaultOf, IsFirst}
use Rattle.ir_assigned.specs.Uses.{all_uses}
use Rattle.ir_assigned.specs.BlockPaths.{MissesOn}
use Rattle.ir_assigned.proofs.Paths.{has_contained}
use Rattle.ir_assigned.proofs.Using.{listed_is_use, use_is_listed, use_within}

module _ (f : Func) (labels : List (Option ℕ)) (are : AreLabels f labels) (apart : LabelsDiffer f) (listed uses : List Use) (all : listed ≡ all_uses labels f.blocks) (same : IsPermutation listed uses) where
  is_use : (k : ℕ) (u : Use) → slice_get uses k ≡ Some u → IsUse f u.block u.at u.local u.place
  is_use k u e =
      let c = Contains-permutation uses listed u (IsPermutation-sym listed uses same) (contains uses u (has_at uses k u e)) in
      listed_is_use f labels are u (has_contained (all_uses labels f.blocks) u (subst (λ us. Contains us u) all c))

  pub uses_within : (k : ℕ) (u : Use) → slice_get uses k ≡ Some u → u.block < length f.blocks
  uses_within k u e = use_within f u.block u.at u.local u.place (is_use k u e)

  -- a broken place is that of a use that is missed
  use_of_place : (p : Place) → BreaksAssignment f p → (k : ℕ) × (u : Use) × (slice_get uses k ≡ Some u) × (u.place ≡ p) × ((before : List ℕ) × MissesOn f u before)
  use_of_place p (before, b, x, (n, path, used, unassigned)) =
      let u : Use = record { block = b; at = n; place = p; local = x } in
      let h = use_is_listed f labels are apart b n x p used in
      let c = Contains-permutation listed uses u same (subst (λ us. Contains us u) (sym all) (contains (all_uses labels f.blocks) u h)) in
      (c.0, u, slice_get-get_or uses c.0 u c.1 ∙ ap Some c.2, refl, (before, (path, unassigned)))

  pub none_broken : IsFirst f uses (length uses) None → (p : Place) → BreaksAssignment f p → ⊥
  none_broken first p breaks =
      let r = use_of_place p breaks in
      first r.0 r.1 (slice_get_within uses r.0 r.1 r.2) r.2 r.4.0 r.4.1

  -- a fault of a use is a path on which the rule is broken
  witness : (k : ℕ) (u : Use) (w : Unassigned) → slice_get uses k ≡ Some u → IsFaultOf f u w → IsWitness f w
  witness k u w at fault =
      let m = fault.2 in
      let used = subst (λ p. IsUse f u.block u.at u.local p) (sym fault.0) (is_use k u at) in
      let used' = subst (λ x. IsUse f u.block u.at x w.place) (sym fault.1) used in
      (m.0, u.block, m.1, (u.at, m.2.0, used', λ a. m.2.1 (subst (IsAssigned f m.0 u.block u.at) fault.1 a)))

  pub first_witness : (w : Unassigned) → IsFirst f uses (length uses) (Some w) → IsWitness f w
  first_witness w first = witness first.0.0 first.0.1 w first.0.2 first.0.3

  pub first_place : (w : Unassigned) → IsFirst f uses (length uses) (Some w) → IsFirstPlace (BreaksAssignment f) w.place
  first_place w first = record {
    broken = let h = first_witness w first in (h.0, h.1, w.local, h.3);
    first = λ q breaks.
        let r = use_of_place q breaks in
        subst (λ p. IsTrue (is_up_to w.place p)) r.3 (first.1 r.0 r.1 (slice_get_within uses r.0 r.1 r.2) r.2 r.4.0 r.4.1);
  }
