-- Which fault stands first.
use Rattle.std.proofs.Common.{◌≡◌, ⊎_elim, ℕ, ◌+◌, ◌<◌, false, List, Option, Some, None, slice_get, sym, subst, arith}
use Rattle.std.specs.Prelude.{IsTrue}
use Rattle.std.proofs.lemmas.Bool.{cases_lt}
use Rattle.std.proofs.lemmas.Bool.Decides.{nat_tests}
use Rattle.oi_base.specs.declared.ids.Place.{Place}
use Rattle.ir_core.specs.declared.func.Func.{Func}
use Rattle.ir_core.specs.Operands.{is_up_to}
use Rattle.ir_assigned.specs.declared.fault.Unassigned.{Unassigned}
use Rattle.ir_assigned.specs.declared.uses.Use.{Use}
use Rattle.ir_assigned.specs.BlockPaths.{MissesOn}
use Rattle.ir_assigned.specs.Testing.{is_known, IsFaultOf, IsEarlier, Known, Good, Newer, IsFirst}
use Rattle.ir_assigned.proofs.Tables.{one_at}

pub up_to_itself : (p : Place) → IsTrue (is_up_to p p)
up_to_itself p = grind (arith, nat_tests)

pub up_to_on : (p q r : Place) → IsTrue (is_up_to p q) → IsTrue (is_up_to q r) → IsTrue (is_up_to p r)
up_to_on p q r a b = grind (arith, nat_tests)

pub up_to_else : (p q : Place) → is_up_to p q ≡ false → IsTrue (is_up_to q p)
up_to_else p q a = grind (arith, nat_tests)

module _ (f : Func) (uses : List Use) (n : ℕ) (u : Use) (at : slice_get uses n ≡ Some u) where
  -- what holds of the first n and of the next
  one_more : (P : Use → Type 0) → ((k : ℕ) (v : Use) → k < n → slice_get uses k ≡ Some v → P v) → P u → (k : ℕ) (v : Use) → k < n + 1 → slice_get uses k ≡ Some v → P v
  one_more P each last k v lt h = ⊎_elim
      (λ l. each k v l h)
      (λ ge. let same : k ≡ n = omega (arith, lt, ge) in subst P (one_at uses n u v at (subst (λ j. slice_get uses j ≡ Some v) same h)) last)
      (cases_lt k n)

  abbrev Missed : Use → Type 0
  Missed v = (before : List ℕ) × MissesOn f v before

  known : (first : Option Unassigned) → IsFirst f uses n first → IsTrue (is_known first u.place) → IsFirst f uses (n + 1) first
  known None are k = cc
  known (Some w) are k = (are.0, one_more (λ v. (before : List ℕ) → MissesOn f v before → IsTrue (is_up_to w.place v.place)) are.1 (λ before m. k))

  good : (first : Option Unassigned) → IsFirst f uses n first → ((before : List ℕ) → MissesOn f u before → ⊥) → IsFirst f uses (n + 1) first
  good None are none = one_more (λ v. (before : List ℕ) → MissesOn f v before → ⊥) are none
  good (Some w) are none = (are.0, one_more (λ v. (before : List ℕ) → MissesOn f v before → IsTrue (is_up_to w.place v.place)) are.1 (λ before m. absurd (none before m)))

  newer : (first : Option Unassigned) (w : Unassigned) → IsFirst f uses n first → IsFaultOf f u w → is_known first u.place ≡ false → IsFirst f uses (n + 1) (Some w)
  newer first w are fault later = ((n, u, at, fault), one_more (λ v. (before : List ℕ) → MissesOn f v before → IsTrue (is_up_to w.place v.place)) (earlier first are later) (λ before m. here u.place))
    where
      here : (p : Place) → IsTrue (is_up_to w.place u.place)
      here p = subst (λ q. IsTrue (is_up_to q u.place)) (sym fault.0) (up_to_itself u.place)

      earlier : (o : Option Unassigned) → IsFirst f uses n o → is_known o u.place ≡ false → (k : ℕ) (v : Use) → k < n → slice_get uses k ≡ Some v → (before : List ℕ) → MissesOn f v before → IsTrue (is_up_to w.place v.place)
      earlier None old not_known k v lt h before m = absurd (old k v lt h before m)
      earlier (Some x) old not_known k v lt h before m =
          subst (λ q. IsTrue (is_up_to q v.place)) (sym fault.0) (up_to_on u.place x.place v.place (up_to_else x.place u.place not_known) (old.1 k v lt h before m))

  pub first_more : (first next : Option Unassigned) → IsFirst f uses n first → IsEarlier f u first next → IsFirst f uses (n + 1) next
  first_more first next are (Known same k) = subst (IsFirst f uses (n + 1)) (sym same) (known first are k)
  first_more first next are (Good same none) = subst (IsFirst f uses (n + 1)) (sym same) (good first are none)
  first_more first next are (Newer w same fault later) = subst (IsFirst f uses (n + 1)) (sym same) (newer first w are fault later)
