-- The first of some places.
use Rattle.std.proofs.Common.{◌≡◌, List, [], ◌∷◌, Some, None, Contains, refl, subst, arith}
use Rattle.oi_base.specs.declared.ids.Place.{Place}
use Rattle.ir_core.specs.FirstBroken.{IsFirstPlace}
use Rattle.ir_core.proofs.Lists.{contains}
use Rattle.module_rules.specs.First.{earliest, IsFound}
use Rattle.module_rules.proofs.Earliest.{found}
use Rattle.module_rules.proofs.Faulty.{has}

pub first_place : (ps : List Place) → IsFound (λ q. Contains ps q) (earliest None ps)
first_place ps = found (λ q. Contains ps q) ps (λ p h. contains ps p h) (λ p h. has ps p h)

pub some_first : (ps : List Place) (p : Place) → earliest None ps ≡ Some p → IsFirstPlace (λ q. Contains ps q) p
some_first ps p e = subst (IsFound (λ q. Contains ps q)) e (first_place ps)

pub none_first : (ps : List Place) → earliest None ps ≡ None → ps ≡ []
none_first ps e = no_place ps (subst (IsFound (λ q. Contains ps q)) e (first_place ps))
  where
    no_place : (qs : List Place) → ((p : Place) → Contains qs p → ⊥) → qs ≡ []
    no_place [] h = refl
    no_place (q ∷ qs) h = absurd (h q (0, omega arith, refl))
