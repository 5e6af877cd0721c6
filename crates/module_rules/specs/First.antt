-- The first of the places at which a rule is broken.
use Rattle.std.specs.Prelude.{if◌then◌else◌, List, fold, Option, Some, None}
use Rattle.oi_base.specs.declared.ids.Place.{Place}
use Rattle.ir_core.specs.Operands.{is_up_to}
use Rattle.ir_core.specs.FirstBroken.{IsFirstPlace}

-- the first place at which a rule is broken, or none where it is broken nowhere
abbrev pub IsFound : (Place → Type 0) → Option Place → Type 0
IsFound Breaks None = (p : Place) → Breaks p → ⊥
IsFound Breaks (Some p) = IsFirstPlace Breaks p

abbrev pub earlier : Option Place → Place → Option Place
earlier None p = Some p
earlier (Some q) p = if is_up_to q p then Some q else Some p

-- the first of a place and some more
abbrev pub earliest : Option Place → List Place → Option Place
earliest first ps = fold earlier first ps
