use Rattle.std.proofs.Common.{◌≤◌, drop}
use Rattle.ir_core.specs.declared.limits.TheConstants.{MOST_DATA}
use Rattle.image_layout.proofs.GlobalBytes.{Placing}
use Rattle.image_layout.proofs.data.places.Given as goal

abbrev pub invariant-loop-global : goal.invariant-loop-global
invariant-loop-global l = (l.end ≤ MOST_DATA) × Placing l.m l.places.items l.end (drop l.global-index l.m.globals)
