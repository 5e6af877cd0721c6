use Rattle.std.proofs.Common.{◌≡◌, ◌+◌, false, cond}
use Rattle.ir_core.specs.declared.ty.TypeName.{TypeName}
use Rattle.ir_core.specs.Known.{IsRight, IsStuck, unlaid}
use Rattle.ir_core.proofs.defs.lay_all.Given as goal

abbrev pub invariant-loop-changed : goal.invariant-loop-changed
invariant-loop-changed l = record {
  right : IsRight l.table.items l.defs;
  stuck : l.changed ≡ false → (x : TypeName) → IsStuck l.table.items l.defs x;
}

abbrev pub decreases-loop-changed : goal.decreases-loop-changed
decreases-loop-changed l = unlaid l.table.items + cond l.changed 1 0
