use Rattle.std.proofs.Common.{◌≡◌, ◌<◌, ◌≤◌, true, false, length}
use Rattle.ir_core.specs.declared.ty.TypeName.{TypeName}
use Rattle.ir_core.specs.Known.{IsRight, IsStuck, unlaid}
use Rattle.ir_core.proofs.defs.lay_round.Given as goal

abbrev pub invariant-loop-x : goal.invariant-loop-x
invariant-loop-x l = record {
  right : IsRight l.table.items l.defs;
  len : length l.table.items ≡ length l.initial.table.items;
  fewer : l.changed ≡ true → unlaid l.table.items < unlaid l.initial.table.items;
  no_more : unlaid l.table.items ≤ unlaid l.initial.table.items;
  stuck : l.changed ≡ false → (x : TypeName) → x.0 < l.x → IsStuck l.table.items l.defs x;
}
