use Rattle.std.proofs.Common.{◌≡◌, length}
use Rattle.ir_core.specs.Known.{IsRight}
use Rattle.ir_core.proofs.defs.lay_reached.Given as goal

abbrev pub invariant-loop : goal.invariant-loop
invariant-loop l = record {
  right : IsRight l.table.items l.defs;
  len : length l.table.items ≡ length l.initial.table.items;
}
