use Rattle.std.proofs.Common.{◌≡◌, length}
use Rattle.ir_core.specs.Ends.{AreRight}
use Rattle.ir_core.proofs.chains.go_along.Given as goal

abbrev pub invariant-loop : goal.invariant-loop
invariant-loop l = record {
  right : AreRight l.chains.items l.defs;
  len : length l.chains.items ≡ length l.initial.chains.items;
}
