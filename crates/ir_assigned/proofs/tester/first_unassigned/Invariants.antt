use Rattle.std.proofs.Common.{◌≤◌}
use Rattle.ir_assigned.specs.Testing.{IsTesting, IsFirst}
use Rattle.ir_assigned.proofs.tester.first_unassigned.Given as goal

abbrev pub invariant-loop-k : goal.invariant-loop-k
invariant-loop-k l = record {
  testing : IsTesting l.graph l.definitions l.tester;
  round : l.tester.round ≤ l.k;
  first : IsFirst l.graph l.uses l.k l.first;
}
