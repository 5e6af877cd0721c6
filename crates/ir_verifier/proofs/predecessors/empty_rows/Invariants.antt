use Rattle.std.proofs.Common.{◌≡◌, drop, ◌++◌}
use Rattle.ir_verifier.specs.PhiFaults.{no_rows}
use Rattle.ir_verifier.proofs.predecessors.empty_rows.Given as goal

abbrev pub invariant-loop : goal.invariant-loop
invariant-loop l = l.rows.items ++ no_rows (drop l.index l.labels) ≡ no_rows l.labels
