use Rattle.std.proofs.Common.{◌≡◌, drop, map}
use Rattle.ir_core.specs.declared.op.SwitchCase.{SwitchCase}
use Rattle.ir_verifier.specs.PhiFaults.{with_sources}
use Rattle.ir_verifier.proofs.predecessors.Predecessors.add_cases.Given as goal

abbrev pub invariant-loop-case : goal.invariant-loop-case
invariant-loop-case l = with_sources l.from l.self (map (λ (c : SwitchCase). c.to) (drop l.case-index l.cases)) ≡ with_sources l.from l.fn.self (map (λ (c : SwitchCase). c.to) l.cases)
