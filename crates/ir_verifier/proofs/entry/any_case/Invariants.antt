use Rattle.std.proofs.Common.{◌≡◌, map, drop}
use Rattle.std.specs.List.{list_any}
use Rattle.ir_core.specs.declared.op.SwitchCase.{SwitchCase}
use Rattle.module_rules.specs.Faults.{is_local}
use Rattle.ir_verifier.proofs.entry.any_case.Given as goal

abbrev pub invariant-loop-case : goal.invariant-loop-case
invariant-loop-case l = list_any (is_local l.label) (map (λ (c : SwitchCase). c.to) (drop l.case-index l.cases)) ≡ list_any (is_local l.label) (map (λ (c : SwitchCase). c.to) l.cases)
