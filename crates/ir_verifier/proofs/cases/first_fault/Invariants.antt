use Rattle.std.proofs.Common.{◌≡◌, None, drop}
use Rattle.std.specs.List.{flat_map}
use Rattle.module_rules.specs.First.{earliest}
use Rattle.ir_verifier.specs.Faults.{case_fault, case_faults}
use Rattle.ir_verifier.proofs.cases.first_fault.Given as goal

abbrev pub invariant-loop-block : goal.invariant-loop-block
invariant-loop-block l = earliest l.first (flat_map case_fault (drop l.block-index l.f.blocks)) ≡ earliest None (case_faults l.f)
