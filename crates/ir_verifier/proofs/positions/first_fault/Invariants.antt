use Rattle.std.proofs.Common.{◌≡◌, None, drop}
use Rattle.module_rules.specs.First.{earliest}
use Rattle.ir_verifier.specs.Faults.{position_faults_from, position_faults}
use Rattle.ir_verifier.proofs.positions.first_fault.Given as goal

abbrev pub invariant-loop-block : goal.invariant-loop-block
invariant-loop-block l = earliest l.first (position_faults_from l.is_entry (drop l.block-index l.f.blocks)) ≡ earliest None (position_faults l.f)
