use Rattle.std.proofs.Common.{◌≡◌, None, drop}
use Rattle.std.specs.List.{flat_map}
use Rattle.module_rules.specs.First.{earliest}
use Rattle.ir_verifier.specs.CallFaults.{block_call_faults, call_faults}
use Rattle.ir_verifier.proofs.calls.first_fault.Given as goal

abbrev pub invariant-loop-block : goal.invariant-loop-block
invariant-loop-block l = earliest l.first (flat_map (block_call_faults l.callees) (drop l.block-index l.f.blocks)) ≡ earliest None (call_faults l.callees l.f)
