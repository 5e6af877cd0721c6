use Rattle.std.proofs.Common.{◌≡◌, None, drop}
use Rattle.std.specs.List.{flat_map}
use Rattle.module_rules.specs.First.{earliest}
use Rattle.ir_verifier.specs.PhiFaults.{block_phi_faults, phi_faults}
use Rattle.ir_verifier.proofs.phis.first_fault.Given as goal

abbrev pub invariant-loop-block : goal.invariant-loop-block
invariant-loop-block l =
    earliest l.first (flat_map (block_phi_faults l.m.types.defs l.predecessors) (drop l.block-index l.f.blocks)) ≡ earliest None (phi_faults l.m.types.defs l.predecessors l.f)
