use Rattle.std.proofs.Common.{◌≡◌, None, drop}
use Rattle.std.specs.List.{flat_map}
use Rattle.module_rules.specs.First.{earliest}
use Rattle.ir_verifier.specs.Faults.{entry_fault, entry_faults}
use Rattle.ir_verifier.proofs.entry.first_fault.Given as goal

abbrev pub invariant-loop-block : goal.invariant-loop-block
invariant-loop-block l = earliest l.first (flat_map (entry_fault l.entry) (drop l.block-index l.f.blocks)) ≡ earliest None (entry_faults l.f)
