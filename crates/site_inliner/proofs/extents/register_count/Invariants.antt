use Rattle.std.proofs.Common.{◌≡◌, ◌+◌, drop, length}
use Rattle.std.specs.List.{flat_map}
use Rattle.ir_core.specs.Plain.{results, registers}
use Rattle.site_inliner.proofs.extents.register_count.Given as goal

abbrev pub invariant-loop-block : goal.invariant-loop-block
invariant-loop-block l = l.count + length (flat_map results (drop l.block-index l.f.blocks)) ≡ length (registers l.f)
