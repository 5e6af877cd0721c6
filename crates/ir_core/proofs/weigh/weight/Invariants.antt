use Rattle.std.proofs.Common.{◌≡◌, min, sum_by, take}
use Rattle.ir_core.specs.Weight.{block_weight}
use Rattle.ir_core.proofs.weigh.weight.Given as goal

abbrev pub invariant-loop-block : goal.invariant-loop-block
invariant-loop-block l = l.total ≡ min (sum_by block_weight (take l.block-index l.b.blocks)) 18446744073709551615
