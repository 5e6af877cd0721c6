use Rattle.std.proofs.Common.{◌≡◌, min, sum_by, take}
use Rattle.ir_core.specs.declared.module.Module.{Module}
use Rattle.shapes.specs.SourceWeight.{code_weight}
use Rattle.shapes.proofs.weigh.weight_of_func.Given as goal

abbrev pub invariant-loop-block : goal.invariant-loop-block
invariant-loop-block l = (m : Module) → l.total ≡ min (sum_by (code_weight m) (take l.block-index l.f.blocks)) 18446744073709551615
