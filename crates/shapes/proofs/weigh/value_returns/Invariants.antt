use Rattle.std.proofs.Common.{◌≡◌, min, sum_by, take}
use Rattle.ir_core.specs.declared.func.Block.{Block}
use Rattle.ir_core.specs.declared.module.Module.{Module}
use Rattle.ir_core.specs.Instructions.{terminator}
use Rattle.shapes.specs.Weight.{gives_value}
use Rattle.shapes.proofs.weigh.value_returns.Given as goal

abbrev pub invariant-loop-block : goal.invariant-loop-block
invariant-loop-block l = (m : Module) → l.count ≡ min (sum_by (λ (b : Block). gives_value (terminator m b.end)) (take l.block-index l.f.blocks)) 18446744073709551615
