use Rattle.std.proofs.Common.{◌≡◌, ◌+◌, min, sum_by, take}
use Rattle.ir_core.specs.declared.module.Module.{Module}
use Rattle.ir_core.specs.Instructions.{terminator}
use Rattle.ir_core.specs.Weight.{end_weight}
use Rattle.shapes.specs.SourceWeight.{instr_weight}
use Rattle.shapes.proofs.weigh.weight_of_block.Given as goal

abbrev pub invariant-loop-instr : goal.invariant-loop-instr
invariant-loop-instr l = (m : Module) → l.total ≡ min (sum_by (instr_weight m) (take l.instr-index l.b.code) + end_weight (terminator m l.b.end)) 18446744073709551615
