-- The weight of a function's plain body by the instructions of its text.
use Rattle.std.specs.Prelude.{ℕ, ◌+◌, sum_by}
use Rattle.std.specs.Option.{option_map_or}
use Rattle.ir_core.specs.declared.flat.FlatInstr.{FlatInstr}
use Rattle.ir_core.specs.declared.func.Instr.{Instr}
use Rattle.ir_core.specs.declared.func.Block.{Block}
use Rattle.ir_core.specs.declared.func.Func.{Func}
use Rattle.ir_core.specs.declared.module.Module.{Module}
use Rattle.ir_core.specs.Instructions.{phi, instruction, terminator}
use Rattle.ir_core.specs.Weight.{phi_weight, end_weight}

abbrev pub instr_weight : Module → Instr → ℕ
instr_weight m i = option_map_or phi_weight (phi m i.result i.op) 0 + option_map_or (λ (r : FlatInstr). 1) (instruction m i.result i.op) 0

abbrev pub code_weight : Module → Block → ℕ
code_weight m b = sum_by (instr_weight m) b.code + end_weight (terminator m b.end)

abbrev pub source_weight : Module → Func → ℕ
source_weight m f = sum_by (code_weight m) f.blocks
