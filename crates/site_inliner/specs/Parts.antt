-- The parts of a function's plain body, each by itself.
use Rattle.std.specs.Prelude.{ℕ, ◌%◌, List, [], ◌∷◌, ◌++◌, map, Option, Some, None}
use Rattle.std.specs.List.{flat_map}
use Rattle.std.specs.Option.{option_map}
use Rattle.oi_base.specs.declared.ids.RegId.{RegId}
use Rattle.oi_base.specs.declared.ids.BlockId.{BlockId}
use Rattle.ir_core.specs.declared.flat.FlatOp.{FlatOp}
use Rattle.ir_core.specs.declared.flat.Term.{Term}
use Rattle.ir_core.specs.declared.flat.Case.{Case}
use Rattle.ir_core.specs.declared.flat.Entry.{Entry}
use Rattle.ir_core.specs.declared.flat.Phi.{Phi}
use Rattle.ir_core.specs.declared.flat.FlatInstr.{FlatInstr}
use Rattle.ir_core.specs.declared.flat.FlatInstr.TheVariants.{Store, Gep}
use Rattle.ir_core.specs.declared.flat.FlatEnd.{FlatEnd}
use Rattle.ir_core.specs.declared.flat.FlatBlock.{FlatBlock}
use Rattle.ir_core.specs.declared.ty.IrType.{IrType}
use Rattle.ir_core.specs.declared.module.Module.{Module}
use Rattle.ir_core.specs.declared.op.LocalId.{LocalId}
use Rattle.ir_core.specs.declared.op.Operand.{Operand}
use Rattle.ir_core.specs.declared.op.TypedOperand.{TypedOperand}
use Rattle.ir_core.specs.declared.op.Pair.{Pair}
use Rattle.ir_core.specs.declared.op.SwitchCase.{SwitchCase}
use Rattle.ir_core.specs.declared.op.Op.{Op}
use Rattle.ir_core.specs.declared.op.End.{End}
use Rattle.ir_core.specs.declared.func.Instr.{Instr}
use Rattle.ir_core.specs.declared.func.Block.{Block}
use Rattle.ir_core.specs.declared.func.Func.{Func}
use Rattle.ir_core.specs.declared.func.Param.{Param}
use Rattle.ir_core.specs.Constants.{Path, path, scalar_of, aligned_as}
use Rattle.ir_core.specs.Instructions.{register, target, operand, index, instruction, entry, phi, switch_case, terminator, block_rows}
use Rattle.ir_core.specs.Plain.{other_reg, other_block, other_operand, other_term, other_instr, other_entry, other_phi, other_case, other_end, renumbered, numbers}

-- a function, and the module in which it stands
pub record Part : Type 0 where
  pub source : Module
  pub func : Func

abbrev pub reg_in : Part → LocalId → RegId
reg_in p x = other_reg (numbers p.func) (register x)

abbrev pub block_in : Part → LocalId → BlockId
block_in p x = other_block (numbers p.func) (target x)

abbrev pub value_in : Part → IrType → Operand → FlatOp
value_in p t v = other_operand (numbers p.func) (operand p.source t v)

abbrev pub typed_in : Part → TypedOperand → FlatOp
typed_in p a = value_in p a.ty a.value

abbrev pub path_in : Part → IrType → List TypedOperand → Path
path_in p t is = path p.source.types.defs t (map (index p.source) is)

abbrev pub terms_in : Part → List Term → List Term
terms_in p ts = map (other_term (numbers p.func)) ts

abbrev pub row_in : Part → Option LocalId → Op → Option FlatInstr
row_in p d op = option_map (other_instr (numbers p.func)) (instruction p.source d op)

abbrev pub phi_in : Part → Option LocalId → Op → Option Phi
phi_in p d op = option_map (other_phi (numbers p.func)) (phi p.source d op)

abbrev pub entry_in : Part → IrType → Pair → Entry
entry_in p t e = other_entry (numbers p.func) (entry p.source t e)

abbrev pub case_in : Part → SwitchCase → Case
case_in p c = other_case (numbers p.func) (switch_case p.source c)

abbrev pub end_in : Part → End → FlatEnd
end_in p e = other_end (numbers p.func) (terminator p.source e)

abbrev pub instr_row : Part → Instr → Option FlatInstr
instr_row p i = row_in p i.result i.op

abbrev pub instr_phi : Part → Instr → Option Phi
instr_phi p i = phi_in p i.result i.op

-- a block of the plain body
abbrev pub block_of : Part → Block → FlatBlock
block_of p b = renumbered (numbers p.func) (block_rows p.source b)

-- ---- names

-- the number of the register to which an instruction writes
abbrev pub result_number : Option LocalId → List ℕ
result_number None = []
result_number (Some x) = x.0 ∷ []

abbrev pub result_numbers : Instr → List ℕ
result_numbers i = result_number i.result

abbrev pub block_numbers : Block → List ℕ
block_numbers b = flat_map result_numbers b.code

abbrev pub param_number : Param → ℕ
param_number p = p.name.0

-- those of parameters and of results, in text order
abbrev pub register_numbers : Func → List ℕ
register_numbers f = map param_number f.params ++ flat_map block_numbers f.blocks

abbrev pub label_number : Block → ℕ
label_number b = b.label.0

abbrev pub func_number : Func → ℕ
func_number f = f.name.0

-- ---- rows

-- a store, whatever name stands before it
abbrev pub store_in : Part → TypedOperand → TypedOperand → Option ℕ → FlatInstr
store_in p a q stated = Store (scalar_of a.ty) (aligned_as p.source.types.defs stated a.ty) (typed_in p a) (typed_in p q)

abbrev pub gep_in : Part → LocalId → IrType → TypedOperand → List TypedOperand → FlatInstr
gep_in p d t a is = Gep (reg_in p d) (typed_in p a) ((path_in p t is).bytes % 4294967296) (terms_in p (path_in p t is).terms)
