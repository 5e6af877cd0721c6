-- Types whose sizes and offsets can be told, and the instructions, phis and terminators that ask for such types alone.
use Rattle.std.specs.Prelude.{◌*◌, ◌≤◌, List, Some, None, All, ⊤}
use Rattle.ir_core.specs.declared.limits.TheConstants.{LARGEST}
use Rattle.ir_core.specs.declared.ty.TypeDef.{TypeDef}
use Rattle.ir_core.specs.declared.ty.IrType.{IrType}
use Rattle.ir_core.specs.declared.constant.Const.{Const}
use Rattle.ir_core.specs.declared.constant.Const as consts
use Rattle.ir_core.specs.declared.op.Operand.{Operand}
use Rattle.ir_core.specs.declared.op.Operand.TheVariants as operands
use Rattle.ir_core.specs.declared.op.TypedOperand.{TypedOperand}
use Rattle.ir_core.specs.declared.op.Pair.{Pair}
use Rattle.ir_core.specs.declared.op.SwitchCase.{SwitchCase}
use Rattle.ir_core.specs.declared.op.Op.{Op}
use Rattle.ir_core.specs.declared.op.Op.TheVariants.{Bin, Icmp, Select, Cast, Alloca, Load, Store, Gep, Phi, Call}
use Rattle.ir_core.specs.declared.op.End.{End}
use Rattle.ir_core.specs.declared.op.End.TheVariants.{Ret, Br, Cond, Switch, Unreachable}
use Rattle.ir_core.specs.declared.func.Instr.{Instr}
use Rattle.ir_core.specs.declared.func.Block.{Block}
use Rattle.ir_core.specs.declared.func.Func.{Func}
use Rattle.ir_core.specs.Sizes.{IsLaid, size}
use Rattle.ir_core.specs.ValidTypes.{IsTooLarge}
use Rattle.ir_core.specs.Instructions.{count_of}

-- a type with a layout in which nothing is too large
abbrev pub IsMeasured : List TypeDef → IrType → Type 0
IsMeasured defs t = IsLaid defs t × (IsTooLarge defs t → ⊥)

-- the source type of a constant `getelementptr` is such a type
abbrev pub IsMeasuredConst : List TypeDef → Const → Type 0
IsMeasuredConst defs (consts.Gep source s is) = IsMeasured defs source
IsMeasuredConst defs _ = ⊤

abbrev pub IsMeasuredValue : List TypeDef → Operand → Type 0
IsMeasuredValue defs (operands.Local x) = ⊤
IsMeasuredValue defs (operands.Const c) = IsMeasuredConst defs c

abbrev pub AreMeasured : List TypeDef → List TypedOperand → Type 0
AreMeasured defs as' = All (λ (a : TypedOperand). IsMeasuredValue defs a.value) as'

-- the values of an instruction, the size of an alloca, and the source type of a `getelementptr`
abbrev pub IsMeasuredOp : List TypeDef → Op → Type 0
IsMeasuredOp defs (Bin op t a b) = IsMeasuredValue defs a × IsMeasuredValue defs b
IsMeasuredOp defs (Icmp c t a b) = IsMeasuredValue defs a × IsMeasuredValue defs b
IsMeasuredOp defs (Select c a b) = IsMeasuredValue defs c.value × IsMeasuredValue defs a.value × IsMeasuredValue defs b.value
IsMeasuredOp defs (Cast c a t) = IsMeasuredValue defs a.value
IsMeasuredOp defs (Alloca t count stated) = size defs t * count_of count ≤ LARGEST
IsMeasuredOp defs (Load t a stated) = IsMeasuredValue defs a.value
IsMeasuredOp defs (Store a p stated) = IsMeasuredValue defs a.value × IsMeasuredValue defs p.value
IsMeasuredOp defs (Gep t a is) = IsMeasured defs t × IsMeasuredValue defs a.value × AreMeasured defs is
IsMeasuredOp defs (Phi t es) = All (λ (e : Pair). IsMeasuredValue defs e.value) es
IsMeasuredOp defs (Call t s as') = AreMeasured defs as'

abbrev pub IsMeasuredEnd : List TypeDef → End → Type 0
IsMeasuredEnd defs (Ret None) = ⊤
IsMeasuredEnd defs (Ret (Some a)) = IsMeasuredValue defs a.value
IsMeasuredEnd defs (Br b) = ⊤
IsMeasuredEnd defs (Cond c t f) = IsMeasuredValue defs c.value
IsMeasuredEnd defs (Switch a other cases) = IsMeasuredValue defs a.value × All (λ (c : SwitchCase). IsMeasuredValue defs c.value.value) cases
IsMeasuredEnd defs Unreachable = ⊤

abbrev pub IsMeasuredCode : List TypeDef → List Instr → Type 0
IsMeasuredCode defs code = All (λ (i : Instr). IsMeasuredOp defs i.op) code

abbrev pub IsMeasuredBlock : List TypeDef → Block → Type 0
IsMeasuredBlock defs b = IsMeasuredCode defs b.code × IsMeasuredEnd defs b.end

abbrev pub IsMeasuredFunc : List TypeDef → Func → Type 0
IsMeasuredFunc defs f = All (IsMeasuredBlock defs) f.blocks
