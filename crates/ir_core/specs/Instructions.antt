-- A module's instructions in the terms of the rows that give their meaning: registers and blocks have the numbers of
-- their local names, types are widths, sizes and strides, constants are words and addresses.
use Rattle.std.specs.Prelude.{ℕ, ◌*◌, ◌%◌, ◌==◌, Bool, if◌then◌else◌, List, [], ◌∷◌, map, codes, bytes_eq, unsigned_abs, Option, Some, None}
use Rattle.std.specs.List.{filter_map, position_or_len}
use Rattle.std.specs.Option.{option_map}
use Rattle.oi_base.specs.declared.ids.RegId.{RegId}
use Rattle.oi_base.specs.declared.ids.BlockId.{BlockId}
use Rattle.ir_core.specs.declared.flat.FlatOp.{FlatOp}
use Rattle.ir_core.specs.declared.flat.FlatOp.TheVariants.{Reg, Poison}
use Rattle.ir_core.specs.declared.flat.FlatInstr.{FlatInstr}
use Rattle.ir_core.specs.declared.flat.FlatInstr.TheVariants as flat
use Rattle.ir_core.specs.declared.flat.FlatEnd.{FlatEnd}
use Rattle.ir_core.specs.declared.flat.FlatEnd.TheVariants as flat_end
use Rattle.ir_core.specs.declared.flat.Case.{Case}
use Rattle.ir_core.specs.declared.flat.Entry.{Entry}
use Rattle.ir_core.specs.declared.flat.Phi.{Phi}
use Rattle.ir_core.specs.declared.flat.FlatBlock.{FlatBlock}
use Rattle.ir_core.specs.declared.ty.IrType.{IrType}
use Rattle.ir_core.specs.declared.constant.TypedCount.{TypedCount}
use Rattle.ir_core.specs.declared.module.SymId.{SymId}
use Rattle.ir_core.specs.declared.module.Module.{Module}
use Rattle.ir_core.specs.declared.op.LocalId.{LocalId}
use Rattle.ir_core.specs.declared.op.Operand.{Operand}
use Rattle.ir_core.specs.declared.op.Operand.TheVariants as operands
use Rattle.ir_core.specs.declared.op.TypedOperand.{TypedOperand}
use Rattle.ir_core.specs.declared.op.Pair.{Pair}
use Rattle.ir_core.specs.declared.op.SwitchCase.{SwitchCase}
use Rattle.ir_core.specs.declared.op.Op.{Op}
use Rattle.ir_core.specs.declared.op.Op.TheVariants as ops
use Rattle.ir_core.specs.declared.op.End.{End}
use Rattle.ir_core.specs.declared.op.End.TheVariants as ends
use Rattle.ir_core.specs.declared.func.Instr.{Instr}
use Rattle.ir_core.specs.declared.func.Block.{Block}
use Rattle.ir_core.specs.declared.func.Func.{Func}
use Rattle.ir_core.specs.Sizes.{size}
use Rattle.ir_core.specs.Parts.{is_defined}
use Rattle.ir_core.specs.Operands.{symbol_text}
use Rattle.ir_core.specs.Constants.{width_of, scalar_of, aligned_as, Index, Path, path, field_number, constant}

-- ---- operands

abbrev pub register : LocalId → RegId
register x = record { 0 = x.0 }

abbrev pub target : LocalId → BlockId
target x = record { 0 = x.0 }

abbrev pub operand : Module → IrType → Operand → FlatOp
operand m t (operands.Local x) = Reg (register x)
operand m t (operands.Const c) = constant m t c

abbrev pub typed : Module → TypedOperand → FlatOp
typed m a = operand m a.ty a.value

abbrev pub index : Module → TypedOperand → Index
index m a = record { operand = typed m a; width = width_of a.ty }

-- ---- calls

abbrev pub is_named : SymId → Func → Bool
is_named s f = f.name.0 == s.0

-- a function by its position; where none has the name, the number of all
abbrev pub func_number : Module → SymId → ℕ
func_number m s = position_or_len (is_named s) m.funcs

abbrev pub first : List FlatOp → FlatOp
first [] = Poison
first (a ∷ as') = a

-- the externals: `i32 @putchar(i32)`, `i32 @getchar()` and `void @exit(i32)`
abbrev pub external_call : List ℕ → Option RegId → List FlatOp → FlatInstr → FlatInstr
external_call name d args other =
    if bytes_eq name (codes "putchar") then flat.Put d (first args)
    else (if bytes_eq name (codes "getchar") then flat.Get d
    else (if bytes_eq name (codes "exit") then flat.Exit (first args) else other))

-- a call of a function that the module defines, else of an external
abbrev pub call : Module → Option RegId → SymId → List FlatOp → FlatInstr
call m d s args =
    let inner = flat.Call d (record { 0 = func_number m s }) args in
    if is_defined m s then inner else external_call (symbol_text m s) d args inner

-- ---- instructions

abbrev pub count_of : Option TypedCount → ℕ
count_of None = 1
count_of (Some n) = unsigned_abs n.count

abbrev pub gep : RegId → FlatOp → Path → FlatInstr
gep d a p = flat.Gep d a (p.bytes % 4294967296) p.terms

-- an instruction but a phi, whose result has the name
abbrev pub instruction : Module → Option LocalId → Op → Option FlatInstr
instruction m (Some d) (ops.Bin op t a b) = Some (flat.Bin (register d) op (width_of t) (operand m t a) (operand m t b))
instruction m (Some d) (ops.Icmp c t a b) = Some (flat.Icmp (register d) c (scalar_of t) (operand m t a) (operand m t b))
instruction m (Some d) (ops.Select c a b) = Some (flat.Select (register d) (typed m c) (typed m a) (typed m b))
instruction m (Some d) (ops.Cast c a t) = Some (flat.Cast (register d) c (width_of a.ty) (width_of t) (typed m a))
instruction m (Some d) (ops.Alloca t count stated) = Some (flat.Alloca (register d) (size m.types.defs t * count_of count) (aligned_as m.types.defs stated t))
instruction m (Some d) (ops.Load t a stated) = Some (flat.Load (register d) (scalar_of t) (aligned_as m.types.defs stated t) (typed m a))
instruction m (Some d) (ops.Gep t a is) = Some (gep (register d) (typed m a) (path m.types.defs t (map (index m) is)))
instruction m r (ops.Store a p stated) = Some (flat.Store (scalar_of a.ty) (aligned_as m.types.defs stated a.ty) (typed m a) (typed m p))
instruction m r (ops.Call t s as') = Some (call m (option_map register r) s (map (typed m) as'))
instruction m r op = None

abbrev pub entry : Module → IrType → Pair → Entry
entry m t e = record { from = target e.from; value = operand m t e.value }

abbrev pub phi : Module → Option LocalId → Op → Option Phi
phi m (Some d) (ops.Phi t es) = Some (record { reg = register d; entries = map (entry m t) es })
phi m r op = None

abbrev pub switch_case : Module → SwitchCase → Case
switch_case m c = record { word = field_number (typed m c.value); to = target c.to }

abbrev pub terminator : Module → End → FlatEnd
terminator m (ends.Ret a) = flat_end.Ret (option_map (typed m) a)
terminator m (ends.Br b) = flat_end.Br (target b)
terminator m (ends.Cond c t f) = flat_end.Cond (typed m c) (target t) (target f)
terminator m (ends.Switch a other cases) = flat_end.Switch (typed m a) (width_of a.ty) (map (switch_case m) cases) (target other)
terminator m ends.Unreachable = flat_end.Unreachable

-- a block: its phis, which stand first, and its other instructions
abbrev pub block_rows : Module → Block → FlatBlock
block_rows m b = record {
  phis = filter_map (λ (i : Instr). phi m i.result i.op) b.code;
  code = filter_map (λ (i : Instr). instruction m i.result i.op) b.code;
  end = terminator m b.end;
}
