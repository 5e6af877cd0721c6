-- The places at which the rule of types is broken, in text order.
use Rattle.std.specs.Prelude.{ℕ, Bool, true, false, not, ◌&&◌, nat_eq, nat_lt, if◌then◌else◌, List, [], ◌∷◌, ◌++◌, map, Option, Some, None}
use Rattle.std.specs.List.{flat_map, list_any, list_all}
use Rattle.oi_base.specs.declared.ids.Place.{Place}
use Rattle.oi_base.specs.declared.words.Width.{Width}
use Rattle.oi_base.specs.declared.words.Width.TheVariants.{W1, W8, W16, W32}
use Rattle.oi_base.specs.Words.{bits}
use Rattle.ir_core.specs.declared.ty.TypeDef.{TypeDef}
use Rattle.ir_core.specs.declared.ty.IrType.{IrType, Void, Int, Ptr}
use Rattle.ir_core.specs.declared.module.Module.{Module}
use Rattle.ir_core.specs.declared.constant.Const.{Const}
use Rattle.ir_core.specs.declared.constant.Const as consts
use Rattle.ir_core.specs.declared.flat.CastOp.{CastOp}
use Rattle.ir_core.specs.declared.flat.CastOp.TheVariants.{Zext, Sext, Trunc}
use Rattle.ir_core.specs.declared.op.LocalId.{LocalId}
use Rattle.ir_core.specs.declared.op.Operand.{Operand}
use Rattle.ir_core.specs.declared.op.Operand.TheVariants as operands
use Rattle.ir_core.specs.declared.op.TypedOperand.{TypedOperand}
use Rattle.ir_core.specs.declared.op.SwitchCase.{SwitchCase}
use Rattle.ir_core.specs.declared.op.Op.{Op}
use Rattle.ir_core.specs.declared.op.Op.TheVariants.{Bin, Icmp, Select, Cast, Alloca, Load, Store, Gep, Phi, Call}
use Rattle.ir_core.specs.declared.op.End.{End}
use Rattle.ir_core.specs.declared.op.End.TheVariants.{Ret, Br, Cond, Switch, Unreachable}
use Rattle.ir_core.specs.declared.func.Instr.{Instr}
use Rattle.ir_core.specs.declared.func.Block.{Block}
use Rattle.ir_core.specs.declared.func.Func.{Func}
use Rattle.ir_core.specs.declared.func.Param.{Param}
use Rattle.ir_core.specs.Operands.{Step, Does, Ends, op_operands, end_operands}
use Rattle.ir_core.specs.ValidConsts.{const_index, index_of}
use Rattle.ir_core.specs.ValidOps.{op_result}
use Rattle.module_rules.specs.Faults.{place_if, step_faults, with_numbers, numbers_of}
use Rattle.ir_core.specs.Types.{is_integer, is_bit, is_pointer, is_scalar}
use Rattle.module_rules.specs.Walks.{walks}
use Rattle.ir_verifier.specs.CallFaults.{same_kind}

-- ---- kinds of types

abbrev pub is_result_type : IrType → Bool
is_result_type Void = true
is_result_type t = is_scalar t

-- ---- the parameters and registers of a type

abbrev pub number_if : Bool → LocalId → List ℕ
number_if t x = if t then (x.0 ∷ []) else []

abbrev pub param_of : IrType → Param → List ℕ
param_of t q = number_if (same_kind q.ty t) q.name

-- the result of an operation has the type
abbrev pub makes : IrType → Op → Bool
makes t op = same_kind (op_result op) t

abbrev pub result_of : IrType → Instr → List ℕ
result_of t i = of_result i.result
  where
    of_result : Option LocalId → List ℕ
    of_result None = []
    of_result (Some x) = number_if (makes t i.op) x

abbrev pub results_of : IrType → Block → List ℕ
results_of t b = flat_map (result_of t) b.code

abbrev pub locals_of : IrType → Func → List ℕ
locals_of t f = with_numbers (numbers_of (flat_map (param_of t) f.params)) (flat_map (results_of t) f.blocks)

-- those of each type that they may have
pub record Registers : Type 0 where
  pub bits : List ℕ
  pub bytes : List ℕ
  pub halves : List ℕ
  pub words : List ℕ
  pub pointers : List ℕ

abbrev pub registers_of : Func → Registers
registers_of f = record {
  bits = locals_of (Int W1) f;
  bytes = locals_of (Int W8) f;
  halves = locals_of (Int W16) f;
  words = locals_of (Int W32) f;
  pointers = locals_of Ptr f;
}

abbrev pub numbers_in : Registers → IrType → List ℕ
numbers_in r (Int W1) = r.bits
numbers_in r (Int W8) = r.bytes
numbers_in r (Int W16) = r.halves
numbers_in r (Int W32) = r.words
numbers_in r Ptr = r.pointers
numbers_in r _ = []

abbrev pub has_type : Registers → LocalId → IrType → Bool
has_type r x t = list_any (nat_eq x.0) (numbers_in r t)

-- ---- operands

-- what is known in a function: the type names, and the parameters and registers
pub record Typing : Type 0 where
  pub defs : List TypeDef
  pub registers : Registers

abbrev pub typing_of : Module → Func → Typing
typing_of m f = record { defs = m.types.defs; registers = registers_of f }

abbrev pub const_agrees : Typing → IrType → Const → Bool
const_agrees s t (consts.Int n) = is_integer t
const_agrees s t (consts.Address g) = is_pointer t
const_agrees s t (consts.Gep source g is) = is_pointer t && walks s.defs source (map const_index is)
const_agrees s t _ = true

abbrev pub value_agrees : Typing → IrType → Operand → Bool
value_agrees s t (operands.Local x) = has_type s.registers x t
value_agrees s t (operands.Const c) = const_agrees s t c

abbrev pub operand_agrees : Typing → TypedOperand → Bool
operand_agrees s a = is_scalar a.ty && value_agrees s a.ty a.value

-- ---- instructions and terminators

-- `zext` and `sext` widen, `trunc` narrows
abbrev pub casts : CastOp → Width → Width → Bool
casts Zext from to = nat_lt (bits from) (bits to)
casts Sext from to = nat_lt (bits from) (bits to)
casts Trunc from to = nat_lt (bits to) (bits from)

abbrev pub casts_to : CastOp → IrType → IrType → Bool
casts_to c (Int from) (Int to) = casts c from to
casts_to c _ _ = false

abbrev pub fits_op : Typing → Op → Bool
fits_op s (Bin op t a b) = is_integer t
fits_op s (Icmp c t a b) = is_scalar t
fits_op s (Select c a b) = is_bit c.ty && same_kind a.ty b.ty
fits_op s (Cast c a t) = casts_to c a.ty t
fits_op s (Alloca t None align) = true
fits_op s (Alloca t (Some n) align) = is_integer n.ty
fits_op s (Load t a align) = is_scalar t && is_pointer a.ty
fits_op s (Store a p align) = is_pointer p.ty
fits_op s (Gep t a is) = is_pointer a.ty && walks s.defs t (map index_of is)
fits_op s (Phi t es) = is_scalar t
fits_op s (Call t g as') = is_result_type t

abbrev pub fits_end : IrType → End → Bool
fits_end result (Ret None) = same_kind result Void
fits_end result (Ret (Some a)) = same_kind a.ty result
fits_end result (Br b) = true
fits_end result (Cond c t e) = is_bit c.ty
fits_end result (Switch a other cases) = is_integer a.ty && list_all (λ (c : SwitchCase). same_kind c.value.ty a.ty) cases
fits_end result Unreachable = true

abbrev pub op_agrees : Typing → Op → Bool
op_agrees s op = list_all (operand_agrees s) (op_operands op) && fits_op s op

abbrev pub end_agrees : Typing → IrType → End → Bool
end_agrees s result e = list_all (operand_agrees s) (end_operands e) && fits_end result e

abbrev pub step_agrees : Typing → IrType → Step → Bool
step_agrees s result (Does i) = op_agrees s i.op
step_agrees s result (Ends b) = end_agrees s result b.end

-- ---- functions

abbrev pub is_good_param : Param → Bool
is_good_param q = is_scalar q.ty

abbrev pub has_good_types : Func → Bool
has_good_types f = is_result_type f.result && list_all is_good_param f.params

abbrev pub type_faults : Typing → Func → List Place
type_faults s f = place_if (not (has_good_types f)) f.place ++ step_faults (λ (t : Step). not (step_agrees s f.result t)) f
