-- The places at which the rule of constants is broken.
use Rattle.std.proofs.Common.{sym, subst, not, List, Option, Some, None, All}
use Rattle.std.specs.List.{list_all}
use Rattle.ir_core.specs.declared.ty.IrType.{IrType}
use Rattle.ir_core.specs.declared.constant.Const.{Const}
use Rattle.ir_core.specs.declared.constant.Const as consts
use Rattle.ir_core.specs.declared.constant.TypedCount.{TypedCount}
use Rattle.ir_core.specs.declared.op.LocalId.{LocalId}
use Rattle.ir_core.specs.declared.op.Operand.{Operand}
use Rattle.ir_core.specs.declared.op.Operand.TheVariants as operands
use Rattle.ir_core.specs.declared.op.TypedOperand.{TypedOperand}
use Rattle.ir_core.specs.declared.op.Op.{Op}
use Rattle.ir_core.specs.declared.op.Op.TheVariants.{Bin, Icmp, Select, Cast, Alloca, Load, Store, Gep, Phi, Call}
use Rattle.ir_core.specs.declared.func.Func.{Func}
use Rattle.oi_base.specs.declared.ids.Place.{Place}
use Rattle.ir_core.specs.Operands.{Step, Does, Ends, steps, place_of, op_operands, end_operands, operands_of}
use Rattle.ir_core.specs.ValidConsts.{FitsType}
use Rattle.ir_core.specs.ValidOps.{ConstFits, OperandFits, CountFits, BreaksConstants}
use Rattle.module_rules.specs.First.{earliest, IsFound}
use Rattle.module_rules.specs.Faults.{count_fits}
use Rattle.ir_verifier.specs.Faults.{const_fits, value_fits, operand_fits, op_count_fits, step_fits, constant_faults}
use Rattle.std.specs.Bool.{Decides}
use Rattle.std.proofs.lemmas.Bool.Decides.{Decides-and, Decides-not}
use Rattle.module_rules.proofs.Decided.{always, each}
use Rattle.module_rules.proofs.IntegerLaws.{type_decides, count_decides, bit_decides, pointer_decides}
use Rattle.module_rules.proofs.At.{found_at, step_places}

const_decides : (t : IrType) (c : Const) → Decides (const_fits t c) (ConstFits c t)
const_decides t (consts.Int n) = type_decides t n
const_decides t (consts.Bool b) = bit_decides t
const_decides t consts.Null = pointer_decides t
const_decides t (consts.Gep source s is) = each count_fits (λ (n : TypedCount). FitsType n.ty n.count) count_decides is
const_decides t consts.Undef = always
const_decides t consts.Poison = always
const_decides t consts.Zero = always
const_decides t (consts.Bytes b) = always
const_decides t (consts.Address s) = always
const_decides t (consts.Array' m items) = always
const_decides t (consts.Struct' m fields) = always

value_decides : (t : IrType) (v : Operand) → Decides (value_fits t v) (OperandFits (record { ty = t; value = v }))
value_decides t (operands.Local x) = always
value_decides t (operands.Const c) = const_decides t c

pub operand_decides : (a : TypedOperand) → Decides (operand_fits a) (OperandFits a)
operand_decides a = value_decides a.ty a.value

count_of_decides : (p : Place) (r : Option LocalId) (op : Op) → Decides (op_count_fits op) (CountFits (Does (record { place = p; result = r; op = op })))
count_of_decides p r (Alloca t (Some n) align) = count_decides n
count_of_decides p r (Alloca t None align) = always
count_of_decides p r (Bin op t a b) = always
count_of_decides p r (Icmp c t a b) = always
count_of_decides p r (Select c a b) = always
count_of_decides p r (Cast c a t) = always
count_of_decides p r (Load t a align) = always
count_of_decides p r (Store a q align) = always
count_of_decides p r (Gep t a is) = always
count_of_decides p r (Phi t es) = always
count_of_decides p r (Call t g as') = always

step_decides : (s : Step) → Decides (step_fits s) (All OperandFits (operands_of s) × CountFits s)
step_decides (Does i) = Decides-and (list_all operand_fits (op_operands i.op)) (op_count_fits i.op) (each operand_fits OperandFits operand_decides (op_operands i.op)) (count_of_decides i.place i.result i.op)
step_decides (Ends b) = let e = each operand_fits OperandFits operand_decides (end_operands b.end) in (λ t. (e.0 t, tt), λ h. e.1 h.0)

module _ (f : Func) where
  abbrev IsBad : Step → Type 0
  IsBad s = All OperandFits (operands_of s) × CountFits s → ⊥

  bad_decides : (s : Step) → Decides (not (step_fits s)) (IsBad s)
  bad_decides s = Decides-not (step_fits s) (step_decides s)

  pub constants_found : IsFound (BreaksConstants f) (earliest None (constant_faults f))
  constants_found =
      subst (λ (ps : List Place). IsFound (BreaksConstants f) (earliest None ps)) (sym (step_places (λ (s : Step). not (step_fits s)) f.blocks))
      (found_at (λ (s : Step). not (step_fits s)) place_of IsBad (λ s. (bad_decides s).0) (λ s. (bad_decides s).1) (steps f))
