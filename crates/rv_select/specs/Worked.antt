-- Codes of small bodies, worked out by a plain model of the table.
use Rattle.std.specs.Prelude.{◌≡◌, ℕ, ◌+◌, List, [], ◌∷◌, map, sum_by, Some, None, pos, neg_ℤ}
use Rattle.oi_base.specs.declared.words.Width.TheVariants.{W1, W8, W16, W32}
use Rattle.ir_core.specs.declared.flat.BinOp.TheVariants as op
use Rattle.ir_core.specs.declared.flat.Cmp.TheVariants as cmp
use Rattle.ir_core.specs.declared.flat.CastOp.TheVariants as cast
use Rattle.ir_core.specs.declared.flat.Scalar.TheVariants as scalar
use Rattle.ir_core.specs.declared.flat.FlatOp.TheVariants as operand
use Rattle.ir_core.specs.declared.flat.FlatInstr.TheVariants as flat
use Rattle.ir_core.specs.declared.flat.FlatEnd.TheVariants as ends
use Rattle.ir_core.specs.declared.flat.FlatBody.{FlatBody}
use Rattle.frame_layout.specs.Offsets.{Offsets}
use Rattle.frame_layout.specs.declared.homes.Home.TheVariants as home
use Rattle.rv_isa.specs.declared.rv.Rv.TheVariants as rv
use Rattle.rv_select.specs.declared.item.Item.{Item}
use Rattle.rv_select.specs.declared.item.Item.TheVariants as items
use Rattle.rv_select.specs.Code.{code, code_with, code_bytes}

-- a body and its code
pub record Worked : Type 0 where
  pub body : FlatBody
  pub expected : List Item

abbrev pub AreRight : List Worked → Type 0
AreRight ws = map (λ (w : Worked). code w.body) ws ≡ map (λ (w : Worked). w.expected) ws

-- a body with a frame whose slots and memory lie about the edges of what one instruction reaches, and beyond them
pub record WorkedFar : Type 0 where
  pub frame : Offsets
  pub body : FlatBody
  pub expected : List Item

abbrev pub AreRightFar : List WorkedFar → Type 0
AreRightFar ws = map (λ (w : WorkedFar). code_with w.frame w.body) ws ≡ map (λ (w : WorkedFar). w.expected) ws

-- the text of a program of these bodies, in bytes, with the start stub
abbrev pub text_bytes : List FlatBody → ℕ
text_bytes bodies = 16 + sum_by code_bytes bodies

abbrev pub operations : List Worked
operations =
    record { body = record { params = 2; regs = 3; blocks = record { phis = []; code = flat.Bin (record { 0 = 2 }) op.Add W1 (operand.Reg (record { 0 = 0 })) (operand.Reg (record { 0 = 1 })) ∷ []; end = ends.Ret (Some (operand.Reg (record { 0 = 2 }))) } ∷ [] }; expected = items.Word (rv.Addi 2 2 (neg_ℤ (pos 16))) ∷ items.Word (rv.Sw 2 1 (pos 0)) ∷ items.Word (rv.Sw 2 10 (pos 4)) ∷ items.Word (rv.Sw 2 11 (pos 8)) ∷ items.Word (rv.Lw 5 2 (pos 4)) ∷ items.Word (rv.Lw 6 2 (pos 8)) ∷ items.Word (rv.Add 5 5 6) ∷ items.Word (rv.Andi 5 5 (pos 1)) ∷ items.Word (rv.Sw 2 5 (pos 12)) ∷ items.Word (rv.Lw 10 2 (pos 12)) ∷ items.Word (rv.Lw 1 2 (pos 0)) ∷ items.Word (rv.Addi 2 2 (pos 16)) ∷ items.Word (rv.Jalr 0 1 (pos 0)) ∷ [] } ∷
    record { body = record { params = 2; regs = 3; blocks = record { phis = []; code = flat.Bin (record { 0 = 2 }) op.Add W8 (operand.Reg (record { 0 = 0 })) (operand.Reg (record { 0 = 1 })) ∷ []; end = ends.Ret (Some (operand.Reg (record { 0 = 2 }))) } ∷ [] }; expected = items.Word (rv.Addi 2 2 (neg_ℤ (pos 16))) ∷ items.Word (rv.Sw 2 1 (pos 0)) ∷ items.Word (rv.Sw 2 10 (pos 4)) ∷ items.Word (rv.Sw 2 11 (pos 8)) ∷ items.Word (rv.Lw 5 2 (pos 4)) ∷ items.Word (rv.Lw 6 2 (pos 8)) ∷ items.Word (rv.Add 5 5 6) ∷ items.Word (rv.Andi 5 5 (pos 255)) ∷ items.Word (rv.Sw 2 5 (pos 12)) ∷ items.Word (rv.Lw 10 2 (pos 12)) ∷ items.Word (rv.Lw 1 2 (pos 0)) ∷ items.Word (rv.Addi 2 2 (pos 16)) ∷ items.Word (rv.Jalr 0 1 (pos 0)) ∷ [] } ∷
    record { body = record { params = 2; regs = 3; blocks = record { phis = []; code = flat.Bin (record { 0 = 2 }) op.Add W16 (operand.Reg (record { 0 = 0 })) (operand.Reg (record { 0 = 1 })) ∷ []; end = ends.Ret (Some (operand.Reg (record { 0 = 2 }))) } ∷ [] }; expected = items.Word (rv.Addi 2 2 (neg_ℤ (pos 16))) ∷ items.Word (rv.Sw 2 1 (pos 0)) ∷ items.Word (rv.Sw 2 10 (pos 4)) ∷ items.Word (rv.Sw 2 11 (pos 8)) ∷ items.Word (rv.Lw 5 2 (pos 4)) ∷ items.Word (rv.Lw 6 2 (pos 8)) ∷ items.Word (rv.Add 5 5 6) ∷ items.Word (rv.Slli 5 5 (pos 16)) ∷ items.Word (rv.Srli 5 5 (pos 16)) ∷ items.Word (rv.Sw 2 5 (pos 12)) ∷ items.Word (rv.Lw 10 2 (pos 12)) ∷ items.Word (rv.Lw 1 2 (pos 0)) ∷ items.Word (rv.Addi 2 2 (pos 16)) ∷ items.Word (rv.Jalr 0 1 (pos 0)) ∷ [] } ∷
    record { body = record { params = 2; regs = 3; blocks = record { phis = []; code = flat.Bin (record { 0 = 2 }) op.Add W32 (operand.Reg (record { 0 = 0 })) (operand.Reg (record { 0 = 1 })) ∷ []; end = ends.Ret (Some (operand.Reg (record { 0 = 2 }))) } ∷ [] }; expected = items.Word (rv.Addi 2 2 (neg_ℤ (pos 16))) ∷ items.Word (rv.Sw 2 1 (pos 0)) ∷ items.Word (rv.Sw 2 10 (pos 4)) ∷ items.Word (rv.Sw 2 11 (pos 8)) ∷ items.Word (rv.Lw 5 2 (pos 4)) ∷ items.Word (rv.Lw 6 2 (pos 8)) ∷ items.Word (rv.Add 5 5 6) ∷ items.Word (rv.Sw 2 5 (pos 12)) ∷ items.Word (rv.Lw 10 2 (pos 12)) ∷ items.Word (rv.Lw 1 2 (pos 0)) ∷ items.Word (rv.Addi 2 2 (pos 16)) ∷ items.Word (rv.Jalr 0 1 (pos 0)) ∷ [] } ∷
    record { body = record { params = 2; regs = 3; blocks = record { phis = []; code = flat.Bin (record { 0 = 2 }) op.Sub W1 (operand.Reg (record { 0 = 0 })) (operand.Reg (record { 0 = 1 })) ∷ []; end = ends.Ret (Some (operand.Reg (record { 0 = 2 }))) } ∷ [] }; expected = items.Word (rv.Addi 2 2 (neg_ℤ (pos 16))) ∷ items.Word (rv.Sw 2 1 (pos 0)) ∷ items.Word (rv.Sw 2 10 (pos 4)) ∷ items.Word (rv.Sw 2 11 (pos 8)) ∷ items.Word (rv.Lw 5 2 (pos 4)) ∷ items.Word (rv.Lw 6 2 (pos 8)) ∷ items.Word (rv.Sub 5 5 6) ∷ items.Word (rv.Andi 5 5 (pos 1)) ∷ items.Word (rv.Sw 2 5 (pos 12)) ∷ items.Word (rv.Lw 10 2 (pos 12)) ∷ items.Word (rv.Lw 1 2 (pos 0)) ∷ items.Word (rv.Addi 2 2 (pos 16)) ∷ items.Word (rv.Jalr 0 1 (pos 0)) ∷ [] } ∷
    record { body = record { params = 2; regs = 3; blocks = record { phis = []; code = flat.Bin (record { 0 = 2 }) op.Sub W8 (operand.Reg (record { 0 = 0 })) (operand.Reg (record { 0 = 1 })) ∷ []; end = ends.Ret (Some (operand.Reg (record { 0 = 2 }))) } ∷ [] }; expected = items.Word (rv.Addi 2 2 (neg_ℤ (pos 16))) ∷ items.Word (rv.Sw 2 1 (pos 0)) ∷ items.Word (rv.Sw 2 10 (pos 4)) ∷ items.Word (rv.Sw 2 11 (pos 8)) ∷ items.Word (rv.Lw 5 2 (pos 4)) ∷ items.Word (rv.Lw 6 2 (pos 8)) ∷ items.Word (rv.Sub 5 5 6) ∷ items.Word (rv.Andi 5 5 (pos 255)) ∷ items.Word (rv.Sw 2 5 (pos 12)) ∷ items.Word (rv.Lw 10 2 (pos 12)) ∷ items.Word (rv.Lw 1 2 (pos 0)) ∷ items.Word (rv.Addi 2 2 (pos 16)) ∷ items.Word (rv.Jalr 0 1 (pos 0)) ∷ [] } ∷
    record { body = record { params = 2; regs = 3; blocks = record { phis = []; code = flat.Bin (record { 0 = 2 }) op.Sub W16 (operand.Reg (record { 0 = 0 })) (operand.Reg (record { 0 = 1 })) ∷ []; end = ends.Ret (Some (operand.Reg (record { 0 = 2 }))) } ∷ [] }; expected = items.Word (rv.Addi 2 2 (neg_ℤ (pos 16))) ∷ items.Word (rv.Sw 2 1 (pos 0)) ∷ items.Word (rv.Sw 2 10 (pos 4)) ∷ items.Word (rv.Sw 2 11 (pos 8)) ∷ items.Word (rv.Lw 5 2 (pos 4)) ∷ items.Word (rv.Lw 6 2 (pos 8)) ∷ items.Word (rv.Sub 5 5 6) ∷ items.Word (rv.Slli 5 5 (pos 16)) ∷ items.Word (rv.Srli 5 5 (pos 16)) ∷ items.Word (rv.Sw 2 5 (pos 12)) ∷ items.Word (rv.Lw 10 2 (pos 12)) ∷ items.Word (rv.Lw 1 2 (pos 0)) ∷ items.Word (rv.Addi 2 2 (pos 16)) ∷ items.Word (rv.Jalr 0 1 (pos 0)) ∷ [] } ∷
    record { body = record { params = 2; regs = 3; blocks = record { phis = []; code = flat.Bin (record { 0 = 2 }) op.Sub W32 (operand.Reg (record { 0 = 0 })) (operand.Reg (record { 0 = 1 })) ∷ []; end = ends.Ret (Some (operand.Reg (record { 0 = 2 }))) } ∷ [] }; expected = items.Word (rv.Addi 2 2 (neg_ℤ (pos 16))) ∷ items.Word (rv.Sw 2 1 (pos 0)) ∷ items.Word (rv.Sw 2 10 (pos 4)) ∷ items.Word (rv.Sw 2 11 (pos 8)) ∷ items.Word (rv.Lw 5 2 (pos 4)) ∷ items.Word (rv.Lw 6 2 (pos 8)) ∷ items.Word (rv.Sub 5 5 6) ∷ items.Word (rv.Sw 2 5 (pos 12)) ∷ items.Word (rv.Lw 10 2 (pos 12)) ∷ items.Word (rv.Lw 1 2 (pos 0)) ∷ items.Word (rv.Addi 2 2 (pos 16)) ∷ items.Word (rv.Jalr 0 1 (pos 0)) ∷ [] } ∷
    record { body = record { params = 2; regs = 3; blocks = record { phis = []; code = flat.Bin (record { 0 = 2 }) op.Mul W1 (operand.Reg (record { 0 = 0 })) (operand.Reg (record { 0 = 1 })) ∷ []; end = ends.Ret (Some (operand.Reg (record { 0 = 2 }))) } ∷ [] }; expected = items.Word (rv.Addi 2 2 (neg_ℤ (pos 16))) ∷ items.Word (rv.Sw 2 1 (pos 0)) ∷ items.Word (rv.Sw 2 10 (pos 4)) ∷ items.Word (rv.Sw 2 11 (pos 8)) ∷ items.Word (rv.Lw 5 2 (pos 4)) ∷ items.Word (rv.Lw 6 2 (pos 8)) ∷ items.Word (rv.Mul 5 5 6) ∷ items.Word (rv.Andi 5 5 (pos 1)) ∷ items.Word (rv.Sw 2 5 (pos 12)) ∷ items.Word (rv.Lw 10 2 (pos 12)) ∷ items.Word (rv.Lw 1 2 (pos 0)) ∷ items.Word (rv.Addi 2 2 (pos 16)) ∷ items.Word (rv.Jalr 0 1 (pos 0)) ∷ [] } ∷
    record { body = record { params = 2; regs = 3; blocks = record { phis = []; code = flat.Bin (record { 0 = 2 }) op.Mul W8 (operand.Reg (record { 0 = 0 })) (operand.Reg (record { 0 = 1 })) ∷ []; end = ends.Ret (Some (operand.Reg (record { 0 = 2 }))) } ∷ [] }; expected = items.Word (rv.Addi 2 2 (neg_ℤ (pos 16))) ∷ items.Word (rv.Sw 2 1 (pos 0)) ∷ items.Word (rv.Sw 2 10 (pos 4)) ∷ items.Word (rv.Sw 2 11 (pos 8)) ∷ items.Word (rv.Lw 5 2 (pos 4)) ∷ items.Word (rv.Lw 6 2 (pos 8)) ∷ items.Word (rv.Mul 5 5 6) ∷ items.Word (rv.Andi 5 5 (pos 255)) ∷ items.Word (rv.Sw 2 5 (pos 12)) ∷ items.Word (rv.Lw 10 2 (pos 12)) ∷ items.Word (rv.Lw 1 2 (pos 0)) ∷ items.Word (rv.Addi 2 2 (pos 16)) ∷ items.Word (rv.Jalr 0 1 (pos 0)) ∷ [] } ∷
    record { body = record { params = 2; regs = 3; blocks = record { phis = []; code = flat.Bin (record { 0 = 2 }) op.Mul W16 (operand.Reg (record { 0 = 0 })) (operand.Reg (record { 0 = 1 })) ∷ []; end = ends.Ret (Some (operand.Reg (record { 0 = 2 }))) } ∷ [] }; expected = items.Word (rv.Addi 2 2 (neg_ℤ (pos 16))) ∷ items.Word (rv.Sw 2 1 (pos 0)) ∷ items.Word (rv.Sw 2 10 (pos 4)) ∷ items.Word (rv.Sw 2 11 (pos 8)) ∷ items.Word (rv.Lw 5 2 (pos 4)) ∷ items.Word (rv.Lw 6 2 (pos 8)) ∷ items.Word (rv.Mul 5 5 6) ∷ items.Word (rv.Slli 5 5 (pos 16)) ∷ items.Word (rv.Srli 5 5 (pos 16)) ∷ items.Word (rv.Sw 2 5 (pos 12)) ∷ items.Word (rv.Lw 10 2 (pos 12)) ∷ items.Word (rv.Lw 1 2 (pos 0)) ∷ items.Word (rv.Addi 2 2 (pos 16)) ∷ items.Word (rv.Jalr 0 1 (pos 0)) ∷ [] } ∷
    record { body = record { params = 2; regs = 3; blocks = record { phis = []; code = flat.Bin (record { 0 = 2 }) op.Mul W32 (operand.Reg (record { 0 = 0 })) (operand.Reg (record { 0 = 1 })) ∷ []; end = ends.Ret (Some (operand.Reg (record { 0 = 2 }))) } ∷ [] }; expected = items.Word (rv.Addi 2 2 (neg_ℤ (pos 16))) ∷ items.Word (rv.Sw 2 1 (pos 0)) ∷ items.Word (rv.Sw 2 10 (pos 4)) ∷ items.Word (rv.Sw 2 11 (pos 8)) ∷ items.Word (rv.Lw 5 2 (pos 4)) ∷ items.Word (rv.Lw 6 2 (pos 8)) ∷ items.Word (rv.Mul 5 5 6) ∷ items.Word (rv.Sw 2 5 (pos 12)) ∷ items.Word (rv.Lw 10 2 (pos 12)) ∷ items.Word (rv.Lw 1 2 (pos 0)) ∷ items.Word (rv.Addi 2 2 (pos 16)) ∷ items.Word (rv.Jalr 0 1 (pos 0)) ∷ [] } ∷
    record { body = record { params = 2; regs = 3; blocks = record { phis = []; code = flat.Bin (record { 0 = 2 }) op.Udiv W1 (operand.Reg (record { 0 = 0 })) (operand.Reg (record { 0 = 1 })) ∷ []; end = ends.Ret (Some (operand.Reg (record { 0 = 2 }))) } ∷ [] }; expected = items.Word (rv.Addi 2 2 (neg_ℤ (pos 16))) ∷ items.Word (rv.Sw 2 1 (pos 0)) ∷ items.Word (rv.Sw 2 10 (pos 4)) ∷ items.Word (rv.Sw 2 11 (pos 8)) ∷ items.Word (rv.Lw 5 2 (pos 4)) ∷ items.Word (rv.Lw 6 2 (pos 8)) ∷ items.Word (rv.Divu 5 5 6) ∷ items.Word (rv.Sw 2 5 (pos 12)) ∷ items.Word (rv.Lw 10 2 (pos 12)) ∷ items.Word (rv.Lw 1 2 (pos 0)) ∷ items.Word (rv.Addi 2 2 (pos 16)) ∷ items.Word (rv.Jalr 0 1 (pos 0)) ∷ [] } ∷
    record { body = record { params = 2; regs = 3; blocks = record { phis = []; code = flat.Bin (record { 0 = 2 }) op.Udiv W8 (operand.Reg (record { 0 = 0 })) (operand.Reg (record { 0 = 1 })) ∷ []; end = ends.Ret (Some (operand.Reg (record { 0 = 2 }))) } ∷ [] }; expected = items.Word (rv.Addi 2 2 (neg_ℤ (pos 16))) ∷ items.Word (rv.Sw 2 1 (pos 0)) ∷ items.Word (rv.Sw 2 10 (pos 4)) ∷ items.Word (rv.Sw 2 11 (pos 8)) ∷ items.Word (rv.Lw 5 2 (pos 4)) ∷ items.Word (rv.Lw 6 2 (pos 8)) ∷ items.Word (rv.Divu 5 5 6) ∷ items.Word (rv.Sw 2 5 (pos 12)) ∷ items.Word (rv.Lw 10 2 (pos 12)) ∷ items.Word (rv.Lw 1 2 (pos 0)) ∷ items.Word (rv.Addi 2 2 (pos 16)) ∷ items.Word (rv.Jalr 0 1 (pos 0)) ∷ [] } ∷
    record { body = record { params = 2; regs = 3; blocks = record { phis = []; code = flat.Bin (record { 0 = 2 }) op.Udiv W16 (operand.Reg (record { 0 = 0 })) (operand.Reg (record { 0 = 1 })) ∷ []; end = ends.Ret (Some (operand.Reg (record { 0 = 2 }))) } ∷ [] }; expected = items.Word (rv.Addi 2 2 (neg_ℤ (pos 16))) ∷ items.Word (rv.Sw 2 1 (pos 0)) ∷ items.Word (rv.Sw 2 10 (pos 4)) ∷ items.Word (rv.Sw 2 11 (pos 8)) ∷ items.Word (rv.Lw 5 2 (pos 4)) ∷ items.Word (rv.Lw 6 2 (pos 8)) ∷ items.Word (rv.Divu 5 5 6) ∷ items.Word (rv.Sw 2 5 (pos 12)) ∷ items.Word (rv.Lw 10 2 (pos 12)) ∷ items.Word (rv.Lw 1 2 (pos 0)) ∷ items.Word (rv.Addi 2 2 (pos 16)) ∷ items.Word (rv.Jalr 0 1 (pos 0)) ∷ [] } ∷
    record { body = record { params = 2; regs = 3; blocks = record { phis = []; code = flat.Bin (record { 0 = 2 }) op.Udiv W32 (operand.Reg (record { 0 = 0 })) (operand.Reg (record { 0 = 1 })) ∷ []; end = ends.Ret (Some (operand.Reg (record { 0 = 2 }))) } ∷ [] }; expected = items.Word (rv.Addi 2 2 (neg_ℤ (pos 16))) ∷ items.Word (rv.Sw 2 1 (pos 0)) ∷ items.Word (rv.Sw 2 10 (pos 4)) ∷ items.Word (rv.Sw 2 11 (pos 8)) ∷ items.Word (rv.Lw 5 2 (pos 4)) ∷ items.Word (rv.Lw 6 2 (pos 8)) ∷ items.Word (rv.Divu 5 5 6) ∷ items.Word (rv.Sw 2 5 (pos 12)) ∷ items.Word (rv.Lw 10 2 (pos 12)) ∷ items.Word (rv.Lw 1 2 (pos 0)) ∷ items.Word (rv.Addi 2 2 (pos 16)) ∷ items.Word (rv.Jalr 0 1 (pos 0)) ∷ [] } ∷
    record { body = record { params = 2; regs = 3; blocks = record { phis = []; code = flat.Bin (record { 0 = 2 }) op.Sdiv W1 (operand.Reg (record { 0 = 0 })) (operand.Reg (record { 0 = 1 })) ∷ []; end = ends.Ret (Some (operand.Reg (record { 0 = 2 }))) } ∷ [] }; expected = items.Word (rv.Addi 2 2 (neg_ℤ (pos 16))) ∷ items.Word (rv.Sw 2 1 (pos 0)) ∷ items.Word (rv.Sw 2 10 (pos 4)) ∷ items.Word (rv.Sw 2 11 (pos 8)) ∷ items.Word (rv.Lw 5 2 (pos 4)) ∷ items.Word (rv.Lw 6 2 (pos 8)) ∷ items.Word (rv.Slli 5 5 (pos 31)) ∷ items.Word (rv.Srai 5 5 (pos 31)) ∷ items.Word (rv.Slli 6 6 (pos 31)) ∷ items.Word (rv.Srai 6 6 (pos 31)) ∷ items.Word (rv.Div 5 5 6) ∷ items.Word (rv.Andi 5 5 (pos 1)) ∷ items.Word (rv.Sw 2 5 (pos 12)) ∷ items.Word (rv.Lw 10 2 (pos 12)) ∷ items.Word (rv.Lw 1 2 (pos 0)) ∷ items.Word (rv.Addi 2 2 (pos 16)) ∷ items.Word (rv.Jalr 0 1 (pos 0)) ∷ [] } ∷
    record { body = record { params = 2; regs = 3; blocks = record { phis = []; code = flat.Bin (record { 0 = 2 }) op.Sdiv W8 (operand.Reg (record { 0 = 0 })) (operand.Reg (record { 0 = 1 })) ∷ []; end = ends.Ret (Some (operand.Reg (record { 0 = 2 }))) } ∷ [] }; expected = items.Word (rv.Addi 2 2 (neg_ℤ (pos 16))) ∷ items.Word (rv.Sw 2 1 (pos 0)) ∷ items.Word (rv.Sw 2 10 (pos 4)) ∷ items.Word (rv.Sw 2 11 (pos 8)) ∷ items.Word (rv.Lw 5 2 (pos 4)) ∷ items.Word (rv.Lw 6 2 (pos 8)) ∷ items.Word (rv.Slli 5 5 (pos 24)) ∷ items.Word (rv.Srai 5 5 (pos 24)) ∷ items.Word (rv.Slli 6 6 (pos 24)) ∷ items.Word (rv.Srai 6 6 (pos 24)) ∷ items.Word (rv.Div 5 5 6) ∷ items.Word (rv.Andi 5 5 (pos 255)) ∷ items.Word (rv.Sw 2 5 (pos 12)) ∷ items.Word (rv.Lw 10 2 (pos 12)) ∷ items.Word (rv.Lw 1 2 (pos 0)) ∷ items.Word (rv.Addi 2 2 (pos 16)) ∷ items.Word (rv.Jalr 0 1 (pos 0)) ∷ [] } ∷
    record { body = record { params = 2; regs = 3; blocks = record { phis = []; code = flat.Bin (record { 0 = 2 }) op.Sdiv W16 (operand.Reg (record { 0 = 0 })) (operand.Reg (record { 0 = 1 })) ∷ []; end = ends.Ret (Some (operand.Reg (record { 0 = 2 }))) } ∷ [] }; expected = items.Word (rv.Addi 2 2 (neg_ℤ (pos 16))) ∷ items.Word (rv.Sw 2 1 (pos 0)) ∷ items.Word (rv.Sw 2 10 (pos 4)) ∷ items.Word (rv.Sw 2 11 (pos 8)) ∷ items.Word (rv.Lw 5 2 (pos 4)) ∷ items.Word (rv.Lw 6 2 (pos 8)) ∷ items.Word (rv.Slli 5 5 (pos 16)) ∷ items.Word (rv.Srai 5 5 (pos 16)) ∷ items.Word (rv.Slli 6 6 (pos 16)) ∷ items.Word (rv.Srai 6 6 (pos 16)) ∷ items.Word (rv.Div 5 5 6) ∷ items.Word (rv.Slli 5 5 (pos 16)) ∷ items.Word (rv.Srli 5 5 (pos 16)) ∷ items.Word (rv.Sw 2 5 (pos 12)) ∷ items.Word (rv.Lw 10 2 (pos 12)) ∷ items.Word (rv.Lw 1 2 (pos 0)) ∷ items.Word (rv.Addi 2 2 (pos 16)) ∷ items.Word (rv.Jalr 0 1 (pos 0)) ∷ [] } ∷
    record { body = record { params = 2; regs = 3; blocks = record { phis = []; code = flat.Bin (record { 0 = 2 }) op.Sdiv W32 (operand.Reg (record { 0 = 0 })) (operand.Reg (record { 0 = 1 })) ∷ []; end = ends.Ret (Some (operand.Reg (record { 0 = 2 }))) } ∷ [] }; expected = items.Word (rv.Addi 2 2 (neg_ℤ (pos 16))) ∷ items.Word (rv.Sw 2 1 (pos 0)) ∷ items.Word (rv.Sw 2 10 (pos 4)) ∷ items.Word (rv.Sw 2 11 (pos 8)) ∷ items.Word (rv.Lw 5 2 (pos 4)) ∷ items.Word (rv.Lw 6 2 (pos 8)) ∷ items.Word (rv.Div 5 5 6) ∷ items.Word (rv.Sw 2 5 (pos 12)) ∷ items.Word (rv.Lw 10 2 (pos 12)) ∷ items.Word (rv.Lw 1 2 (pos 0)) ∷ items.Word (rv.Addi 2 2 (pos 16)) ∷ items.Word (rv.Jalr 0 1 (pos 0)) ∷ [] } ∷
    record { body = record { params = 2; regs = 3; blocks = record { phis = []; code = flat.Bin (record { 0 = 2 }) op.Urem W1 (operand.Reg (record { 0 = 0 })) (operand.Reg (record { 0 = 1 })) ∷ []; end = ends.Ret (Some (operand.Reg (record { 0 = 2 }))) } ∷ [] }; expected = items.Word (rv.Addi 2 2 (neg_ℤ (pos 16))) ∷ items.Word (rv.Sw 2 1 (pos 0)) ∷ items.Word (rv.Sw 2 10 (pos 4)) ∷ items.Word (rv.Sw 2 11 (pos 8)) ∷ items.Word (rv.Lw 5 2 (pos 4)) ∷ items.Word (rv.Lw 6 2 (pos 8)) ∷ items.Word (rv.Remu 5 5 6) ∷ items.Word (rv.Sw 2 5 (pos 12)) ∷ items.Word (rv.Lw 10 2 (pos 12)) ∷ items.Word (rv.Lw 1 2 (pos 0)) ∷ items.Word (rv.Addi 2 2 (pos 16)) ∷ items.Word (rv.Jalr 0 1 (pos 0)) ∷ [] } ∷
    record { body = record { params = 2; regs = 3; blocks = record { phis = []; code = flat.Bin (record { 0 = 2 }) op.Urem W8 (operand.Reg (record { 0 = 0 })) (operand.Reg (record { 0 = 1 })) ∷ []; end = ends.Ret (Some (operand.Reg (record { 0 = 2 }))) } ∷ [] }; expected = items.Word (rv.Addi 2 2 (neg_ℤ (pos 16))) ∷ items.Word (rv.Sw 2 1 (pos 0)) ∷ items.Word (rv.Sw 2 10 (pos 4)) ∷ items.Word (rv.Sw 2 11 (pos 8)) ∷ items.Word (rv.Lw 5 2 (pos 4)) ∷ items.Word (rv.Lw 6 2 (pos 8)) ∷ items.Word (rv.Remu 5 5 6) ∷ items.Word (rv.Sw 2 5 (pos 12)) ∷ items.Word (rv.Lw 10 2 (pos 12)) ∷ items.Word (rv.Lw 1 2 (pos 0)) ∷ items.Word (rv.Addi 2 2 (pos 16)) ∷ items.Word (rv.Jalr 0 1 (pos 0)) ∷ [] } ∷
    record { body = record { params = 2; regs = 3; blocks = record { phis = []; code = flat.Bin (record { 0 = 2 }) op.Urem W16 (operand.Reg (record { 0 = 0 })) (operand.Reg (record { 0 = 1 })) ∷ []; end = ends.Ret (Some (operand.Reg (record { 0 = 2 }))) } ∷ [] }; expected = items.Word (rv.Addi 2 2 (neg_ℤ (pos 16))) ∷ items.Word (rv.Sw 2 1 (pos 0)) ∷ items.Word (rv.Sw 2 10 (pos 4)) ∷ items.Word (rv.Sw 2 11 (pos 8)) ∷ items.Word (rv.Lw 5 2 (pos 4)) ∷ items.Word (rv.Lw 6 2 (pos 8)) ∷ items.Word (rv.Remu 5 5 6) ∷ items.Word (rv.Sw 2 5 (pos 12)) ∷ items.Word (rv.Lw 10 2 (pos 12)) ∷ items.Word (rv.Lw 1 2 (pos 0)) ∷ items.Word (rv.Addi 2 2 (pos 16)) ∷ items.Word (rv.Jalr 0 1 (pos 0)) ∷ [] } ∷
    record { body = record { params = 2; regs = 3; blocks = record { phis = []; code = flat.Bin (record { 0 = 2 }) op.Urem W32 (operand.Reg (record { 0 = 0 })) (operand.Reg (record { 0 = 1 })) ∷ []; end = ends.Ret (Some (operand.Reg (record { 0 = 2 }))) } ∷ [] }; expected = items.Word (rv.Addi 2 2 (neg_ℤ (pos 16))) ∷ items.Word (rv.Sw 2 1 (pos 0)) ∷ items.Word (rv.Sw 2 10 (pos 4)) ∷ items.Word (rv.Sw 2 11 (pos 8)) ∷ items.Word (rv.Lw 5 2 (pos 4)) ∷ items.Word (rv.Lw 6 2 (pos 8)) ∷ items.Word (rv.Remu 5 5 6) ∷ items.Word (rv.Sw 2 5 (pos 12)) ∷ items.Word (rv.Lw 10 2 (pos 12)) ∷ items.Word (rv.Lw 1 2 (pos 0)) ∷ items.Word (rv.Addi 2 2 (pos 16)) ∷ items.Word (rv.Jalr 0 1 (pos 0)) ∷ [] } ∷
    record { body = record { params = 2; regs = 3; blocks = record { phis = []; code = flat.Bin (record { 0 = 2 }) op.Srem W1 (operand.Reg (record { 0 = 0 })) (operand.Reg (record { 0 = 1 })) ∷ []; end = ends.Ret (Some (operand.Reg (record { 0 = 2 }))) } ∷ [] }; expected = items.Word (rv.Addi 2 2 (neg_ℤ (pos 16))) ∷ items.Word (rv.Sw 2 1 (pos 0)) ∷ items.Word (rv.Sw 2 10 (pos 4)) ∷ items.Word (rv.Sw 2 11 (pos 8)) ∷ items.Word (rv.Lw 5 2 (pos 4)) ∷ items.Word (rv.Lw 6 2 (pos 8)) ∷ items.Word (rv.Slli 5 5 (pos 31)) ∷ items.Word (rv.Srai 5 5 (pos 31)) ∷ items.Word (rv.Slli 6 6 (pos 31)) ∷ items.Word (rv.Srai 6 6 (pos 31)) ∷ items.Word (rv.Rem 5 5 6) ∷ items.Word (rv.Andi 5 5 (pos 1)) ∷ items.Word (rv.Sw 2 5 (pos 12)) ∷ items.Word (rv.Lw 10 2 (pos 12)) ∷ items.Word (rv.Lw 1 2 (pos 0)) ∷ items.Word (rv.Addi 2 2 (pos 16)) ∷ items.Word (rv.Jalr 0 1 (pos 0)) ∷ [] } ∷
    record { body = record { params = 2; regs = 3; blocks = record { phis = []; code = flat.Bin (record { 0 = 2 }) op.Srem W8 (operand.Reg (record { 0 = 0 })) (operand.Reg (record { 0 = 1 })) ∷ []; end = ends.Ret (Some (operand.Reg (record { 0 = 2 }))) } ∷ [] }; expected = items.Word (rv.Addi 2 2 (neg_ℤ (pos 16))) ∷ items.Word (rv.Sw 2 1 (pos 0)) ∷ items.Word (rv.Sw 2 10 (pos 4)) ∷ items.Word (rv.Sw 2 11 (pos 8)) ∷ items.Word (rv.Lw 5 2 (pos 4)) ∷ items.Word (rv.Lw 6 2 (pos 8)) ∷ items.Word (rv.Slli 5 5 (pos 24)) ∷ items.Word (rv.Srai 5 5 (pos 24)) ∷ items.Word (rv.Slli 6 6 (pos 24)) ∷ items.Word (rv.Srai 6 6 (pos 24)) ∷ items.Word (rv.Rem 5 5 6) ∷ items.Word (rv.Andi 5 5 (pos 255)) ∷ items.Word (rv.Sw 2 5 (pos 12)) ∷ items.Word (rv.Lw 10 2 (pos 12)) ∷ items.Word (rv.Lw 1 2 (pos 0)) ∷ items.Word (rv.Addi 2 2 (pos 16)) ∷ items.Word (rv.Jalr 0 1 (pos 0)) ∷ [] } ∷
    record { body = record { params = 2; regs = 3; blocks = record { phis = []; code = flat.Bin (record { 0 = 2 }) op.Srem W16 (operand.Reg (record { 0 = 0 })) (operand.Reg (record { 0 = 1 })) ∷ []; end = ends.Ret (Some (operand.Reg (record { 0 = 2 }))) } ∷ [] }; expected = items.Word (rv.Addi 2 2 (neg_ℤ (pos 16))) ∷ items.Word (rv.Sw 2 1 (pos 0)) ∷ items.Word (rv.Sw 2 10 (pos 4)) ∷ items.Word (rv.Sw 2 11 (pos 8)) ∷ items.Word (rv.Lw 5 2 (pos 4)) ∷ items.Word (rv.Lw 6 2 (pos 8)) ∷ items.Word (rv.Slli 5 5 (pos 16)) ∷ items.Word (rv.Srai 5 5 (pos 16)) ∷ items.Word (rv.Slli 6 6 (pos 16)) ∷ items.Word (rv.Srai 6 6 (pos 16)) ∷ items.Word (rv.Rem 5 5 6) ∷ items.Word (rv.Slli 5 5 (pos 16)) ∷ items.Word (rv.Srli 5 5 (pos 16)) ∷ items.Word (rv.Sw 2 5 (pos 12)) ∷ items.Word (rv.Lw 10 2 (pos 12)) ∷ items.Word (rv.Lw 1 2 (pos 0)) ∷ items.Word (rv.Addi 2 2 (pos 16)) ∷ items.Word (rv.Jalr 0 1 (pos 0)) ∷ [] } ∷
    record { body = record { params = 2; regs = 3; blocks = record { phis = []; code = flat.Bin (record { 0 = 2 }) op.Srem W32 (operand.Reg (record { 0 = 0 })) (operand.Reg (record { 0 = 1 })) ∷ []; end = ends.Ret (Some (operand.Reg (record { 0 = 2 }))) } ∷ [] }; expected = items.Word (rv.Addi 2 2 (neg_ℤ (pos 16))) ∷ items.Word (rv.Sw 2 1 (pos 0)) ∷ items.Word (rv.Sw 2 10 (pos 4)) ∷ items.Word (rv.Sw 2 11 (pos 8)) ∷ items.Word (rv.Lw 5 2 (pos 4)) ∷ items.Word (rv.Lw 6 2 (pos 8)) ∷ items.Word (rv.Rem 5 5 6) ∷ items.Word (rv.Sw 2 5 (pos 12)) ∷ items.Word (rv.Lw 10 2 (pos 12)) ∷ items.Word (rv.Lw 1 2 (pos 0)) ∷ items.Word (rv.Addi 2 2 (pos 16)) ∷ items.Word (rv.Jalr 0 1 (pos 0)) ∷ [] } ∷
    record { body = record { params = 2; regs = 3; blocks = record { phis = []; code = flat.Bin (record { 0 = 2 }) op.Shl W1 (operand.Reg (record { 0 = 0 })) (operand.Reg (record { 0 = 1 })) ∷ []; end = ends.Ret (Some (operand.Reg (record { 0 = 2 }))) } ∷ [] }; expected = items.Word (rv.Addi 2 2 (neg_ℤ (pos 16))) ∷ items.Word (rv.Sw 2 1 (pos 0)) ∷ items.Word (rv.Sw 2 10 (pos 4)) ∷ items.Word (rv.Sw 2 11 (pos 8)) ∷ items.Word (rv.Lw 5 2 (pos 4)) ∷ items.Word (rv.Lw 6 2 (pos 8)) ∷ items.Word (rv.Sll 5 5 6) ∷ items.Word (rv.Andi 5 5 (pos 1)) ∷ items.Word (rv.Sw 2 5 (pos 12)) ∷ items.Word (rv.Lw 10 2 (pos 12)) ∷ items.Word (rv.Lw 1 2 (pos 0)) ∷ items.Word (rv.Addi 2 2 (pos 16)) ∷ items.Word (rv.Jalr 0 1 (pos 0)) ∷ [] } ∷
    record { body = record { params = 2; regs = 3; blocks = record { phis = []; code = flat.Bin (record { 0 = 2 }) op.Shl W8 (operand.Reg (record { 0 = 0 })) (operand.Reg (record { 0 = 1 })) ∷ []; end = ends.Ret (Some (operand.Reg (record { 0 = 2 }))) } ∷ [] }; expected = items.Word (rv.Addi 2 2 (neg_ℤ (pos 16))) ∷ items.Word (rv.Sw 2 1 (pos 0)) ∷ items.Word (rv.Sw 2 10 (pos 4)) ∷ items.Word (rv.Sw 2 11 (pos 8)) ∷ items.Word (rv.Lw 5 2 (pos 4)) ∷ items.Word (rv.Lw 6 2 (pos 8)) ∷ items.Word (rv.Sll 5 5 6) ∷ items.Word (rv.Andi 5 5 (pos 255)) ∷ items.Word (rv.Sw 2 5 (pos 12)) ∷ items.Word (rv.Lw 10 2 (pos 12)) ∷ items.Word (rv.Lw 1 2 (pos 0)) ∷ items.Word (rv.Addi 2 2 (pos 16)) ∷ items.Word (rv.Jalr 0 1 (pos 0)) ∷ [] } ∷
    record { body = record { params = 2; regs = 3; blocks = record { phis = []; code = flat.Bin (record { 0 = 2 }) op.Shl W16 (operand.Reg (record { 0 = 0 })) (operand.Reg (record { 0 = 1 })) ∷ []; end = ends.Ret (Some (operand.Reg (record { 0 = 2 }))) } ∷ [] }; expected = items.Word (rv.Addi 2 2 (neg_ℤ (pos 16))) ∷ items.Word (rv.Sw 2 1 (pos 0)) ∷ items.Word (rv.Sw 2 10 (pos 4)) ∷ items.Word (rv.Sw 2 11 (pos 8)) ∷ items.Word (rv.Lw 5 2 (pos 4)) ∷ items.Word (rv.Lw 6 2 (pos 8)) ∷ items.Word (rv.Sll 5 5 6) ∷ items.Word (rv.Slli 5 5 (pos 16)) ∷ items.Word (rv.Srli 5 5 (pos 16)) ∷ items.Word (rv.Sw 2 5 (pos 12)) ∷ items.Word (rv.Lw 10 2 (pos 12)) ∷ items.Word (rv.Lw 1 2 (pos 0)) ∷ items.Word (rv.Addi 2 2 (pos 16)) ∷ items.Word (rv.Jalr 0 1 (pos 0)) ∷ [] } ∷
    record { body = record { params = 2; regs = 3; blocks = record { phis = []; code = flat.Bin (record { 0 = 2 }) op.Shl W32 (operand.Reg (record { 0 = 0 })) (operand.Reg (record { 0 = 1 })) ∷ []; end = ends.Ret (Some (operand.Reg (record { 0 = 2 }))) } ∷ [] }; expected = items.Word (rv.Addi 2 2 (neg_ℤ (pos 16))) ∷ items.Word (rv.Sw 2 1 (pos 0)) ∷ items.Word (rv.Sw 2 10 (pos 4)) ∷ items.Word (rv.Sw 2 11 (pos 8)) ∷ items.Word (rv.Lw 5 2 (pos 4)) ∷ items.Word (rv.Lw 6 2 (pos 8)) ∷ items.Word (rv.Sll 5 5 6) ∷ items.Word (rv.Sw 2 5 (pos 12)) ∷ items.Word (rv.Lw 10 2 (pos 12)) ∷ items.Word (rv.Lw 1 2 (pos 0)) ∷ items.Word (rv.Addi 2 2 (pos 16)) ∷ items.Word (rv.Jalr 0 1 (pos 0)) ∷ [] } ∷
    record { body = record { params = 2; regs = 3; blocks = record { phis = []; code = flat.Bin (record { 0 = 2 }) op.Lshr W1 (operand.Reg (record { 0 = 0 })) (operand.Reg (record { 0 = 1 })) ∷ []; end = ends.Ret (Some (operand.Reg (record { 0 = 2 }))) } ∷ [] }; expected = items.Word (rv.Addi 2 2 (neg_ℤ (pos 16))) ∷ items.Word (rv.Sw 2 1 (pos 0)) ∷ items.Word (rv.Sw 2 10 (pos 4)) ∷ items.Word (rv.Sw 2 11 (pos 8)) ∷ items.Word (rv.Lw 5 2 (pos 4)) ∷ items.Word (rv.Lw 6 2 (pos 8)) ∷ items.Word (rv.Srl 5 5 6) ∷ items.Word (rv.Sw 2 5 (pos 12)) ∷ items.Word (rv.Lw 10 2 (pos 12)) ∷ items.Word (rv.Lw 1 2 (pos 0)) ∷ items.Word (rv.Addi 2 2 (pos 16)) ∷ items.Word (rv.Jalr 0 1 (pos 0)) ∷ [] } ∷
    record { body = record { params = 2; regs = 3; blocks = record { phis = []; code = flat.Bin (record { 0 = 2 }) op.Lshr W8 (operand.Reg (record { 0 = 0 })) (operand.Reg (record { 0 = 1 })) ∷ []; end = ends.Ret (Some (operand.Reg (record { 0 = 2 }))) } ∷ [] }; expected = items.Word (rv.Addi 2 2 (neg_ℤ (pos 16))) ∷ items.Word (rv.Sw 2 1 (pos 0)) ∷ items.Word (rv.Sw 2 10 (pos 4)) ∷ items.Word (rv.Sw 2 11 (pos 8)) ∷ items.Word (rv.Lw 5 2 (pos 4)) ∷ items.Word (rv.Lw 6 2 (pos 8)) ∷ items.Word (rv.Srl 5 5 6) ∷ items.Word (rv.Sw 2 5 (pos 12)) ∷ items.Word (rv.Lw 10 2 (pos 12)) ∷ items.Word (rv.Lw 1 2 (pos 0)) ∷ items.Word (rv.Addi 2 2 (pos 16)) ∷ items.Word (rv.Jalr 0 1 (pos 0)) ∷ [] } ∷
    record { body = record { params = 2; regs = 3; blocks = record { phis = []; code = flat.Bin (record { 0 = 2 }) op.Lshr W16 (operand.Reg (record { 0 = 0 })) (operand.Reg (record { 0 = 1 })) ∷ []; end = ends.Ret (Some (operand.Reg (record { 0 = 2 }))) } ∷ [] }; expected = items.Word (rv.Addi 2 2 (neg_ℤ (pos 16))) ∷ items.Word (rv.Sw 2 1 (pos 0)) ∷ items.Word (rv.Sw 2 10 (pos 4)) ∷ items.Word (rv.Sw 2 11 (pos 8)) ∷ items.Word (rv.Lw 5 2 (pos 4)) ∷ items.Word (rv.Lw 6 2 (pos 8)) ∷ items.Word (rv.Srl 5 5 6) ∷ items.Word (rv.Sw 2 5 (pos 12)) ∷ items.Word (rv.Lw 10 2 (pos 12)) ∷ items.Word (rv.Lw 1 2 (pos 0)) ∷ items.Word (rv.Addi 2 2 (pos 16)) ∷ items.Word (rv.Jalr 0 1 (pos 0)) ∷ [] } ∷
    record { body = record { params = 2; regs = 3; blocks = record { phis = []; code = flat.Bin (record { 0 = 2 }) op.Lshr W32 (operand.Reg (record { 0 = 0 })) (operand.Reg (record { 0 = 1 })) ∷ []; end = ends.Ret (Some (operand.Reg (record { 0 = 2 }))) } ∷ [] }; expected = items.Word (rv.Addi 2 2 (neg_ℤ (pos 16))) ∷ items.Word (rv.Sw 2 1 (pos 0)) ∷ items.Word (rv.Sw 2 10 (pos 4)) ∷ items.Word (rv.Sw 2 11 (pos 8)) ∷ items.Word (rv.Lw 5 2 (pos 4)) ∷ items.Word (rv.Lw 6 2 (pos 8)) ∷ items.Word (rv.Srl 5 5 6) ∷ items.Word (rv.Sw 2 5 (pos 12)) ∷ items.Word (rv.Lw 10 2 (pos 12)) ∷ items.Word (rv.Lw 1 2 (pos 0)) ∷ items.Word (rv.Addi 2 2 (pos 16)) ∷ items.Word (rv.Jalr 0 1 (pos 0)) ∷ [] } ∷
    record { body = record { params = 2; regs = 3; blocks = record { phis = []; code = flat.Bin (record { 0 = 2 }) op.Ashr W1 (operand.Reg (record { 0 = 0 })) (operand.Reg (record { 0 = 1 })) ∷ []; end = ends.Ret (Some (operand.Reg (record { 0 = 2 }))) } ∷ [] }; expected = items.Word (rv.Addi 2 2 (neg_ℤ (pos 16))) ∷ items.Word (rv.Sw 2 1 (pos 0)) ∷ items.Word (rv.Sw 2 10 (pos 4)) ∷ items.Word (rv.Sw 2 11 (pos 8)) ∷ items.Word (rv.Lw 5 2 (pos 4)) ∷ items.Word (rv.Lw 6 2 (pos 8)) ∷ items.Word (rv.Slli 5 5 (pos 31)) ∷ items.Word (rv.Srai 5 5 (pos 31)) ∷ items.Word (rv.Sra 5 5 6) ∷ items.Word (rv.Andi 5 5 (pos 1)) ∷ items.Word (rv.Sw 2 5 (pos 12)) ∷ items.Word (rv.Lw 10 2 (pos 12)) ∷ items.Word (rv.Lw 1 2 (pos 0)) ∷ items.Word (rv.Addi 2 2 (pos 16)) ∷ items.Word (rv.Jalr 0 1 (pos 0)) ∷ [] } ∷
    record { body = record { params = 2; regs = 3; blocks = record { phis = []; code = flat.Bin (record { 0 = 2 }) op.Ashr W8 (operand.Reg (record { 0 = 0 })) (operand.Reg (record { 0 = 1 })) ∷ []; end = ends.Ret (Some (operand.Reg (record { 0 = 2 }))) } ∷ [] }; expected = items.Word (rv.Addi 2 2 (neg_ℤ (pos 16))) ∷ items.Word (rv.Sw 2 1 (pos 0)) ∷ items.Word (rv.Sw 2 10 (pos 4)) ∷ items.Word (rv.Sw 2 11 (pos 8)) ∷ items.Word (rv.Lw 5 2 (pos 4)) ∷ items.Word (rv.Lw 6 2 (pos 8)) ∷ items.Word (rv.Slli 5 5 (pos 24)) ∷ items.Word (rv.Srai 5 5 (pos 24)) ∷ items.Word (rv.Sra 5 5 6) ∷ items.Word (rv.Andi 5 5 (pos 255)) ∷ items.Word (rv.Sw 2 5 (pos 12)) ∷ items.Word (rv.Lw 10 2 (pos 12)) ∷ items.Word (rv.Lw 1 2 (pos 0)) ∷ items.Word (rv.Addi 2 2 (pos 16)) ∷ items.Word (rv.Jalr 0 1 (pos 0)) ∷ [] } ∷
    record { body = record { params = 2; regs = 3; blocks = record { phis = []; code = flat.Bin (record { 0 = 2 }) op.Ashr W16 (operand.Reg (record { 0 = 0 })) (operand.Reg (record { 0 = 1 })) ∷ []; end = ends.Ret (Some (operand.Reg (record { 0 = 2 }))) } ∷ [] }; expected = items.Word (rv.Addi 2 2 (neg_ℤ (pos 16))) ∷ items.Word (rv.Sw 2 1 (pos 0)) ∷ items.Word (rv.Sw 2 10 (pos 4)) ∷ items.Word (rv.Sw 2 11 (pos 8)) ∷ items.Word (rv.Lw 5 2 (pos 4)) ∷ items.Word (rv.Lw 6 2 (pos 8)) ∷ items.Word (rv.Slli 5 5 (pos 16)) ∷ items.Word (rv.Srai 5 5 (pos 16)) ∷ items.Word (rv.Sra 5 5 6) ∷ items.Word (rv.Slli 5 5 (pos 16)) ∷ items.Word (rv.Srli 5 5 (pos 16)) ∷ items.Word (rv.Sw 2 5 (pos 12)) ∷ items.Word (rv.Lw 10 2 (pos 12)) ∷ items.Word (rv.Lw 1 2 (pos 0)) ∷ items.Word (rv.Addi 2 2 (pos 16)) ∷ items.Word (rv.Jalr 0 1 (pos 0)) ∷ [] } ∷
    record { body = record { params = 2; regs = 3; blocks = record { phis = []; code = flat.Bin (record { 0 = 2 }) op.Ashr W32 (operand.Reg (record { 0 = 0 })) (operand.Reg (record { 0 = 1 })) ∷ []; end = ends.Ret (Some (operand.Reg (record { 0 = 2 }))) } ∷ [] }; expected = items.Word (rv.Addi 2 2 (neg_ℤ (pos 16))) ∷ items.Word (rv.Sw 2 1 (pos 0)) ∷ items.Word (rv.Sw 2 10 (pos 4)) ∷ items.Word (rv.Sw 2 11 (pos 8)) ∷ items.Word (rv.Lw 5 2 (pos 4)) ∷ items.Word (rv.Lw 6 2 (pos 8)) ∷ items.Word (rv.Sra 5 5 6) ∷ items.Word (rv.Sw 2 5 (pos 12)) ∷ items.Word (rv.Lw 10 2 (pos 12)) ∷ items.Word (rv.Lw 1 2 (pos 0)) ∷ items.Word (rv.Addi 2 2 (pos 16)) ∷ items.Word (rv.Jalr 0 1 (pos 0)) ∷ [] } ∷
    record { body = record { params = 2; regs = 3; blocks = record { phis = []; code = flat.Bin (record { 0 = 2 }) op.And W1 (operand.Reg (record { 0 = 0 })) (operand.Reg (record { 0 = 1 })) ∷ []; end = ends.Ret (Some (operand.Reg (record { 0 = 2 }))) } ∷ [] }; expected = items.Word (rv.Addi 2 2 (neg_ℤ (pos 16))) ∷ items.Word (rv.Sw 2 1 (pos 0)) ∷ items.Word (rv.Sw 2 10 (pos 4)) ∷ items.Word (rv.Sw 2 11 (pos 8)) ∷ items.Word (rv.Lw 5 2 (pos 4)) ∷ items.Word (rv.Lw 6 2 (pos 8)) ∷ items.Word (rv.And 5 5 6) ∷ items.Word (rv.Sw 2 5 (pos 12)) ∷ items.Word (rv.Lw 10 2 (pos 12)) ∷ items.Word (rv.Lw 1 2 (pos 0)) ∷ items.Word (rv.Addi 2 2 (pos 16)) ∷ items.Word (rv.Jalr 0 1 (pos 0)) ∷ [] } ∷
    record { body = record { params = 2; regs = 3; blocks = record { phis = []; code = flat.Bin (record { 0 = 2 }) op.And W8 (operand.Reg (record { 0 = 0 })) (operand.Reg (record { 0 = 1 })) ∷ []; end = ends.Ret (Some (operand.Reg (record { 0 = 2 }))) } ∷ [] }; expected = items.Word (rv.Addi 2 2 (neg_ℤ (pos 16))) ∷ items.Word (rv.Sw 2 1 (pos 0)) ∷ items.Word (rv.Sw 2 10 (pos 4)) ∷ items.Word (rv.Sw 2 11 (pos 8)) ∷ items.Word (rv.Lw 5 2 (pos 4)) ∷ items.Word (rv.Lw 6 2 (pos 8)) ∷ items.Word (rv.And 5 5 6) ∷ items.Word (rv.Sw 2 5 (pos 12)) ∷ items.Word (rv.Lw 10 2 (pos 12)) ∷ items.Word (rv.Lw 1 2 (pos 0)) ∷ items.Word (rv.Addi 2 2 (pos 16)) ∷ items.Word (rv.Jalr 0 1 (pos 0)) ∷ [] } ∷
    record { body = record { params = 2; regs = 3; blocks = record { phis = []; code = flat.Bin (record { 0 = 2 }) op.And W16 (operand.Reg (record { 0 = 0 })) (operand.Reg (record { 0 = 1 })) ∷ []; end = ends.Ret (Some (operand.Reg (record { 0 = 2 }))) } ∷ [] }; expected = items.Word (rv.Addi 2 2 (neg_ℤ (pos 16))) ∷ items.Word (rv.Sw 2 1 (pos 0)) ∷ items.Word (rv.Sw 2 10 (pos 4)) ∷ items.Word (rv.Sw 2 11 (pos 8)) ∷ items.Word (rv.Lw 5 2 (pos 4)) ∷ items.Word (rv.Lw 6 2 (pos 8)) ∷ items.Word (rv.And 5 5 6) ∷ items.Word (rv.Sw 2 5 (pos 12)) ∷ items.Word (rv.Lw 10 2 (pos 12)) ∷ items.Word (rv.Lw 1 2 (pos 0)) ∷ items.Word (rv.Addi 2 2 (pos 16)) ∷ items.Word (rv.Jalr 0 1 (pos 0)) ∷ [] } ∷
    record { body = record { params = 2; regs = 3; blocks = record { phis = []; code = flat.Bin (record { 0 = 2 }) op.And W32 (operand.Reg (record { 0 = 0 })) (operand.Reg (record { 0 = 1 })) ∷ []; end = ends.Ret (Some (operand.Reg (record { 0 = 2 }))) } ∷ [] }; expected = items.Word (rv.Addi 2 2 (neg_ℤ (pos 16))) ∷ items.Word (rv.Sw 2 1 (pos 0)) ∷ items.Word (rv.Sw 2 10 (pos 4)) ∷ items.Word (rv.Sw 2 11 (pos 8)) ∷ items.Word (rv.Lw 5 2 (pos 4)) ∷ items.Word (rv.Lw 6 2 (pos 8)) ∷ items.Word (rv.And 5 5 6) ∷ items.Word (rv.Sw 2 5 (pos 12)) ∷ items.Word (rv.Lw 10 2 (pos 12)) ∷ items.Word (rv.Lw 1 2 (pos 0)) ∷ items.Word (rv.Addi 2 2 (pos 16)) ∷ items.Word (rv.Jalr 0 1 (pos 0)) ∷ [] } ∷
    record { body = record { params = 2; regs = 3; blocks = record { phis = []; code = flat.Bin (record { 0 = 2 }) op.Or W1 (operand.Reg (record { 0 = 0 })) (operand.Reg (record { 0 = 1 })) ∷ []; end = ends.Ret (Some (operand.Reg (record { 0 = 2 }))) } ∷ [] }; expected = items.Word (rv.Addi 2 2 (neg_ℤ (pos 16))) ∷ items.Word (rv.Sw 2 1 (pos 0)) ∷ items.Word (rv.Sw 2 10 (pos 4)) ∷ items.Word (rv.Sw 2 11 (pos 8)) ∷ items.Word (rv.Lw 5 2 (pos 4)) ∷ items.Word (rv.Lw 6 2 (pos 8)) ∷ items.Word (rv.Or 5 5 6) ∷ items.Word (rv.Sw 2 5 (pos 12)) ∷ items.Word (rv.Lw 10 2 (pos 12)) ∷ items.Word (rv.Lw 1 2 (pos 0)) ∷ items.Word (rv.Addi 2 2 (pos 16)) ∷ items.Word (rv.Jalr 0 1 (pos 0)) ∷ [] } ∷
    record { body = record { params = 2; regs = 3; blocks = record { phis = []; code = flat.Bin (record { 0 = 2 }) op.Or W8 (operand.Reg (record { 0 = 0 })) (operand.Reg (record { 0 = 1 })) ∷ []; end = ends.Ret (Some (operand.Reg (record { 0 = 2 }))) } ∷ [] }; expected = items.Word (rv.Addi 2 2 (neg_ℤ (pos 16))) ∷ items.Word (rv.Sw 2 1 (pos 0)) ∷ items.Word (rv.Sw 2 10 (pos 4)) ∷ items.Word (rv.Sw 2 11 (pos 8)) ∷ items.Word (rv.Lw 5 2 (pos 4)) ∷ items.Word (rv.Lw 6 2 (pos 8)) ∷ items.Word (rv.Or 5 5 6) ∷ items.Word (rv.Sw 2 5 (pos 12)) ∷ items.Word (rv.Lw 10 2 (pos 12)) ∷ items.Word (rv.Lw 1 2 (pos 0)) ∷ items.Word (rv.Addi 2 2 (pos 16)) ∷ items.Word (rv.Jalr 0 1 (pos 0)) ∷ [] } ∷
    record { body = record { params = 2; regs = 3; blocks = record { phis = []; code = flat.Bin (record { 0 = 2 }) op.Or W16 (operand.Reg (record { 0 = 0 })) (operand.Reg (record { 0 = 1 })) ∷ []; end = ends.Ret (Some (operand.Reg (record { 0 = 2 }))) } ∷ [] }; expected = items.Word (rv.Addi 2 2 (neg_ℤ (pos 16))) ∷ items.Word (rv.Sw 2 1 (pos 0)) ∷ items.Word (rv.Sw 2 10 (pos 4)) ∷ items.Word (rv.Sw 2 11 (pos 8)) ∷ items.Word (rv.Lw 5 2 (pos 4)) ∷ items.Word (rv.Lw 6 2 (pos 8)) ∷ items.Word (rv.Or 5 5 6) ∷ items.Word (rv.Sw 2 5 (pos 12)) ∷ items.Word (rv.Lw 10 2 (pos 12)) ∷ items.Word (rv.Lw 1 2 (pos 0)) ∷ items.Word (rv.Addi 2 2 (pos 16)) ∷ items.Word (rv.Jalr 0 1 (pos 0)) ∷ [] } ∷
    record { body = record { params = 2; regs = 3; blocks = record { phis = []; code = flat.Bin (record { 0 = 2 }) op.Or W32 (operand.Reg (record { 0 = 0 })) (operand.Reg (record { 0 = 1 })) ∷ []; end = ends.Ret (Some (operand.Reg (record { 0 = 2 }))) } ∷ [] }; expected = items.Word (rv.Addi 2 2 (neg_ℤ (pos 16))) ∷ items.Word (rv.Sw 2 1 (pos 0)) ∷ items.Word (rv.Sw 2 10 (pos 4)) ∷ items.Word (rv.Sw 2 11 (pos 8)) ∷ items.Word (rv.Lw 5 2 (pos 4)) ∷ items.Word (rv.Lw 6 2 (pos 8)) ∷ items.Word (rv.Or 5 5 6) ∷ items.Word (rv.Sw 2 5 (pos 12)) ∷ items.Word (rv.Lw 10 2 (pos 12)) ∷ items.Word (rv.Lw 1 2 (pos 0)) ∷ items.Word (rv.Addi 2 2 (pos 16)) ∷ items.Word (rv.Jalr 0 1 (pos 0)) ∷ [] } ∷
    record { body = record { params = 2; regs = 3; blocks = record { phis = []; code = flat.Bin (record { 0 = 2 }) op.Xor W1 (operand.Reg (record { 0 = 0 })) (operand.Reg (record { 0 = 1 })) ∷ []; end = ends.Ret (Some (operand.Reg (record { 0 = 2 }))) } ∷ [] }; expected = items.Word (rv.Addi 2 2 (neg_ℤ (pos 16))) ∷ items.Word (rv.Sw 2 1 (pos 0)) ∷ items.Word (rv.Sw 2 10 (pos 4)) ∷ items.Word (rv.Sw 2 11 (pos 8)) ∷ items.Word (rv.Lw 5 2 (pos 4)) ∷ items.Word (rv.Lw 6 2 (pos 8)) ∷ items.Word (rv.Xor 5 5 6) ∷ items.Word (rv.Sw 2 5 (pos 12)) ∷ items.Word (rv.Lw 10 2 (pos 12)) ∷ items.Word (rv.Lw 1 2 (pos 0)) ∷ items.Word (rv.Addi 2 2 (pos 16)) ∷ items.Word (rv.Jalr 0 1 (pos 0)) ∷ [] } ∷
    record { body = record { params = 2; regs = 3; blocks = record { phis = []; code = flat.Bin (record { 0 = 2 }) op.Xor W8 (operand.Reg (record { 0 = 0 })) (operand.Reg (record { 0 = 1 })) ∷ []; end = ends.Ret (Some (operand.Reg (record { 0 = 2 }))) } ∷ [] }; expected = items.Word (rv.Addi 2 2 (neg_ℤ (pos 16))) ∷ items.Word (rv.Sw 2 1 (pos 0)) ∷ items.Word (rv.Sw 2 10 (pos 4)) ∷ items.Word (rv.Sw 2 11 (pos 8)) ∷ items.Word (rv.Lw 5 2 (pos 4)) ∷ items.Word (rv.Lw 6 2 (pos 8)) ∷ items.Word (rv.Xor 5 5 6) ∷ items.Word (rv.Sw 2 5 (pos 12)) ∷ items.Word (rv.Lw 10 2 (pos 12)) ∷ items.Word (rv.Lw 1 2 (pos 0)) ∷ items.Word (rv.Addi 2 2 (pos 16)) ∷ items.Word (rv.Jalr 0 1 (pos 0)) ∷ [] } ∷
    record { body = record { params = 2; regs = 3; blocks = record { phis = []; code = flat.Bin (record { 0 = 2 }) op.Xor W16 (operand.Reg (record { 0 = 0 })) (operand.Reg (record { 0 = 1 })) ∷ []; end = ends.Ret (Some (operand.Reg (record { 0 = 2 }))) } ∷ [] }; expected = items.Word (rv.Addi 2 2 (neg_ℤ (pos 16))) ∷ items.Word (rv.Sw 2 1 (pos 0)) ∷ items.Word (rv.Sw 2 10 (pos 4)) ∷ items.Word (rv.Sw 2 11 (pos 8)) ∷ items.Word (rv.Lw 5 2 (pos 4)) ∷ items.Word (rv.Lw 6 2 (pos 8)) ∷ items.Word (rv.Xor 5 5 6) ∷ items.Word (rv.Sw 2 5 (pos 12)) ∷ items.Word (rv.Lw 10 2 (pos 12)) ∷ items.Word (rv.Lw 1 2 (pos 0)) ∷ items.Word (rv.Addi 2 2 (pos 16)) ∷ items.Word (rv.Jalr 0 1 (pos 0)) ∷ [] } ∷
    record { body = record { params = 2; regs = 3; blocks = record { phis = []; code = flat.Bin (record { 0 = 2 }) op.Xor W32 (operand.Reg (record { 0 = 0 })) (operand.Reg (record { 0 = 1 })) ∷ []; end = ends.Ret (Some (operand.Reg (record { 0 = 2 }))) } ∷ [] }; expected = items.Word (rv.Addi 2 2 (neg_ℤ (pos 16))) ∷ items.Word (rv.Sw 2 1 (pos 0)) ∷ items.Word (rv.Sw 2 10 (pos 4)) ∷ items.Word (rv.Sw 2 11 (pos 8)) ∷ items.Word (rv.Lw 5 2 (pos 4)) ∷ items.Word (rv.Lw 6 2 (pos 8)) ∷ items.Word (rv.Xor 5 5 6) ∷ items.Word (rv.Sw 2 5 (pos 12)) ∷ items.Word (rv.Lw 10 2 (pos 12)) ∷ items.Word (rv.Lw 1 2 (pos 0)) ∷ items.Word (rv.Addi 2 2 (pos 16)) ∷ items.Word (rv.Jalr 0 1 (pos 0)) ∷ [] } ∷
    []

abbrev pub comparisons : List Worked
comparisons =
    record { body = record { params = 2; regs = 3; blocks = record { phis = []; code = flat.Icmp (record { 0 = 2 }) cmp.Eq (scalar.Word W1) (operand.Reg (record { 0 = 0 })) (operand.Reg (record { 0 = 1 })) ∷ []; end = ends.Ret (Some (operand.Reg (record { 0 = 2 }))) } ∷ [] }; expected = items.Word (rv.Addi 2 2 (neg_ℤ (pos 16))) ∷ items.Word (rv.Sw 2 1 (pos 0)) ∷ items.Word (rv.Sw 2 10 (pos 4)) ∷ items.Word (rv.Sw 2 11 (pos 8)) ∷ items.Word (rv.Lw 5 2 (pos 4)) ∷ items.Word (rv.Lw 6 2 (pos 8)) ∷ items.Word (rv.Sub 5 5 6) ∷ items.Word (rv.Sltiu 5 5 (pos 1)) ∷ items.Word (rv.Sw 2 5 (pos 12)) ∷ items.Word (rv.Lw 10 2 (pos 12)) ∷ items.Word (rv.Lw 1 2 (pos 0)) ∷ items.Word (rv.Addi 2 2 (pos 16)) ∷ items.Word (rv.Jalr 0 1 (pos 0)) ∷ [] } ∷
    record { body = record { params = 2; regs = 3; blocks = record { phis = []; code = flat.Icmp (record { 0 = 2 }) cmp.Eq (scalar.Word W8) (operand.Reg (record { 0 = 0 })) (operand.Reg (record { 0 = 1 })) ∷ []; end = ends.Ret (Some (operand.Reg (record { 0 = 2 }))) } ∷ [] }; expected = items.Word (rv.Addi 2 2 (neg_ℤ (pos 16))) ∷ items.Word (rv.Sw 2 1 (pos 0)) ∷ items.Word (rv.Sw 2 10 (pos 4)) ∷ items.Word (rv.Sw 2 11 (pos 8)) ∷ items.Word (rv.Lw 5 2 (pos 4)) ∷ items.Word (rv.Lw 6 2 (pos 8)) ∷ items.Word (rv.Sub 5 5 6) ∷ items.Word (rv.Sltiu 5 5 (pos 1)) ∷ items.Word (rv.Sw 2 5 (pos 12)) ∷ items.Word (rv.Lw 10 2 (pos 12)) ∷ items.Word (rv.Lw 1 2 (pos 0)) ∷ items.Word (rv.Addi 2 2 (pos 16)) ∷ items.Word (rv.Jalr 0 1 (pos 0)) ∷ [] } ∷
    record { body = record { params = 2; regs = 3; blocks = record { phis = []; code = flat.Icmp (record { 0 = 2 }) cmp.Eq (scalar.Word W16) (operand.Reg (record { 0 = 0 })) (operand.Reg (record { 0 = 1 })) ∷ []; end = ends.Ret (Some (operand.Reg (record { 0 = 2 }))) } ∷ [] }; expected = items.Word (rv.Addi 2 2 (neg_ℤ (pos 16))) ∷ items.Word (rv.Sw 2 1 (pos 0)) ∷ items.Word (rv.Sw 2 10 (pos 4)) ∷ items.Word (rv.Sw 2 11 (pos 8)) ∷ items.Word (rv.Lw 5 2 (pos 4)) ∷ items.Word (rv.Lw 6 2 (pos 8)) ∷ items.Word (rv.Sub 5 5 6) ∷ items.Word (rv.Sltiu 5 5 (pos 1)) ∷ items.Word (rv.Sw 2 5 (pos 12)) ∷ items.Word (rv.Lw 10 2 (pos 12)) ∷ items.Word (rv.Lw 1 2 (pos 0)) ∷ items.Word (rv.Addi 2 2 (pos 16)) ∷ items.Word (rv.Jalr 0 1 (pos 0)) ∷ [] } ∷
    record { body = record { params = 2; regs = 3; blocks = record { phis = []; code = flat.Icmp (record { 0 = 2 }) cmp.Eq (scalar.Word W32) (operand.Reg (record { 0 = 0 })) (operand.Reg (record { 0 = 1 })) ∷ []; end = ends.Ret (Some (operand.Reg (record { 0 = 2 }))) } ∷ [] }; expected = items.Word (rv.Addi 2 2 (neg_ℤ (pos 16))) ∷ items.Word (rv.Sw 2 1 (pos 0)) ∷ items.Word (rv.Sw 2 10 (pos 4)) ∷ items.Word (rv.Sw 2 11 (pos 8)) ∷ items.Word (rv.Lw 5 2 (pos 4)) ∷ items.Word (rv.Lw 6 2 (pos 8)) ∷ items.Word (rv.Sub 5 5 6) ∷ items.Word (rv.Sltiu 5 5 (pos 1)) ∷ items.Word (rv.Sw 2 5 (pos 12)) ∷ items.Word (rv.Lw 10 2 (pos 12)) ∷ items.Word (rv.Lw 1 2 (pos 0)) ∷ items.Word (rv.Addi 2 2 (pos 16)) ∷ items.Word (rv.Jalr 0 1 (pos 0)) ∷ [] } ∷
    record { body = record { params = 2; regs = 3; blocks = record { phis = []; code = flat.Icmp (record { 0 = 2 }) cmp.Eq scalar.Pointer (operand.Reg (record { 0 = 0 })) (operand.Reg (record { 0 = 1 })) ∷ []; end = ends.Ret (Some (operand.Reg (record { 0 = 2 }))) } ∷ [] }; expected = items.Word (rv.Addi 2 2 (neg_ℤ (pos 16))) ∷ items.Word (rv.Sw 2 1 (pos 0)) ∷ items.Word (rv.Sw 2 10 (pos 4)) ∷ items.Word (rv.Sw 2 11 (pos 8)) ∷ items.Word (rv.Lw 5 2 (pos 4)) ∷ items.Word (rv.Lw 6 2 (pos 8)) ∷ items.Word (rv.Sub 5 5 6) ∷ items.Word (rv.Sltiu 5 5 (pos 1)) ∷ items.Word (rv.Sw 2 5 (pos 12)) ∷ items.Word (rv.Lw 10 2 (pos 12)) ∷ items.Word (rv.Lw 1 2 (pos 0)) ∷ items.Word (rv.Addi 2 2 (pos 16)) ∷ items.Word (rv.Jalr 0 1 (pos 0)) ∷ [] } ∷
    record { body = record { params = 2; regs = 3; blocks = record { phis = []; code = flat.Icmp (record { 0 = 2 }) cmp.Ne (scalar.Word W1) (operand.Reg (record { 0 = 0 })) (operand.Reg (record { 0 = 1 })) ∷ []; end = ends.Ret (Some (operand.Reg (record { 0 = 2 }))) } ∷ [] }; expected = items.Word (rv.Addi 2 2 (neg_ℤ (pos 16))) ∷ items.Word (rv.Sw 2 1 (pos 0)) ∷ items.Word (rv.Sw 2 10 (pos 4)) ∷ items.Word (rv.Sw 2 11 (pos 8)) ∷ items.Word (rv.Lw 5 2 (pos 4)) ∷ items.Word (rv.Lw 6 2 (pos 8)) ∷ items.Word (rv.Sub 5 5 6) ∷ items.Word (rv.Sltu 5 0 5) ∷ items.Word (rv.Sw 2 5 (pos 12)) ∷ items.Word (rv.Lw 10 2 (pos 12)) ∷ items.Word (rv.Lw 1 2 (pos 0)) ∷ items.Word (rv.Addi 2 2 (pos 16)) ∷ items.Word (rv.Jalr 0 1 (pos 0)) ∷ [] } ∷
    record { body = record { params = 2; regs = 3; blocks = record { phis = []; code = flat.Icmp (record { 0 = 2 }) cmp.Ne (scalar.Word W8) (operand.Reg (record { 0 = 0 })) (operand.Reg (record { 0 = 1 })) ∷ []; end = ends.Ret (Some (operand.Reg (record { 0 = 2 }))) } ∷ [] }; expected = items.Word (rv.Addi 2 2 (neg_ℤ (pos 16))) ∷ items.Word (rv.Sw 2 1 (pos 0)) ∷ items.Word (rv.Sw 2 10 (pos 4)) ∷ items.Word (rv.Sw 2 11 (pos 8)) ∷ items.Word (rv.Lw 5 2 (pos 4)) ∷ items.Word (rv.Lw 6 2 (pos 8)) ∷ items.Word (rv.Sub 5 5 6) ∷ items.Word (rv.Sltu 5 0 5) ∷ items.Word (rv.Sw 2 5 (pos 12)) ∷ items.Word (rv.Lw 10 2 (pos 12)) ∷ items.Word (rv.Lw 1 2 (pos 0)) ∷ items.Word (rv.Addi 2 2 (pos 16)) ∷ items.Word (rv.Jalr 0 1 (pos 0)) ∷ [] } ∷
    record { body = record { params = 2; regs = 3; blocks = record { phis = []; code = flat.Icmp (record { 0 = 2 }) cmp.Ne (scalar.Word W16) (operand.Reg (record { 0 = 0 })) (operand.Reg (record { 0 = 1 })) ∷ []; end = ends.Ret (Some (operand.Reg (record { 0 = 2 }))) } ∷ [] }; expected = items.Word (rv.Addi 2 2 (neg_ℤ (pos 16))) ∷ items.Word (rv.Sw 2 1 (pos 0)) ∷ items.Word (rv.Sw 2 10 (pos 4)) ∷ items.Word (rv.Sw 2 11 (pos 8)) ∷ items.Word (rv.Lw 5 2 (pos 4)) ∷ items.Word (rv.Lw 6 2 (pos 8)) ∷ items.Word (rv.Sub 5 5 6) ∷ items.Word (rv.Sltu 5 0 5) ∷ items.Word (rv.Sw 2 5 (pos 12)) ∷ items.Word (rv.Lw 10 2 (pos 12)) ∷ items.Word (rv.Lw 1 2 (pos 0)) ∷ items.Word (rv.Addi 2 2 (pos 16)) ∷ items.Word (rv.Jalr 0 1 (pos 0)) ∷ [] } ∷
    record { body = record { params = 2; regs = 3; blocks = record { phis = []; code = flat.Icmp (record { 0 = 2 }) cmp.Ne (scalar.Word W32) (operand.Reg (record { 0 = 0 })) (operand.Reg (record { 0 = 1 })) ∷ []; end = ends.Ret (Some (operand.Reg (record { 0 = 2 }))) } ∷ [] }; expected = items.Word (rv.Addi 2 2 (neg_ℤ (pos 16))) ∷ items.Word (rv.Sw 2 1 (pos 0)) ∷ items.Word (rv.Sw 2 10 (pos 4)) ∷ items.Word (rv.Sw 2 11 (pos 8)) ∷ items.Word (rv.Lw 5 2 (pos 4)) ∷ items.Word (rv.Lw 6 2 (pos 8)) ∷ items.Word (rv.Sub 5 5 6) ∷ items.Word (rv.Sltu 5 0 5) ∷ items.Word (rv.Sw 2 5 (pos 12)) ∷ items.Word (rv.Lw 10 2 (pos 12)) ∷ items.Word (rv.Lw 1 2 (pos 0)) ∷ items.Word (rv.Addi 2 2 (pos 16)) ∷ items.Word (rv.Jalr 0 1 (pos 0)) ∷ [] } ∷
    record { body = record { params = 2; regs = 3; blocks = record { phis = []; code = flat.Icmp (record { 0 = 2 }) cmp.Ne scalar.Pointer (operand.Reg (record { 0 = 0 })) (operand.Reg (record { 0 = 1 })) ∷ []; end = ends.Ret (Some (operand.Reg (record { 0 = 2 }))) } ∷ [] }; expected = items.Word (rv.Addi 2 2 (neg_ℤ (pos 16))) ∷ items.Word (rv.Sw 2 1 (pos 0)) ∷ items.Word (rv.Sw 2 10 (pos 4)) ∷ items.Word (rv.Sw 2 11 (pos 8)) ∷ items.Word (rv.Lw 5 2 (pos 4)) ∷ items.Word (rv.Lw 6 2 (pos 8)) ∷ items.Word (rv.Sub 5 5 6) ∷ items.Word (rv.Sltu 5 0 5) ∷ items.Word (rv.Sw 2 5 (pos 12)) ∷ items.Word (rv.Lw 10 2 (pos 12)) ∷ items.Word (rv.Lw 1 2 (pos 0)) ∷ items.Word (rv.Addi 2 2 (pos 16)) ∷ items.Word (rv.Jalr 0 1 (pos 0)) ∷ [] } ∷
    record { body = record { params = 2; regs = 3; blocks = record { phis = []; code = flat.Icmp (record { 0 = 2 }) cmp.Ugt (scalar.Word W1) (operand.Reg (record { 0 = 0 })) (operand.Reg (record { 0 = 1 })) ∷ []; end = ends.Ret (Some (operand.Reg (record { 0 = 2 }))) } ∷ [] }; expected = items.Word (rv.Addi 2 2 (neg_ℤ (pos 16))) ∷ items.Word (rv.Sw 2 1 (pos 0)) ∷ items.Word (rv.Sw 2 10 (pos 4)) ∷ items.Word (rv.Sw 2 11 (pos 8)) ∷ items.Word (rv.Lw 5 2 (pos 4)) ∷ items.Word (rv.Lw 6 2 (pos 8)) ∷ items.Word (rv.Sltu 5 6 5) ∷ items.Word (rv.Sw 2 5 (pos 12)) ∷ items.Word (rv.Lw 10 2 (pos 12)) ∷ items.Word (rv.Lw 1 2 (pos 0)) ∷ items.Word (rv.Addi 2 2 (pos 16)) ∷ items.Word (rv.Jalr 0 1 (pos 0)) ∷ [] } ∷
    record { body = record { params = 2; regs = 3; blocks = record { phis = []; code = flat.Icmp (record { 0 = 2 }) cmp.Ugt (scalar.Word W8) (operand.Reg (record { 0 = 0 })) (operand.Reg (record { 0 = 1 })) ∷ []; end = ends.Ret (Some (operand.Reg (record { 0 = 2 }))) } ∷ [] }; expected = items.Word (rv.Addi 2 2 (neg_ℤ (pos 16))) ∷ items.Word (rv.Sw 2 1 (pos 0)) ∷ items.Word (rv.Sw 2 10 (pos 4)) ∷ items.Word (rv.Sw 2 11 (pos 8)) ∷ items.Word (rv.Lw 5 2 (pos 4)) ∷ items.Word (rv.Lw 6 2 (pos 8)) ∷ items.Word (rv.Sltu 5 6 5) ∷ items.Word (rv.Sw 2 5 (pos 12)) ∷ items.Word (rv.Lw 10 2 (pos 12)) ∷ items.Word (rv.Lw 1 2 (pos 0)) ∷ items.Word (rv.Addi 2 2 (pos 16)) ∷ items.Word (rv.Jalr 0 1 (pos 0)) ∷ [] } ∷
    record { body = record { params = 2; regs = 3; blocks = record { phis = []; code = flat.Icmp (record { 0 = 2 }) cmp.Ugt (scalar.Word W16) (operand.Reg (record { 0 = 0 })) (operand.Reg (record { 0 = 1 })) ∷ []; end = ends.Ret (Some (operand.Reg (record { 0 = 2 }))) } ∷ [] }; expected = items.Word (rv.Addi 2 2 (neg_ℤ (pos 16))) ∷ items.Word (rv.Sw 2 1 (pos 0)) ∷ items.Word (rv.Sw 2 10 (pos 4)) ∷ items.Word (rv.Sw 2 11 (pos 8)) ∷ items.Word (rv.Lw 5 2 (pos 4)) ∷ items.Word (rv.Lw 6 2 (pos 8)) ∷ items.Word (rv.Sltu 5 6 5) ∷ items.Word (rv.Sw 2 5 (pos 12)) ∷ items.Word (rv.Lw 10 2 (pos 12)) ∷ items.Word (rv.Lw 1 2 (pos 0)) ∷ items.Word (rv.Addi 2 2 (pos 16)) ∷ items.Word (rv.Jalr 0 1 (pos 0)) ∷ [] } ∷
    record { body = record { params = 2; regs = 3; blocks = record { phis = []; code = flat.Icmp (record { 0 = 2 }) cmp.Ugt (scalar.Word W32) (operand.Reg (record { 0 = 0 })) (operand.Reg (record { 0 = 1 })) ∷ []; end = ends.Ret (Some (operand.Reg (record { 0 = 2 }))) } ∷ [] }; expected = items.Word (rv.Addi 2 2 (neg_ℤ (pos 16))) ∷ items.Word (rv.Sw 2 1 (pos 0)) ∷ items.Word (rv.Sw 2 10 (pos 4)) ∷ items.Word (rv.Sw 2 11 (pos 8)) ∷ items.Word (rv.Lw 5 2 (pos 4)) ∷ items.Word (rv.Lw 6 2 (pos 8)) ∷ items.Word (rv.Sltu 5 6 5) ∷ items.Word (rv.Sw 2 5 (pos 12)) ∷ items.Word (rv.Lw 10 2 (pos 12)) ∷ items.Word (rv.Lw 1 2 (pos 0)) ∷ items.Word (rv.Addi 2 2 (pos 16)) ∷ items.Word (rv.Jalr 0 1 (pos 0)) ∷ [] } ∷
    record { body = record { params = 2; regs = 3; blocks = record { phis = []; code = flat.Icmp (record { 0 = 2 }) cmp.Ugt scalar.Pointer (operand.Reg (record { 0 = 0 })) (operand.Reg (record { 0 = 1 })) ∷ []; end = ends.Ret (Some (operand.Reg (record { 0 = 2 }))) } ∷ [] }; expected = items.Word (rv.Addi 2 2 (neg_ℤ (pos 16))) ∷ items.Word (rv.Sw 2 1 (pos 0)) ∷ items.Word (rv.Sw 2 10 (pos 4)) ∷ items.Word (rv.Sw 2 11 (pos 8)) ∷ items.Word (rv.Lw 5 2 (pos 4)) ∷ items.Word (rv.Lw 6 2 (pos 8)) ∷ items.Word (rv.Sltu 5 6 5) ∷ items.Word (rv.Sw 2 5 (pos 12)) ∷ items.Word (rv.Lw 10 2 (pos 12)) ∷ items.Word (rv.Lw 1 2 (pos 0)) ∷ items.Word (rv.Addi 2 2 (pos 16)) ∷ items.Word (rv.Jalr 0 1 (pos 0)) ∷ [] } ∷
    record { body = record { params = 2; regs = 3; blocks = record { phis = []; code = flat.Icmp (record { 0 = 2 }) cmp.Uge (scalar.Word W1) (operand.Reg (record { 0 = 0 })) (operand.Reg (record { 0 = 1 })) ∷ []; end = ends.Ret (Some (operand.Reg (record { 0 = 2 }))) } ∷ [] }; expected = items.Word (rv.Addi 2 2 (neg_ℤ (pos 16))) ∷ items.Word (rv.Sw 2 1 (pos 0)) ∷ items.Word (rv.Sw 2 10 (pos 4)) ∷ items.Word (rv.Sw 2 11 (pos 8)) ∷ items.Word (rv.Lw 5 2 (pos 4)) ∷ items.Word (rv.Lw 6 2 (pos 8)) ∷ items.Word (rv.Sltu 5 5 6) ∷ items.Word (rv.Xori 5 5 (pos 1)) ∷ items.Word (rv.Sw 2 5 (pos 12)) ∷ items.Word (rv.Lw 10 2 (pos 12)) ∷ items.Word (rv.Lw 1 2 (pos 0)) ∷ items.Word (rv.Addi 2 2 (pos 16)) ∷ items.Word (rv.Jalr 0 1 (pos 0)) ∷ [] } ∷
    record { body = record { params = 2; regs = 3; blocks = record { phis = []; code = flat.Icmp (record { 0 = 2 }) cmp.Uge (scalar.Word W8) (operand.Reg (record { 0 = 0 })) (operand.Reg (record { 0 = 1 })) ∷ []; end = ends.Ret (Some (operand.Reg (record { 0 = 2 }))) } ∷ [] }; expected = items.Word (rv.Addi 2 2 (neg_ℤ (pos 16))) ∷ items.Word (rv.Sw 2 1 (pos 0)) ∷ items.Word (rv.Sw 2 10 (pos 4)) ∷ items.Word (rv.Sw 2 11 (pos 8)) ∷ items.Word (rv.Lw 5 2 (pos 4)) ∷ items.Word (rv.Lw 6 2 (pos 8)) ∷ items.Word (rv.Sltu 5 5 6) ∷ items.Word (rv.Xori 5 5 (pos 1)) ∷ items.Word (rv.Sw 2 5 (pos 12)) ∷ items.Word (rv.Lw 10 2 (pos 12)) ∷ items.Word (rv.Lw 1 2 (pos 0)) ∷ items.Word (rv.Addi 2 2 (pos 16)) ∷ items.Word (rv.Jalr 0 1 (pos 0)) ∷ [] } ∷
    record { body = record { params = 2; regs = 3; blocks = record { phis = []; code = flat.Icmp (record { 0 = 2 }) cmp.Uge (scalar.Word W16) (operand.Reg (record { 0 = 0 })) (operand.Reg (record { 0 = 1 })) ∷ []; end = ends.Ret (Some (operand.Reg (record { 0 = 2 }))) } ∷ [] }; expected = items.Word (rv.Addi 2 2 (neg_ℤ (pos 16))) ∷ items.Word (rv.Sw 2 1 (pos 0)) ∷ items.Word (rv.Sw 2 10 (pos 4)) ∷ items.Word (rv.Sw 2 11 (pos 8)) ∷ items.Word (rv.Lw 5 2 (pos 4)) ∷ items.Word (rv.Lw 6 2 (pos 8)) ∷ items.Word (rv.Sltu 5 5 6) ∷ items.Word (rv.Xori 5 5 (pos 1)) ∷ items.Word (rv.Sw 2 5 (pos 12)) ∷ items.Word (rv.Lw 10 2 (pos 12)) ∷ items.Word (rv.Lw 1 2 (pos 0)) ∷ items.Word (rv.Addi 2 2 (pos 16)) ∷ items.Word (rv.Jalr 0 1 (pos 0)) ∷ [] } ∷
    record { body = record { params = 2; regs = 3; blocks = record { phis = []; code = flat.Icmp (record { 0 = 2 }) cmp.Uge (scalar.Word W32) (operand.Reg (record { 0 = 0 })) (operand.Reg (record { 0 = 1 })) ∷ []; end = ends.Ret (Some (operand.Reg (record { 0 = 2 }))) } ∷ [] }; expected = items.Word (rv.Addi 2 2 (neg_ℤ (pos 16))) ∷ items.Word (rv.Sw 2 1 (pos 0)) ∷ items.Word (rv.Sw 2 10 (pos 4)) ∷ items.Word (rv.Sw 2 11 (pos 8)) ∷ items.Word (rv.Lw 5 2 (pos 4)) ∷ items.Word (rv.Lw 6 2 (pos 8)) ∷ items.Word (rv.Sltu 5 5 6) ∷ items.Word (rv.Xori 5 5 (pos 1)) ∷ items.Word (rv.Sw 2 5 (pos 12)) ∷ items.Word (rv.Lw 10 2 (pos 12)) ∷ items.Word (rv.Lw 1 2 (pos 0)) ∷ items.Word (rv.Addi 2 2 (pos 16)) ∷ items.Word (rv.Jalr 0 1 (pos 0)) ∷ [] } ∷
    record { body = record { params = 2; regs = 3; blocks = record { phis = []; code = flat.Icmp (record { 0 = 2 }) cmp.Uge scalar.Pointer (operand.Reg (record { 0 = 0 })) (operand.Reg (record { 0 = 1 })) ∷ []; end = ends.Ret (Some (operand.Reg (record { 0 = 2 }))) } ∷ [] }; expected = items.Word (rv.Addi 2 2 (neg_ℤ (pos 16))) ∷ items.Word (rv.Sw 2 1 (pos 0)) ∷ items.Word (rv.Sw 2 10 (pos 4)) ∷ items.Word (rv.Sw 2 11 (pos 8)) ∷ items.Word (rv.Lw 5 2 (pos 4)) ∷ items.Word (rv.Lw 6 2 (pos 8)) ∷ items.Word (rv.Sltu 5 5 6) ∷ items.Word (rv.Xori 5 5 (pos 1)) ∷ items.Word (rv.Sw 2 5 (pos 12)) ∷ items.Word (rv.Lw 10 2 (pos 12)) ∷ items.Word (rv.Lw 1 2 (pos 0)) ∷ items.Word (rv.Addi 2 2 (pos 16)) ∷ items.Word (rv.Jalr 0 1 (pos 0)) ∷ [] } ∷
    record { body = record { params = 2; regs = 3; blocks = record { phis = []; code = flat.Icmp (record { 0 = 2 }) cmp.Ult (scalar.Word W1) (operand.Reg (record { 0 = 0 })) (operand.Reg (record { 0 = 1 })) ∷ []; end = ends.Ret (Some (operand.Reg (record { 0 = 2 }))) } ∷ [] }; expected = items.Word (rv.Addi 2 2 (neg_ℤ (pos 16))) ∷ items.Word (rv.Sw 2 1 (pos 0)) ∷ items.Word (rv.Sw 2 10 (pos 4)) ∷ items.Word (rv.Sw 2 11 (pos 8)) ∷ items.Word (rv.Lw 5 2 (pos 4)) ∷ items.Word (rv.Lw 6 2 (pos 8)) ∷ items.Word (rv.Sltu 5 5 6) ∷ items.Word (rv.Sw 2 5 (pos 12)) ∷ items.Word (rv.Lw 10 2 (pos 12)) ∷ items.Word (rv.Lw 1 2 (pos 0)) ∷ items.Word (rv.Addi 2 2 (pos 16)) ∷ items.Word (rv.Jalr 0 1 (pos 0)) ∷ [] } ∷
    record { body = record { params = 2; regs = 3; blocks = record { phis = []; code = flat.Icmp (record { 0 = 2 }) cmp.Ult (scalar.Word W8) (operand.Reg (record { 0 = 0 })) (operand.Reg (record { 0 = 1 })) ∷ []; end = ends.Ret (Some (operand.Reg (record { 0 = 2 }))) } ∷ [] }; expected = items.Word (rv.Addi 2 2 (neg_ℤ (pos 16))) ∷ items.Word (rv.Sw 2 1 (pos 0)) ∷ items.Word (rv.Sw 2 10 (pos 4)) ∷ items.Word (rv.Sw 2 11 (pos 8)) ∷ items.Word (rv.Lw 5 2 (pos 4)) ∷ items.Word (rv.Lw 6 2 (pos 8)) ∷ items.Word (rv.Sltu 5 5 6) ∷ items.Word (rv.Sw 2 5 (pos 12)) ∷ items.Word (rv.Lw 10 2 (pos 12)) ∷ items.Word (rv.Lw 1 2 (pos 0)) ∷ items.Word (rv.Addi 2 2 (pos 16)) ∷ items.Word (rv.Jalr 0 1 (pos 0)) ∷ [] } ∷
    record { body = record { params = 2; regs = 3; blocks = record { phis = []; code = flat.Icmp (record { 0 = 2 }) cmp.Ult (scalar.Word W16) (operand.Reg (record { 0 = 0 })) (operand.Reg (record { 0 = 1 })) ∷ []; end = ends.Ret (Some (operand.Reg (record { 0 = 2 }))) } ∷ [] }; expected = items.Word (rv.Addi 2 2 (neg_ℤ (pos 16))) ∷ items.Word (rv.Sw 2 1 (pos 0)) ∷ items.Word (rv.Sw 2 10 (pos 4)) ∷ items.Word (rv.Sw 2 11 (pos 8)) ∷ items.Word (rv.Lw 5 2 (pos 4)) ∷ items.Word (rv.Lw 6 2 (pos 8)) ∷ items.Word (rv.Sltu 5 5 6) ∷ items.Word (rv.Sw 2 5 (pos 12)) ∷ items.Word (rv.Lw 10 2 (pos 12)) ∷ items.Word (rv.Lw 1 2 (pos 0)) ∷ items.Word (rv.Addi 2 2 (pos 16)) ∷ items.Word (rv.Jalr 0 1 (pos 0)) ∷ [] } ∷
    record { body = record { params = 2; regs = 3; blocks = record { phis = []; code = flat.Icmp (record { 0 = 2 }) cmp.Ult (scalar.Word W32) (operand.Reg (record { 0 = 0 })) (operand.Reg (record { 0 = 1 })) ∷ []; end = ends.Ret (Some (operand.Reg (record { 0 = 2 }))) } ∷ [] }; expected = items.Word (rv.Addi 2 2 (neg_ℤ (pos 16))) ∷ items.Word (rv.Sw 2 1 (pos 0)) ∷ items.Word (rv.Sw 2 10 (pos 4)) ∷ items.Word (rv.Sw 2 11 (pos 8)) ∷ items.Word (rv.Lw 5 2 (pos 4)) ∷ items.Word (rv.Lw 6 2 (pos 8)) ∷ items.Word (rv.Sltu 5 5 6) ∷ items.Word (rv.Sw 2 5 (pos 12)) ∷ items.Word (rv.Lw 10 2 (pos 12)) ∷ items.Word (rv.Lw 1 2 (pos 0)) ∷ items.Word (rv.Addi 2 2 (pos 16)) ∷ items.Word (rv.Jalr 0 1 (pos 0)) ∷ [] } ∷
    record { body = record { params = 2; regs = 3; blocks = record { phis = []; code = flat.Icmp (record { 0 = 2 }) cmp.Ult scalar.Pointer (operand.Reg (record { 0 = 0 })) (operand.Reg (record { 0 = 1 })) ∷ []; end = ends.Ret (Some (operand.Reg (record { 0 = 2 }))) } ∷ [] }; expected = items.Word (rv.Addi 2 2 (neg_ℤ (pos 16))) ∷ items.Word (rv.Sw 2 1 (pos 0)) ∷ items.Word (rv.Sw 2 10 (pos 4)) ∷ items.Word (rv.Sw 2 11 (pos 8)) ∷ items.Word (rv.Lw 5 2 (pos 4)) ∷ items.Word (rv.Lw 6 2 (pos 8)) ∷ items.Word (rv.Sltu 5 5 6) ∷ items.Word (rv.Sw 2 5 (pos 12)) ∷ items.Word (rv.Lw 10 2 (pos 12)) ∷ items.Word (rv.Lw 1 2 (pos 0)) ∷ items.Word (rv.Addi 2 2 (pos 16)) ∷ items.Word (rv.Jalr 0 1 (pos 0)) ∷ [] } ∷
    record { body = record { params = 2; regs = 3; blocks = record { phis = []; code = flat.Icmp (record { 0 = 2 }) cmp.Ule (scalar.Word W1) (operand.Reg (record { 0 = 0 })) (operand.Reg (record { 0 = 1 })) ∷ []; end = ends.Ret (Some (operand.Reg (record { 0 = 2 }))) } ∷ [] }; expected = items.Word (rv.Addi 2 2 (neg_ℤ (pos 16))) ∷ items.Word (rv.Sw 2 1 (pos 0)) ∷ items.Word (rv.Sw 2 10 (pos 4)) ∷ items.Word (rv.Sw 2 11 (pos 8)) ∷ items.Word (rv.Lw 5 2 (pos 4)) ∷ items.Word (rv.Lw 6 2 (pos 8)) ∷ items.Word (rv.Sltu 5 6 5) ∷ items.Word (rv.Xori 5 5 (pos 1)) ∷ items.Word (rv.Sw 2 5 (pos 12)) ∷ items.Word (rv.Lw 10 2 (pos 12)) ∷ items.Word (rv.Lw 1 2 (pos 0)) ∷ items.Word (rv.Addi 2 2 (pos 16)) ∷ items.Word (rv.Jalr 0 1 (pos 0)) ∷ [] } ∷
    record { body = record { params = 2; regs = 3; blocks = record { phis = []; code = flat.Icmp (record { 0 = 2 }) cmp.Ule (scalar.Word W8) (operand.Reg (record { 0 = 0 })) (operand.Reg (record { 0 = 1 })) ∷ []; end = ends.Ret (Some (operand.Reg (record { 0 = 2 }))) } ∷ [] }; expected = items.Word (rv.Addi 2 2 (neg_ℤ (pos 16))) ∷ items.Word (rv.Sw 2 1 (pos 0)) ∷ items.Word (rv.Sw 2 10 (pos 4)) ∷ items.Word (rv.Sw 2 11 (pos 8)) ∷ items.Word (rv.Lw 5 2 (pos 4)) ∷ items.Word (rv.Lw 6 2 (pos 8)) ∷ items.Word (rv.Sltu 5 6 5) ∷ items.Word (rv.Xori 5 5 (pos 1)) ∷ items.Word (rv.Sw 2 5 (pos 12)) ∷ items.Word (rv.Lw 10 2 (pos 12)) ∷ items.Word (rv.Lw 1 2 (pos 0)) ∷ items.Word (rv.Addi 2 2 (pos 16)) ∷ items.Word (rv.Jalr 0 1 (pos 0)) ∷ [] } ∷
    record { body = record { params = 2; regs = 3; blocks = record { phis = []; code = flat.Icmp (record { 0 = 2 }) cmp.Ule (scalar.Word W16) (operand.Reg (record { 0 = 0 })) (operand.Reg (record { 0 = 1 })) ∷ []; end = ends.Ret (Some (operand.Reg (record { 0 = 2 }))) } ∷ [] }; expected = items.Word (rv.Addi 2 2 (neg_ℤ (pos 16))) ∷ items.Word (rv.Sw 2 1 (pos 0)) ∷ items.Word (rv.Sw 2 10 (pos 4)) ∷ items.Word (rv.Sw 2 11 (pos 8)) ∷ items.Word (rv.Lw 5 2 (pos 4)) ∷ items.Word (rv.Lw 6 2 (pos 8)) ∷ items.Word (rv.Sltu 5 6 5) ∷ items.Word (rv.Xori 5 5 (pos 1)) ∷ items.Word (rv.Sw 2 5 (pos 12)) ∷ items.Word (rv.Lw 10 2 (pos 12)) ∷ items.Word (rv.Lw 1 2 (pos 0)) ∷ items.Word (rv.Addi 2 2 (pos 16)) ∷ items.Word (rv.Jalr 0 1 (pos 0)) ∷ [] } ∷
    record { body = record { params = 2; regs = 3; blocks = record { phis = []; code = flat.Icmp (record { 0 = 2 }) cmp.Ule (scalar.Word W32) (operand.Reg (record { 0 = 0 })) (operand.Reg (record { 0 = 1 })) ∷ []; end = ends.Ret (Some (operand.Reg (record { 0 = 2 }))) } ∷ [] }; expected = items.Word (rv.Addi 2 2 (neg_ℤ (pos 16))) ∷ items.Word (rv.Sw 2 1 (pos 0)) ∷ items.Word (rv.Sw 2 10 (pos 4)) ∷ items.Word (rv.Sw 2 11 (pos 8)) ∷ items.Word (rv.Lw 5 2 (pos 4)) ∷ items.Word (rv.Lw 6 2 (pos 8)) ∷ items.Word (rv.Sltu 5 6 5) ∷ items.Word (rv.Xori 5 5 (pos 1)) ∷ items.Word (rv.Sw 2 5 (pos 12)) ∷ items.Word (rv.Lw 10 2 (pos 12)) ∷ items.Word (rv.Lw 1 2 (pos 0)) ∷ items.Word (rv.Addi 2 2 (pos 16)) ∷ items.Word (rv.Jalr 0 1 (pos 0)) ∷ [] } ∷
    record { body = record { params = 2; regs = 3; blocks = record { phis = []; code = flat.Icmp (record { 0 = 2 }) cmp.Ule scalar.Pointer (operand.Reg (record { 0 = 0 })) (operand.Reg (record { 0 = 1 })) ∷ []; end = ends.Ret (Some (operand.Reg (record { 0 = 2 }))) } ∷ [] }; expected = items.Word (rv.Addi 2 2 (neg_ℤ (pos 16))) ∷ items.Word (rv.Sw 2 1 (pos 0)) ∷ items.Word (rv.Sw 2 10 (pos 4)) ∷ items.Word (rv.Sw 2 11 (pos 8)) ∷ items.Word (rv.Lw 5 2 (pos 4)) ∷ items.Word (rv.Lw 6 2 (pos 8)) ∷ items.Word (rv.Sltu 5 6 5) ∷ items.Word (rv.Xori 5 5 (pos 1)) ∷ items.Word (rv.Sw 2 5 (pos 12)) ∷ items.Word (rv.Lw 10 2 (pos 12)) ∷ items.Word (rv.Lw 1 2 (pos 0)) ∷ items.Word (rv.Addi 2 2 (pos 16)) ∷ items.Word (rv.Jalr 0 1 (pos 0)) ∷ [] } ∷
    record { body = record { params = 2; regs = 3; blocks = record { phis = []; code = flat.Icmp (record { 0 = 2 }) cmp.Sgt (scalar.Word W1) (operand.Reg (record { 0 = 0 })) (operand.Reg (record { 0 = 1 })) ∷ []; end = ends.Ret (Some (operand.Reg (record { 0 = 2 }))) } ∷ [] }; expected = items.Word (rv.Addi 2 2 (neg_ℤ (pos 16))) ∷ items.Word (rv.Sw 2 1 (pos 0)) ∷ items.Word (rv.Sw 2 10 (pos 4)) ∷ items.Word (rv.Sw 2 11 (pos 8)) ∷ items.Word (rv.Lw 5 2 (pos 4)) ∷ items.Word (rv.Lw 6 2 (pos 8)) ∷ items.Word (rv.Slli 5 5 (pos 31)) ∷ items.Word (rv.Srai 5 5 (pos 31)) ∷ items.Word (rv.Slli 6 6 (pos 31)) ∷ items.Word (rv.Srai 6 6 (pos 31)) ∷ items.Word (rv.Slt 5 6 5) ∷ items.Word (rv.Sw 2 5 (pos 12)) ∷ items.Word (rv.Lw 10 2 (pos 12)) ∷ items.Word (rv.Lw 1 2 (pos 0)) ∷ items.Word (rv.Addi 2 2 (pos 16)) ∷ items.Word (rv.Jalr 0 1 (pos 0)) ∷ [] } ∷
    record { body = record { params = 2; regs = 3; blocks = record { phis = []; code = flat.Icmp (record { 0 = 2 }) cmp.Sgt (scalar.Word W8) (operand.Reg (record { 0 = 0 })) (operand.Reg (record { 0 = 1 })) ∷ []; end = ends.Ret (Some (operand.Reg (record { 0 = 2 }))) } ∷ [] }; expected = items.Word (rv.Addi 2 2 (neg_ℤ (pos 16))) ∷ items.Word (rv.Sw 2 1 (pos 0)) ∷ items.Word (rv.Sw 2 10 (pos 4)) ∷ items.Word (rv.Sw 2 11 (pos 8)) ∷ items.Word (rv.Lw 5 2 (pos 4)) ∷ items.Word (rv.Lw 6 2 (pos 8)) ∷ items.Word (rv.Slli 5 5 (pos 24)) ∷ items.Word (rv.Srai 5 5 (pos 24)) ∷ items.Word (rv.Slli 6 6 (pos 24)) ∷ items.Word (rv.Srai 6 6 (pos 24)) ∷ items.Word (rv.Slt 5 6 5) ∷ items.Word (rv.Sw 2 5 (pos 12)) ∷ items.Word (rv.Lw 10 2 (pos 12)) ∷ items.Word (rv.Lw 1 2 (pos 0)) ∷ items.Word (rv.Addi 2 2 (pos 16)) ∷ items.Word (rv.Jalr 0 1 (pos 0)) ∷ [] } ∷
    record { body = record { params = 2; regs = 3; blocks = record { phis = []; code = flat.Icmp (record { 0 = 2 }) cmp.Sgt (scalar.Word W16) (operand.Reg (record { 0 = 0 })) (operand.Reg (record { 0 = 1 })) ∷ []; end = ends.Ret (Some (operand.Reg (record { 0 = 2 }))) } ∷ [] }; expected = items.Word (rv.Addi 2 2 (neg_ℤ (pos 16))) ∷ items.Word (rv.Sw 2 1 (pos 0)) ∷ items.Word (rv.Sw 2 10 (pos 4)) ∷ items.Word (rv.Sw 2 11 (pos 8)) ∷ items.Word (rv.Lw 5 2 (pos 4)) ∷ items.Word (rv.Lw 6 2 (pos 8)) ∷ items.Word (rv.Slli 5 5 (pos 16)) ∷ items.Word (rv.Srai 5 5 (pos 16)) ∷ items.Word (rv.Slli 6 6 (pos 16)) ∷ items.Word (rv.Srai 6 6 (pos 16)) ∷ items.Word (rv.Slt 5 6 5) ∷ items.Word (rv.Sw 2 5 (pos 12)) ∷ items.Word (rv.Lw 10 2 (pos 12)) ∷ items.Word (rv.Lw 1 2 (pos 0)) ∷ items.Word (rv.Addi 2 2 (pos 16)) ∷ items.Word (rv.Jalr 0 1 (pos 0)) ∷ [] } ∷
    record { body = record { params = 2; regs = 3; blocks = record { phis = []; code = flat.Icmp (record { 0 = 2 }) cmp.Sgt (scalar.Word W32) (operand.Reg (record { 0 = 0 })) (operand.Reg (record { 0 = 1 })) ∷ []; end = ends.Ret (Some (operand.Reg (record { 0 = 2 }))) } ∷ [] }; expected = items.Word (rv.Addi 2 2 (neg_ℤ (pos 16))) ∷ items.Word (rv.Sw 2 1 (pos 0)) ∷ items.Word (rv.Sw 2 10 (pos 4)) ∷ items.Word (rv.Sw 2 11 (pos 8)) ∷ items.Word (rv.Lw 5 2 (pos 4)) ∷ items.Word (rv.Lw 6 2 (pos 8)) ∷ items.Word (rv.Slt 5 6 5) ∷ items.Word (rv.Sw 2 5 (pos 12)) ∷ items.Word (rv.Lw 10 2 (pos 12)) ∷ items.Word (rv.Lw 1 2 (pos 0)) ∷ items.Word (rv.Addi 2 2 (pos 16)) ∷ items.Word (rv.Jalr 0 1 (pos 0)) ∷ [] } ∷
    record { body = record { params = 2; regs = 3; blocks = record { phis = []; code = flat.Icmp (record { 0 = 2 }) cmp.Sgt scalar.Pointer (operand.Reg (record { 0 = 0 })) (operand.Reg (record { 0 = 1 })) ∷ []; end = ends.Ret (Some (operand.Reg (record { 0 = 2 }))) } ∷ [] }; expected = items.Word (rv.Addi 2 2 (neg_ℤ (pos 16))) ∷ items.Word (rv.Sw 2 1 (pos 0)) ∷ items.Word (rv.Sw 2 10 (pos 4)) ∷ items.Word (rv.Sw 2 11 (pos 8)) ∷ items.Word (rv.Lw 5 2 (pos 4)) ∷ items.Word (rv.Lw 6 2 (pos 8)) ∷ items.Word (rv.Slt 5 6 5) ∷ items.Word (rv.Sw 2 5 (pos 12)) ∷ items.Word (rv.Lw 10 2 (pos 12)) ∷ items.Word (rv.Lw 1 2 (pos 0)) ∷ items.Word (rv.Addi 2 2 (pos 16)) ∷ items.Word (rv.Jalr 0 1 (pos 0)) ∷ [] } ∷
    record { body = record { params = 2; regs = 3; blocks = record { phis = []; code = flat.Icmp (record { 0 = 2 }) cmp.Sge (scalar.Word W1) (operand.Reg (record { 0 = 0 })) (operand.Reg (record { 0 = 1 })) ∷ []; end = ends.Ret (Some (operand.Reg (record { 0 = 2 }))) } ∷ [] }; expected = items.Word (rv.Addi 2 2 (neg_ℤ (pos 16))) ∷ items.Word (rv.Sw 2 1 (pos 0)) ∷ items.Word (rv.Sw 2 10 (pos 4)) ∷ items.Word (rv.Sw 2 11 (pos 8)) ∷ items.Word (rv.Lw 5 2 (pos 4)) ∷ items.Word (rv.Lw 6 2 (pos 8)) ∷ items.Word (rv.Slli 5 5 (pos 31)) ∷ items.Word (rv.Srai 5 5 (pos 31)) ∷ items.Word (rv.Slli 6 6 (pos 31)) ∷ items.Word (rv.Srai 6 6 (pos 31)) ∷ items.Word (rv.Slt 5 5 6) ∷ items.Word (rv.Xori 5 5 (pos 1)) ∷ items.Word (rv.Sw 2 5 (pos 12)) ∷ items.Word (rv.Lw 10 2 (pos 12)) ∷ items.Word (rv.Lw 1 2 (pos 0)) ∷ items.Word (rv.Addi 2 2 (pos 16)) ∷ items.Word (rv.Jalr 0 1 (pos 0)) ∷ [] } ∷
    record { body = record { params = 2; regs = 3; blocks = record { phis = []; code = flat.Icmp (record { 0 = 2 }) cmp.Sge (scalar.Word W8) (operand.Reg (record { 0 = 0 })) (operand.Reg (record { 0 = 1 })) ∷ []; end = ends.Ret (Some (operand.Reg (record { 0 = 2 }))) } ∷ [] }; expected = items.Word (rv.Addi 2 2 (neg_ℤ (pos 16))) ∷ items.Word (rv.Sw 2 1 (pos 0)) ∷ items.Word (rv.Sw 2 10 (pos 4)) ∷ items.Word (rv.Sw 2 11 (pos 8)) ∷ items.Word (rv.Lw 5 2 (pos 4)) ∷ items.Word (rv.Lw 6 2 (pos 8)) ∷ items.Word (rv.Slli 5 5 (pos 24)) ∷ items.Word (rv.Srai 5 5 (pos 24)) ∷ items.Word (rv.Slli 6 6 (pos 24)) ∷ items.Word (rv.Srai 6 6 (pos 24)) ∷ items.Word (rv.Slt 5 5 6) ∷ items.Word (rv.Xori 5 5 (pos 1)) ∷ items.Word (rv.Sw 2 5 (pos 12)) ∷ items.Word (rv.Lw 10 2 (pos 12)) ∷ items.Word (rv.Lw 1 2 (pos 0)) ∷ items.Word (rv.Addi 2 2 (pos 16)) ∷ items.Word (rv.Jalr 0 1 (pos 0)) ∷ [] } ∷
    record { body = record { params = 2; regs = 3; blocks = record { phis = []; code = flat.Icmp (record { 0 = 2 }) cmp.Sge (scalar.Word W16) (operand.Reg (record { 0 = 0 })) (operand.Reg (record { 0 = 1 })) ∷ []; end = ends.Ret (Some (operand.Reg (record { 0 = 2 }))) } ∷ [] }; expected = items.Word (rv.Addi 2 2 (neg_ℤ (pos 16))) ∷ items.Word (rv.Sw 2 1 (pos 0)) ∷ items.Word (rv.Sw 2 10 (pos 4)) ∷ items.Word (rv.Sw 2 11 (pos 8)) ∷ items.Word (rv.Lw 5 2 (pos 4)) ∷ items.Word (rv.Lw 6 2 (pos 8)) ∷ items.Word (rv.Slli 5 5 (pos 16)) ∷ items.Word (rv.Srai 5 5 (pos 16)) ∷ items.Word (rv.Slli 6 6 (pos 16)) ∷ items.Word (rv.Srai 6 6 (pos 16)) ∷ items.Word (rv.Slt 5 5 6) ∷ items.Word (rv.Xori 5 5 (pos 1)) ∷ items.Word (rv.Sw 2 5 (pos 12)) ∷ items.Word (rv.Lw 10 2 (pos 12)) ∷ items.Word (rv.Lw 1 2 (pos 0)) ∷ items.Word (rv.Addi 2 2 (pos 16)) ∷ items.Word (rv.Jalr 0 1 (pos 0)) ∷ [] } ∷
    record { body = record { params = 2; regs = 3; blocks = record { phis = []; code = flat.Icmp (record { 0 = 2 }) cmp.Sge (scalar.Word W32) (operand.Reg (record { 0 = 0 })) (operand.Reg (record { 0 = 1 })) ∷ []; end = ends.Ret (Some (operand.Reg (record { 0 = 2 }))) } ∷ [] }; expected = items.Word (rv.Addi 2 2 (neg_ℤ (pos 16))) ∷ items.Word (rv.Sw 2 1 (pos 0)) ∷ items.Word (rv.Sw 2 10 (pos 4)) ∷ items.Word (rv.Sw 2 11 (pos 8)) ∷ items.Word (rv.Lw 5 2 (pos 4)) ∷ items.Word (rv.Lw 6 2 (pos 8)) ∷ items.Word (rv.Slt 5 5 6) ∷ items.Word (rv.Xori 5 5 (pos 1)) ∷ items.Word (rv.Sw 2 5 (pos 12)) ∷ items.Word (rv.Lw 10 2 (pos 12)) ∷ items.Word (rv.Lw 1 2 (pos 0)) ∷ items.Word (rv.Addi 2 2 (pos 16)) ∷ items.Word (rv.Jalr 0 1 (pos 0)) ∷ [] } ∷
    record { body = record { params = 2; regs = 3; blocks = record { phis = []; code = flat.Icmp (record { 0 = 2 }) cmp.Sge scalar.Pointer (operand.Reg (record { 0 = 0 })) (operand.Reg (record { 0 = 1 })) ∷ []; end = ends.Ret (Some (operand.Reg (record { 0 = 2 }))) } ∷ [] }; expected = items.Word (rv.Addi 2 2 (neg_ℤ (pos 16))) ∷ items.Word (rv.Sw 2 1 (pos 0)) ∷ items.Word (rv.Sw 2 10 (pos 4)) ∷ items.Word (rv.Sw 2 11 (pos 8)) ∷ items.Word (rv.Lw 5 2 (pos 4)) ∷ items.Word (rv.Lw 6 2 (pos 8)) ∷ items.Word (rv.Slt 5 5 6) ∷ items.Word (rv.Xori 5 5 (pos 1)) ∷ items.Word (rv.Sw 2 5 (pos 12)) ∷ items.Word (rv.Lw 10 2 (pos 12)) ∷ items.Word (rv.Lw 1 2 (pos 0)) ∷ items.Word (rv.Addi 2 2 (pos 16)) ∷ items.Word (rv.Jalr 0 1 (pos 0)) ∷ [] } ∷
    record { body = record { params = 2; regs = 3; blocks = record { phis = []; code = flat.Icmp (record { 0 = 2 }) cmp.Slt (scalar.Word W1) (operand.Reg (record { 0 = 0 })) (operand.Reg (record { 0 = 1 })) ∷ []; end = ends.Ret (Some (operand.Reg (record { 0 = 2 }))) } ∷ [] }; expected = items.Word (rv.Addi 2 2 (neg_ℤ (pos 16))) ∷ items.Word (rv.Sw 2 1 (pos 0)) ∷ items.Word (rv.Sw 2 10 (pos 4)) ∷ items.Word (rv.Sw 2 11 (pos 8)) ∷ items.Word (rv.Lw 5 2 (pos 4)) ∷ items.Word (rv.Lw 6 2 (pos 8)) ∷ items.Word (rv.Slli 5 5 (pos 31)) ∷ items.Word (rv.Srai 5 5 (pos 31)) ∷ items.Word (rv.Slli 6 6 (pos 31)) ∷ items.Word (rv.Srai 6 6 (pos 31)) ∷ items.Word (rv.Slt 5 5 6) ∷ items.Word (rv.Sw 2 5 (pos 12)) ∷ items.Word (rv.Lw 10 2 (pos 12)) ∷ items.Word (rv.Lw 1 2 (pos 0)) ∷ items.Word (rv.Addi 2 2 (pos 16)) ∷ items.Word (rv.Jalr 0 1 (pos 0)) ∷ [] } ∷
    record { body = record { params = 2; regs = 3; blocks = record { phis = []; code = flat.Icmp (record { 0 = 2 }) cmp.Slt (scalar.Word W8) (operand.Reg (record { 0 = 0 })) (operand.Reg (record { 0 = 1 })) ∷ []; end = ends.Ret (Some (operand.Reg (record { 0 = 2 }))) } ∷ [] }; expected = items.Word (rv.Addi 2 2 (neg_ℤ (pos 16))) ∷ items.Word (rv.Sw 2 1 (pos 0)) ∷ items.Word (rv.Sw 2 10 (pos 4)) ∷ items.Word (rv.Sw 2 11 (pos 8)) ∷ items.Word (rv.Lw 5 2 (pos 4)) ∷ items.Word (rv.Lw 6 2 (pos 8)) ∷ items.Word (rv.Slli 5 5 (pos 24)) ∷ items.Word (rv.Srai 5 5 (pos 24)) ∷ items.Word (rv.Slli 6 6 (pos 24)) ∷ items.Word (rv.Srai 6 6 (pos 24)) ∷ items.Word (rv.Slt 5 5 6) ∷ items.Word (rv.Sw 2 5 (pos 12)) ∷ items.Word (rv.Lw 10 2 (pos 12)) ∷ items.Word (rv.Lw 1 2 (pos 0)) ∷ items.Word (rv.Addi 2 2 (pos 16)) ∷ items.Word (rv.Jalr 0 1 (pos 0)) ∷ [] } ∷
    record { body = record { params = 2; regs = 3; blocks = record { phis = []; code = flat.Icmp (record { 0 = 2 }) cmp.Slt (scalar.Word W16) (operand.Reg (record { 0 = 0 })) (operand.Reg (record { 0 = 1 })) ∷ []; end = ends.Ret (Some (operand.Reg (record { 0 = 2 }))) } ∷ [] }; expected = items.Word (rv.Addi 2 2 (neg_ℤ (pos 16))) ∷ items.Word (rv.Sw 2 1 (pos 0)) ∷ items.Word (rv.Sw 2 10 (pos 4)) ∷ items.Word (rv.Sw 2 11 (pos 8)) ∷ items.Word (rv.Lw 5 2 (pos 4)) ∷ items.Word (rv.Lw 6 2 (pos 8)) ∷ items.Word (rv.Slli 5 5 (pos 16)) ∷ items.Word (rv.Srai 5 5 (pos 16)) ∷ items.Word (rv.Slli 6 6 (pos 16)) ∷ items.Word (rv.Srai 6 6 (pos 16)) ∷ items.Word (rv.Slt 5 5 6) ∷ items.Word (rv.Sw 2 5 (pos 12)) ∷ items.Word (rv.Lw 10 2 (pos 12)) ∷ items.Word (rv.Lw 1 2 (pos 0)) ∷ items.Word (rv.Addi 2 2 (pos 16)) ∷ items.Word (rv.Jalr 0 1 (pos 0)) ∷ [] } ∷
    record { body = record { params = 2; regs = 3; blocks = record { phis = []; code = flat.Icmp (record { 0 = 2 }) cmp.Slt (scalar.Word W32) (operand.Reg (record { 0 = 0 })) (operand.Reg (record { 0 = 1 })) ∷ []; end = ends.Ret (Some (operand.Reg (record { 0 = 2 }))) } ∷ [] }; expected = items.Word (rv.Addi 2 2 (neg_ℤ (pos 16))) ∷ items.Word (rv.Sw 2 1 (pos 0)) ∷ items.Word (rv.Sw 2 10 (pos 4)) ∷ items.Word (rv.Sw 2 11 (pos 8)) ∷ items.Word (rv.Lw 5 2 (pos 4)) ∷ items.Word (rv.Lw 6 2 (pos 8)) ∷ items.Word (rv.Slt 5 5 6) ∷ items.Word (rv.Sw 2 5 (pos 12)) ∷ items.Word (rv.Lw 10 2 (pos 12)) ∷ items.Word (rv.Lw 1 2 (pos 0)) ∷ items.Word (rv.Addi 2 2 (pos 16)) ∷ items.Word (rv.Jalr 0 1 (pos 0)) ∷ [] } ∷
    record { body = record { params = 2; regs = 3; blocks = record { phis = []; code = flat.Icmp (record { 0 = 2 }) cmp.Slt scalar.Pointer (operand.Reg (record { 0 = 0 })) (operand.Reg (record { 0 = 1 })) ∷ []; end = ends.Ret (Some (operand.Reg (record { 0 = 2 }))) } ∷ [] }; expected = items.Word (rv.Addi 2 2 (neg_ℤ (pos 16))) ∷ items.Word (rv.Sw 2 1 (pos 0)) ∷ items.Word (rv.Sw 2 10 (pos 4)) ∷ items.Word (rv.Sw 2 11 (pos 8)) ∷ items.Word (rv.Lw 5 2 (pos 4)) ∷ items.Word (rv.Lw 6 2 (pos 8)) ∷ items.Word (rv.Slt 5 5 6) ∷ items.Word (rv.Sw 2 5 (pos 12)) ∷ items.Word (rv.Lw 10 2 (pos 12)) ∷ items.Word (rv.Lw 1 2 (pos 0)) ∷ items.Word (rv.Addi 2 2 (pos 16)) ∷ items.Word (rv.Jalr 0 1 (pos 0)) ∷ [] } ∷
    record { body = record { params = 2; regs = 3; blocks = record { phis = []; code = flat.Icmp (record { 0 = 2 }) cmp.Sle (scalar.Word W1) (operand.Reg (record { 0 = 0 })) (operand.Reg (record { 0 = 1 })) ∷ []; end = ends.Ret (Some (operand.Reg (record { 0 = 2 }))) } ∷ [] }; expected = items.Word (rv.Addi 2 2 (neg_ℤ (pos 16))) ∷ items.Word (rv.Sw 2 1 (pos 0)) ∷ items.Word (rv.Sw 2 10 (pos 4)) ∷ items.Word (rv.Sw 2 11 (pos 8)) ∷ items.Word (rv.Lw 5 2 (pos 4)) ∷ items.Word (rv.Lw 6 2 (pos 8)) ∷ items.Word (rv.Slli 5 5 (pos 31)) ∷ items.Word (rv.Srai 5 5 (pos 31)) ∷ items.Word (rv.Slli 6 6 (pos 31)) ∷ items.Word (rv.Srai 6 6 (pos 31)) ∷ items.Word (rv.Slt 5 6 5) ∷ items.Word (rv.Xori 5 5 (pos 1)) ∷ items.Word (rv.Sw 2 5 (pos 12)) ∷ items.Word (rv.Lw 10 2 (pos 12)) ∷ items.Word (rv.Lw 1 2 (pos 0)) ∷ items.Word (rv.Addi 2 2 (pos 16)) ∷ items.Word (rv.Jalr 0 1 (pos 0)) ∷ [] } ∷
    record { body = record { params = 2; regs = 3; blocks = record { phis = []; code = flat.Icmp (record { 0 = 2 }) cmp.Sle (scalar.Word W8) (operand.Reg (record { 0 = 0 })) (operand.Reg (record { 0 = 1 })) ∷ []; end = ends.Ret (Some (operand.Reg (record { 0 = 2 }))) } ∷ [] }; expected = items.Word (rv.Addi 2 2 (neg_ℤ (pos 16))) ∷ items.Word (rv.Sw 2 1 (pos 0)) ∷ items.Word (rv.Sw 2 10 (pos 4)) ∷ items.Word (rv.Sw 2 11 (pos 8)) ∷ items.Word (rv.Lw 5 2 (pos 4)) ∷ items.Word (rv.Lw 6 2 (pos 8)) ∷ items.Word (rv.Slli 5 5 (pos 24)) ∷ items.Word (rv.Srai 5 5 (pos 24)) ∷ items.Word (rv.Slli 6 6 (pos 24)) ∷ items.Word (rv.Srai 6 6 (pos 24)) ∷ items.Word (rv.Slt 5 6 5) ∷ items.Word (rv.Xori 5 5 (pos 1)) ∷ items.Word (rv.Sw 2 5 (pos 12)) ∷ items.Word (rv.Lw 10 2 (pos 12)) ∷ items.Word (rv.Lw 1 2 (pos 0)) ∷ items.Word (rv.Addi 2 2 (pos 16)) ∷ items.Word (rv.Jalr 0 1 (pos 0)) ∷ [] } ∷
    record { body = record { params = 2; regs = 3; blocks = record { phis = []; code = flat.Icmp (record { 0 = 2 }) cmp.Sle (scalar.Word W16) (operand.Reg (record { 0 = 0 })) (operand.Reg (record { 0 = 1 })) ∷ []; end = ends.Ret (Some (operand.Reg (record { 0 = 2 }))) } ∷ [] }; expected = items.Word (rv.Addi 2 2 (neg_ℤ (pos 16))) ∷ items.Word (rv.Sw 2 1 (pos 0)) ∷ items.Word (rv.Sw 2 10 (pos 4)) ∷ items.Word (rv.Sw 2 11 (pos 8)) ∷ items.Word (rv.Lw 5 2 (pos 4)) ∷ items.Word (rv.Lw 6 2 (pos 8)) ∷ items.Word (rv.Slli 5 5 (pos 16)) ∷ items.Word (rv.Srai 5 5 (pos 16)) ∷ items.Word (rv.Slli 6 6 (pos 16)) ∷ items.Word (rv.Srai 6 6 (pos 16)) ∷ items.Word (rv.Slt 5 6 5) ∷ items.Word (rv.Xori 5 5 (pos 1)) ∷ items.Word (rv.Sw 2 5 (pos 12)) ∷ items.Word (rv.Lw 10 2 (pos 12)) ∷ items.Word (rv.Lw 1 2 (pos 0)) ∷ items.Word (rv.Addi 2 2 (pos 16)) ∷ items.Word (rv.Jalr 0 1 (pos 0)) ∷ [] } ∷
    record { body = record { params = 2; regs = 3; blocks = record { phis = []; code = flat.Icmp (record { 0 = 2 }) cmp.Sle (scalar.Word W32) (operand.Reg (record { 0 = 0 })) (operand.Reg (record { 0 = 1 })) ∷ []; end = ends.Ret (Some (operand.Reg (record { 0 = 2 }))) } ∷ [] }; expected = items.Word (rv.Addi 2 2 (neg_ℤ (pos 16))) ∷ items.Word (rv.Sw 2 1 (pos 0)) ∷ items.Word (rv.Sw 2 10 (pos 4)) ∷ items.Word (rv.Sw 2 11 (pos 8)) ∷ items.Word (rv.Lw 5 2 (pos 4)) ∷ items.Word (rv.Lw 6 2 (pos 8)) ∷ items.Word (rv.Slt 5 6 5) ∷ items.Word (rv.Xori 5 5 (pos 1)) ∷ items.Word (rv.Sw 2 5 (pos 12)) ∷ items.Word (rv.Lw 10 2 (pos 12)) ∷ items.Word (rv.Lw 1 2 (pos 0)) ∷ items.Word (rv.Addi 2 2 (pos 16)) ∷ items.Word (rv.Jalr 0 1 (pos 0)) ∷ [] } ∷
    record { body = record { params = 2; regs = 3; blocks = record { phis = []; code = flat.Icmp (record { 0 = 2 }) cmp.Sle scalar.Pointer (operand.Reg (record { 0 = 0 })) (operand.Reg (record { 0 = 1 })) ∷ []; end = ends.Ret (Some (operand.Reg (record { 0 = 2 }))) } ∷ [] }; expected = items.Word (rv.Addi 2 2 (neg_ℤ (pos 16))) ∷ items.Word (rv.Sw 2 1 (pos 0)) ∷ items.Word (rv.Sw 2 10 (pos 4)) ∷ items.Word (rv.Sw 2 11 (pos 8)) ∷ items.Word (rv.Lw 5 2 (pos 4)) ∷ items.Word (rv.Lw 6 2 (pos 8)) ∷ items.Word (rv.Slt 5 6 5) ∷ items.Word (rv.Xori 5 5 (pos 1)) ∷ items.Word (rv.Sw 2 5 (pos 12)) ∷ items.Word (rv.Lw 10 2 (pos 12)) ∷ items.Word (rv.Lw 1 2 (pos 0)) ∷ items.Word (rv.Addi 2 2 (pos 16)) ∷ items.Word (rv.Jalr 0 1 (pos 0)) ∷ [] } ∷
    []

abbrev pub conversions : List Worked
conversions =
    record { body = record { params = 1; regs = 2; blocks = record { phis = []; code = flat.Cast (record { 0 = 1 }) cast.Zext W1 W8 (operand.Reg (record { 0 = 0 })) ∷ []; end = ends.Ret (Some (operand.Reg (record { 0 = 1 }))) } ∷ [] }; expected = items.Word (rv.Addi 2 2 (neg_ℤ (pos 16))) ∷ items.Word (rv.Sw 2 1 (pos 0)) ∷ items.Word (rv.Sw 2 10 (pos 4)) ∷ items.Word (rv.Lw 5 2 (pos 4)) ∷ items.Word (rv.Sw 2 5 (pos 8)) ∷ items.Word (rv.Lw 10 2 (pos 8)) ∷ items.Word (rv.Lw 1 2 (pos 0)) ∷ items.Word (rv.Addi 2 2 (pos 16)) ∷ items.Word (rv.Jalr 0 1 (pos 0)) ∷ [] } ∷
    record { body = record { params = 1; regs = 2; blocks = record { phis = []; code = flat.Cast (record { 0 = 1 }) cast.Zext W8 W32 (operand.Reg (record { 0 = 0 })) ∷ []; end = ends.Ret (Some (operand.Reg (record { 0 = 1 }))) } ∷ [] }; expected = items.Word (rv.Addi 2 2 (neg_ℤ (pos 16))) ∷ items.Word (rv.Sw 2 1 (pos 0)) ∷ items.Word (rv.Sw 2 10 (pos 4)) ∷ items.Word (rv.Lw 5 2 (pos 4)) ∷ items.Word (rv.Sw 2 5 (pos 8)) ∷ items.Word (rv.Lw 10 2 (pos 8)) ∷ items.Word (rv.Lw 1 2 (pos 0)) ∷ items.Word (rv.Addi 2 2 (pos 16)) ∷ items.Word (rv.Jalr 0 1 (pos 0)) ∷ [] } ∷
    record { body = record { params = 1; regs = 2; blocks = record { phis = []; code = flat.Cast (record { 0 = 1 }) cast.Sext W1 W8 (operand.Reg (record { 0 = 0 })) ∷ []; end = ends.Ret (Some (operand.Reg (record { 0 = 1 }))) } ∷ [] }; expected = items.Word (rv.Addi 2 2 (neg_ℤ (pos 16))) ∷ items.Word (rv.Sw 2 1 (pos 0)) ∷ items.Word (rv.Sw 2 10 (pos 4)) ∷ items.Word (rv.Lw 5 2 (pos 4)) ∷ items.Word (rv.Slli 5 5 (pos 31)) ∷ items.Word (rv.Srai 5 5 (pos 31)) ∷ items.Word (rv.Andi 5 5 (pos 255)) ∷ items.Word (rv.Sw 2 5 (pos 8)) ∷ items.Word (rv.Lw 10 2 (pos 8)) ∷ items.Word (rv.Lw 1 2 (pos 0)) ∷ items.Word (rv.Addi 2 2 (pos 16)) ∷ items.Word (rv.Jalr 0 1 (pos 0)) ∷ [] } ∷
    record { body = record { params = 1; regs = 2; blocks = record { phis = []; code = flat.Cast (record { 0 = 1 }) cast.Sext W1 W32 (operand.Reg (record { 0 = 0 })) ∷ []; end = ends.Ret (Some (operand.Reg (record { 0 = 1 }))) } ∷ [] }; expected = items.Word (rv.Addi 2 2 (neg_ℤ (pos 16))) ∷ items.Word (rv.Sw 2 1 (pos 0)) ∷ items.Word (rv.Sw 2 10 (pos 4)) ∷ items.Word (rv.Lw 5 2 (pos 4)) ∷ items.Word (rv.Slli 5 5 (pos 31)) ∷ items.Word (rv.Srai 5 5 (pos 31)) ∷ items.Word (rv.Sw 2 5 (pos 8)) ∷ items.Word (rv.Lw 10 2 (pos 8)) ∷ items.Word (rv.Lw 1 2 (pos 0)) ∷ items.Word (rv.Addi 2 2 (pos 16)) ∷ items.Word (rv.Jalr 0 1 (pos 0)) ∷ [] } ∷
    record { body = record { params = 1; regs = 2; blocks = record { phis = []; code = flat.Cast (record { 0 = 1 }) cast.Sext W8 W16 (operand.Reg (record { 0 = 0 })) ∷ []; end = ends.Ret (Some (operand.Reg (record { 0 = 1 }))) } ∷ [] }; expected = items.Word (rv.Addi 2 2 (neg_ℤ (pos 16))) ∷ items.Word (rv.Sw 2 1 (pos 0)) ∷ items.Word (rv.Sw 2 10 (pos 4)) ∷ items.Word (rv.Lw 5 2 (pos 4)) ∷ items.Word (rv.Slli 5 5 (pos 24)) ∷ items.Word (rv.Srai 5 5 (pos 24)) ∷ items.Word (rv.Slli 5 5 (pos 16)) ∷ items.Word (rv.Srli 5 5 (pos 16)) ∷ items.Word (rv.Sw 2 5 (pos 8)) ∷ items.Word (rv.Lw 10 2 (pos 8)) ∷ items.Word (rv.Lw 1 2 (pos 0)) ∷ items.Word (rv.Addi 2 2 (pos 16)) ∷ items.Word (rv.Jalr 0 1 (pos 0)) ∷ [] } ∷
    record { body = record { params = 1; regs = 2; blocks = record { phis = []; code = flat.Cast (record { 0 = 1 }) cast.Sext W8 W32 (operand.Reg (record { 0 = 0 })) ∷ []; end = ends.Ret (Some (operand.Reg (record { 0 = 1 }))) } ∷ [] }; expected = items.Word (rv.Addi 2 2 (neg_ℤ (pos 16))) ∷ items.Word (rv.Sw 2 1 (pos 0)) ∷ items.Word (rv.Sw 2 10 (pos 4)) ∷ items.Word (rv.Lw 5 2 (pos 4)) ∷ items.Word (rv.Slli 5 5 (pos 24)) ∷ items.Word (rv.Srai 5 5 (pos 24)) ∷ items.Word (rv.Sw 2 5 (pos 8)) ∷ items.Word (rv.Lw 10 2 (pos 8)) ∷ items.Word (rv.Lw 1 2 (pos 0)) ∷ items.Word (rv.Addi 2 2 (pos 16)) ∷ items.Word (rv.Jalr 0 1 (pos 0)) ∷ [] } ∷
    record { body = record { params = 1; regs = 2; blocks = record { phis = []; code = flat.Cast (record { 0 = 1 }) cast.Sext W16 W32 (operand.Reg (record { 0 = 0 })) ∷ []; end = ends.Ret (Some (operand.Reg (record { 0 = 1 }))) } ∷ [] }; expected = items.Word (rv.Addi 2 2 (neg_ℤ (pos 16))) ∷ items.Word (rv.Sw 2 1 (pos 0)) ∷ items.Word (rv.Sw 2 10 (pos 4)) ∷ items.Word (rv.Lw 5 2 (pos 4)) ∷ items.Word (rv.Slli 5 5 (pos 16)) ∷ items.Word (rv.Srai 5 5 (pos 16)) ∷ items.Word (rv.Sw 2 5 (pos 8)) ∷ items.Word (rv.Lw 10 2 (pos 8)) ∷ items.Word (rv.Lw 1 2 (pos 0)) ∷ items.Word (rv.Addi 2 2 (pos 16)) ∷ items.Word (rv.Jalr 0 1 (pos 0)) ∷ [] } ∷
    record { body = record { params = 1; regs = 2; blocks = record { phis = []; code = flat.Cast (record { 0 = 1 }) cast.Trunc W32 W1 (operand.Reg (record { 0 = 0 })) ∷ []; end = ends.Ret (Some (operand.Reg (record { 0 = 1 }))) } ∷ [] }; expected = items.Word (rv.Addi 2 2 (neg_ℤ (pos 16))) ∷ items.Word (rv.Sw 2 1 (pos 0)) ∷ items.Word (rv.Sw 2 10 (pos 4)) ∷ items.Word (rv.Lw 5 2 (pos 4)) ∷ items.Word (rv.Andi 5 5 (pos 1)) ∷ items.Word (rv.Sw 2 5 (pos 8)) ∷ items.Word (rv.Lw 10 2 (pos 8)) ∷ items.Word (rv.Lw 1 2 (pos 0)) ∷ items.Word (rv.Addi 2 2 (pos 16)) ∷ items.Word (rv.Jalr 0 1 (pos 0)) ∷ [] } ∷
    record { body = record { params = 1; regs = 2; blocks = record { phis = []; code = flat.Cast (record { 0 = 1 }) cast.Trunc W32 W8 (operand.Reg (record { 0 = 0 })) ∷ []; end = ends.Ret (Some (operand.Reg (record { 0 = 1 }))) } ∷ [] }; expected = items.Word (rv.Addi 2 2 (neg_ℤ (pos 16))) ∷ items.Word (rv.Sw 2 1 (pos 0)) ∷ items.Word (rv.Sw 2 10 (pos 4)) ∷ items.Word (rv.Lw 5 2 (pos 4)) ∷ items.Word (rv.Andi 5 5 (pos 255)) ∷ items.Word (rv.Sw 2 5 (pos 8)) ∷ items.Word (rv.Lw 10 2 (pos 8)) ∷ items.Word (rv.Lw 1 2 (pos 0)) ∷ items.Word (rv.Addi 2 2 (pos 16)) ∷ items.Word (rv.Jalr 0 1 (pos 0)) ∷ [] } ∷
    record { body = record { params = 1; regs = 2; blocks = record { phis = []; code = flat.Cast (record { 0 = 1 }) cast.Trunc W32 W16 (operand.Reg (record { 0 = 0 })) ∷ []; end = ends.Ret (Some (operand.Reg (record { 0 = 1 }))) } ∷ [] }; expected = items.Word (rv.Addi 2 2 (neg_ℤ (pos 16))) ∷ items.Word (rv.Sw 2 1 (pos 0)) ∷ items.Word (rv.Sw 2 10 (pos 4)) ∷ items.Word (rv.Lw 5 2 (pos 4)) ∷ items.Word (rv.Slli 5 5 (pos 16)) ∷ items.Word (rv.Srli 5 5 (pos 16)) ∷ items.Word (rv.Sw 2 5 (pos 8)) ∷ items.Word (rv.Lw 10 2 (pos 8)) ∷ items.Word (rv.Lw 1 2 (pos 0)) ∷ items.Word (rv.Addi 2 2 (pos 16)) ∷ items.Word (rv.Jalr 0 1 (pos 0)) ∷ [] } ∷
    record { body = record { params = 1; regs = 2; blocks = record { phis = []; code = flat.Cast (record { 0 = 1 }) cast.Trunc W16 W8 (operand.Reg (record { 0 = 0 })) ∷ []; end = ends.Ret (Some (operand.Reg (record { 0 = 1 }))) } ∷ [] }; expected = items.Word (rv.Addi 2 2 (neg_ℤ (pos 16))) ∷ items.Word (rv.Sw 2 1 (pos 0)) ∷ items.Word (rv.Sw 2 10 (pos 4)) ∷ items.Word (rv.Lw 5 2 (pos 4)) ∷ items.Word (rv.Andi 5 5 (pos 255)) ∷ items.Word (rv.Sw 2 5 (pos 8)) ∷ items.Word (rv.Lw 10 2 (pos 8)) ∷ items.Word (rv.Lw 1 2 (pos 0)) ∷ items.Word (rv.Addi 2 2 (pos 16)) ∷ items.Word (rv.Jalr 0 1 (pos 0)) ∷ [] } ∷
    record { body = record { params = 1; regs = 2; blocks = record { phis = []; code = flat.Cast (record { 0 = 1 }) cast.Trunc W8 W1 (operand.Reg (record { 0 = 0 })) ∷ []; end = ends.Ret (Some (operand.Reg (record { 0 = 1 }))) } ∷ [] }; expected = items.Word (rv.Addi 2 2 (neg_ℤ (pos 16))) ∷ items.Word (rv.Sw 2 1 (pos 0)) ∷ items.Word (rv.Sw 2 10 (pos 4)) ∷ items.Word (rv.Lw 5 2 (pos 4)) ∷ items.Word (rv.Andi 5 5 (pos 1)) ∷ items.Word (rv.Sw 2 5 (pos 8)) ∷ items.Word (rv.Lw 10 2 (pos 8)) ∷ items.Word (rv.Lw 1 2 (pos 0)) ∷ items.Word (rv.Addi 2 2 (pos 16)) ∷ items.Word (rv.Jalr 0 1 (pos 0)) ∷ [] } ∷
    []

abbrev pub loads_and_stores : List Worked
loads_and_stores =
    record { body = record { params = 2; regs = 3; blocks = record { phis = []; code = flat.Load (record { 0 = 2 }) (scalar.Word W1) 4 (operand.Reg (record { 0 = 0 })) ∷ flat.Store (scalar.Word W1) 4 (operand.Reg (record { 0 = 1 })) (operand.Reg (record { 0 = 0 })) ∷ []; end = ends.Ret None } ∷ [] }; expected = items.Word (rv.Addi 2 2 (neg_ℤ (pos 16))) ∷ items.Word (rv.Sw 2 1 (pos 0)) ∷ items.Word (rv.Sw 2 10 (pos 4)) ∷ items.Word (rv.Sw 2 11 (pos 8)) ∷ items.Word (rv.Lw 5 2 (pos 4)) ∷ items.Word (rv.Lbu 5 5 (pos 0)) ∷ items.Word (rv.Sw 2 5 (pos 12)) ∷ items.Word (rv.Lw 5 2 (pos 8)) ∷ items.Word (rv.Lw 6 2 (pos 4)) ∷ items.Word (rv.Sb 6 5 (pos 0)) ∷ items.Word (rv.Lw 1 2 (pos 0)) ∷ items.Word (rv.Addi 2 2 (pos 16)) ∷ items.Word (rv.Jalr 0 1 (pos 0)) ∷ [] } ∷
    record { body = record { params = 2; regs = 3; blocks = record { phis = []; code = flat.Load (record { 0 = 2 }) (scalar.Word W8) 4 (operand.Reg (record { 0 = 0 })) ∷ flat.Store (scalar.Word W8) 4 (operand.Reg (record { 0 = 1 })) (operand.Reg (record { 0 = 0 })) ∷ []; end = ends.Ret None } ∷ [] }; expected = items.Word (rv.Addi 2 2 (neg_ℤ (pos 16))) ∷ items.Word (rv.Sw 2 1 (pos 0)) ∷ items.Word (rv.Sw 2 10 (pos 4)) ∷ items.Word (rv.Sw 2 11 (pos 8)) ∷ items.Word (rv.Lw 5 2 (pos 4)) ∷ items.Word (rv.Lbu 5 5 (pos 0)) ∷ items.Word (rv.Sw 2 5 (pos 12)) ∷ items.Word (rv.Lw 5 2 (pos 8)) ∷ items.Word (rv.Lw 6 2 (pos 4)) ∷ items.Word (rv.Sb 6 5 (pos 0)) ∷ items.Word (rv.Lw 1 2 (pos 0)) ∷ items.Word (rv.Addi 2 2 (pos 16)) ∷ items.Word (rv.Jalr 0 1 (pos 0)) ∷ [] } ∷
    record { body = record { params = 2; regs = 3; blocks = record { phis = []; code = flat.Load (record { 0 = 2 }) (scalar.Word W16) 4 (operand.Reg (record { 0 = 0 })) ∷ flat.Store (scalar.Word W16) 4 (operand.Reg (record { 0 = 1 })) (operand.Reg (record { 0 = 0 })) ∷ []; end = ends.Ret None } ∷ [] }; expected = items.Word (rv.Addi 2 2 (neg_ℤ (pos 16))) ∷ items.Word (rv.Sw 2 1 (pos 0)) ∷ items.Word (rv.Sw 2 10 (pos 4)) ∷ items.Word (rv.Sw 2 11 (pos 8)) ∷ items.Word (rv.Lw 5 2 (pos 4)) ∷ items.Word (rv.Lhu 5 5 (pos 0)) ∷ items.Word (rv.Sw 2 5 (pos 12)) ∷ items.Word (rv.Lw 5 2 (pos 8)) ∷ items.Word (rv.Lw 6 2 (pos 4)) ∷ items.Word (rv.Sh 6 5 (pos 0)) ∷ items.Word (rv.Lw 1 2 (pos 0)) ∷ items.Word (rv.Addi 2 2 (pos 16)) ∷ items.Word (rv.Jalr 0 1 (pos 0)) ∷ [] } ∷
    record { body = record { params = 2; regs = 3; blocks = record { phis = []; code = flat.Load (record { 0 = 2 }) (scalar.Word W32) 4 (operand.Reg (record { 0 = 0 })) ∷ flat.Store (scalar.Word W32) 4 (operand.Reg (record { 0 = 1 })) (operand.Reg (record { 0 = 0 })) ∷ []; end = ends.Ret None } ∷ [] }; expected = items.Word (rv.Addi 2 2 (neg_ℤ (pos 16))) ∷ items.Word (rv.Sw 2 1 (pos 0)) ∷ items.Word (rv.Sw 2 10 (pos 4)) ∷ items.Word (rv.Sw 2 11 (pos 8)) ∷ items.Word (rv.Lw 5 2 (pos 4)) ∷ items.Word (rv.Lw 5 5 (pos 0)) ∷ items.Word (rv.Sw 2 5 (pos 12)) ∷ items.Word (rv.Lw 5 2 (pos 8)) ∷ items.Word (rv.Lw 6 2 (pos 4)) ∷ items.Word (rv.Sw 6 5 (pos 0)) ∷ items.Word (rv.Lw 1 2 (pos 0)) ∷ items.Word (rv.Addi 2 2 (pos 16)) ∷ items.Word (rv.Jalr 0 1 (pos 0)) ∷ [] } ∷
    record { body = record { params = 2; regs = 3; blocks = record { phis = []; code = flat.Load (record { 0 = 2 }) scalar.Pointer 4 (operand.Reg (record { 0 = 0 })) ∷ flat.Store scalar.Pointer 4 (operand.Reg (record { 0 = 1 })) (operand.Reg (record { 0 = 0 })) ∷ []; end = ends.Ret None } ∷ [] }; expected = items.Word (rv.Addi 2 2 (neg_ℤ (pos 16))) ∷ items.Word (rv.Sw 2 1 (pos 0)) ∷ items.Word (rv.Sw 2 10 (pos 4)) ∷ items.Word (rv.Sw 2 11 (pos 8)) ∷ items.Word (rv.Lw 5 2 (pos 4)) ∷ items.Word (rv.Lw 5 5 (pos 0)) ∷ items.Word (rv.Sw 2 5 (pos 12)) ∷ items.Word (rv.Lw 5 2 (pos 8)) ∷ items.Word (rv.Lw 6 2 (pos 4)) ∷ items.Word (rv.Sw 6 5 (pos 0)) ∷ items.Word (rv.Lw 1 2 (pos 0)) ∷ items.Word (rv.Addi 2 2 (pos 16)) ∷ items.Word (rv.Jalr 0 1 (pos 0)) ∷ [] } ∷
    []

abbrev pub words : List Worked
words =
    record { body = record { params = 0; regs = 1; blocks = record { phis = []; code = flat.Copy (record { 0 = 0 }) (operand.Word 0) ∷ []; end = ends.Ret (Some (operand.Reg (record { 0 = 0 }))) } ∷ [] }; expected = items.Word (rv.Addi 2 2 (neg_ℤ (pos 16))) ∷ items.Word (rv.Sw 2 1 (pos 0)) ∷ items.Word (rv.Addi 5 0 (pos 0)) ∷ items.Word (rv.Sw 2 5 (pos 4)) ∷ items.Word (rv.Lw 10 2 (pos 4)) ∷ items.Word (rv.Lw 1 2 (pos 0)) ∷ items.Word (rv.Addi 2 2 (pos 16)) ∷ items.Word (rv.Jalr 0 1 (pos 0)) ∷ [] } ∷
    record { body = record { params = 0; regs = 1; blocks = record { phis = []; code = flat.Copy (record { 0 = 0 }) (operand.Word 1) ∷ []; end = ends.Ret (Some (operand.Reg (record { 0 = 0 }))) } ∷ [] }; expected = items.Word (rv.Addi 2 2 (neg_ℤ (pos 16))) ∷ items.Word (rv.Sw 2 1 (pos 0)) ∷ items.Word (rv.Addi 5 0 (pos 1)) ∷ items.Word (rv.Sw 2 5 (pos 4)) ∷ items.Word (rv.Lw 10 2 (pos 4)) ∷ items.Word (rv.Lw 1 2 (pos 0)) ∷ items.Word (rv.Addi 2 2 (pos 16)) ∷ items.Word (rv.Jalr 0 1 (pos 0)) ∷ [] } ∷
    record { body = record { params = 0; regs = 1; blocks = record { phis = []; code = flat.Copy (record { 0 = 0 }) (operand.Word 2047) ∷ []; end = ends.Ret (Some (operand.Reg (record { 0 = 0 }))) } ∷ [] }; expected = items.Word (rv.Addi 2 2 (neg_ℤ (pos 16))) ∷ items.Word (rv.Sw 2 1 (pos 0)) ∷ items.Word (rv.Addi 5 0 (pos 2047)) ∷ items.Word (rv.Sw 2 5 (pos 4)) ∷ items.Word (rv.Lw 10 2 (pos 4)) ∷ items.Word (rv.Lw 1 2 (pos 0)) ∷ items.Word (rv.Addi 2 2 (pos 16)) ∷ items.Word (rv.Jalr 0 1 (pos 0)) ∷ [] } ∷
    record { body = record { params = 0; regs = 1; blocks = record { phis = []; code = flat.Copy (record { 0 = 0 }) (operand.Word 2048) ∷ []; end = ends.Ret (Some (operand.Reg (record { 0 = 0 }))) } ∷ [] }; expected = items.Word (rv.Addi 2 2 (neg_ℤ (pos 16))) ∷ items.Word (rv.Sw 2 1 (pos 0)) ∷ items.Word (rv.Lui 5 (pos 1)) ∷ items.Word (rv.Addi 5 5 (neg_ℤ (pos 2048))) ∷ items.Word (rv.Sw 2 5 (pos 4)) ∷ items.Word (rv.Lw 10 2 (pos 4)) ∷ items.Word (rv.Lw 1 2 (pos 0)) ∷ items.Word (rv.Addi 2 2 (pos 16)) ∷ items.Word (rv.Jalr 0 1 (pos 0)) ∷ [] } ∷
    record { body = record { params = 0; regs = 1; blocks = record { phis = []; code = flat.Copy (record { 0 = 0 }) (operand.Word 4095) ∷ []; end = ends.Ret (Some (operand.Reg (record { 0 = 0 }))) } ∷ [] }; expected = items.Word (rv.Addi 2 2 (neg_ℤ (pos 16))) ∷ items.Word (rv.Sw 2 1 (pos 0)) ∷ items.Word (rv.Lui 5 (pos 1)) ∷ items.Word (rv.Addi 5 5 (neg_ℤ (pos 1))) ∷ items.Word (rv.Sw 2 5 (pos 4)) ∷ items.Word (rv.Lw 10 2 (pos 4)) ∷ items.Word (rv.Lw 1 2 (pos 0)) ∷ items.Word (rv.Addi 2 2 (pos 16)) ∷ items.Word (rv.Jalr 0 1 (pos 0)) ∷ [] } ∷
    record { body = record { params = 0; regs = 1; blocks = record { phis = []; code = flat.Copy (record { 0 = 0 }) (operand.Word 4096) ∷ []; end = ends.Ret (Some (operand.Reg (record { 0 = 0 }))) } ∷ [] }; expected = items.Word (rv.Addi 2 2 (neg_ℤ (pos 16))) ∷ items.Word (rv.Sw 2 1 (pos 0)) ∷ items.Word (rv.Lui 5 (pos 1)) ∷ items.Word (rv.Sw 2 5 (pos 4)) ∷ items.Word (rv.Lw 10 2 (pos 4)) ∷ items.Word (rv.Lw 1 2 (pos 0)) ∷ items.Word (rv.Addi 2 2 (pos 16)) ∷ items.Word (rv.Jalr 0 1 (pos 0)) ∷ [] } ∷
    record { body = record { params = 0; regs = 1; blocks = record { phis = []; code = flat.Copy (record { 0 = 0 }) (operand.Word 4294967295) ∷ []; end = ends.Ret (Some (operand.Reg (record { 0 = 0 }))) } ∷ [] }; expected = items.Word (rv.Addi 2 2 (neg_ℤ (pos 16))) ∷ items.Word (rv.Sw 2 1 (pos 0)) ∷ items.Word (rv.Addi 5 0 (neg_ℤ (pos 1))) ∷ items.Word (rv.Sw 2 5 (pos 4)) ∷ items.Word (rv.Lw 10 2 (pos 4)) ∷ items.Word (rv.Lw 1 2 (pos 0)) ∷ items.Word (rv.Addi 2 2 (pos 16)) ∷ items.Word (rv.Jalr 0 1 (pos 0)) ∷ [] } ∷
    record { body = record { params = 0; regs = 1; blocks = record { phis = []; code = flat.Copy (record { 0 = 0 }) (operand.Word 4294965248) ∷ []; end = ends.Ret (Some (operand.Reg (record { 0 = 0 }))) } ∷ [] }; expected = items.Word (rv.Addi 2 2 (neg_ℤ (pos 16))) ∷ items.Word (rv.Sw 2 1 (pos 0)) ∷ items.Word (rv.Addi 5 0 (neg_ℤ (pos 2048))) ∷ items.Word (rv.Sw 2 5 (pos 4)) ∷ items.Word (rv.Lw 10 2 (pos 4)) ∷ items.Word (rv.Lw 1 2 (pos 0)) ∷ items.Word (rv.Addi 2 2 (pos 16)) ∷ items.Word (rv.Jalr 0 1 (pos 0)) ∷ [] } ∷
    record { body = record { params = 0; regs = 1; blocks = record { phis = []; code = flat.Copy (record { 0 = 0 }) (operand.Word 4294965247) ∷ []; end = ends.Ret (Some (operand.Reg (record { 0 = 0 }))) } ∷ [] }; expected = items.Word (rv.Addi 2 2 (neg_ℤ (pos 16))) ∷ items.Word (rv.Sw 2 1 (pos 0)) ∷ items.Word (rv.Lui 5 (neg_ℤ (pos 1))) ∷ items.Word (rv.Addi 5 5 (pos 2047)) ∷ items.Word (rv.Sw 2 5 (pos 4)) ∷ items.Word (rv.Lw 10 2 (pos 4)) ∷ items.Word (rv.Lw 1 2 (pos 0)) ∷ items.Word (rv.Addi 2 2 (pos 16)) ∷ items.Word (rv.Jalr 0 1 (pos 0)) ∷ [] } ∷
    record { body = record { params = 0; regs = 1; blocks = record { phis = []; code = flat.Copy (record { 0 = 0 }) (operand.Word 2147483648) ∷ []; end = ends.Ret (Some (operand.Reg (record { 0 = 0 }))) } ∷ [] }; expected = items.Word (rv.Addi 2 2 (neg_ℤ (pos 16))) ∷ items.Word (rv.Sw 2 1 (pos 0)) ∷ items.Word (rv.Lui 5 (neg_ℤ (pos 524288))) ∷ items.Word (rv.Sw 2 5 (pos 4)) ∷ items.Word (rv.Lw 10 2 (pos 4)) ∷ items.Word (rv.Lw 1 2 (pos 0)) ∷ items.Word (rv.Addi 2 2 (pos 16)) ∷ items.Word (rv.Jalr 0 1 (pos 0)) ∷ [] } ∷
    record { body = record { params = 0; regs = 1; blocks = record { phis = []; code = flat.Copy (record { 0 = 0 }) (operand.Word 2147481600) ∷ []; end = ends.Ret (Some (operand.Reg (record { 0 = 0 }))) } ∷ [] }; expected = items.Word (rv.Addi 2 2 (neg_ℤ (pos 16))) ∷ items.Word (rv.Sw 2 1 (pos 0)) ∷ items.Word (rv.Lui 5 (neg_ℤ (pos 524288))) ∷ items.Word (rv.Addi 5 5 (neg_ℤ (pos 2048))) ∷ items.Word (rv.Sw 2 5 (pos 4)) ∷ items.Word (rv.Lw 10 2 (pos 4)) ∷ items.Word (rv.Lw 1 2 (pos 0)) ∷ items.Word (rv.Addi 2 2 (pos 16)) ∷ items.Word (rv.Jalr 0 1 (pos 0)) ∷ [] } ∷
    record { body = record { params = 0; regs = 1; blocks = record { phis = []; code = flat.Copy (record { 0 = 0 }) (operand.Word 305419896) ∷ []; end = ends.Ret (Some (operand.Reg (record { 0 = 0 }))) } ∷ [] }; expected = items.Word (rv.Addi 2 2 (neg_ℤ (pos 16))) ∷ items.Word (rv.Sw 2 1 (pos 0)) ∷ items.Word (rv.Lui 5 (pos 74565)) ∷ items.Word (rv.Addi 5 5 (pos 1656)) ∷ items.Word (rv.Sw 2 5 (pos 4)) ∷ items.Word (rv.Lw 10 2 (pos 4)) ∷ items.Word (rv.Lw 1 2 (pos 0)) ∷ items.Word (rv.Addi 2 2 (pos 16)) ∷ items.Word (rv.Jalr 0 1 (pos 0)) ∷ [] } ∷
    record { body = record { params = 0; regs = 1; blocks = record { phis = []; code = flat.Copy (record { 0 = 0 }) (operand.Word 4294963200) ∷ []; end = ends.Ret (Some (operand.Reg (record { 0 = 0 }))) } ∷ [] }; expected = items.Word (rv.Addi 2 2 (neg_ℤ (pos 16))) ∷ items.Word (rv.Sw 2 1 (pos 0)) ∷ items.Word (rv.Lui 5 (neg_ℤ (pos 1))) ∷ items.Word (rv.Sw 2 5 (pos 4)) ∷ items.Word (rv.Lw 10 2 (pos 4)) ∷ items.Word (rv.Lw 1 2 (pos 0)) ∷ items.Word (rv.Addi 2 2 (pos 16)) ∷ items.Word (rv.Jalr 0 1 (pos 0)) ∷ [] } ∷
    record { body = record { params = 0; regs = 1; blocks = record { phis = []; code = flat.Copy (record { 0 = 0 }) operand.Null ∷ []; end = ends.Ret (Some (operand.Reg (record { 0 = 0 }))) } ∷ [] }; expected = items.Word (rv.Addi 2 2 (neg_ℤ (pos 16))) ∷ items.Word (rv.Sw 2 1 (pos 0)) ∷ items.Word (rv.Addi 5 0 (pos 0)) ∷ items.Word (rv.Sw 2 5 (pos 4)) ∷ items.Word (rv.Lw 10 2 (pos 4)) ∷ items.Word (rv.Lw 1 2 (pos 0)) ∷ items.Word (rv.Addi 2 2 (pos 16)) ∷ items.Word (rv.Jalr 0 1 (pos 0)) ∷ [] } ∷
    record { body = record { params = 0; regs = 1; blocks = record { phis = []; code = flat.Copy (record { 0 = 0 }) operand.Poison ∷ []; end = ends.Ret (Some (operand.Reg (record { 0 = 0 }))) } ∷ [] }; expected = items.Word (rv.Addi 2 2 (neg_ℤ (pos 16))) ∷ items.Word (rv.Sw 2 1 (pos 0)) ∷ items.Word (rv.Addi 5 0 (pos 0)) ∷ items.Word (rv.Sw 2 5 (pos 4)) ∷ items.Word (rv.Lw 10 2 (pos 4)) ∷ items.Word (rv.Lw 1 2 (pos 0)) ∷ items.Word (rv.Addi 2 2 (pos 16)) ∷ items.Word (rv.Jalr 0 1 (pos 0)) ∷ [] } ∷
    record { body = record { params = 0; regs = 1; blocks = record { phis = []; code = flat.Copy (record { 0 = 0 }) (operand.Address 0 0) ∷ []; end = ends.Ret (Some (operand.Reg (record { 0 = 0 }))) } ∷ [] }; expected = items.Word (rv.Addi 2 2 (neg_ℤ (pos 16))) ∷ items.Word (rv.Sw 2 1 (pos 0)) ∷ items.AddressHigh 5 0 0 ∷ items.AddressLow 5 0 0 ∷ items.Word (rv.Sw 2 5 (pos 4)) ∷ items.Word (rv.Lw 10 2 (pos 4)) ∷ items.Word (rv.Lw 1 2 (pos 0)) ∷ items.Word (rv.Addi 2 2 (pos 16)) ∷ items.Word (rv.Jalr 0 1 (pos 0)) ∷ [] } ∷
    record { body = record { params = 0; regs = 1; blocks = record { phis = []; code = flat.Copy (record { 0 = 0 }) (operand.Address 3 4294967295) ∷ []; end = ends.Ret (Some (operand.Reg (record { 0 = 0 }))) } ∷ [] }; expected = items.Word (rv.Addi 2 2 (neg_ℤ (pos 16))) ∷ items.Word (rv.Sw 2 1 (pos 0)) ∷ items.AddressHigh 5 3 4294967295 ∷ items.AddressLow 5 3 4294967295 ∷ items.Word (rv.Sw 2 5 (pos 4)) ∷ items.Word (rv.Lw 10 2 (pos 4)) ∷ items.Word (rv.Lw 1 2 (pos 0)) ∷ items.Word (rv.Addi 2 2 (pos 16)) ∷ items.Word (rv.Jalr 0 1 (pos 0)) ∷ [] } ∷
    []

abbrev pub others : List Worked
others =
    record { body = record { params = 0; regs = 0; blocks = record { phis = []; code = []; end = ends.Ret None } ∷ [] }; expected = items.Word (rv.Addi 2 2 (neg_ℤ (pos 16))) ∷ items.Word (rv.Sw 2 1 (pos 0)) ∷ items.Word (rv.Lw 1 2 (pos 0)) ∷ items.Word (rv.Addi 2 2 (pos 16)) ∷ items.Word (rv.Jalr 0 1 (pos 0)) ∷ [] } ∷
    record { body = record { params = 0; regs = 0; blocks = record { phis = []; code = []; end = ends.Unreachable } ∷ [] }; expected = items.Word (rv.Addi 2 2 (neg_ℤ (pos 16))) ∷ items.Word (rv.Sw 2 1 (pos 0)) ∷ items.Word rv.Ebreak ∷ [] } ∷
    record { body = record { params = 8; regs = 8; blocks = record { phis = []; code = []; end = ends.Ret (Some (operand.Reg (record { 0 = 7 }))) } ∷ [] }; expected = items.Word (rv.Addi 2 2 (neg_ℤ (pos 48))) ∷ items.Word (rv.Sw 2 1 (pos 0)) ∷ items.Word (rv.Sw 2 10 (pos 4)) ∷ items.Word (rv.Sw 2 11 (pos 8)) ∷ items.Word (rv.Sw 2 12 (pos 12)) ∷ items.Word (rv.Sw 2 13 (pos 16)) ∷ items.Word (rv.Sw 2 14 (pos 20)) ∷ items.Word (rv.Sw 2 15 (pos 24)) ∷ items.Word (rv.Sw 2 16 (pos 28)) ∷ items.Word (rv.Sw 2 17 (pos 32)) ∷ items.Word (rv.Lw 10 2 (pos 32)) ∷ items.Word (rv.Lw 1 2 (pos 0)) ∷ items.Word (rv.Addi 2 2 (pos 48)) ∷ items.Word (rv.Jalr 0 1 (pos 0)) ∷ [] } ∷
    record { body = record { params = 1; regs = 1; blocks = record { phis = []; code = []; end = ends.Ret (Some (operand.Word 7)) } ∷ [] }; expected = items.Word (rv.Addi 2 2 (neg_ℤ (pos 16))) ∷ items.Word (rv.Sw 2 1 (pos 0)) ∷ items.Word (rv.Sw 2 10 (pos 4)) ∷ items.Word (rv.Addi 10 0 (pos 7)) ∷ items.Word (rv.Lw 1 2 (pos 0)) ∷ items.Word (rv.Addi 2 2 (pos 16)) ∷ items.Word (rv.Jalr 0 1 (pos 0)) ∷ [] } ∷
    record { body = record { params = 3; regs = 4; blocks = record { phis = []; code = flat.Select (record { 0 = 3 }) (operand.Reg (record { 0 = 0 })) (operand.Reg (record { 0 = 1 })) (operand.Reg (record { 0 = 2 })) ∷ []; end = ends.Ret (Some (operand.Reg (record { 0 = 3 }))) } ∷ [] }; expected = items.Word (rv.Addi 2 2 (neg_ℤ (pos 32))) ∷ items.Word (rv.Sw 2 1 (pos 0)) ∷ items.Word (rv.Sw 2 10 (pos 4)) ∷ items.Word (rv.Sw 2 11 (pos 8)) ∷ items.Word (rv.Sw 2 12 (pos 12)) ∷ items.Word (rv.Lw 5 2 (pos 4)) ∷ items.Word (rv.Lw 6 2 (pos 8)) ∷ items.Word (rv.Lw 7 2 (pos 12)) ∷ items.Word (rv.Bne 5 0 (pos 8)) ∷ items.Word (rv.Addi 6 7 (pos 0)) ∷ items.Word (rv.Sw 2 6 (pos 16)) ∷ items.Word (rv.Lw 10 2 (pos 16)) ∷ items.Word (rv.Lw 1 2 (pos 0)) ∷ items.Word (rv.Addi 2 2 (pos 32)) ∷ items.Word (rv.Jalr 0 1 (pos 0)) ∷ [] } ∷
    record { body = record { params = 0; regs = 2; blocks = record { phis = []; code = flat.Alloca (record { 0 = 0 }) 8 4 ∷ flat.Copy (record { 0 = 1 }) (operand.Reg (record { 0 = 0 })) ∷ flat.Store (scalar.Word W32) 4 (operand.Word 7) (operand.Reg (record { 0 = 0 })) ∷ []; end = ends.Ret (Some (operand.Reg (record { 0 = 1 }))) } ∷ [] }; expected = items.Word (rv.Addi 2 2 (neg_ℤ (pos 16))) ∷ items.Word (rv.Sw 2 1 (pos 0)) ∷ items.Word (rv.Addi 5 2 (pos 8)) ∷ items.Word (rv.Sw 2 5 (pos 4)) ∷ items.Word (rv.Addi 5 0 (pos 7)) ∷ items.Word (rv.Addi 6 2 (pos 8)) ∷ items.Word (rv.Sw 6 5 (pos 0)) ∷ items.Word (rv.Lw 10 2 (pos 4)) ∷ items.Word (rv.Lw 1 2 (pos 0)) ∷ items.Word (rv.Addi 2 2 (pos 16)) ∷ items.Word (rv.Jalr 0 1 (pos 0)) ∷ [] } ∷
    record { body = record { params = 0; regs = 4; blocks = record { phis = []; code = flat.Alloca (record { 0 = 0 }) 2100 4 ∷ flat.Alloca (record { 0 = 1 }) 4 4 ∷ flat.Copy (record { 0 = 2 }) (operand.Reg (record { 0 = 1 })) ∷ flat.Load (record { 0 = 3 }) (scalar.Word W32) 4 (operand.Reg (record { 0 = 2 })) ∷ []; end = ends.Ret (Some (operand.Reg (record { 0 = 1 }))) } ∷ [] }; expected = items.Word (rv.Lui 5 (pos 1)) ∷ items.Word (rv.Addi 5 5 (neg_ℤ (pos 1968))) ∷ items.Word (rv.Sub 2 2 5) ∷ items.Word (rv.Sw 2 1 (pos 0)) ∷ items.Word (rv.Lui 5 (pos 1)) ∷ items.Word (rv.Addi 5 5 (neg_ℤ (pos 1984))) ∷ items.Word (rv.Add 5 5 2) ∷ items.Word (rv.Sw 2 5 (pos 4)) ∷ items.Word (rv.Lw 5 2 (pos 4)) ∷ items.Word (rv.Lw 5 5 (pos 0)) ∷ items.Word (rv.Sw 2 5 (pos 8)) ∷ items.Word (rv.Lui 10 (pos 1)) ∷ items.Word (rv.Addi 10 10 (neg_ℤ (pos 1984))) ∷ items.Word (rv.Add 10 10 2) ∷ items.Word (rv.Lw 1 2 (pos 0)) ∷ items.Word (rv.Lui 5 (pos 1)) ∷ items.Word (rv.Addi 5 5 (neg_ℤ (pos 1968))) ∷ items.Word (rv.Add 2 2 5) ∷ items.Word (rv.Jalr 0 1 (pos 0)) ∷ [] } ∷
    record { body = record { params = 1; regs = 4; blocks = record { phis = []; code = flat.Alloca (record { 0 = 1 }) 2040 16 ∷ flat.Get (Some (record { 0 = 2 })) ∷ flat.Put (Some (record { 0 = 3 })) (operand.Reg (record { 0 = 2 })) ∷ flat.Get None ∷ flat.Put None (operand.Reg (record { 0 = 3 })) ∷ flat.Exit (operand.Reg (record { 0 = 0 })) ∷ []; end = ends.Unreachable } ∷ [] }; expected = items.Word (rv.Lui 5 (pos 1)) ∷ items.Word (rv.Addi 5 5 (neg_ℤ (pos 2032))) ∷ items.Word (rv.Sub 2 2 5) ∷ items.Word (rv.Sw 2 1 (pos 0)) ∷ items.Word (rv.Sw 2 10 (pos 4)) ∷ items.Word (rv.Addi 17 0 (pos 2)) ∷ items.Word rv.Ecall ∷ items.Word (rv.Sw 2 10 (pos 8)) ∷ items.Word (rv.Lw 10 2 (pos 8)) ∷ items.Word (rv.Addi 17 0 (pos 1)) ∷ items.Word rv.Ecall ∷ items.Word (rv.Sw 2 10 (pos 12)) ∷ items.Word (rv.Addi 17 0 (pos 2)) ∷ items.Word rv.Ecall ∷ items.Word (rv.Lw 10 2 (pos 12)) ∷ items.Word (rv.Addi 17 0 (pos 1)) ∷ items.Word rv.Ecall ∷ items.Word (rv.Lw 10 2 (pos 4)) ∷ items.Word (rv.Addi 17 0 (pos 3)) ∷ items.Word rv.Ecall ∷ items.Word rv.Ebreak ∷ [] } ∷
    record { body = record { params = 0; regs = 3; blocks = record { phis = []; code = flat.Alloca (record { 0 = 0 }) 2004 1 ∷ flat.Get (Some (record { 0 = 1 })) ∷ flat.Put (Some (record { 0 = 2 })) (operand.Reg (record { 0 = 1 })) ∷ []; end = ends.Ret (Some (operand.Reg (record { 0 = 2 }))) } ∷ [] }; expected = items.Word (rv.Addi 2 2 (neg_ℤ (pos 2016))) ∷ items.Word (rv.Sw 2 1 (pos 0)) ∷ items.Word (rv.Addi 17 0 (pos 2)) ∷ items.Word rv.Ecall ∷ items.Word (rv.Sw 2 10 (pos 4)) ∷ items.Word (rv.Lw 10 2 (pos 4)) ∷ items.Word (rv.Addi 17 0 (pos 1)) ∷ items.Word rv.Ecall ∷ items.Word (rv.Sw 2 10 (pos 8)) ∷ items.Word (rv.Lw 10 2 (pos 8)) ∷ items.Word (rv.Lw 1 2 (pos 0)) ∷ items.Word (rv.Addi 2 2 (pos 2016)) ∷ items.Word (rv.Jalr 0 1 (pos 0)) ∷ [] } ∷
    record { body = record { params = 0; regs = 3; blocks = record { phis = []; code = flat.Alloca (record { 0 = 0 }) 2020 1 ∷ flat.Get (Some (record { 0 = 1 })) ∷ flat.Put (Some (record { 0 = 2 })) (operand.Reg (record { 0 = 1 })) ∷ []; end = ends.Ret (Some (operand.Reg (record { 0 = 2 }))) } ∷ [] }; expected = items.Word (rv.Addi 2 2 (neg_ℤ (pos 2032))) ∷ items.Word (rv.Sw 2 1 (pos 0)) ∷ items.Word (rv.Addi 17 0 (pos 2)) ∷ items.Word rv.Ecall ∷ items.Word (rv.Sw 2 10 (pos 4)) ∷ items.Word (rv.Lw 10 2 (pos 4)) ∷ items.Word (rv.Addi 17 0 (pos 1)) ∷ items.Word rv.Ecall ∷ items.Word (rv.Sw 2 10 (pos 8)) ∷ items.Word (rv.Lw 10 2 (pos 8)) ∷ items.Word (rv.Lw 1 2 (pos 0)) ∷ items.Word (rv.Addi 2 2 (pos 2032)) ∷ items.Word (rv.Jalr 0 1 (pos 0)) ∷ [] } ∷
    record { body = record { params = 0; regs = 3; blocks = record { phis = []; code = flat.Alloca (record { 0 = 0 }) 65000 8 ∷ flat.Get (Some (record { 0 = 1 })) ∷ flat.Put (Some (record { 0 = 2 })) (operand.Reg (record { 0 = 1 })) ∷ []; end = ends.Ret (Some (operand.Reg (record { 0 = 2 }))) } ∷ [] }; expected = items.Word (rv.Lui 5 (pos 16)) ∷ items.Word (rv.Addi 5 5 (neg_ℤ (pos 512))) ∷ items.Word (rv.Sub 2 2 5) ∷ items.Word (rv.Sw 2 1 (pos 0)) ∷ items.Word (rv.Addi 17 0 (pos 2)) ∷ items.Word rv.Ecall ∷ items.Word (rv.Sw 2 10 (pos 4)) ∷ items.Word (rv.Lw 10 2 (pos 4)) ∷ items.Word (rv.Addi 17 0 (pos 1)) ∷ items.Word rv.Ecall ∷ items.Word (rv.Sw 2 10 (pos 8)) ∷ items.Word (rv.Lw 10 2 (pos 8)) ∷ items.Word (rv.Lw 1 2 (pos 0)) ∷ items.Word (rv.Lui 5 (pos 16)) ∷ items.Word (rv.Addi 5 5 (neg_ℤ (pos 512))) ∷ items.Word (rv.Add 2 2 5) ∷ items.Word (rv.Jalr 0 1 (pos 0)) ∷ [] } ∷
    record { body = record { params = 2; regs = 5; blocks = record { phis = []; code = flat.Gep (record { 0 = 2 }) (operand.Reg (record { 0 = 0 })) 0 ([]) ∷ flat.Gep (record { 0 = 3 }) (operand.Reg (record { 0 = 0 })) 8 (record { operand = (operand.Reg (record { 0 = 1 })); width = W32; stride = 4 } ∷ record { operand = (operand.Word 3); width = W8; stride = 1 } ∷ []) ∷ flat.Gep (record { 0 = 4 }) (operand.Address 1 0) 4294967292 (record { operand = (operand.Reg (record { 0 = 1 })); width = W16; stride = 5000 } ∷ record { operand = (operand.Reg (record { 0 = 1 })); width = W1; stride = 1 } ∷ []) ∷ []; end = ends.Ret (Some (operand.Reg (record { 0 = 4 }))) } ∷ [] }; expected = items.Word (rv.Addi 2 2 (neg_ℤ (pos 32))) ∷ items.Word (rv.Sw 2 1 (pos 0)) ∷ items.Word (rv.Sw 2 10 (pos 4)) ∷ items.Word (rv.Sw 2 11 (pos 8)) ∷ items.Word (rv.Lw 5 2 (pos 4)) ∷ items.Word (rv.Sw 2 5 (pos 12)) ∷ items.Word (rv.Lw 5 2 (pos 4)) ∷ items.Word (rv.Lw 6 2 (pos 8)) ∷ items.Word (rv.Addi 7 0 (pos 4)) ∷ items.Word (rv.Mul 6 6 7) ∷ items.Word (rv.Add 5 5 6) ∷ items.Word (rv.Addi 6 0 (pos 3)) ∷ items.Word (rv.Slli 6 6 (pos 24)) ∷ items.Word (rv.Srai 6 6 (pos 24)) ∷ items.Word (rv.Add 5 5 6) ∷ items.Word (rv.Addi 6 0 (pos 8)) ∷ items.Word (rv.Add 5 5 6) ∷ items.Word (rv.Sw 2 5 (pos 16)) ∷ items.AddressHigh 5 1 0 ∷ items.AddressLow 5 1 0 ∷ items.Word (rv.Lw 6 2 (pos 8)) ∷ items.Word (rv.Slli 6 6 (pos 16)) ∷ items.Word (rv.Srai 6 6 (pos 16)) ∷ items.Word (rv.Lui 7 (pos 1)) ∷ items.Word (rv.Addi 7 7 (pos 904)) ∷ items.Word (rv.Mul 6 6 7) ∷ items.Word (rv.Add 5 5 6) ∷ items.Word (rv.Lw 6 2 (pos 8)) ∷ items.Word (rv.Slli 6 6 (pos 31)) ∷ items.Word (rv.Srai 6 6 (pos 31)) ∷ items.Word (rv.Add 5 5 6) ∷ items.Word (rv.Addi 6 0 (neg_ℤ (pos 4))) ∷ items.Word (rv.Add 5 5 6) ∷ items.Word (rv.Sw 2 5 (pos 20)) ∷ items.Word (rv.Lw 10 2 (pos 20)) ∷ items.Word (rv.Lw 1 2 (pos 0)) ∷ items.Word (rv.Addi 2 2 (pos 32)) ∷ items.Word (rv.Jalr 0 1 (pos 0)) ∷ [] } ∷
    record { body = record { params = 1; regs = 3; blocks = record { phis = []; code = flat.Call (Some (record { 0 = 1 })) (record { 0 = 2 }) ((operand.Reg (record { 0 = 0 })) ∷ (operand.Word 5) ∷ (operand.Address 0 4) ∷ []) ∷ flat.Call None (record { 0 = 0 }) ([]) ∷ flat.Call (Some (record { 0 = 2 })) (record { 0 = 1 }) ((operand.Reg (record { 0 = 1 })) ∷ (operand.Reg (record { 0 = 1 })) ∷ (operand.Reg (record { 0 = 1 })) ∷ (operand.Reg (record { 0 = 1 })) ∷ operand.Null ∷ operand.Poison ∷ (operand.Word 4096) ∷ (operand.Word 1) ∷ []) ∷ []; end = ends.Ret (Some (operand.Reg (record { 0 = 2 }))) } ∷ [] }; expected = items.Word (rv.Addi 2 2 (neg_ℤ (pos 16))) ∷ items.Word (rv.Sw 2 1 (pos 0)) ∷ items.Word (rv.Sw 2 10 (pos 4)) ∷ items.Word (rv.Lw 10 2 (pos 4)) ∷ items.Word (rv.Addi 11 0 (pos 5)) ∷ items.AddressHigh 12 0 4 ∷ items.AddressLow 12 0 4 ∷ items.CallHigh (record { 0 = 2 }) ∷ items.CallLow (record { 0 = 2 }) ∷ items.Word (rv.Sw 2 10 (pos 8)) ∷ items.CallHigh (record { 0 = 0 }) ∷ items.CallLow (record { 0 = 0 }) ∷ items.Word (rv.Lw 10 2 (pos 8)) ∷ items.Word (rv.Lw 11 2 (pos 8)) ∷ items.Word (rv.Lw 12 2 (pos 8)) ∷ items.Word (rv.Lw 13 2 (pos 8)) ∷ items.Word (rv.Addi 14 0 (pos 0)) ∷ items.Word (rv.Addi 15 0 (pos 0)) ∷ items.Word (rv.Lui 16 (pos 1)) ∷ items.Word (rv.Addi 17 0 (pos 1)) ∷ items.CallHigh (record { 0 = 1 }) ∷ items.CallLow (record { 0 = 1 }) ∷ items.Word (rv.Sw 2 10 (pos 12)) ∷ items.Word (rv.Lw 10 2 (pos 12)) ∷ items.Word (rv.Lw 1 2 (pos 0)) ∷ items.Word (rv.Addi 2 2 (pos 16)) ∷ items.Word (rv.Jalr 0 1 (pos 0)) ∷ [] } ∷
    record { body = record { params = 0; regs = 4; blocks = record { phis = []; code = []; end = ends.Br (record { 0 = 1 }) } ∷ record { phis = record { reg = (record { 0 = 0 }); entries = record { from = (record { 0 = 0 }); value = (operand.Word 1) } ∷ record { from = (record { 0 = 1 }); value = (operand.Reg (record { 0 = 1 })) } ∷ [] } ∷ record { reg = (record { 0 = 1 }); entries = record { from = (record { 0 = 0 }); value = (operand.Word 2) } ∷ record { from = (record { 0 = 1 }); value = (operand.Reg (record { 0 = 0 })) } ∷ [] } ∷ record { reg = (record { 0 = 2 }); entries = record { from = (record { 0 = 0 }); value = (operand.Word 0) } ∷ record { from = (record { 0 = 1 }); value = (operand.Reg (record { 0 = 3 })) } ∷ [] } ∷ []; code = flat.Bin (record { 0 = 3 }) op.Add W32 (operand.Reg (record { 0 = 2 })) (operand.Word 1) ∷ []; end = ends.Cond (operand.Reg (record { 0 = 3 })) (record { 0 = 2 }) (record { 0 = 1 }) } ∷ record { phis = []; code = []; end = ends.Ret (Some (operand.Reg (record { 0 = 0 }))) } ∷ [] }; expected = items.Word (rv.Addi 2 2 (neg_ℤ (pos 32))) ∷ items.Word (rv.Sw 2 1 (pos 0)) ∷ items.Word (rv.Addi 5 0 (pos 1)) ∷ items.Word (rv.Sw 2 5 (pos 8)) ∷ items.Word (rv.Addi 5 0 (pos 2)) ∷ items.Word (rv.Sw 2 5 (pos 16)) ∷ items.Word (rv.Addi 5 0 (pos 0)) ∷ items.Word (rv.Sw 2 5 (pos 24)) ∷ items.Word (rv.Lw 5 2 (pos 8)) ∷ items.Word (rv.Sw 2 5 (pos 4)) ∷ items.Word (rv.Lw 5 2 (pos 16)) ∷ items.Word (rv.Sw 2 5 (pos 12)) ∷ items.Word (rv.Lw 5 2 (pos 24)) ∷ items.Word (rv.Sw 2 5 (pos 20)) ∷ items.Word (rv.Lw 5 2 (pos 20)) ∷ items.Word (rv.Addi 6 0 (pos 1)) ∷ items.Word (rv.Add 5 5 6) ∷ items.Word (rv.Sw 2 5 (pos 28)) ∷ items.Word (rv.Lw 5 2 (pos 12)) ∷ items.Word (rv.Sw 2 5 (pos 8)) ∷ items.Word (rv.Lw 5 2 (pos 4)) ∷ items.Word (rv.Sw 2 5 (pos 16)) ∷ items.Word (rv.Lw 5 2 (pos 28)) ∷ items.Word (rv.Sw 2 5 (pos 24)) ∷ items.Word (rv.Lw 5 2 (pos 28)) ∷ items.Word (rv.Beq 5 0 (neg_ℤ (pos 68))) ∷ items.Word (rv.Lw 10 2 (pos 4)) ∷ items.Word (rv.Lw 1 2 (pos 0)) ∷ items.Word (rv.Addi 2 2 (pos 32)) ∷ items.Word (rv.Jalr 0 1 (pos 0)) ∷ [] } ∷
    record { body = record { params = 1; regs = 2; blocks = record { phis = []; code = []; end = ends.Cond (operand.Reg (record { 0 = 0 })) (record { 0 = 1 }) (record { 0 = 2 }) } ∷ record { phis = []; code = []; end = ends.Ret (Some (operand.Word 1)) } ∷ record { phis = []; code = []; end = ends.Ret (Some (operand.Word 2)) } ∷ [] }; expected = items.Word (rv.Addi 2 2 (neg_ℤ (pos 16))) ∷ items.Word (rv.Sw 2 1 (pos 0)) ∷ items.Word (rv.Sw 2 10 (pos 4)) ∷ items.Word (rv.Lw 5 2 (pos 4)) ∷ items.Word (rv.Beq 5 0 (pos 20)) ∷ items.Word (rv.Addi 10 0 (pos 1)) ∷ items.Word (rv.Lw 1 2 (pos 0)) ∷ items.Word (rv.Addi 2 2 (pos 16)) ∷ items.Word (rv.Jalr 0 1 (pos 0)) ∷ items.Word (rv.Addi 10 0 (pos 2)) ∷ items.Word (rv.Lw 1 2 (pos 0)) ∷ items.Word (rv.Addi 2 2 (pos 16)) ∷ items.Word (rv.Jalr 0 1 (pos 0)) ∷ [] } ∷
    record { body = record { params = 1; regs = 2; blocks = record { phis = []; code = []; end = ends.Cond (operand.Reg (record { 0 = 0 })) (record { 0 = 2 }) (record { 0 = 1 }) } ∷ record { phis = []; code = []; end = ends.Ret (Some (operand.Word 1)) } ∷ record { phis = []; code = []; end = ends.Ret (Some (operand.Word 2)) } ∷ [] }; expected = items.Word (rv.Addi 2 2 (neg_ℤ (pos 16))) ∷ items.Word (rv.Sw 2 1 (pos 0)) ∷ items.Word (rv.Sw 2 10 (pos 4)) ∷ items.Word (rv.Lw 5 2 (pos 4)) ∷ items.Word (rv.Bne 5 0 (pos 20)) ∷ items.Word (rv.Addi 10 0 (pos 1)) ∷ items.Word (rv.Lw 1 2 (pos 0)) ∷ items.Word (rv.Addi 2 2 (pos 16)) ∷ items.Word (rv.Jalr 0 1 (pos 0)) ∷ items.Word (rv.Addi 10 0 (pos 2)) ∷ items.Word (rv.Lw 1 2 (pos 0)) ∷ items.Word (rv.Addi 2 2 (pos 16)) ∷ items.Word (rv.Jalr 0 1 (pos 0)) ∷ [] } ∷
    record { body = record { params = 1; regs = 1; blocks = record { phis = []; code = []; end = ends.Br (record { 0 = 2 }) } ∷ record { phis = []; code = []; end = ends.Ret None } ∷ record { phis = []; code = []; end = ends.Br (record { 0 = 1 }) } ∷ [] }; expected = items.Word (rv.Addi 2 2 (neg_ℤ (pos 16))) ∷ items.Word (rv.Sw 2 1 (pos 0)) ∷ items.Word (rv.Sw 2 10 (pos 4)) ∷ items.Word (rv.Jal 0 (pos 16)) ∷ items.Word (rv.Lw 1 2 (pos 0)) ∷ items.Word (rv.Addi 2 2 (pos 16)) ∷ items.Word (rv.Jalr 0 1 (pos 0)) ∷ items.Word (rv.Jal 0 (neg_ℤ (pos 12))) ∷ [] } ∷
    record { body = record { params = 1; regs = 2; blocks = record { phis = []; code = []; end = ends.Switch (operand.Reg (record { 0 = 0 })) W8 (record { word = 1; to = (record { 0 = 1 }) } ∷ record { word = 255; to = (record { 0 = 2 }) } ∷ record { word = 0; to = (record { 0 = 1 }) } ∷ []) (record { 0 = 3 }) } ∷ record { phis = []; code = []; end = ends.Br (record { 0 = 3 }) } ∷ record { phis = []; code = []; end = ends.Br (record { 0 = 3 }) } ∷ record { phis = record { reg = (record { 0 = 1 }); entries = record { from = (record { 0 = 0 }); value = (operand.Word 9) } ∷ record { from = (record { 0 = 1 }); value = (operand.Word 8) } ∷ record { from = (record { 0 = 2 }); value = (operand.Word 7) } ∷ [] } ∷ []; code = []; end = ends.Ret (Some (operand.Reg (record { 0 = 1 }))) } ∷ [] }; expected = items.Word (rv.Addi 2 2 (neg_ℤ (pos 16))) ∷ items.Word (rv.Sw 2 1 (pos 0)) ∷ items.Word (rv.Sw 2 10 (pos 4)) ∷ items.Word (rv.Addi 5 0 (pos 9)) ∷ items.Word (rv.Sw 2 5 (pos 12)) ∷ items.Word (rv.Lw 5 2 (pos 4)) ∷ items.Word (rv.Addi 6 0 (pos 1)) ∷ items.Word (rv.Beq 5 6 (pos 24)) ∷ items.Word (rv.Addi 6 0 (pos 255)) ∷ items.Word (rv.Beq 5 6 (pos 28)) ∷ items.Word (rv.Addi 6 0 (pos 0)) ∷ items.Word (rv.Beq 5 6 (pos 8)) ∷ items.Word (rv.Jal 0 (pos 24)) ∷ items.Word (rv.Addi 5 0 (pos 8)) ∷ items.Word (rv.Sw 2 5 (pos 12)) ∷ items.Word (rv.Jal 0 (pos 12)) ∷ items.Word (rv.Addi 5 0 (pos 7)) ∷ items.Word (rv.Sw 2 5 (pos 12)) ∷ items.Word (rv.Lw 5 2 (pos 12)) ∷ items.Word (rv.Sw 2 5 (pos 8)) ∷ items.Word (rv.Lw 10 2 (pos 8)) ∷ items.Word (rv.Lw 1 2 (pos 0)) ∷ items.Word (rv.Addi 2 2 (pos 16)) ∷ items.Word (rv.Jalr 0 1 (pos 0)) ∷ [] } ∷
    record { body = record { params = 1; regs = 2; blocks = record { phis = []; code = []; end = ends.Switch (operand.Reg (record { 0 = 0 })) W32 ([]) (record { 0 = 1 }) } ∷ record { phis = []; code = []; end = ends.Ret None } ∷ [] }; expected = items.Word (rv.Addi 2 2 (neg_ℤ (pos 16))) ∷ items.Word (rv.Sw 2 1 (pos 0)) ∷ items.Word (rv.Sw 2 10 (pos 4)) ∷ items.Word (rv.Lw 5 2 (pos 4)) ∷ items.Word (rv.Lw 1 2 (pos 0)) ∷ items.Word (rv.Addi 2 2 (pos 16)) ∷ items.Word (rv.Jalr 0 1 (pos 0)) ∷ [] } ∷
    record { body = record { params = 1; regs = 3; blocks = record { phis = []; code = []; end = ends.Switch (operand.Reg (record { 0 = 0 })) W32 (record { word = 4096; to = (record { 0 = 1 }) } ∷ record { word = 5; to = (record { 0 = 2 }) } ∷ record { word = 4294967295; to = (record { 0 = 1 }) } ∷ []) (record { 0 = 2 }) } ∷ record { phis = record { reg = (record { 0 = 1 }); entries = record { from = (record { 0 = 0 }); value = (operand.Reg (record { 0 = 0 })) } ∷ [] } ∷ []; code = []; end = ends.Ret (Some (operand.Reg (record { 0 = 1 }))) } ∷ record { phis = record { reg = (record { 0 = 2 }); entries = record { from = (record { 0 = 0 }); value = (operand.Word 4) } ∷ [] } ∷ []; code = []; end = ends.Ret (Some (operand.Reg (record { 0 = 2 }))) } ∷ [] }; expected = items.Word (rv.Addi 2 2 (neg_ℤ (pos 32))) ∷ items.Word (rv.Sw 2 1 (pos 0)) ∷ items.Word (rv.Sw 2 10 (pos 4)) ∷ items.Word (rv.Lw 5 2 (pos 4)) ∷ items.Word (rv.Sw 2 5 (pos 12)) ∷ items.Word (rv.Addi 5 0 (pos 4)) ∷ items.Word (rv.Sw 2 5 (pos 20)) ∷ items.Word (rv.Lw 5 2 (pos 4)) ∷ items.Word (rv.Lui 6 (pos 1)) ∷ items.Word (rv.Beq 5 6 (pos 24)) ∷ items.Word (rv.Addi 6 0 (pos 5)) ∷ items.Word (rv.Beq 5 6 (pos 40)) ∷ items.Word (rv.Addi 6 0 (neg_ℤ (pos 1))) ∷ items.Word (rv.Beq 5 6 (pos 8)) ∷ items.Word (rv.Jal 0 (pos 28)) ∷ items.Word (rv.Lw 5 2 (pos 12)) ∷ items.Word (rv.Sw 2 5 (pos 8)) ∷ items.Word (rv.Lw 10 2 (pos 8)) ∷ items.Word (rv.Lw 1 2 (pos 0)) ∷ items.Word (rv.Addi 2 2 (pos 32)) ∷ items.Word (rv.Jalr 0 1 (pos 0)) ∷ items.Word (rv.Lw 5 2 (pos 20)) ∷ items.Word (rv.Sw 2 5 (pos 16)) ∷ items.Word (rv.Lw 10 2 (pos 16)) ∷ items.Word (rv.Lw 1 2 (pos 0)) ∷ items.Word (rv.Addi 2 2 (pos 32)) ∷ items.Word (rv.Jalr 0 1 (pos 0)) ∷ [] } ∷
    record { body = record { params = 1; regs = 3; blocks = record { phis = []; code = []; end = ends.Cond (operand.Reg (record { 0 = 0 })) (record { 0 = 1 }) (record { 0 = 1 }) } ∷ record { phis = record { reg = (record { 0 = 1 }); entries = record { from = (record { 0 = 0 }); value = (operand.Word 5) } ∷ record { from = (record { 0 = 0 }); value = (operand.Word 5) } ∷ [] } ∷ record { reg = (record { 0 = 2 }); entries = record { from = (record { 0 = 0 }); value = (operand.Word 6) } ∷ record { from = (record { 0 = 0 }); value = (operand.Word 6) } ∷ [] } ∷ []; code = []; end = ends.Br (record { 0 = 2 }) } ∷ record { phis = []; code = []; end = ends.Br (record { 0 = 2 }) } ∷ [] }; expected = items.Word (rv.Addi 2 2 (neg_ℤ (pos 32))) ∷ items.Word (rv.Sw 2 1 (pos 0)) ∷ items.Word (rv.Sw 2 10 (pos 4)) ∷ items.Word (rv.Addi 5 0 (pos 5)) ∷ items.Word (rv.Sw 2 5 (pos 12)) ∷ items.Word (rv.Addi 5 0 (pos 6)) ∷ items.Word (rv.Sw 2 5 (pos 20)) ∷ items.Word (rv.Lw 5 2 (pos 4)) ∷ items.Word (rv.Beq 5 0 (pos 4)) ∷ items.Word (rv.Lw 5 2 (pos 12)) ∷ items.Word (rv.Sw 2 5 (pos 8)) ∷ items.Word (rv.Lw 5 2 (pos 20)) ∷ items.Word (rv.Sw 2 5 (pos 16)) ∷ items.Word (rv.Jal 0 (pos 0)) ∷ [] } ∷
    []

abbrev pub far_homes : List WorkedFar
far_homes =
    record { frame = record { bytes = 65536; homes = home.InSlot 2044 ∷ home.InSlot 2048 ∷ home.InSlot 4096 ∷ [] }; body = record { params = 2; regs = 3; blocks = record { phis = []; code = flat.Bin (record { 0 = 2 }) op.Add W32 (operand.Reg (record { 0 = 0 })) (operand.Reg (record { 0 = 1 })) ∷ []; end = ends.Ret (Some (operand.Reg (record { 0 = 2 }))) } ∷ [] }; expected = items.Word (rv.Lui 5 (pos 16)) ∷ items.Word (rv.Addi 5 5 (pos 0)) ∷ items.Word (rv.Sub 2 2 5) ∷ items.Word (rv.Sw 2 1 (pos 0)) ∷ items.Word (rv.Sw 2 10 (pos 2044)) ∷ items.Word (rv.Lui 7 (pos 1)) ∷ items.Word (rv.Add 7 7 2) ∷ items.Word (rv.Sw 7 11 (neg_ℤ (pos 2048))) ∷ items.Word (rv.Lw 5 2 (pos 2044)) ∷ items.Word (rv.Lui 6 (pos 1)) ∷ items.Word (rv.Add 6 6 2) ∷ items.Word (rv.Lw 6 6 (neg_ℤ (pos 2048))) ∷ items.Word (rv.Add 5 5 6) ∷ items.Word (rv.Lui 7 (pos 1)) ∷ items.Word (rv.Add 7 7 2) ∷ items.Word (rv.Sw 7 5 (pos 0)) ∷ items.Word (rv.Lui 10 (pos 1)) ∷ items.Word (rv.Add 10 10 2) ∷ items.Word (rv.Lw 10 10 (pos 0)) ∷ items.Word (rv.Lw 1 2 (pos 0)) ∷ items.Word (rv.Lui 5 (pos 16)) ∷ items.Word (rv.Addi 5 5 (pos 0)) ∷ items.Word (rv.Add 2 2 5) ∷ items.Word (rv.Jalr 0 1 (pos 0)) ∷ [] } ∷
    record { frame = record { bytes = 65536; homes = home.InSlot 2044 ∷ home.InSlot 2048 ∷ home.InSlot 4096 ∷ [] }; body = record { params = 2; regs = 3; blocks = record { phis = []; code = flat.Bin (record { 0 = 2 }) op.Sub W16 (operand.Reg (record { 0 = 0 })) (operand.Reg (record { 0 = 1 })) ∷ []; end = ends.Ret (Some (operand.Reg (record { 0 = 2 }))) } ∷ [] }; expected = items.Word (rv.Lui 5 (pos 16)) ∷ items.Word (rv.Addi 5 5 (pos 0)) ∷ items.Word (rv.Sub 2 2 5) ∷ items.Word (rv.Sw 2 1 (pos 0)) ∷ items.Word (rv.Sw 2 10 (pos 2044)) ∷ items.Word (rv.Lui 7 (pos 1)) ∷ items.Word (rv.Add 7 7 2) ∷ items.Word (rv.Sw 7 11 (neg_ℤ (pos 2048))) ∷ items.Word (rv.Lw 5 2 (pos 2044)) ∷ items.Word (rv.Lui 6 (pos 1)) ∷ items.Word (rv.Add 6 6 2) ∷ items.Word (rv.Lw 6 6 (neg_ℤ (pos 2048))) ∷ items.Word (rv.Sub 5 5 6) ∷ items.Word (rv.Slli 5 5 (pos 16)) ∷ items.Word (rv.Srli 5 5 (pos 16)) ∷ items.Word (rv.Lui 7 (pos 1)) ∷ items.Word (rv.Add 7 7 2) ∷ items.Word (rv.Sw 7 5 (pos 0)) ∷ items.Word (rv.Lui 10 (pos 1)) ∷ items.Word (rv.Add 10 10 2) ∷ items.Word (rv.Lw 10 10 (pos 0)) ∷ items.Word (rv.Lw 1 2 (pos 0)) ∷ items.Word (rv.Lui 5 (pos 16)) ∷ items.Word (rv.Addi 5 5 (pos 0)) ∷ items.Word (rv.Add 2 2 5) ∷ items.Word (rv.Jalr 0 1 (pos 0)) ∷ [] } ∷
    record { frame = record { bytes = 65536; homes = home.InSlot 2044 ∷ home.InSlot 2048 ∷ home.InSlot 4096 ∷ [] }; body = record { params = 2; regs = 3; blocks = record { phis = []; code = flat.Bin (record { 0 = 2 }) op.Sub W32 (operand.Reg (record { 0 = 0 })) (operand.Reg (record { 0 = 1 })) ∷ []; end = ends.Ret (Some (operand.Reg (record { 0 = 2 }))) } ∷ [] }; expected = items.Word (rv.Lui 5 (pos 16)) ∷ items.Word (rv.Addi 5 5 (pos 0)) ∷ items.Word (rv.Sub 2 2 5) ∷ items.Word (rv.Sw 2 1 (pos 0)) ∷ items.Word (rv.Sw 2 10 (pos 2044)) ∷ items.Word (rv.Lui 7 (pos 1)) ∷ items.Word (rv.Add 7 7 2) ∷ items.Word (rv.Sw 7 11 (neg_ℤ (pos 2048))) ∷ items.Word (rv.Lw 5 2 (pos 2044)) ∷ items.Word (rv.Lui 6 (pos 1)) ∷ items.Word (rv.Add 6 6 2) ∷ items.Word (rv.Lw 6 6 (neg_ℤ (pos 2048))) ∷ items.Word (rv.Sub 5 5 6) ∷ items.Word (rv.Lui 7 (pos 1)) ∷ items.Word (rv.Add 7 7 2) ∷ items.Word (rv.Sw 7 5 (pos 0)) ∷ items.Word (rv.Lui 10 (pos 1)) ∷ items.Word (rv.Add 10 10 2) ∷ items.Word (rv.Lw 10 10 (pos 0)) ∷ items.Word (rv.Lw 1 2 (pos 0)) ∷ items.Word (rv.Lui 5 (pos 16)) ∷ items.Word (rv.Addi 5 5 (pos 0)) ∷ items.Word (rv.Add 2 2 5) ∷ items.Word (rv.Jalr 0 1 (pos 0)) ∷ [] } ∷
    record { frame = record { bytes = 65536; homes = home.InSlot 2044 ∷ home.InSlot 2048 ∷ home.InSlot 4096 ∷ [] }; body = record { params = 2; regs = 3; blocks = record { phis = []; code = flat.Bin (record { 0 = 2 }) op.Mul W32 (operand.Reg (record { 0 = 0 })) (operand.Reg (record { 0 = 1 })) ∷ []; end = ends.Ret (Some (operand.Reg (record { 0 = 2 }))) } ∷ [] }; expected = items.Word (rv.Lui 5 (pos 16)) ∷ items.Word (rv.Addi 5 5 (pos 0)) ∷ items.Word (rv.Sub 2 2 5) ∷ items.Word (rv.Sw 2 1 (pos 0)) ∷ items.Word (rv.Sw 2 10 (pos 2044)) ∷ items.Word (rv.Lui 7 (pos 1)) ∷ items.Word (rv.Add 7 7 2) ∷ items.Word (rv.Sw 7 11 (neg_ℤ (pos 2048))) ∷ items.Word (rv.Lw 5 2 (pos 2044)) ∷ items.Word (rv.Lui 6 (pos 1)) ∷ items.Word (rv.Add 6 6 2) ∷ items.Word (rv.Lw 6 6 (neg_ℤ (pos 2048))) ∷ items.Word (rv.Mul 5 5 6) ∷ items.Word (rv.Lui 7 (pos 1)) ∷ items.Word (rv.Add 7 7 2) ∷ items.Word (rv.Sw 7 5 (pos 0)) ∷ items.Word (rv.Lui 10 (pos 1)) ∷ items.Word (rv.Add 10 10 2) ∷ items.Word (rv.Lw 10 10 (pos 0)) ∷ items.Word (rv.Lw 1 2 (pos 0)) ∷ items.Word (rv.Lui 5 (pos 16)) ∷ items.Word (rv.Addi 5 5 (pos 0)) ∷ items.Word (rv.Add 2 2 5) ∷ items.Word (rv.Jalr 0 1 (pos 0)) ∷ [] } ∷
    record { frame = record { bytes = 65536; homes = home.InSlot 2044 ∷ home.InSlot 2048 ∷ home.InSlot 4096 ∷ [] }; body = record { params = 2; regs = 3; blocks = record { phis = []; code = flat.Bin (record { 0 = 2 }) op.Udiv W32 (operand.Reg (record { 0 = 0 })) (operand.Reg (record { 0 = 1 })) ∷ []; end = ends.Ret (Some (operand.Reg (record { 0 = 2 }))) } ∷ [] }; expected = items.Word (rv.Lui 5 (pos 16)) ∷ items.Word (rv.Addi 5 5 (pos 0)) ∷ items.Word (rv.Sub 2 2 5) ∷ items.Word (rv.Sw 2 1 (pos 0)) ∷ items.Word (rv.Sw 2 10 (pos 2044)) ∷ items.Word (rv.Lui 7 (pos 1)) ∷ items.Word (rv.Add 7 7 2) ∷ items.Word (rv.Sw 7 11 (neg_ℤ (pos 2048))) ∷ items.Word (rv.Lw 5 2 (pos 2044)) ∷ items.Word (rv.Lui 6 (pos 1)) ∷ items.Word (rv.Add 6 6 2) ∷ items.Word (rv.Lw 6 6 (neg_ℤ (pos 2048))) ∷ items.Word (rv.Divu 5 5 6) ∷ items.Word (rv.Lui 7 (pos 1)) ∷ items.Word (rv.Add 7 7 2) ∷ items.Word (rv.Sw 7 5 (pos 0)) ∷ items.Word (rv.Lui 10 (pos 1)) ∷ items.Word (rv.Add 10 10 2) ∷ items.Word (rv.Lw 10 10 (pos 0)) ∷ items.Word (rv.Lw 1 2 (pos 0)) ∷ items.Word (rv.Lui 5 (pos 16)) ∷ items.Word (rv.Addi 5 5 (pos 0)) ∷ items.Word (rv.Add 2 2 5) ∷ items.Word (rv.Jalr 0 1 (pos 0)) ∷ [] } ∷
    record { frame = record { bytes = 65536; homes = home.InSlot 2044 ∷ home.InSlot 2048 ∷ home.InSlot 4096 ∷ [] }; body = record { params = 2; regs = 3; blocks = record { phis = []; code = flat.Bin (record { 0 = 2 }) op.Sdiv W32 (operand.Reg (record { 0 = 0 })) (operand.Reg (record { 0 = 1 })) ∷ []; end = ends.Ret (Some (operand.Reg (record { 0 = 2 }))) } ∷ [] }; expected = items.Word (rv.Lui 5 (pos 16)) ∷ items.Word (rv.Addi 5 5 (pos 0)) ∷ items.Word (rv.Sub 2 2 5) ∷ items.Word (rv.Sw 2 1 (pos 0)) ∷ items.Word (rv.Sw 2 10 (pos 2044)) ∷ items.Word (rv.Lui 7 (pos 1)) ∷ items.Word (rv.Add 7 7 2) ∷ items.Word (rv.Sw 7 11 (neg_ℤ (pos 2048))) ∷ items.Word (rv.Lw 5 2 (pos 2044)) ∷ items.Word (rv.Lui 6 (pos 1)) ∷ items.Word (rv.Add 6 6 2) ∷ items.Word (rv.Lw 6 6 (neg_ℤ (pos 2048))) ∷ items.Word (rv.Div 5 5 6) ∷ items.Word (rv.Lui 7 (pos 1)) ∷ items.Word (rv.Add 7 7 2) ∷ items.Word (rv.Sw 7 5 (pos 0)) ∷ items.Word (rv.Lui 10 (pos 1)) ∷ items.Word (rv.Add 10 10 2) ∷ items.Word (rv.Lw 10 10 (pos 0)) ∷ items.Word (rv.Lw 1 2 (pos 0)) ∷ items.Word (rv.Lui 5 (pos 16)) ∷ items.Word (rv.Addi 5 5 (pos 0)) ∷ items.Word (rv.Add 2 2 5) ∷ items.Word (rv.Jalr 0 1 (pos 0)) ∷ [] } ∷
    record { frame = record { bytes = 65536; homes = home.InSlot 2044 ∷ home.InSlot 2048 ∷ home.InSlot 4096 ∷ [] }; body = record { params = 2; regs = 3; blocks = record { phis = []; code = flat.Bin (record { 0 = 2 }) op.Urem W32 (operand.Reg (record { 0 = 0 })) (operand.Reg (record { 0 = 1 })) ∷ []; end = ends.Ret (Some (operand.Reg (record { 0 = 2 }))) } ∷ [] }; expected = items.Word (rv.Lui 5 (pos 16)) ∷ items.Word (rv.Addi 5 5 (pos 0)) ∷ items.Word (rv.Sub 2 2 5) ∷ items.Word (rv.Sw 2 1 (pos 0)) ∷ items.Word (rv.Sw 2 10 (pos 2044)) ∷ items.Word (rv.Lui 7 (pos 1)) ∷ items.Word (rv.Add 7 7 2) ∷ items.Word (rv.Sw 7 11 (neg_ℤ (pos 2048))) ∷ items.Word (rv.Lw 5 2 (pos 2044)) ∷ items.Word (rv.Lui 6 (pos 1)) ∷ items.Word (rv.Add 6 6 2) ∷ items.Word (rv.Lw 6 6 (neg_ℤ (pos 2048))) ∷ items.Word (rv.Remu 5 5 6) ∷ items.Word (rv.Lui 7 (pos 1)) ∷ items.Word (rv.Add 7 7 2) ∷ items.Word (rv.Sw 7 5 (pos 0)) ∷ items.Word (rv.Lui 10 (pos 1)) ∷ items.Word (rv.Add 10 10 2) ∷ items.Word (rv.Lw 10 10 (pos 0)) ∷ items.Word (rv.Lw 1 2 (pos 0)) ∷ items.Word (rv.Lui 5 (pos 16)) ∷ items.Word (rv.Addi 5 5 (pos 0)) ∷ items.Word (rv.Add 2 2 5) ∷ items.Word (rv.Jalr 0 1 (pos 0)) ∷ [] } ∷
    record { frame = record { bytes = 65536; homes = home.InSlot 2044 ∷ home.InSlot 2048 ∷ home.InSlot 4096 ∷ [] }; body = record { params = 2; regs = 3; blocks = record { phis = []; code = flat.Bin (record { 0 = 2 }) op.Srem W32 (operand.Reg (record { 0 = 0 })) (operand.Reg (record { 0 = 1 })) ∷ []; end = ends.Ret (Some (operand.Reg (record { 0 = 2 }))) } ∷ [] }; expected = items.Word (rv.Lui 5 (pos 16)) ∷ items.Word (rv.Addi 5 5 (pos 0)) ∷ items.Word (rv.Sub 2 2 5) ∷ items.Word (rv.Sw 2 1 (pos 0)) ∷ items.Word (rv.Sw 2 10 (pos 2044)) ∷ items.Word (rv.Lui 7 (pos 1)) ∷ items.Word (rv.Add 7 7 2) ∷ items.Word (rv.Sw 7 11 (neg_ℤ (pos 2048))) ∷ items.Word (rv.Lw 5 2 (pos 2044)) ∷ items.Word (rv.Lui 6 (pos 1)) ∷ items.Word (rv.Add 6 6 2) ∷ items.Word (rv.Lw 6 6 (neg_ℤ (pos 2048))) ∷ items.Word (rv.Rem 5 5 6) ∷ items.Word (rv.Lui 7 (pos 1)) ∷ items.Word (rv.Add 7 7 2) ∷ items.Word (rv.Sw 7 5 (pos 0)) ∷ items.Word (rv.Lui 10 (pos 1)) ∷ items.Word (rv.Add 10 10 2) ∷ items.Word (rv.Lw 10 10 (pos 0)) ∷ items.Word (rv.Lw 1 2 (pos 0)) ∷ items.Word (rv.Lui 5 (pos 16)) ∷ items.Word (rv.Addi 5 5 (pos 0)) ∷ items.Word (rv.Add 2 2 5) ∷ items.Word (rv.Jalr 0 1 (pos 0)) ∷ [] } ∷
    record { frame = record { bytes = 65536; homes = home.InSlot 2044 ∷ home.InSlot 2048 ∷ home.InSlot 4096 ∷ [] }; body = record { params = 2; regs = 3; blocks = record { phis = []; code = flat.Bin (record { 0 = 2 }) op.Shl W32 (operand.Reg (record { 0 = 0 })) (operand.Reg (record { 0 = 1 })) ∷ []; end = ends.Ret (Some (operand.Reg (record { 0 = 2 }))) } ∷ [] }; expected = items.Word (rv.Lui 5 (pos 16)) ∷ items.Word (rv.Addi 5 5 (pos 0)) ∷ items.Word (rv.Sub 2 2 5) ∷ items.Word (rv.Sw 2 1 (pos 0)) ∷ items.Word (rv.Sw 2 10 (pos 2044)) ∷ items.Word (rv.Lui 7 (pos 1)) ∷ items.Word (rv.Add 7 7 2) ∷ items.Word (rv.Sw 7 11 (neg_ℤ (pos 2048))) ∷ items.Word (rv.Lw 5 2 (pos 2044)) ∷ items.Word (rv.Lui 6 (pos 1)) ∷ items.Word (rv.Add 6 6 2) ∷ items.Word (rv.Lw 6 6 (neg_ℤ (pos 2048))) ∷ items.Word (rv.Sll 5 5 6) ∷ items.Word (rv.Lui 7 (pos 1)) ∷ items.Word (rv.Add 7 7 2) ∷ items.Word (rv.Sw 7 5 (pos 0)) ∷ items.Word (rv.Lui 10 (pos 1)) ∷ items.Word (rv.Add 10 10 2) ∷ items.Word (rv.Lw 10 10 (pos 0)) ∷ items.Word (rv.Lw 1 2 (pos 0)) ∷ items.Word (rv.Lui 5 (pos 16)) ∷ items.Word (rv.Addi 5 5 (pos 0)) ∷ items.Word (rv.Add 2 2 5) ∷ items.Word (rv.Jalr 0 1 (pos 0)) ∷ [] } ∷
    record { frame = record { bytes = 65536; homes = home.InSlot 2044 ∷ home.InSlot 2048 ∷ home.InSlot 4096 ∷ [] }; body = record { params = 2; regs = 3; blocks = record { phis = []; code = flat.Bin (record { 0 = 2 }) op.Lshr W32 (operand.Reg (record { 0 = 0 })) (operand.Reg (record { 0 = 1 })) ∷ []; end = ends.Ret (Some (operand.Reg (record { 0 = 2 }))) } ∷ [] }; expected = items.Word (rv.Lui 5 (pos 16)) ∷ items.Word (rv.Addi 5 5 (pos 0)) ∷ items.Word (rv.Sub 2 2 5) ∷ items.Word (rv.Sw 2 1 (pos 0)) ∷ items.Word (rv.Sw 2 10 (pos 2044)) ∷ items.Word (rv.Lui 7 (pos 1)) ∷ items.Word (rv.Add 7 7 2) ∷ items.Word (rv.Sw 7 11 (neg_ℤ (pos 2048))) ∷ items.Word (rv.Lw 5 2 (pos 2044)) ∷ items.Word (rv.Lui 6 (pos 1)) ∷ items.Word (rv.Add 6 6 2) ∷ items.Word (rv.Lw 6 6 (neg_ℤ (pos 2048))) ∷ items.Word (rv.Srl 5 5 6) ∷ items.Word (rv.Lui 7 (pos 1)) ∷ items.Word (rv.Add 7 7 2) ∷ items.Word (rv.Sw 7 5 (pos 0)) ∷ items.Word (rv.Lui 10 (pos 1)) ∷ items.Word (rv.Add 10 10 2) ∷ items.Word (rv.Lw 10 10 (pos 0)) ∷ items.Word (rv.Lw 1 2 (pos 0)) ∷ items.Word (rv.Lui 5 (pos 16)) ∷ items.Word (rv.Addi 5 5 (pos 0)) ∷ items.Word (rv.Add 2 2 5) ∷ items.Word (rv.Jalr 0 1 (pos 0)) ∷ [] } ∷
    record { frame = record { bytes = 65536; homes = home.InSlot 2044 ∷ home.InSlot 2048 ∷ home.InSlot 4096 ∷ [] }; body = record { params = 2; regs = 3; blocks = record { phis = []; code = flat.Bin (record { 0 = 2 }) op.Ashr W8 (operand.Reg (record { 0 = 0 })) (operand.Reg (record { 0 = 1 })) ∷ []; end = ends.Ret (Some (operand.Reg (record { 0 = 2 }))) } ∷ [] }; expected = items.Word (rv.Lui 5 (pos 16)) ∷ items.Word (rv.Addi 5 5 (pos 0)) ∷ items.Word (rv.Sub 2 2 5) ∷ items.Word (rv.Sw 2 1 (pos 0)) ∷ items.Word (rv.Sw 2 10 (pos 2044)) ∷ items.Word (rv.Lui 7 (pos 1)) ∷ items.Word (rv.Add 7 7 2) ∷ items.Word (rv.Sw 7 11 (neg_ℤ (pos 2048))) ∷ items.Word (rv.Lw 5 2 (pos 2044)) ∷ items.Word (rv.Lui 6 (pos 1)) ∷ items.Word (rv.Add 6 6 2) ∷ items.Word (rv.Lw 6 6 (neg_ℤ (pos 2048))) ∷ items.Word (rv.Slli 5 5 (pos 24)) ∷ items.Word (rv.Srai 5 5 (pos 24)) ∷ items.Word (rv.Sra 5 5 6) ∷ items.Word (rv.Andi 5 5 (pos 255)) ∷ items.Word (rv.Lui 7 (pos 1)) ∷ items.Word (rv.Add 7 7 2) ∷ items.Word (rv.Sw 7 5 (pos 0)) ∷ items.Word (rv.Lui 10 (pos 1)) ∷ items.Word (rv.Add 10 10 2) ∷ items.Word (rv.Lw 10 10 (pos 0)) ∷ items.Word (rv.Lw 1 2 (pos 0)) ∷ items.Word (rv.Lui 5 (pos 16)) ∷ items.Word (rv.Addi 5 5 (pos 0)) ∷ items.Word (rv.Add 2 2 5) ∷ items.Word (rv.Jalr 0 1 (pos 0)) ∷ [] } ∷
    record { frame = record { bytes = 65536; homes = home.InSlot 2044 ∷ home.InSlot 2048 ∷ home.InSlot 4096 ∷ [] }; body = record { params = 2; regs = 3; blocks = record { phis = []; code = flat.Bin (record { 0 = 2 }) op.Ashr W32 (operand.Reg (record { 0 = 0 })) (operand.Reg (record { 0 = 1 })) ∷ []; end = ends.Ret (Some (operand.Reg (record { 0 = 2 }))) } ∷ [] }; expected = items.Word (rv.Lui 5 (pos 16)) ∷ items.Word (rv.Addi 5 5 (pos 0)) ∷ items.Word (rv.Sub 2 2 5) ∷ items.Word (rv.Sw 2 1 (pos 0)) ∷ items.Word (rv.Sw 2 10 (pos 2044)) ∷ items.Word (rv.Lui 7 (pos 1)) ∷ items.Word (rv.Add 7 7 2) ∷ items.Word (rv.Sw 7 11 (neg_ℤ (pos 2048))) ∷ items.Word (rv.Lw 5 2 (pos 2044)) ∷ items.Word (rv.Lui 6 (pos 1)) ∷ items.Word (rv.Add 6 6 2) ∷ items.Word (rv.Lw 6 6 (neg_ℤ (pos 2048))) ∷ items.Word (rv.Sra 5 5 6) ∷ items.Word (rv.Lui 7 (pos 1)) ∷ items.Word (rv.Add 7 7 2) ∷ items.Word (rv.Sw 7 5 (pos 0)) ∷ items.Word (rv.Lui 10 (pos 1)) ∷ items.Word (rv.Add 10 10 2) ∷ items.Word (rv.Lw 10 10 (pos 0)) ∷ items.Word (rv.Lw 1 2 (pos 0)) ∷ items.Word (rv.Lui 5 (pos 16)) ∷ items.Word (rv.Addi 5 5 (pos 0)) ∷ items.Word (rv.Add 2 2 5) ∷ items.Word (rv.Jalr 0 1 (pos 0)) ∷ [] } ∷
    record { frame = record { bytes = 65536; homes = home.InSlot 2044 ∷ home.InSlot 2048 ∷ home.InSlot 4096 ∷ [] }; body = record { params = 2; regs = 3; blocks = record { phis = []; code = flat.Bin (record { 0 = 2 }) op.And W32 (operand.Reg (record { 0 = 0 })) (operand.Reg (record { 0 = 1 })) ∷ []; end = ends.Ret (Some (operand.Reg (record { 0 = 2 }))) } ∷ [] }; expected = items.Word (rv.Lui 5 (pos 16)) ∷ items.Word (rv.Addi 5 5 (pos 0)) ∷ items.Word (rv.Sub 2 2 5) ∷ items.Word (rv.Sw 2 1 (pos 0)) ∷ items.Word (rv.Sw 2 10 (pos 2044)) ∷ items.Word (rv.Lui 7 (pos 1)) ∷ items.Word (rv.Add 7 7 2) ∷ items.Word (rv.Sw 7 11 (neg_ℤ (pos 2048))) ∷ items.Word (rv.Lw 5 2 (pos 2044)) ∷ items.Word (rv.Lui 6 (pos 1)) ∷ items.Word (rv.Add 6 6 2) ∷ items.Word (rv.Lw 6 6 (neg_ℤ (pos 2048))) ∷ items.Word (rv.And 5 5 6) ∷ items.Word (rv.Lui 7 (pos 1)) ∷ items.Word (rv.Add 7 7 2) ∷ items.Word (rv.Sw 7 5 (pos 0)) ∷ items.Word (rv.Lui 10 (pos 1)) ∷ items.Word (rv.Add 10 10 2) ∷ items.Word (rv.Lw 10 10 (pos 0)) ∷ items.Word (rv.Lw 1 2 (pos 0)) ∷ items.Word (rv.Lui 5 (pos 16)) ∷ items.Word (rv.Addi 5 5 (pos 0)) ∷ items.Word (rv.Add 2 2 5) ∷ items.Word (rv.Jalr 0 1 (pos 0)) ∷ [] } ∷
    record { frame = record { bytes = 65536; homes = home.InSlot 2044 ∷ home.InSlot 2048 ∷ home.InSlot 4096 ∷ [] }; body = record { params = 2; regs = 3; blocks = record { phis = []; code = flat.Bin (record { 0 = 2 }) op.Or W32 (operand.Reg (record { 0 = 0 })) (operand.Reg (record { 0 = 1 })) ∷ []; end = ends.Ret (Some (operand.Reg (record { 0 = 2 }))) } ∷ [] }; expected = items.Word (rv.Lui 5 (pos 16)) ∷ items.Word (rv.Addi 5 5 (pos 0)) ∷ items.Word (rv.Sub 2 2 5) ∷ items.Word (rv.Sw 2 1 (pos 0)) ∷ items.Word (rv.Sw 2 10 (pos 2044)) ∷ items.Word (rv.Lui 7 (pos 1)) ∷ items.Word (rv.Add 7 7 2) ∷ items.Word (rv.Sw 7 11 (neg_ℤ (pos 2048))) ∷ items.Word (rv.Lw 5 2 (pos 2044)) ∷ items.Word (rv.Lui 6 (pos 1)) ∷ items.Word (rv.Add 6 6 2) ∷ items.Word (rv.Lw 6 6 (neg_ℤ (pos 2048))) ∷ items.Word (rv.Or 5 5 6) ∷ items.Word (rv.Lui 7 (pos 1)) ∷ items.Word (rv.Add 7 7 2) ∷ items.Word (rv.Sw 7 5 (pos 0)) ∷ items.Word (rv.Lui 10 (pos 1)) ∷ items.Word (rv.Add 10 10 2) ∷ items.Word (rv.Lw 10 10 (pos 0)) ∷ items.Word (rv.Lw 1 2 (pos 0)) ∷ items.Word (rv.Lui 5 (pos 16)) ∷ items.Word (rv.Addi 5 5 (pos 0)) ∷ items.Word (rv.Add 2 2 5) ∷ items.Word (rv.Jalr 0 1 (pos 0)) ∷ [] } ∷
    record { frame = record { bytes = 65536; homes = home.InSlot 2044 ∷ home.InSlot 2048 ∷ home.InSlot 4096 ∷ [] }; body = record { params = 2; regs = 3; blocks = record { phis = []; code = flat.Bin (record { 0 = 2 }) op.Xor W32 (operand.Reg (record { 0 = 0 })) (operand.Reg (record { 0 = 1 })) ∷ []; end = ends.Ret (Some (operand.Reg (record { 0 = 2 }))) } ∷ [] }; expected = items.Word (rv.Lui 5 (pos 16)) ∷ items.Word (rv.Addi 5 5 (pos 0)) ∷ items.Word (rv.Sub 2 2 5) ∷ items.Word (rv.Sw 2 1 (pos 0)) ∷ items.Word (rv.Sw 2 10 (pos 2044)) ∷ items.Word (rv.Lui 7 (pos 1)) ∷ items.Word (rv.Add 7 7 2) ∷ items.Word (rv.Sw 7 11 (neg_ℤ (pos 2048))) ∷ items.Word (rv.Lw 5 2 (pos 2044)) ∷ items.Word (rv.Lui 6 (pos 1)) ∷ items.Word (rv.Add 6 6 2) ∷ items.Word (rv.Lw 6 6 (neg_ℤ (pos 2048))) ∷ items.Word (rv.Xor 5 5 6) ∷ items.Word (rv.Lui 7 (pos 1)) ∷ items.Word (rv.Add 7 7 2) ∷ items.Word (rv.Sw 7 5 (pos 0)) ∷ items.Word (rv.Lui 10 (pos 1)) ∷ items.Word (rv.Add 10 10 2) ∷ items.Word (rv.Lw 10 10 (pos 0)) ∷ items.Word (rv.Lw 1 2 (pos 0)) ∷ items.Word (rv.Lui 5 (pos 16)) ∷ items.Word (rv.Addi 5 5 (pos 0)) ∷ items.Word (rv.Add 2 2 5) ∷ items.Word (rv.Jalr 0 1 (pos 0)) ∷ [] } ∷
    record { frame = record { bytes = 65536; homes = home.InSlot 2044 ∷ home.InSlot 2048 ∷ home.InSlot 4096 ∷ [] }; body = record { params = 2; regs = 3; blocks = record { phis = []; code = flat.Icmp (record { 0 = 2 }) cmp.Eq scalar.Pointer (operand.Reg (record { 0 = 0 })) (operand.Reg (record { 0 = 1 })) ∷ []; end = ends.Ret (Some (operand.Reg (record { 0 = 2 }))) } ∷ [] }; expected = items.Word (rv.Lui 5 (pos 16)) ∷ items.Word (rv.Addi 5 5 (pos 0)) ∷ items.Word (rv.Sub 2 2 5) ∷ items.Word (rv.Sw 2 1 (pos 0)) ∷ items.Word (rv.Sw 2 10 (pos 2044)) ∷ items.Word (rv.Lui 7 (pos 1)) ∷ items.Word (rv.Add 7 7 2) ∷ items.Word (rv.Sw 7 11 (neg_ℤ (pos 2048))) ∷ items.Word (rv.Lw 5 2 (pos 2044)) ∷ items.Word (rv.Lui 6 (pos 1)) ∷ items.Word (rv.Add 6 6 2) ∷ items.Word (rv.Lw 6 6 (neg_ℤ (pos 2048))) ∷ items.Word (rv.Sub 5 5 6) ∷ items.Word (rv.Sltiu 5 5 (pos 1)) ∷ items.Word (rv.Lui 7 (pos 1)) ∷ items.Word (rv.Add 7 7 2) ∷ items.Word (rv.Sw 7 5 (pos 0)) ∷ items.Word (rv.Lui 10 (pos 1)) ∷ items.Word (rv.Add 10 10 2) ∷ items.Word (rv.Lw 10 10 (pos 0)) ∷ items.Word (rv.Lw 1 2 (pos 0)) ∷ items.Word (rv.Lui 5 (pos 16)) ∷ items.Word (rv.Addi 5 5 (pos 0)) ∷ items.Word (rv.Add 2 2 5) ∷ items.Word (rv.Jalr 0 1 (pos 0)) ∷ [] } ∷
    record { frame = record { bytes = 65536; homes = home.InSlot 2044 ∷ home.InSlot 2048 ∷ home.InSlot 4096 ∷ [] }; body = record { params = 2; regs = 3; blocks = record { phis = []; code = flat.Icmp (record { 0 = 2 }) cmp.Uge (scalar.Word W32) (operand.Reg (record { 0 = 0 })) (operand.Reg (record { 0 = 1 })) ∷ []; end = ends.Ret (Some (operand.Reg (record { 0 = 2 }))) } ∷ [] }; expected = items.Word (rv.Lui 5 (pos 16)) ∷ items.Word (rv.Addi 5 5 (pos 0)) ∷ items.Word (rv.Sub 2 2 5) ∷ items.Word (rv.Sw 2 1 (pos 0)) ∷ items.Word (rv.Sw 2 10 (pos 2044)) ∷ items.Word (rv.Lui 7 (pos 1)) ∷ items.Word (rv.Add 7 7 2) ∷ items.Word (rv.Sw 7 11 (neg_ℤ (pos 2048))) ∷ items.Word (rv.Lw 5 2 (pos 2044)) ∷ items.Word (rv.Lui 6 (pos 1)) ∷ items.Word (rv.Add 6 6 2) ∷ items.Word (rv.Lw 6 6 (neg_ℤ (pos 2048))) ∷ items.Word (rv.Sltu 5 5 6) ∷ items.Word (rv.Xori 5 5 (pos 1)) ∷ items.Word (rv.Lui 7 (pos 1)) ∷ items.Word (rv.Add 7 7 2) ∷ items.Word (rv.Sw 7 5 (pos 0)) ∷ items.Word (rv.Lui 10 (pos 1)) ∷ items.Word (rv.Add 10 10 2) ∷ items.Word (rv.Lw 10 10 (pos 0)) ∷ items.Word (rv.Lw 1 2 (pos 0)) ∷ items.Word (rv.Lui 5 (pos 16)) ∷ items.Word (rv.Addi 5 5 (pos 0)) ∷ items.Word (rv.Add 2 2 5) ∷ items.Word (rv.Jalr 0 1 (pos 0)) ∷ [] } ∷
    record { frame = record { bytes = 65536; homes = home.InSlot 2044 ∷ home.InSlot 2048 ∷ home.InSlot 4096 ∷ [] }; body = record { params = 2; regs = 3; blocks = record { phis = []; code = flat.Icmp (record { 0 = 2 }) cmp.Slt (scalar.Word W8) (operand.Reg (record { 0 = 0 })) (operand.Reg (record { 0 = 1 })) ∷ []; end = ends.Ret (Some (operand.Reg (record { 0 = 2 }))) } ∷ [] }; expected = items.Word (rv.Lui 5 (pos 16)) ∷ items.Word (rv.Addi 5 5 (pos 0)) ∷ items.Word (rv.Sub 2 2 5) ∷ items.Word (rv.Sw 2 1 (pos 0)) ∷ items.Word (rv.Sw 2 10 (pos 2044)) ∷ items.Word (rv.Lui 7 (pos 1)) ∷ items.Word (rv.Add 7 7 2) ∷ items.Word (rv.Sw 7 11 (neg_ℤ (pos 2048))) ∷ items.Word (rv.Lw 5 2 (pos 2044)) ∷ items.Word (rv.Lui 6 (pos 1)) ∷ items.Word (rv.Add 6 6 2) ∷ items.Word (rv.Lw 6 6 (neg_ℤ (pos 2048))) ∷ items.Word (rv.Slli 5 5 (pos 24)) ∷ items.Word (rv.Srai 5 5 (pos 24)) ∷ items.Word (rv.Slli 6 6 (pos 24)) ∷ items.Word (rv.Srai 6 6 (pos 24)) ∷ items.Word (rv.Slt 5 5 6) ∷ items.Word (rv.Lui 7 (pos 1)) ∷ items.Word (rv.Add 7 7 2) ∷ items.Word (rv.Sw 7 5 (pos 0)) ∷ items.Word (rv.Lui 10 (pos 1)) ∷ items.Word (rv.Add 10 10 2) ∷ items.Word (rv.Lw 10 10 (pos 0)) ∷ items.Word (rv.Lw 1 2 (pos 0)) ∷ items.Word (rv.Lui 5 (pos 16)) ∷ items.Word (rv.Addi 5 5 (pos 0)) ∷ items.Word (rv.Add 2 2 5) ∷ items.Word (rv.Jalr 0 1 (pos 0)) ∷ [] } ∷
    record { frame = record { bytes = 65536; homes = home.InSlot 2044 ∷ home.InSlot 2048 ∷ [] }; body = record { params = 1; regs = 2; blocks = record { phis = []; code = flat.Cast (record { 0 = 1 }) cast.Sext W8 W16 (operand.Reg (record { 0 = 0 })) ∷ []; end = ends.Ret (Some (operand.Reg (record { 0 = 1 }))) } ∷ [] }; expected = items.Word (rv.Lui 5 (pos 16)) ∷ items.Word (rv.Addi 5 5 (pos 0)) ∷ items.Word (rv.Sub 2 2 5) ∷ items.Word (rv.Sw 2 1 (pos 0)) ∷ items.Word (rv.Sw 2 10 (pos 2044)) ∷ items.Word (rv.Lw 5 2 (pos 2044)) ∷ items.Word (rv.Slli 5 5 (pos 24)) ∷ items.Word (rv.Srai 5 5 (pos 24)) ∷ items.Word (rv.Slli 5 5 (pos 16)) ∷ items.Word (rv.Srli 5 5 (pos 16)) ∷ items.Word (rv.Lui 7 (pos 1)) ∷ items.Word (rv.Add 7 7 2) ∷ items.Word (rv.Sw 7 5 (neg_ℤ (pos 2048))) ∷ items.Word (rv.Lui 10 (pos 1)) ∷ items.Word (rv.Add 10 10 2) ∷ items.Word (rv.Lw 10 10 (neg_ℤ (pos 2048))) ∷ items.Word (rv.Lw 1 2 (pos 0)) ∷ items.Word (rv.Lui 5 (pos 16)) ∷ items.Word (rv.Addi 5 5 (pos 0)) ∷ items.Word (rv.Add 2 2 5) ∷ items.Word (rv.Jalr 0 1 (pos 0)) ∷ [] } ∷
    record { frame = record { bytes = 65536; homes = home.InSlot 2044 ∷ home.InSlot 2048 ∷ [] }; body = record { params = 1; regs = 2; blocks = record { phis = []; code = flat.Cast (record { 0 = 1 }) cast.Trunc W32 W8 (operand.Reg (record { 0 = 0 })) ∷ []; end = ends.Ret (Some (operand.Reg (record { 0 = 1 }))) } ∷ [] }; expected = items.Word (rv.Lui 5 (pos 16)) ∷ items.Word (rv.Addi 5 5 (pos 0)) ∷ items.Word (rv.Sub 2 2 5) ∷ items.Word (rv.Sw 2 1 (pos 0)) ∷ items.Word (rv.Sw 2 10 (pos 2044)) ∷ items.Word (rv.Lw 5 2 (pos 2044)) ∷ items.Word (rv.Andi 5 5 (pos 255)) ∷ items.Word (rv.Lui 7 (pos 1)) ∷ items.Word (rv.Add 7 7 2) ∷ items.Word (rv.Sw 7 5 (neg_ℤ (pos 2048))) ∷ items.Word (rv.Lui 10 (pos 1)) ∷ items.Word (rv.Add 10 10 2) ∷ items.Word (rv.Lw 10 10 (neg_ℤ (pos 2048))) ∷ items.Word (rv.Lw 1 2 (pos 0)) ∷ items.Word (rv.Lui 5 (pos 16)) ∷ items.Word (rv.Addi 5 5 (pos 0)) ∷ items.Word (rv.Add 2 2 5) ∷ items.Word (rv.Jalr 0 1 (pos 0)) ∷ [] } ∷
    record { frame = record { bytes = 65536; homes = home.InSlot 2044 ∷ home.InSlot 2048 ∷ home.InSlot 4096 ∷ [] }; body = record { params = 2; regs = 3; blocks = record { phis = []; code = flat.Load (record { 0 = 2 }) (scalar.Word W32) 4 (operand.Reg (record { 0 = 0 })) ∷ flat.Store (scalar.Word W32) 4 (operand.Reg (record { 0 = 1 })) (operand.Reg (record { 0 = 0 })) ∷ []; end = ends.Ret None } ∷ [] }; expected = items.Word (rv.Lui 5 (pos 16)) ∷ items.Word (rv.Addi 5 5 (pos 0)) ∷ items.Word (rv.Sub 2 2 5) ∷ items.Word (rv.Sw 2 1 (pos 0)) ∷ items.Word (rv.Sw 2 10 (pos 2044)) ∷ items.Word (rv.Lui 7 (pos 1)) ∷ items.Word (rv.Add 7 7 2) ∷ items.Word (rv.Sw 7 11 (neg_ℤ (pos 2048))) ∷ items.Word (rv.Lw 5 2 (pos 2044)) ∷ items.Word (rv.Lw 5 5 (pos 0)) ∷ items.Word (rv.Lui 7 (pos 1)) ∷ items.Word (rv.Add 7 7 2) ∷ items.Word (rv.Sw 7 5 (pos 0)) ∷ items.Word (rv.Lui 5 (pos 1)) ∷ items.Word (rv.Add 5 5 2) ∷ items.Word (rv.Lw 5 5 (neg_ℤ (pos 2048))) ∷ items.Word (rv.Lw 6 2 (pos 2044)) ∷ items.Word (rv.Sw 6 5 (pos 0)) ∷ items.Word (rv.Lw 1 2 (pos 0)) ∷ items.Word (rv.Lui 5 (pos 16)) ∷ items.Word (rv.Addi 5 5 (pos 0)) ∷ items.Word (rv.Add 2 2 5) ∷ items.Word (rv.Jalr 0 1 (pos 0)) ∷ [] } ∷
    record { frame = record { bytes = 65536; homes = home.InSlot 2044 ∷ home.InSlot 2048 ∷ home.InSlot 4096 ∷ [] }; body = record { params = 2; regs = 3; blocks = record { phis = []; code = flat.Load (record { 0 = 2 }) scalar.Pointer 4 (operand.Reg (record { 0 = 0 })) ∷ flat.Store scalar.Pointer 4 (operand.Reg (record { 0 = 1 })) (operand.Reg (record { 0 = 0 })) ∷ []; end = ends.Ret None } ∷ [] }; expected = items.Word (rv.Lui 5 (pos 16)) ∷ items.Word (rv.Addi 5 5 (pos 0)) ∷ items.Word (rv.Sub 2 2 5) ∷ items.Word (rv.Sw 2 1 (pos 0)) ∷ items.Word (rv.Sw 2 10 (pos 2044)) ∷ items.Word (rv.Lui 7 (pos 1)) ∷ items.Word (rv.Add 7 7 2) ∷ items.Word (rv.Sw 7 11 (neg_ℤ (pos 2048))) ∷ items.Word (rv.Lw 5 2 (pos 2044)) ∷ items.Word (rv.Lw 5 5 (pos 0)) ∷ items.Word (rv.Lui 7 (pos 1)) ∷ items.Word (rv.Add 7 7 2) ∷ items.Word (rv.Sw 7 5 (pos 0)) ∷ items.Word (rv.Lui 5 (pos 1)) ∷ items.Word (rv.Add 5 5 2) ∷ items.Word (rv.Lw 5 5 (neg_ℤ (pos 2048))) ∷ items.Word (rv.Lw 6 2 (pos 2044)) ∷ items.Word (rv.Sw 6 5 (pos 0)) ∷ items.Word (rv.Lw 1 2 (pos 0)) ∷ items.Word (rv.Lui 5 (pos 16)) ∷ items.Word (rv.Addi 5 5 (pos 0)) ∷ items.Word (rv.Add 2 2 5) ∷ items.Word (rv.Jalr 0 1 (pos 0)) ∷ [] } ∷
    record { frame = record { bytes = 65536; homes = [] }; body = record { params = 0; regs = 0; blocks = record { phis = []; code = []; end = ends.Ret None } ∷ [] }; expected = items.Word (rv.Lui 5 (pos 16)) ∷ items.Word (rv.Addi 5 5 (pos 0)) ∷ items.Word (rv.Sub 2 2 5) ∷ items.Word (rv.Sw 2 1 (pos 0)) ∷ items.Word (rv.Lw 1 2 (pos 0)) ∷ items.Word (rv.Lui 5 (pos 16)) ∷ items.Word (rv.Addi 5 5 (pos 0)) ∷ items.Word (rv.Add 2 2 5) ∷ items.Word (rv.Jalr 0 1 (pos 0)) ∷ [] } ∷
    record { frame = record { bytes = 65536; homes = [] }; body = record { params = 0; regs = 0; blocks = record { phis = []; code = []; end = ends.Unreachable } ∷ [] }; expected = items.Word (rv.Lui 5 (pos 16)) ∷ items.Word (rv.Addi 5 5 (pos 0)) ∷ items.Word (rv.Sub 2 2 5) ∷ items.Word (rv.Sw 2 1 (pos 0)) ∷ items.Word rv.Ebreak ∷ [] } ∷
    record { frame = record { bytes = 65536; homes = home.InSlot 2044 ∷ home.InSlot 2048 ∷ home.InSlot 4096 ∷ home.InSlot 6140 ∷ home.InSlot 2052 ∷ home.InSlot 4092 ∷ home.InSlot 4100 ∷ home.InSlot 30000 ∷ [] }; body = record { params = 8; regs = 8; blocks = record { phis = []; code = []; end = ends.Ret (Some (operand.Reg (record { 0 = 7 }))) } ∷ [] }; expected = items.Word (rv.Lui 5 (pos 16)) ∷ items.Word (rv.Addi 5 5 (pos 0)) ∷ items.Word (rv.Sub 2 2 5) ∷ items.Word (rv.Sw 2 1 (pos 0)) ∷ items.Word (rv.Sw 2 10 (pos 2044)) ∷ items.Word (rv.Lui 7 (pos 1)) ∷ items.Word (rv.Add 7 7 2) ∷ items.Word (rv.Sw 7 11 (neg_ℤ (pos 2048))) ∷ items.Word (rv.Lui 7 (pos 1)) ∷ items.Word (rv.Add 7 7 2) ∷ items.Word (rv.Sw 7 12 (pos 0)) ∷ items.Word (rv.Lui 7 (pos 1)) ∷ items.Word (rv.Add 7 7 2) ∷ items.Word (rv.Sw 7 13 (pos 2044)) ∷ items.Word (rv.Lui 7 (pos 1)) ∷ items.Word (rv.Add 7 7 2) ∷ items.Word (rv.Sw 7 14 (neg_ℤ (pos 2044))) ∷ items.Word (rv.Lui 7 (pos 1)) ∷ items.Word (rv.Add 7 7 2) ∷ items.Word (rv.Sw 7 15 (neg_ℤ (pos 4))) ∷ items.Word (rv.Lui 7 (pos 1)) ∷ items.Word (rv.Add 7 7 2) ∷ items.Word (rv.Sw 7 16 (pos 4)) ∷ items.Word (rv.Lui 7 (pos 7)) ∷ items.Word (rv.Add 7 7 2) ∷ items.Word (rv.Sw 7 17 (pos 1328)) ∷ items.Word (rv.Lui 10 (pos 7)) ∷ items.Word (rv.Add 10 10 2) ∷ items.Word (rv.Lw 10 10 (pos 1328)) ∷ items.Word (rv.Lw 1 2 (pos 0)) ∷ items.Word (rv.Lui 5 (pos 16)) ∷ items.Word (rv.Addi 5 5 (pos 0)) ∷ items.Word (rv.Add 2 2 5) ∷ items.Word (rv.Jalr 0 1 (pos 0)) ∷ [] } ∷
    record { frame = record { bytes = 65536; homes = home.InSlot 2044 ∷ [] }; body = record { params = 1; regs = 1; blocks = record { phis = []; code = []; end = ends.Ret (Some (operand.Word 7)) } ∷ [] }; expected = items.Word (rv.Lui 5 (pos 16)) ∷ items.Word (rv.Addi 5 5 (pos 0)) ∷ items.Word (rv.Sub 2 2 5) ∷ items.Word (rv.Sw 2 1 (pos 0)) ∷ items.Word (rv.Sw 2 10 (pos 2044)) ∷ items.Word (rv.Addi 10 0 (pos 7)) ∷ items.Word (rv.Lw 1 2 (pos 0)) ∷ items.Word (rv.Lui 5 (pos 16)) ∷ items.Word (rv.Addi 5 5 (pos 0)) ∷ items.Word (rv.Add 2 2 5) ∷ items.Word (rv.Jalr 0 1 (pos 0)) ∷ [] } ∷
    record { frame = record { bytes = 65536; homes = home.InSlot 2044 ∷ home.InSlot 2048 ∷ home.InSlot 4096 ∷ home.InSlot 6140 ∷ [] }; body = record { params = 3; regs = 4; blocks = record { phis = []; code = flat.Select (record { 0 = 3 }) (operand.Reg (record { 0 = 0 })) (operand.Reg (record { 0 = 1 })) (operand.Reg (record { 0 = 2 })) ∷ []; end = ends.Ret (Some (operand.Reg (record { 0 = 3 }))) } ∷ [] }; expected = items.Word (rv.Lui 5 (pos 16)) ∷ items.Word (rv.Addi 5 5 (pos 0)) ∷ items.Word (rv.Sub 2 2 5) ∷ items.Word (rv.Sw 2 1 (pos 0)) ∷ items.Word (rv.Sw 2 10 (pos 2044)) ∷ items.Word (rv.Lui 7 (pos 1)) ∷ items.Word (rv.Add 7 7 2) ∷ items.Word (rv.Sw 7 11 (neg_ℤ (pos 2048))) ∷ items.Word (rv.Lui 7 (pos 1)) ∷ items.Word (rv.Add 7 7 2) ∷ items.Word (rv.Sw 7 12 (pos 0)) ∷ items.Word (rv.Lw 5 2 (pos 2044)) ∷ items.Word (rv.Lui 6 (pos 1)) ∷ items.Word (rv.Add 6 6 2) ∷ items.Word (rv.Lw 6 6 (neg_ℤ (pos 2048))) ∷ items.Word (rv.Lui 7 (pos 1)) ∷ items.Word (rv.Add 7 7 2) ∷ items.Word (rv.Lw 7 7 (pos 0)) ∷ items.Word (rv.Bne 5 0 (pos 8)) ∷ items.Word (rv.Addi 6 7 (pos 0)) ∷ items.Word (rv.Lui 7 (pos 1)) ∷ items.Word (rv.Add 7 7 2) ∷ items.Word (rv.Sw 7 6 (pos 2044)) ∷ items.Word (rv.Lui 10 (pos 1)) ∷ items.Word (rv.Add 10 10 2) ∷ items.Word (rv.Lw 10 10 (pos 2044)) ∷ items.Word (rv.Lw 1 2 (pos 0)) ∷ items.Word (rv.Lui 5 (pos 16)) ∷ items.Word (rv.Addi 5 5 (pos 0)) ∷ items.Word (rv.Add 2 2 5) ∷ items.Word (rv.Jalr 0 1 (pos 0)) ∷ [] } ∷
    record { frame = record { bytes = 65536; homes = home.InMemory 2047 ∷ home.InSlot 2048 ∷ [] }; body = record { params = 0; regs = 2; blocks = record { phis = []; code = flat.Alloca (record { 0 = 0 }) 8 4 ∷ flat.Copy (record { 0 = 1 }) (operand.Reg (record { 0 = 0 })) ∷ flat.Store (scalar.Word W32) 4 (operand.Word 7) (operand.Reg (record { 0 = 0 })) ∷ []; end = ends.Ret (Some (operand.Reg (record { 0 = 1 }))) } ∷ [] }; expected = items.Word (rv.Lui 5 (pos 16)) ∷ items.Word (rv.Addi 5 5 (pos 0)) ∷ items.Word (rv.Sub 2 2 5) ∷ items.Word (rv.Sw 2 1 (pos 0)) ∷ items.Word (rv.Addi 5 2 (pos 2047)) ∷ items.Word (rv.Lui 7 (pos 1)) ∷ items.Word (rv.Add 7 7 2) ∷ items.Word (rv.Sw 7 5 (neg_ℤ (pos 2048))) ∷ items.Word (rv.Addi 5 0 (pos 7)) ∷ items.Word (rv.Addi 6 2 (pos 2047)) ∷ items.Word (rv.Sw 6 5 (pos 0)) ∷ items.Word (rv.Lui 10 (pos 1)) ∷ items.Word (rv.Add 10 10 2) ∷ items.Word (rv.Lw 10 10 (neg_ℤ (pos 2048))) ∷ items.Word (rv.Lw 1 2 (pos 0)) ∷ items.Word (rv.Lui 5 (pos 16)) ∷ items.Word (rv.Addi 5 5 (pos 0)) ∷ items.Word (rv.Add 2 2 5) ∷ items.Word (rv.Jalr 0 1 (pos 0)) ∷ [] } ∷
    record { frame = record { bytes = 65536; homes = home.InMemory 2047 ∷ home.InMemory 2048 ∷ home.InSlot 4096 ∷ home.InSlot 6140 ∷ [] }; body = record { params = 0; regs = 4; blocks = record { phis = []; code = flat.Alloca (record { 0 = 0 }) 2100 4 ∷ flat.Alloca (record { 0 = 1 }) 4 4 ∷ flat.Copy (record { 0 = 2 }) (operand.Reg (record { 0 = 1 })) ∷ flat.Load (record { 0 = 3 }) (scalar.Word W32) 4 (operand.Reg (record { 0 = 2 })) ∷ []; end = ends.Ret (Some (operand.Reg (record { 0 = 1 }))) } ∷ [] }; expected = items.Word (rv.Lui 5 (pos 16)) ∷ items.Word (rv.Addi 5 5 (pos 0)) ∷ items.Word (rv.Sub 2 2 5) ∷ items.Word (rv.Sw 2 1 (pos 0)) ∷ items.Word (rv.Lui 5 (pos 1)) ∷ items.Word (rv.Addi 5 5 (neg_ℤ (pos 2048))) ∷ items.Word (rv.Add 5 5 2) ∷ items.Word (rv.Lui 7 (pos 1)) ∷ items.Word (rv.Add 7 7 2) ∷ items.Word (rv.Sw 7 5 (pos 0)) ∷ items.Word (rv.Lui 5 (pos 1)) ∷ items.Word (rv.Add 5 5 2) ∷ items.Word (rv.Lw 5 5 (pos 0)) ∷ items.Word (rv.Lw 5 5 (pos 0)) ∷ items.Word (rv.Lui 7 (pos 1)) ∷ items.Word (rv.Add 7 7 2) ∷ items.Word (rv.Sw 7 5 (pos 2044)) ∷ items.Word (rv.Lui 10 (pos 1)) ∷ items.Word (rv.Addi 10 10 (neg_ℤ (pos 2048))) ∷ items.Word (rv.Add 10 10 2) ∷ items.Word (rv.Lw 1 2 (pos 0)) ∷ items.Word (rv.Lui 5 (pos 16)) ∷ items.Word (rv.Addi 5 5 (pos 0)) ∷ items.Word (rv.Add 2 2 5) ∷ items.Word (rv.Jalr 0 1 (pos 0)) ∷ [] } ∷
    record { frame = record { bytes = 65536; homes = home.InSlot 2044 ∷ home.InMemory 2048 ∷ home.InSlot 4096 ∷ home.InSlot 6140 ∷ [] }; body = record { params = 1; regs = 4; blocks = record { phis = []; code = flat.Alloca (record { 0 = 1 }) 2040 16 ∷ flat.Get (Some (record { 0 = 2 })) ∷ flat.Put (Some (record { 0 = 3 })) (operand.Reg (record { 0 = 2 })) ∷ flat.Get None ∷ flat.Put None (operand.Reg (record { 0 = 3 })) ∷ flat.Exit (operand.Reg (record { 0 = 0 })) ∷ []; end = ends.Unreachable } ∷ [] }; expected = items.Word (rv.Lui 5 (pos 16)) ∷ items.Word (rv.Addi 5 5 (pos 0)) ∷ items.Word (rv.Sub 2 2 5) ∷ items.Word (rv.Sw 2 1 (pos 0)) ∷ items.Word (rv.Sw 2 10 (pos 2044)) ∷ items.Word (rv.Addi 17 0 (pos 2)) ∷ items.Word rv.Ecall ∷ items.Word (rv.Lui 7 (pos 1)) ∷ items.Word (rv.Add 7 7 2) ∷ items.Word (rv.Sw 7 10 (pos 0)) ∷ items.Word (rv.Lui 10 (pos 1)) ∷ items.Word (rv.Add 10 10 2) ∷ items.Word (rv.Lw 10 10 (pos 0)) ∷ items.Word (rv.Addi 17 0 (pos 1)) ∷ items.Word rv.Ecall ∷ items.Word (rv.Lui 7 (pos 1)) ∷ items.Word (rv.Add 7 7 2) ∷ items.Word (rv.Sw 7 10 (pos 2044)) ∷ items.Word (rv.Addi 17 0 (pos 2)) ∷ items.Word rv.Ecall ∷ items.Word (rv.Lui 10 (pos 1)) ∷ items.Word (rv.Add 10 10 2) ∷ items.Word (rv.Lw 10 10 (pos 2044)) ∷ items.Word (rv.Addi 17 0 (pos 1)) ∷ items.Word rv.Ecall ∷ items.Word (rv.Lw 10 2 (pos 2044)) ∷ items.Word (rv.Addi 17 0 (pos 3)) ∷ items.Word rv.Ecall ∷ items.Word rv.Ebreak ∷ [] } ∷
    record { frame = record { bytes = 65536; homes = home.InMemory 2047 ∷ home.InSlot 2048 ∷ home.InSlot 4096 ∷ [] }; body = record { params = 0; regs = 3; blocks = record { phis = []; code = flat.Alloca (record { 0 = 0 }) 2004 1 ∷ flat.Get (Some (record { 0 = 1 })) ∷ flat.Put (Some (record { 0 = 2 })) (operand.Reg (record { 0 = 1 })) ∷ []; end = ends.Ret (Some (operand.Reg (record { 0 = 2 }))) } ∷ [] }; expected = items.Word (rv.Lui 5 (pos 16)) ∷ items.Word (rv.Addi 5 5 (pos 0)) ∷ items.Word (rv.Sub 2 2 5) ∷ items.Word (rv.Sw 2 1 (pos 0)) ∷ items.Word (rv.Addi 17 0 (pos 2)) ∷ items.Word rv.Ecall ∷ items.Word (rv.Lui 7 (pos 1)) ∷ items.Word (rv.Add 7 7 2) ∷ items.Word (rv.Sw 7 10 (neg_ℤ (pos 2048))) ∷ items.Word (rv.Lui 10 (pos 1)) ∷ items.Word (rv.Add 10 10 2) ∷ items.Word (rv.Lw 10 10 (neg_ℤ (pos 2048))) ∷ items.Word (rv.Addi 17 0 (pos 1)) ∷ items.Word rv.Ecall ∷ items.Word (rv.Lui 7 (pos 1)) ∷ items.Word (rv.Add 7 7 2) ∷ items.Word (rv.Sw 7 10 (pos 0)) ∷ items.Word (rv.Lui 10 (pos 1)) ∷ items.Word (rv.Add 10 10 2) ∷ items.Word (rv.Lw 10 10 (pos 0)) ∷ items.Word (rv.Lw 1 2 (pos 0)) ∷ items.Word (rv.Lui 5 (pos 16)) ∷ items.Word (rv.Addi 5 5 (pos 0)) ∷ items.Word (rv.Add 2 2 5) ∷ items.Word (rv.Jalr 0 1 (pos 0)) ∷ [] } ∷
    record { frame = record { bytes = 65536; homes = home.InMemory 2047 ∷ home.InSlot 2048 ∷ home.InSlot 4096 ∷ [] }; body = record { params = 0; regs = 3; blocks = record { phis = []; code = flat.Alloca (record { 0 = 0 }) 2020 1 ∷ flat.Get (Some (record { 0 = 1 })) ∷ flat.Put (Some (record { 0 = 2 })) (operand.Reg (record { 0 = 1 })) ∷ []; end = ends.Ret (Some (operand.Reg (record { 0 = 2 }))) } ∷ [] }; expected = items.Word (rv.Lui 5 (pos 16)) ∷ items.Word (rv.Addi 5 5 (pos 0)) ∷ items.Word (rv.Sub 2 2 5) ∷ items.Word (rv.Sw 2 1 (pos 0)) ∷ items.Word (rv.Addi 17 0 (pos 2)) ∷ items.Word rv.Ecall ∷ items.Word (rv.Lui 7 (pos 1)) ∷ items.Word (rv.Add 7 7 2) ∷ items.Word (rv.Sw 7 10 (neg_ℤ (pos 2048))) ∷ items.Word (rv.Lui 10 (pos 1)) ∷ items.Word (rv.Add 10 10 2) ∷ items.Word (rv.Lw 10 10 (neg_ℤ (pos 2048))) ∷ items.Word (rv.Addi 17 0 (pos 1)) ∷ items.Word rv.Ecall ∷ items.Word (rv.Lui 7 (pos 1)) ∷ items.Word (rv.Add 7 7 2) ∷ items.Word (rv.Sw 7 10 (pos 0)) ∷ items.Word (rv.Lui 10 (pos 1)) ∷ items.Word (rv.Add 10 10 2) ∷ items.Word (rv.Lw 10 10 (pos 0)) ∷ items.Word (rv.Lw 1 2 (pos 0)) ∷ items.Word (rv.Lui 5 (pos 16)) ∷ items.Word (rv.Addi 5 5 (pos 0)) ∷ items.Word (rv.Add 2 2 5) ∷ items.Word (rv.Jalr 0 1 (pos 0)) ∷ [] } ∷
    record { frame = record { bytes = 65536; homes = home.InMemory 2047 ∷ home.InSlot 2048 ∷ home.InSlot 4096 ∷ [] }; body = record { params = 0; regs = 3; blocks = record { phis = []; code = flat.Alloca (record { 0 = 0 }) 65000 8 ∷ flat.Get (Some (record { 0 = 1 })) ∷ flat.Put (Some (record { 0 = 2 })) (operand.Reg (record { 0 = 1 })) ∷ []; end = ends.Ret (Some (operand.Reg (record { 0 = 2 }))) } ∷ [] }; expected = items.Word (rv.Lui 5 (pos 16)) ∷ items.Word (rv.Addi 5 5 (pos 0)) ∷ items.Word (rv.Sub 2 2 5) ∷ items.Word (rv.Sw 2 1 (pos 0)) ∷ items.Word (rv.Addi 17 0 (pos 2)) ∷ items.Word rv.Ecall ∷ items.Word (rv.Lui 7 (pos 1)) ∷ items.Word (rv.Add 7 7 2) ∷ items.Word (rv.Sw 7 10 (neg_ℤ (pos 2048))) ∷ items.Word (rv.Lui 10 (pos 1)) ∷ items.Word (rv.Add 10 10 2) ∷ items.Word (rv.Lw 10 10 (neg_ℤ (pos 2048))) ∷ items.Word (rv.Addi 17 0 (pos 1)) ∷ items.Word rv.Ecall ∷ items.Word (rv.Lui 7 (pos 1)) ∷ items.Word (rv.Add 7 7 2) ∷ items.Word (rv.Sw 7 10 (pos 0)) ∷ items.Word (rv.Lui 10 (pos 1)) ∷ items.Word (rv.Add 10 10 2) ∷ items.Word (rv.Lw 10 10 (pos 0)) ∷ items.Word (rv.Lw 1 2 (pos 0)) ∷ items.Word (rv.Lui 5 (pos 16)) ∷ items.Word (rv.Addi 5 5 (pos 0)) ∷ items.Word (rv.Add 2 2 5) ∷ items.Word (rv.Jalr 0 1 (pos 0)) ∷ [] } ∷
    record { frame = record { bytes = 65536; homes = home.InSlot 2044 ∷ home.InSlot 2048 ∷ home.InSlot 4096 ∷ home.InSlot 6140 ∷ home.InSlot 2052 ∷ [] }; body = record { params = 2; regs = 5; blocks = record { phis = []; code = flat.Gep (record { 0 = 2 }) (operand.Reg (record { 0 = 0 })) 0 ([]) ∷ flat.Gep (record { 0 = 3 }) (operand.Reg (record { 0 = 0 })) 8 (record { operand = (operand.Reg (record { 0 = 1 })); width = W32; stride = 4 } ∷ record { operand = (operand.Word 3); width = W8; stride = 1 } ∷ []) ∷ flat.Gep (record { 0 = 4 }) (operand.Address 1 0) 4294967292 (record { operand = (operand.Reg (record { 0 = 1 })); width = W16; stride = 5000 } ∷ record { operand = (operand.Reg (record { 0 = 1 })); width = W1; stride = 1 } ∷ []) ∷ []; end = ends.Ret (Some (operand.Reg (record { 0 = 4 }))) } ∷ [] }; expected = items.Word (rv.Lui 5 (pos 16)) ∷ items.Word (rv.Addi 5 5 (pos 0)) ∷ items.Word (rv.Sub 2 2 5) ∷ items.Word (rv.Sw 2 1 (pos 0)) ∷ items.Word (rv.Sw 2 10 (pos 2044)) ∷ items.Word (rv.Lui 7 (pos 1)) ∷ items.Word (rv.Add 7 7 2) ∷ items.Word (rv.Sw 7 11 (neg_ℤ (pos 2048))) ∷ items.Word (rv.Lw 5 2 (pos 2044)) ∷ items.Word (rv.Lui 7 (pos 1)) ∷ items.Word (rv.Add 7 7 2) ∷ items.Word (rv.Sw 7 5 (pos 0)) ∷ items.Word (rv.Lw 5 2 (pos 2044)) ∷ items.Word (rv.Lui 6 (pos 1)) ∷ items.Word (rv.Add 6 6 2) ∷ items.Word (rv.Lw 6 6 (neg_ℤ (pos 2048))) ∷ items.Word (rv.Addi 7 0 (pos 4)) ∷ items.Word (rv.Mul 6 6 7) ∷ items.Word (rv.Add 5 5 6) ∷ items.Word (rv.Addi 6 0 (pos 3)) ∷ items.Word (rv.Slli 6 6 (pos 24)) ∷ items.Word (rv.Srai 6 6 (pos 24)) ∷ items.Word (rv.Add 5 5 6) ∷ items.Word (rv.Addi 6 0 (pos 8)) ∷ items.Word (rv.Add 5 5 6) ∷ items.Word (rv.Lui 7 (pos 1)) ∷ items.Word (rv.Add 7 7 2) ∷ items.Word (rv.Sw 7 5 (pos 2044)) ∷ items.AddressHigh 5 1 0 ∷ items.AddressLow 5 1 0 ∷ items.Word (rv.Lui 6 (pos 1)) ∷ items.Word (rv.Add 6 6 2) ∷ items.Word (rv.Lw 6 6 (neg_ℤ (pos 2048))) ∷ items.Word (rv.Slli 6 6 (pos 16)) ∷ items.Word (rv.Srai 6 6 (pos 16)) ∷ items.Word (rv.Lui 7 (pos 1)) ∷ items.Word (rv.Addi 7 7 (pos 904)) ∷ items.Word (rv.Mul 6 6 7) ∷ items.Word (rv.Add 5 5 6) ∷ items.Word (rv.Lui 6 (pos 1)) ∷ items.Word (rv.Add 6 6 2) ∷ items.Word (rv.Lw 6 6 (neg_ℤ (pos 2048))) ∷ items.Word (rv.Slli 6 6 (pos 31)) ∷ items.Word (rv.Srai 6 6 (pos 31)) ∷ items.Word (rv.Add 5 5 6) ∷ items.Word (rv.Addi 6 0 (neg_ℤ (pos 4))) ∷ items.Word (rv.Add 5 5 6) ∷ items.Word (rv.Lui 7 (pos 1)) ∷ items.Word (rv.Add 7 7 2) ∷ items.Word (rv.Sw 7 5 (neg_ℤ (pos 2044))) ∷ items.Word (rv.Lui 10 (pos 1)) ∷ items.Word (rv.Add 10 10 2) ∷ items.Word (rv.Lw 10 10 (neg_ℤ (pos 2044))) ∷ items.Word (rv.Lw 1 2 (pos 0)) ∷ items.Word (rv.Lui 5 (pos 16)) ∷ items.Word (rv.Addi 5 5 (pos 0)) ∷ items.Word (rv.Add 2 2 5) ∷ items.Word (rv.Jalr 0 1 (pos 0)) ∷ [] } ∷
    record { frame = record { bytes = 65536; homes = home.InSlot 2044 ∷ home.InSlot 2048 ∷ home.InSlot 4096 ∷ [] }; body = record { params = 1; regs = 3; blocks = record { phis = []; code = flat.Call (Some (record { 0 = 1 })) (record { 0 = 2 }) ((operand.Reg (record { 0 = 0 })) ∷ (operand.Word 5) ∷ (operand.Address 0 4) ∷ []) ∷ flat.Call None (record { 0 = 0 }) ([]) ∷ flat.Call (Some (record { 0 = 2 })) (record { 0 = 1 }) ((operand.Reg (record { 0 = 1 })) ∷ (operand.Reg (record { 0 = 1 })) ∷ (operand.Reg (record { 0 = 1 })) ∷ (operand.Reg (record { 0 = 1 })) ∷ operand.Null ∷ operand.Poison ∷ (operand.Word 4096) ∷ (operand.Word 1) ∷ []) ∷ []; end = ends.Ret (Some (operand.Reg (record { 0 = 2 }))) } ∷ [] }; expected = items.Word (rv.Lui 5 (pos 16)) ∷ items.Word (rv.Addi 5 5 (pos 0)) ∷ items.Word (rv.Sub 2 2 5) ∷ items.Word (rv.Sw 2 1 (pos 0)) ∷ items.Word (rv.Sw 2 10 (pos 2044)) ∷ items.Word (rv.Lw 10 2 (pos 2044)) ∷ items.Word (rv.Addi 11 0 (pos 5)) ∷ items.AddressHigh 12 0 4 ∷ items.AddressLow 12 0 4 ∷ items.CallHigh (record { 0 = 2 }) ∷ items.CallLow (record { 0 = 2 }) ∷ items.Word (rv.Lui 7 (pos 1)) ∷ items.Word (rv.Add 7 7 2) ∷ items.Word (rv.Sw 7 10 (neg_ℤ (pos 2048))) ∷ items.CallHigh (record { 0 = 0 }) ∷ items.CallLow (record { 0 = 0 }) ∷ items.Word (rv.Lui 10 (pos 1)) ∷ items.Word (rv.Add 10 10 2) ∷ items.Word (rv.Lw 10 10 (neg_ℤ (pos 2048))) ∷ items.Word (rv.Lui 11 (pos 1)) ∷ items.Word (rv.Add 11 11 2) ∷ items.Word (rv.Lw 11 11 (neg_ℤ (pos 2048))) ∷ items.Word (rv.Lui 12 (pos 1)) ∷ items.Word (rv.Add 12 12 2) ∷ items.Word (rv.Lw 12 12 (neg_ℤ (pos 2048))) ∷ items.Word (rv.Lui 13 (pos 1)) ∷ items.Word (rv.Add 13 13 2) ∷ items.Word (rv.Lw 13 13 (neg_ℤ (pos 2048))) ∷ items.Word (rv.Addi 14 0 (pos 0)) ∷ items.Word (rv.Addi 15 0 (pos 0)) ∷ items.Word (rv.Lui 16 (pos 1)) ∷ items.Word (rv.Addi 17 0 (pos 1)) ∷ items.CallHigh (record { 0 = 1 }) ∷ items.CallLow (record { 0 = 1 }) ∷ items.Word (rv.Lui 7 (pos 1)) ∷ items.Word (rv.Add 7 7 2) ∷ items.Word (rv.Sw 7 10 (pos 0)) ∷ items.Word (rv.Lui 10 (pos 1)) ∷ items.Word (rv.Add 10 10 2) ∷ items.Word (rv.Lw 10 10 (pos 0)) ∷ items.Word (rv.Lw 1 2 (pos 0)) ∷ items.Word (rv.Lui 5 (pos 16)) ∷ items.Word (rv.Addi 5 5 (pos 0)) ∷ items.Word (rv.Add 2 2 5) ∷ items.Word (rv.Jalr 0 1 (pos 0)) ∷ [] } ∷
    record { frame = record { bytes = 65536; homes = home.OfPhi 2044 ∷ home.OfPhi 2048 ∷ home.OfPhi 4096 ∷ home.InSlot 6140 ∷ [] }; body = record { params = 0; regs = 4; blocks = record { phis = []; code = []; end = ends.Br (record { 0 = 1 }) } ∷ record { phis = record { reg = (record { 0 = 0 }); entries = record { from = (record { 0 = 0 }); value = (operand.Word 1) } ∷ record { from = (record { 0 = 1 }); value = (operand.Reg (record { 0 = 1 })) } ∷ [] } ∷ record { reg = (record { 0 = 1 }); entries = record { from = (record { 0 = 0 }); value = (operand.Word 2) } ∷ record { from = (record { 0 = 1 }); value = (operand.Reg (record { 0 = 0 })) } ∷ [] } ∷ record { reg = (record { 0 = 2 }); entries = record { from = (record { 0 = 0 }); value = (operand.Word 0) } ∷ record { from = (record { 0 = 1 }); value = (operand.Reg (record { 0 = 3 })) } ∷ [] } ∷ []; code = flat.Bin (record { 0 = 3 }) op.Add W32 (operand.Reg (record { 0 = 2 })) (operand.Word 1) ∷ []; end = ends.Cond (operand.Reg (record { 0 = 3 })) (record { 0 = 2 }) (record { 0 = 1 }) } ∷ record { phis = []; code = []; end = ends.Ret (Some (operand.Reg (record { 0 = 0 }))) } ∷ [] }; expected = items.Word (rv.Lui 5 (pos 16)) ∷ items.Word (rv.Addi 5 5 (pos 0)) ∷ items.Word (rv.Sub 2 2 5) ∷ items.Word (rv.Sw 2 1 (pos 0)) ∷ items.Word (rv.Addi 5 0 (pos 1)) ∷ items.Word (rv.Lui 7 (pos 1)) ∷ items.Word (rv.Add 7 7 2) ∷ items.Word (rv.Sw 7 5 (neg_ℤ (pos 2048))) ∷ items.Word (rv.Addi 5 0 (pos 2)) ∷ items.Word (rv.Lui 7 (pos 1)) ∷ items.Word (rv.Add 7 7 2) ∷ items.Word (rv.Sw 7 5 (neg_ℤ (pos 2044))) ∷ items.Word (rv.Addi 5 0 (pos 0)) ∷ items.Word (rv.Lui 7 (pos 1)) ∷ items.Word (rv.Add 7 7 2) ∷ items.Word (rv.Sw 7 5 (pos 4)) ∷ items.Word (rv.Lui 5 (pos 1)) ∷ items.Word (rv.Add 5 5 2) ∷ items.Word (rv.Lw 5 5 (neg_ℤ (pos 2048))) ∷ items.Word (rv.Sw 2 5 (pos 2044)) ∷ items.Word (rv.Lui 5 (pos 1)) ∷ items.Word (rv.Add 5 5 2) ∷ items.Word (rv.Lw 5 5 (neg_ℤ (pos 2044))) ∷ items.Word (rv.Lui 7 (pos 1)) ∷ items.Word (rv.Add 7 7 2) ∷ items.Word (rv.Sw 7 5 (neg_ℤ (pos 2048))) ∷ items.Word (rv.Lui 5 (pos 1)) ∷ items.Word (rv.Add 5 5 2) ∷ items.Word (rv.Lw 5 5 (pos 4)) ∷ items.Word (rv.Lui 7 (pos 1)) ∷ items.Word (rv.Add 7 7 2) ∷ items.Word (rv.Sw 7 5 (pos 0)) ∷ items.Word (rv.Lui 5 (pos 1)) ∷ items.Word (rv.Add 5 5 2) ∷ items.Word (rv.Lw 5 5 (pos 0)) ∷ items.Word (rv.Addi 6 0 (pos 1)) ∷ items.Word (rv.Add 5 5 6) ∷ items.Word (rv.Lui 7 (pos 1)) ∷ items.Word (rv.Add 7 7 2) ∷ items.Word (rv.Sw 7 5 (pos 2044)) ∷ items.Word (rv.Lui 5 (pos 1)) ∷ items.Word (rv.Add 5 5 2) ∷ items.Word (rv.Lw 5 5 (neg_ℤ (pos 2048))) ∷ items.Word (rv.Lui 7 (pos 1)) ∷ items.Word (rv.Add 7 7 2) ∷ items.Word (rv.Sw 7 5 (neg_ℤ (pos 2048))) ∷ items.Word (rv.Lw 5 2 (pos 2044)) ∷ items.Word (rv.Lui 7 (pos 1)) ∷ items.Word (rv.Add 7 7 2) ∷ items.Word (rv.Sw 7 5 (neg_ℤ (pos 2044))) ∷ items.Word (rv.Lui 5 (pos 1)) ∷ items.Word (rv.Add 5 5 2) ∷ items.Word (rv.Lw 5 5 (pos 2044)) ∷ items.Word (rv.Lui 7 (pos 1)) ∷ items.Word (rv.Add 7 7 2) ∷ items.Word (rv.Sw 7 5 (pos 4)) ∷ items.Word (rv.Lui 5 (pos 1)) ∷ items.Word (rv.Add 5 5 2) ∷ items.Word (rv.Lw 5 5 (pos 2044)) ∷ items.Word (rv.Beq 5 0 (neg_ℤ (pos 172))) ∷ items.Word (rv.Lw 10 2 (pos 2044)) ∷ items.Word (rv.Lw 1 2 (pos 0)) ∷ items.Word (rv.Lui 5 (pos 16)) ∷ items.Word (rv.Addi 5 5 (pos 0)) ∷ items.Word (rv.Add 2 2 5) ∷ items.Word (rv.Jalr 0 1 (pos 0)) ∷ [] } ∷
    record { frame = record { bytes = 65536; homes = home.InSlot 2044 ∷ home.InSlot 2048 ∷ [] }; body = record { params = 1; regs = 2; blocks = record { phis = []; code = []; end = ends.Cond (operand.Reg (record { 0 = 0 })) (record { 0 = 1 }) (record { 0 = 2 }) } ∷ record { phis = []; code = []; end = ends.Ret (Some (operand.Word 1)) } ∷ record { phis = []; code = []; end = ends.Ret (Some (operand.Word 2)) } ∷ [] }; expected = items.Word (rv.Lui 5 (pos 16)) ∷ items.Word (rv.Addi 5 5 (pos 0)) ∷ items.Word (rv.Sub 2 2 5) ∷ items.Word (rv.Sw 2 1 (pos 0)) ∷ items.Word (rv.Sw 2 10 (pos 2044)) ∷ items.Word (rv.Lw 5 2 (pos 2044)) ∷ items.Word (rv.Beq 5 0 (pos 28)) ∷ items.Word (rv.Addi 10 0 (pos 1)) ∷ items.Word (rv.Lw 1 2 (pos 0)) ∷ items.Word (rv.Lui 5 (pos 16)) ∷ items.Word (rv.Addi 5 5 (pos 0)) ∷ items.Word (rv.Add 2 2 5) ∷ items.Word (rv.Jalr 0 1 (pos 0)) ∷ items.Word (rv.Addi 10 0 (pos 2)) ∷ items.Word (rv.Lw 1 2 (pos 0)) ∷ items.Word (rv.Lui 5 (pos 16)) ∷ items.Word (rv.Addi 5 5 (pos 0)) ∷ items.Word (rv.Add 2 2 5) ∷ items.Word (rv.Jalr 0 1 (pos 0)) ∷ [] } ∷
    record { frame = record { bytes = 65536; homes = home.InSlot 2044 ∷ home.InSlot 2048 ∷ [] }; body = record { params = 1; regs = 2; blocks = record { phis = []; code = []; end = ends.Cond (operand.Reg (record { 0 = 0 })) (record { 0 = 2 }) (record { 0 = 1 }) } ∷ record { phis = []; code = []; end = ends.Ret (Some (operand.Word 1)) } ∷ record { phis = []; code = []; end = ends.Ret (Some (operand.Word 2)) } ∷ [] }; expected = items.Word (rv.Lui 5 (pos 16)) ∷ items.Word (rv.Addi 5 5 (pos 0)) ∷ items.Word (rv.Sub 2 2 5) ∷ items.Word (rv.Sw 2 1 (pos 0)) ∷ items.Word (rv.Sw 2 10 (pos 2044)) ∷ items.Word (rv.Lw 5 2 (pos 2044)) ∷ items.Word (rv.Bne 5 0 (pos 28)) ∷ items.Word (rv.Addi 10 0 (pos 1)) ∷ items.Word (rv.Lw 1 2 (pos 0)) ∷ items.Word (rv.Lui 5 (pos 16)) ∷ items.Word (rv.Addi 5 5 (pos 0)) ∷ items.Word (rv.Add 2 2 5) ∷ items.Word (rv.Jalr 0 1 (pos 0)) ∷ items.Word (rv.Addi 10 0 (pos 2)) ∷ items.Word (rv.Lw 1 2 (pos 0)) ∷ items.Word (rv.Lui 5 (pos 16)) ∷ items.Word (rv.Addi 5 5 (pos 0)) ∷ items.Word (rv.Add 2 2 5) ∷ items.Word (rv.Jalr 0 1 (pos 0)) ∷ [] } ∷
    record { frame = record { bytes = 65536; homes = home.InSlot 2044 ∷ [] }; body = record { params = 1; regs = 1; blocks = record { phis = []; code = []; end = ends.Br (record { 0 = 2 }) } ∷ record { phis = []; code = []; end = ends.Ret None } ∷ record { phis = []; code = []; end = ends.Br (record { 0 = 1 }) } ∷ [] }; expected = items.Word (rv.Lui 5 (pos 16)) ∷ items.Word (rv.Addi 5 5 (pos 0)) ∷ items.Word (rv.Sub 2 2 5) ∷ items.Word (rv.Sw 2 1 (pos 0)) ∷ items.Word (rv.Sw 2 10 (pos 2044)) ∷ items.Word (rv.Jal 0 (pos 24)) ∷ items.Word (rv.Lw 1 2 (pos 0)) ∷ items.Word (rv.Lui 5 (pos 16)) ∷ items.Word (rv.Addi 5 5 (pos 0)) ∷ items.Word (rv.Add 2 2 5) ∷ items.Word (rv.Jalr 0 1 (pos 0)) ∷ items.Word (rv.Jal 0 (neg_ℤ (pos 20))) ∷ [] } ∷
    record { frame = record { bytes = 65536; homes = home.InSlot 2044 ∷ home.OfPhi 2048 ∷ [] }; body = record { params = 1; regs = 2; blocks = record { phis = []; code = []; end = ends.Switch (operand.Reg (record { 0 = 0 })) W8 (record { word = 1; to = (record { 0 = 1 }) } ∷ record { word = 255; to = (record { 0 = 2 }) } ∷ record { word = 0; to = (record { 0 = 1 }) } ∷ []) (record { 0 = 3 }) } ∷ record { phis = []; code = []; end = ends.Br (record { 0 = 3 }) } ∷ record { phis = []; code = []; end = ends.Br (record { 0 = 3 }) } ∷ record { phis = record { reg = (record { 0 = 1 }); entries = record { from = (record { 0 = 0 }); value = (operand.Word 9) } ∷ record { from = (record { 0 = 1 }); value = (operand.Word 8) } ∷ record { from = (record { 0 = 2 }); value = (operand.Word 7) } ∷ [] } ∷ []; code = []; end = ends.Ret (Some (operand.Reg (record { 0 = 1 }))) } ∷ [] }; expected = items.Word (rv.Lui 5 (pos 16)) ∷ items.Word (rv.Addi 5 5 (pos 0)) ∷ items.Word (rv.Sub 2 2 5) ∷ items.Word (rv.Sw 2 1 (pos 0)) ∷ items.Word (rv.Sw 2 10 (pos 2044)) ∷ items.Word (rv.Addi 5 0 (pos 9)) ∷ items.Word (rv.Lui 7 (pos 1)) ∷ items.Word (rv.Add 7 7 2) ∷ items.Word (rv.Sw 7 5 (neg_ℤ (pos 2044))) ∷ items.Word (rv.Lw 5 2 (pos 2044)) ∷ items.Word (rv.Addi 6 0 (pos 1)) ∷ items.Word (rv.Beq 5 6 (pos 24)) ∷ items.Word (rv.Addi 6 0 (pos 255)) ∷ items.Word (rv.Beq 5 6 (pos 36)) ∷ items.Word (rv.Addi 6 0 (pos 0)) ∷ items.Word (rv.Beq 5 6 (pos 8)) ∷ items.Word (rv.Jal 0 (pos 40)) ∷ items.Word (rv.Addi 5 0 (pos 8)) ∷ items.Word (rv.Lui 7 (pos 1)) ∷ items.Word (rv.Add 7 7 2) ∷ items.Word (rv.Sw 7 5 (neg_ℤ (pos 2044))) ∷ items.Word (rv.Jal 0 (pos 20)) ∷ items.Word (rv.Addi 5 0 (pos 7)) ∷ items.Word (rv.Lui 7 (pos 1)) ∷ items.Word (rv.Add 7 7 2) ∷ items.Word (rv.Sw 7 5 (neg_ℤ (pos 2044))) ∷ items.Word (rv.Lui 5 (pos 1)) ∷ items.Word (rv.Add 5 5 2) ∷ items.Word (rv.Lw 5 5 (neg_ℤ (pos 2044))) ∷ items.Word (rv.Lui 7 (pos 1)) ∷ items.Word (rv.Add 7 7 2) ∷ items.Word (rv.Sw 7 5 (neg_ℤ (pos 2048))) ∷ items.Word (rv.Lui 10 (pos 1)) ∷ items.Word (rv.Add 10 10 2) ∷ items.Word (rv.Lw 10 10 (neg_ℤ (pos 2048))) ∷ items.Word (rv.Lw 1 2 (pos 0)) ∷ items.Word (rv.Lui 5 (pos 16)) ∷ items.Word (rv.Addi 5 5 (pos 0)) ∷ items.Word (rv.Add 2 2 5) ∷ items.Word (rv.Jalr 0 1 (pos 0)) ∷ [] } ∷
    record { frame = record { bytes = 65536; homes = home.InSlot 2044 ∷ home.InSlot 2048 ∷ [] }; body = record { params = 1; regs = 2; blocks = record { phis = []; code = []; end = ends.Switch (operand.Reg (record { 0 = 0 })) W32 ([]) (record { 0 = 1 }) } ∷ record { phis = []; code = []; end = ends.Ret None } ∷ [] }; expected = items.Word (rv.Lui 5 (pos 16)) ∷ items.Word (rv.Addi 5 5 (pos 0)) ∷ items.Word (rv.Sub 2 2 5) ∷ items.Word (rv.Sw 2 1 (pos 0)) ∷ items.Word (rv.Sw 2 10 (pos 2044)) ∷ items.Word (rv.Lw 5 2 (pos 2044)) ∷ items.Word (rv.Lw 1 2 (pos 0)) ∷ items.Word (rv.Lui 5 (pos 16)) ∷ items.Word (rv.Addi 5 5 (pos 0)) ∷ items.Word (rv.Add 2 2 5) ∷ items.Word (rv.Jalr 0 1 (pos 0)) ∷ [] } ∷
    record { frame = record { bytes = 65536; homes = home.InSlot 2044 ∷ home.OfPhi 2048 ∷ home.OfPhi 4096 ∷ [] }; body = record { params = 1; regs = 3; blocks = record { phis = []; code = []; end = ends.Switch (operand.Reg (record { 0 = 0 })) W32 (record { word = 4096; to = (record { 0 = 1 }) } ∷ record { word = 5; to = (record { 0 = 2 }) } ∷ record { word = 4294967295; to = (record { 0 = 1 }) } ∷ []) (record { 0 = 2 }) } ∷ record { phis = record { reg = (record { 0 = 1 }); entries = record { from = (record { 0 = 0 }); value = (operand.Reg (record { 0 = 0 })) } ∷ [] } ∷ []; code = []; end = ends.Ret (Some (operand.Reg (record { 0 = 1 }))) } ∷ record { phis = record { reg = (record { 0 = 2 }); entries = record { from = (record { 0 = 0 }); value = (operand.Word 4) } ∷ [] } ∷ []; code = []; end = ends.Ret (Some (operand.Reg (record { 0 = 2 }))) } ∷ [] }; expected = items.Word (rv.Lui 5 (pos 16)) ∷ items.Word (rv.Addi 5 5 (pos 0)) ∷ items.Word (rv.Sub 2 2 5) ∷ items.Word (rv.Sw 2 1 (pos 0)) ∷ items.Word (rv.Sw 2 10 (pos 2044)) ∷ items.Word (rv.Lw 5 2 (pos 2044)) ∷ items.Word (rv.Lui 7 (pos 1)) ∷ items.Word (rv.Add 7 7 2) ∷ items.Word (rv.Sw 7 5 (neg_ℤ (pos 2044))) ∷ items.Word (rv.Addi 5 0 (pos 4)) ∷ items.Word (rv.Lui 7 (pos 1)) ∷ items.Word (rv.Add 7 7 2) ∷ items.Word (rv.Sw 7 5 (pos 4)) ∷ items.Word (rv.Lw 5 2 (pos 2044)) ∷ items.Word (rv.Lui 6 (pos 1)) ∷ items.Word (rv.Beq 5 6 (pos 24)) ∷ items.Word (rv.Addi 6 0 (pos 5)) ∷ items.Word (rv.Beq 5 6 (pos 72)) ∷ items.Word (rv.Addi 6 0 (neg_ℤ (pos 1))) ∷ items.Word (rv.Beq 5 6 (pos 8)) ∷ items.Word (rv.Jal 0 (pos 60)) ∷ items.Word (rv.Lui 5 (pos 1)) ∷ items.Word (rv.Add 5 5 2) ∷ items.Word (rv.Lw 5 5 (neg_ℤ (pos 2044))) ∷ items.Word (rv.Lui 7 (pos 1)) ∷ items.Word (rv.Add 7 7 2) ∷ items.Word (rv.Sw 7 5 (neg_ℤ (pos 2048))) ∷ items.Word (rv.Lui 10 (pos 1)) ∷ items.Word (rv.Add 10 10 2) ∷ items.Word (rv.Lw 10 10 (neg_ℤ (pos 2048))) ∷ items.Word (rv.Lw 1 2 (pos 0)) ∷ items.Word (rv.Lui 5 (pos 16)) ∷ items.Word (rv.Addi 5 5 (pos 0)) ∷ items.Word (rv.Add 2 2 5) ∷ items.Word (rv.Jalr 0 1 (pos 0)) ∷ items.Word (rv.Lui 5 (pos 1)) ∷ items.Word (rv.Add 5 5 2) ∷ items.Word (rv.Lw 5 5 (pos 4)) ∷ items.Word (rv.Lui 7 (pos 1)) ∷ items.Word (rv.Add 7 7 2) ∷ items.Word (rv.Sw 7 5 (pos 0)) ∷ items.Word (rv.Lui 10 (pos 1)) ∷ items.Word (rv.Add 10 10 2) ∷ items.Word (rv.Lw 10 10 (pos 0)) ∷ items.Word (rv.Lw 1 2 (pos 0)) ∷ items.Word (rv.Lui 5 (pos 16)) ∷ items.Word (rv.Addi 5 5 (pos 0)) ∷ items.Word (rv.Add 2 2 5) ∷ items.Word (rv.Jalr 0 1 (pos 0)) ∷ [] } ∷
    record { frame = record { bytes = 65536; homes = home.InSlot 2044 ∷ home.OfPhi 2048 ∷ home.OfPhi 4096 ∷ [] }; body = record { params = 1; regs = 3; blocks = record { phis = []; code = []; end = ends.Cond (operand.Reg (record { 0 = 0 })) (record { 0 = 1 }) (record { 0 = 1 }) } ∷ record { phis = record { reg = (record { 0 = 1 }); entries = record { from = (record { 0 = 0 }); value = (operand.Word 5) } ∷ record { from = (record { 0 = 0 }); value = (operand.Word 5) } ∷ [] } ∷ record { reg = (record { 0 = 2 }); entries = record { from = (record { 0 = 0 }); value = (operand.Word 6) } ∷ record { from = (record { 0 = 0 }); value = (operand.Word 6) } ∷ [] } ∷ []; code = []; end = ends.Br (record { 0 = 2 }) } ∷ record { phis = []; code = []; end = ends.Br (record { 0 = 2 }) } ∷ [] }; expected = items.Word (rv.Lui 5 (pos 16)) ∷ items.Word (rv.Addi 5 5 (pos 0)) ∷ items.Word (rv.Sub 2 2 5) ∷ items.Word (rv.Sw 2 1 (pos 0)) ∷ items.Word (rv.Sw 2 10 (pos 2044)) ∷ items.Word (rv.Addi 5 0 (pos 5)) ∷ items.Word (rv.Lui 7 (pos 1)) ∷ items.Word (rv.Add 7 7 2) ∷ items.Word (rv.Sw 7 5 (neg_ℤ (pos 2044))) ∷ items.Word (rv.Addi 5 0 (pos 6)) ∷ items.Word (rv.Lui 7 (pos 1)) ∷ items.Word (rv.Add 7 7 2) ∷ items.Word (rv.Sw 7 5 (pos 4)) ∷ items.Word (rv.Lw 5 2 (pos 2044)) ∷ items.Word (rv.Beq 5 0 (pos 4)) ∷ items.Word (rv.Lui 5 (pos 1)) ∷ items.Word (rv.Add 5 5 2) ∷ items.Word (rv.Lw 5 5 (neg_ℤ (pos 2044))) ∷ items.Word (rv.Lui 7 (pos 1)) ∷ items.Word (rv.Add 7 7 2) ∷ items.Word (rv.Sw 7 5 (neg_ℤ (pos 2048))) ∷ items.Word (rv.Lui 5 (pos 1)) ∷ items.Word (rv.Add 5 5 2) ∷ items.Word (rv.Lw 5 5 (pos 4)) ∷ items.Word (rv.Lui 7 (pos 1)) ∷ items.Word (rv.Add 7 7 2) ∷ items.Word (rv.Sw 7 5 (pos 0)) ∷ items.Word (rv.Jal 0 (pos 0)) ∷ [] } ∷
    []

abbrev pub a_loop_of_phis : List FlatBody
a_loop_of_phis = record { params = 0; regs = 5; blocks = record { phis = []; code = []; end = ends.Br (record { 0 = 1 }) } ∷ record { phis = record { reg = (record { 0 = 0 }); entries = record { from = (record { 0 = 0 }); value = (operand.Word 1) } ∷ record { from = (record { 0 = 1 }); value = (operand.Reg (record { 0 = 1 })) } ∷ [] } ∷ record { reg = (record { 0 = 1 }); entries = record { from = (record { 0 = 0 }); value = (operand.Word 2) } ∷ record { from = (record { 0 = 1 }); value = (operand.Reg (record { 0 = 0 })) } ∷ [] } ∷ record { reg = (record { 0 = 2 }); entries = record { from = (record { 0 = 0 }); value = (operand.Word 0) } ∷ record { from = (record { 0 = 1 }); value = (operand.Reg (record { 0 = 3 })) } ∷ [] } ∷ []; code = flat.Bin (record { 0 = 3 }) op.Add W32 (operand.Reg (record { 0 = 2 })) (operand.Word 1) ∷ flat.Icmp (record { 0 = 4 }) cmp.Eq (scalar.Word W32) (operand.Reg (record { 0 = 3 })) (operand.Word 3) ∷ []; end = ends.Cond (operand.Reg (record { 0 = 4 })) (record { 0 = 2 }) (record { 0 = 1 }) } ∷ record { phis = []; code = []; end = ends.Ret (Some (operand.Reg (record { 0 = 0 }))) } ∷ [] } ∷ []

abbrev pub a_switch_into_a_phi : List FlatBody
a_switch_into_a_phi = record { params = 0; regs = 1; blocks = record { phis = []; code = []; end = ends.Switch (operand.Word 2) W32 (record { word = 1; to = (record { 0 = 1 }) } ∷ record { word = 2; to = (record { 0 = 2 }) } ∷ []) (record { 0 = 3 }) } ∷ record { phis = []; code = []; end = ends.Br (record { 0 = 3 }) } ∷ record { phis = []; code = []; end = ends.Br (record { 0 = 3 }) } ∷ record { phis = record { reg = (record { 0 = 0 }); entries = record { from = (record { 0 = 0 }); value = (operand.Word 10) } ∷ record { from = (record { 0 = 1 }); value = (operand.Word 20) } ∷ record { from = (record { 0 = 2 }); value = (operand.Word 30) } ∷ [] } ∷ []; code = []; end = ends.Ret (Some (operand.Reg (record { 0 = 0 }))) } ∷ [] } ∷ []

abbrev pub operations_that_are_not_folded : List FlatBody
operations_that_are_not_folded = record { params = 0; regs = 3; blocks = record { phis = []; code = flat.Bin (record { 0 = 0 }) op.Sdiv W32 (operand.Word 2147483648) (operand.Word 4294967295) ∷ flat.Bin (record { 0 = 1 }) op.Shl W32 (operand.Word 1) (operand.Word 32) ∷ flat.Bin (record { 0 = 2 }) op.Xor W32 (operand.Reg (record { 0 = 0 })) (operand.Reg (record { 0 = 1 })) ∷ []; end = ends.Ret (Some (operand.Reg (record { 0 = 2 }))) } ∷ [] } ∷ []

abbrev pub a_loop_of_calls : List FlatBody
a_loop_of_calls = record { params = 0; regs = 4; blocks = record { phis = []; code = []; end = ends.Br (record { 0 = 1 }) } ∷ record { phis = record { reg = (record { 0 = 0 }); entries = record { from = (record { 0 = 0 }); value = (operand.Word 0) } ∷ record { from = (record { 0 = 1 }); value = (operand.Reg (record { 0 = 2 })) } ∷ [] } ∷ []; code = flat.Call (Some (record { 0 = 1 })) (record { 0 = 1 }) ((operand.Reg (record { 0 = 0 })) ∷ []) ∷ flat.Bin (record { 0 = 2 }) op.Add W32 (operand.Reg (record { 0 = 0 })) (operand.Word 1) ∷ flat.Icmp (record { 0 = 3 }) cmp.Eq (scalar.Word W32) (operand.Reg (record { 0 = 2 })) (operand.Word 3) ∷ []; end = ends.Cond (operand.Reg (record { 0 = 3 })) (record { 0 = 2 }) (record { 0 = 1 }) } ∷ record { phis = []; code = []; end = ends.Ret (Some (operand.Reg (record { 0 = 1 }))) } ∷ [] } ∷ record { params = 1; regs = 3; blocks = record { phis = []; code = flat.Alloca (record { 0 = 1 }) 4 4 ∷ flat.Store (scalar.Word W32) 4 (operand.Reg (record { 0 = 0 })) (operand.Reg (record { 0 = 1 })) ∷ flat.Load (record { 0 = 2 }) (scalar.Word W32) 4 (operand.Reg (record { 0 = 1 })) ∷ []; end = ends.Ret (Some (operand.Reg (record { 0 = 2 }))) } ∷ [] } ∷ []

abbrev pub a_call_that_never_returns : List FlatBody
a_call_that_never_returns = record { params = 0; regs = 1; blocks = record { phis = []; code = flat.Call (Some (record { 0 = 0 })) (record { 0 = 1 }) ([]) ∷ []; end = ends.Ret (Some (operand.Reg (record { 0 = 0 }))) } ∷ [] } ∷ record { params = 0; regs = 1; blocks = record { phis = []; code = flat.Call (Some (record { 0 = 0 })) (record { 0 = 1 }) ([]) ∷ []; end = ends.Ret (Some (operand.Reg (record { 0 = 0 }))) } ∷ [] } ∷ []

abbrev pub bytes_through : List FlatBody
bytes_through = record { params = 0; regs = 3; blocks = record { phis = []; code = []; end = ends.Br (record { 0 = 1 }) } ∷ record { phis = []; code = flat.Get (Some (record { 0 = 0 })) ∷ flat.Icmp (record { 0 = 1 }) cmp.Eq (scalar.Word W32) (operand.Reg (record { 0 = 0 })) (operand.Word 4294967295) ∷ []; end = ends.Cond (operand.Reg (record { 0 = 1 })) (record { 0 = 3 }) (record { 0 = 2 }) } ∷ record { phis = []; code = flat.Put (Some (record { 0 = 2 })) (operand.Reg (record { 0 = 0 })) ∷ []; end = ends.Br (record { 0 = 1 }) } ∷ record { phis = []; code = []; end = ends.Ret (Some (operand.Word 0)) } ∷ [] } ∷ []

abbrev pub a_global_and_an_alloca : List FlatBody
a_global_and_an_alloca = record { params = 0; regs = 4; blocks = record { phis = []; code = flat.Alloca (record { 0 = 0 }) 4 4 ∷ flat.Gep (record { 0 = 1 }) (operand.Address 0 0) 0 (record { operand = (operand.Word 0); width = W32; stride = 8 } ∷ record { operand = (operand.Word 1); width = W32; stride = 4 } ∷ []) ∷ flat.Load (record { 0 = 2 }) (scalar.Word W32) 4 (operand.Reg (record { 0 = 1 })) ∷ flat.Store (scalar.Word W32) 4 (operand.Reg (record { 0 = 2 })) (operand.Reg (record { 0 = 0 })) ∷ flat.Load (record { 0 = 3 }) (scalar.Word W32) 4 (operand.Reg (record { 0 = 0 })) ∷ []; end = ends.Ret (Some (operand.Reg (record { 0 = 3 }))) } ∷ [] } ∷ []

pub record WorkedCodes : Type 0 where
  pub operations_are_right : AreRight operations
  pub comparisons_are_right : AreRight comparisons
  pub conversions_are_right : AreRight conversions
  pub loads_and_stores_are_right : AreRight loads_and_stores
  pub words_are_right : AreRight words
  pub others_are_right : AreRight others
  pub far_homes_are_right : AreRightFar far_homes
  pub text_of_a_loop_of_phis : text_bytes a_loop_of_phis ≡ 156
  pub text_of_a_switch_into_a_phi : text_bytes a_switch_into_a_phi ≡ 100
  pub text_of_operations_that_are_not_folded : text_bytes operations_that_are_not_folded ≡ 88
  pub text_of_a_loop_of_calls : text_bytes a_loop_of_calls ≡ 176
  pub text_of_a_call_that_never_returns : text_bytes a_call_that_never_returns ≡ 88
  pub text_of_bytes_through : text_bytes bytes_through ≡ 100
  pub text_of_a_global_and_an_alloca : text_bytes a_global_and_an_alloca ≡ 120
