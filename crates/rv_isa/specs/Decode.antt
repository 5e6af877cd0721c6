-- The instruction of a word, by the word's fields (RISC-V Unprivileged ISA, "Base Instruction Formats",
-- "Immediate Encoding Variants" and "RV32/64G Instruction Set Listings").
use Rattle.std.specs.Prelude.{ℕ, ◌+◌, ◌*◌, ◌^◌, nat_eq, if◌then◌else◌, List, [], ◌∷◌, Option, Some, None, ℤ, pos}
use Rattle.oi_base.specs.Words.{signed_of}
use Rattle.rv_isa.specs.declared.encoding.TheConstants.{ECALL_WORD, EBREAK_WORD}
use Rattle.rv_isa.specs.Words.{field}
use Rattle.rv_isa.specs.declared.rv.Rv.{Rv}
use Rattle.rv_isa.specs.declared.rv.Rv.TheVariants.{Lui, Auipc, Jal, Jalr, Beq, Bne, Blt, Bge, Bltu, Bgeu, Lb, Lh, Lw, Lbu, Lhu, Sb, Sh, Sw, Addi, Slti, Sltiu, Xori, Ori, Andi, Slli, Srli, Srai, Add, Sub, Sll, Slt, Sltu, Xor, Srl, Sra, Or, And, Mul, Mulh, Mulhsu, Mulhu, Div, Divu, Rem, Remu, Fence, Ecall, Ebreak}

-- ---- fields

abbrev pub opcode_of : ℕ → ℕ
opcode_of w = field w 6 0

abbrev pub rd_of : ℕ → ℕ
rd_of w = field w 11 7

abbrev pub funct3_of : ℕ → ℕ
funct3_of w = field w 14 12

abbrev pub rs1_of : ℕ → ℕ
rs1_of w = field w 19 15

abbrev pub rs2_of : ℕ → ℕ
rs2_of w = field w 24 20

abbrev pub funct7_of : ℕ → ℕ
funct7_of w = field w 31 25

-- the immediates of the formats, put together from their fields

unfoldable pub imm_i : ℕ → ℤ
imm_i w = signed_of (2 ^ 12) (field w 31 20)

unfoldable pub imm_s : ℕ → ℤ
imm_s w = signed_of (2 ^ 12) (field w 31 25 * 2 ^ 5 + field w 11 7)

unfoldable pub imm_b : ℕ → ℤ
imm_b w = signed_of (2 ^ 13) (field w 31 31 * 2 ^ 12 + field w 7 7 * 2 ^ 11 + field w 30 25 * 2 ^ 5 + field w 11 8 * 2 ^ 1)

unfoldable pub imm_u : ℕ → ℤ
imm_u w = signed_of (2 ^ 20) (field w 31 12)

unfoldable pub imm_j : ℕ → ℤ
imm_j w = signed_of (2 ^ 21) (field w 31 31 * 2 ^ 20 + field w 19 12 * 2 ^ 12 + field w 20 20 * 2 ^ 11 + field w 30 21 * 2 ^ 1)

-- ---- instructions

-- what a table has at a key
abbrev pub choose : ℕ → List (ℕ × Option Rv) → Option Rv
choose key [] = None
choose key (row ∷ rows) = if nat_eq key row.0 then row.1 else choose key rows

unfoldable pub branch_of : ℕ → Option Rv
branch_of w = choose (funct3_of w) (
    (0, Some (Beq (rs1_of w) (rs2_of w) (imm_b w)))
    ∷ (1, Some (Bne (rs1_of w) (rs2_of w) (imm_b w)))
    ∷ (4, Some (Blt (rs1_of w) (rs2_of w) (imm_b w)))
    ∷ (5, Some (Bge (rs1_of w) (rs2_of w) (imm_b w)))
    ∷ (6, Some (Bltu (rs1_of w) (rs2_of w) (imm_b w)))
    ∷ (7, Some (Bgeu (rs1_of w) (rs2_of w) (imm_b w)))
    ∷ [])

unfoldable pub load_of : ℕ → Option Rv
load_of w = choose (funct3_of w) (
    (0, Some (Lb (rd_of w) (rs1_of w) (imm_i w)))
    ∷ (1, Some (Lh (rd_of w) (rs1_of w) (imm_i w)))
    ∷ (2, Some (Lw (rd_of w) (rs1_of w) (imm_i w)))
    ∷ (4, Some (Lbu (rd_of w) (rs1_of w) (imm_i w)))
    ∷ (5, Some (Lhu (rd_of w) (rs1_of w) (imm_i w)))
    ∷ [])

unfoldable pub store_of : ℕ → Option Rv
store_of w = choose (funct3_of w) (
    (0, Some (Sb (rs1_of w) (rs2_of w) (imm_s w)))
    ∷ (1, Some (Sh (rs1_of w) (rs2_of w) (imm_s w)))
    ∷ (2, Some (Sw (rs1_of w) (rs2_of w) (imm_s w)))
    ∷ [])

-- the shifts by a constant, by what stands above the amount
unfoldable pub shift_left_of : ℕ → Option Rv
shift_left_of w = choose (funct7_of w) (
    (0x00, Some (Slli (rd_of w) (rs1_of w) (pos (rs2_of w))))
    ∷ [])

unfoldable pub shift_right_of : ℕ → Option Rv
shift_right_of w = choose (funct7_of w) (
    (0x00, Some (Srli (rd_of w) (rs1_of w) (pos (rs2_of w))))
    ∷ (0x20, Some (Srai (rd_of w) (rs1_of w) (pos (rs2_of w))))
    ∷ [])

unfoldable pub op_imm_of : ℕ → Option Rv
op_imm_of w = choose (funct3_of w) (
    (0, Some (Addi (rd_of w) (rs1_of w) (imm_i w)))
    ∷ (1, shift_left_of w)
    ∷ (2, Some (Slti (rd_of w) (rs1_of w) (imm_i w)))
    ∷ (3, Some (Sltiu (rd_of w) (rs1_of w) (imm_i w)))
    ∷ (4, Some (Xori (rd_of w) (rs1_of w) (imm_i w)))
    ∷ (5, shift_right_of w)
    ∷ (6, Some (Ori (rd_of w) (rs1_of w) (imm_i w)))
    ∷ (7, Some (Andi (rd_of w) (rs1_of w) (imm_i w)))
    ∷ [])

-- the operations on two registers, by funct7
unfoldable pub base_op_of : ℕ → Option Rv
base_op_of w = choose (funct3_of w) (
    (0, Some (Add (rd_of w) (rs1_of w) (rs2_of w)))
    ∷ (1, Some (Sll (rd_of w) (rs1_of w) (rs2_of w)))
    ∷ (2, Some (Slt (rd_of w) (rs1_of w) (rs2_of w)))
    ∷ (3, Some (Sltu (rd_of w) (rs1_of w) (rs2_of w)))
    ∷ (4, Some (Xor (rd_of w) (rs1_of w) (rs2_of w)))
    ∷ (5, Some (Srl (rd_of w) (rs1_of w) (rs2_of w)))
    ∷ (6, Some (Or (rd_of w) (rs1_of w) (rs2_of w)))
    ∷ (7, Some (And (rd_of w) (rs1_of w) (rs2_of w)))
    ∷ [])

unfoldable pub other_op_of : ℕ → Option Rv
other_op_of w = choose (funct3_of w) (
    (0, Some (Sub (rd_of w) (rs1_of w) (rs2_of w)))
    ∷ (5, Some (Sra (rd_of w) (rs1_of w) (rs2_of w)))
    ∷ [])

unfoldable pub multiply_of : ℕ → Option Rv
multiply_of w = choose (funct3_of w) (
    (0, Some (Mul (rd_of w) (rs1_of w) (rs2_of w)))
    ∷ (1, Some (Mulh (rd_of w) (rs1_of w) (rs2_of w)))
    ∷ (2, Some (Mulhsu (rd_of w) (rs1_of w) (rs2_of w)))
    ∷ (3, Some (Mulhu (rd_of w) (rs1_of w) (rs2_of w)))
    ∷ (4, Some (Div (rd_of w) (rs1_of w) (rs2_of w)))
    ∷ (5, Some (Divu (rd_of w) (rs1_of w) (rs2_of w)))
    ∷ (6, Some (Rem (rd_of w) (rs1_of w) (rs2_of w)))
    ∷ (7, Some (Remu (rd_of w) (rs1_of w) (rs2_of w)))
    ∷ [])

unfoldable pub op_of : ℕ → Option Rv
op_of w = choose (funct7_of w) (
    (0x00, base_op_of w)
    ∷ (0x20, other_op_of w)
    ∷ (0x01, multiply_of w)
    ∷ [])

unfoldable pub jalr_of : ℕ → Option Rv
jalr_of w = choose (funct3_of w) (
    (0, Some (Jalr (rd_of w) (rs1_of w) (imm_i w)))
    ∷ [])

unfoldable pub fence_of : ℕ → Option Rv
fence_of w = choose (funct3_of w) (
    (0, Some (Fence (rd_of w) (rs1_of w) (imm_i w)))
    ∷ [])

-- these two are whole words
unfoldable pub system_of : ℕ → Option Rv
system_of w = choose w ((ECALL_WORD, Some Ecall) ∷ (EBREAK_WORD, Some Ebreak) ∷ [])

-- the instruction of a word, by its opcode
unfoldable pub decode_of : ℕ → Option Rv
decode_of w = choose (opcode_of w) (
    (0x37, Some (Lui (rd_of w) (imm_u w)))
    ∷ (0x17, Some (Auipc (rd_of w) (imm_u w)))
    ∷ (0x6F, Some (Jal (rd_of w) (imm_j w)))
    ∷ (0x67, jalr_of w)
    ∷ (0x63, branch_of w)
    ∷ (0x03, load_of w)
    ∷ (0x23, store_of w)
    ∷ (0x13, op_imm_of w)
    ∷ (0x33, op_of w)
    ∷ (0x0F, fence_of w)
    ∷ (0x73, system_of w)
    ∷ [])
