-- The words of the instructions, by the fields of their formats (RISC-V Unprivileged ISA, "Base
-- Instruction Formats", "Immediate Encoding Variants" and "RV32/64G Instruction Set Listings").
use Rattle.std.specs.Prelude.{ℕ, ◌≡◌, ◌+◌, ◌-◌, ◌*◌, ◌/◌, ◌%◌, ◌^◌, ◌<◌, ℤ, pos, neg_ℤ, ◌≤ℤ◌, ◌<ℤ◌, unsigned_abs}
use Rattle.oi_base.specs.Words.{word_of as word_modulo}
use Rattle.rv_isa.specs.declared.encoding.TheConstants.{ECALL_WORD, EBREAK_WORD}
use Rattle.rv_isa.specs.declared.rv.Rv.{Rv}
use Rattle.rv_isa.specs.declared.rv.Rv.TheVariants.{Lui, Auipc, Jal, Jalr, Beq, Bne, Blt, Bge, Bltu, Bgeu, Lb, Lh, Lw, Lbu, Lhu, Sb, Sh, Sw, Addi, Slti, Sltiu, Xori, Ori, Andi, Slli, Srli, Srai, Add, Sub, Sll, Slt, Sltu, Xor, Srl, Sra, Or, And, Mul, Mulh, Mulhsu, Mulhu, Div, Divu, Rem, Remu, Fence, Ecall, Ebreak}

-- ---- fields

-- the bits high to low of a word, as a number
abbrev pub field : ℕ → ℕ → ℕ → ℕ
field w high low = w / 2 ^ low % 2 ^ (high + 1 - low)

-- the low n bits of a signed number in two's complement
abbrev pub low_bits : ℕ → ℤ → ℕ
low_bits n z = word_modulo (2 ^ n) z

-- ---- the formats: where each keeps its fields; imm is the immediate's bits

abbrev pub r_word : ℕ → ℕ → ℕ → ℕ → ℕ → ℕ → ℕ
r_word opcode funct3 funct7 rd rs1 rs2 =
    opcode + rd * 2 ^ 7 + funct3 * 2 ^ 12 + rs1 * 2 ^ 15 + rs2 * 2 ^ 20 + funct7 * 2 ^ 25

abbrev pub i_word : ℕ → ℕ → ℕ → ℕ → ℕ → ℕ
i_word opcode funct3 rd rs1 imm = opcode + rd * 2 ^ 7 + funct3 * 2 ^ 12 + rs1 * 2 ^ 15 + imm * 2 ^ 20

abbrev pub s_word : ℕ → ℕ → ℕ → ℕ → ℕ → ℕ
s_word opcode funct3 rs1 rs2 imm =
    opcode + field imm 4 0 * 2 ^ 7 + funct3 * 2 ^ 12 + rs1 * 2 ^ 15 + rs2 * 2 ^ 20 + field imm 11 5 * 2 ^ 25

abbrev pub b_word : ℕ → ℕ → ℕ → ℕ → ℕ → ℕ
b_word opcode funct3 rs1 rs2 imm =
    opcode + field imm 11 11 * 2 ^ 7 + field imm 4 1 * 2 ^ 8 + funct3 * 2 ^ 12 + rs1 * 2 ^ 15 + rs2 * 2 ^ 20
    + field imm 10 5 * 2 ^ 25 + field imm 12 12 * 2 ^ 31

abbrev pub u_word : ℕ → ℕ → ℕ → ℕ
u_word opcode rd imm = opcode + rd * 2 ^ 7 + imm * 2 ^ 12

abbrev pub j_word : ℕ → ℕ → ℕ → ℕ
j_word opcode rd imm =
    opcode + rd * 2 ^ 7 + field imm 19 12 * 2 ^ 12 + field imm 11 11 * 2 ^ 20 + field imm 10 1 * 2 ^ 21
    + field imm 20 20 * 2 ^ 31

-- ---- instructions as fields

-- an instruction's format and the values of its fields. A shift by a constant has the I format, with funct7 in
-- the immediate's upper seven bits; `ecall` and `ebreak` are whole words
pub data Fields : Type 0 where
  RType : (opcode funct3 funct7 rd rs1 rs2 : ℕ) → Fields
  IType : (opcode funct3 rd rs1 : ℕ) (imm : ℤ) → Fields
  Shift : (opcode funct3 funct7 rd rs1 : ℕ) (amount : ℤ) → Fields
  SType : (opcode funct3 rs1 rs2 : ℕ) (imm : ℤ) → Fields
  BType : (opcode funct3 rs1 rs2 : ℕ) (distance : ℤ) → Fields
  UType : (opcode rd : ℕ) (imm : ℤ) → Fields
  JType : (opcode rd : ℕ) (distance : ℤ) → Fields
  Whole : (word : ℕ) → Fields

-- the table of the instructions: opcode, then funct3 and funct7 where the format has them
abbrev pub fields_of : Rv → Fields
fields_of (Lui rd imm) = UType 0x37 rd imm
fields_of (Auipc rd imm) = UType 0x17 rd imm
fields_of (Jal rd distance) = JType 0x6F rd distance
fields_of (Jalr rd rs1 imm) = IType 0x67 0 rd rs1 imm
fields_of (Beq rs1 rs2 distance) = BType 0x63 0 rs1 rs2 distance
fields_of (Bne rs1 rs2 distance) = BType 0x63 1 rs1 rs2 distance
fields_of (Blt rs1 rs2 distance) = BType 0x63 4 rs1 rs2 distance
fields_of (Bge rs1 rs2 distance) = BType 0x63 5 rs1 rs2 distance
fields_of (Bltu rs1 rs2 distance) = BType 0x63 6 rs1 rs2 distance
fields_of (Bgeu rs1 rs2 distance) = BType 0x63 7 rs1 rs2 distance
fields_of (Lb rd rs1 imm) = IType 0x03 0 rd rs1 imm
fields_of (Lh rd rs1 imm) = IType 0x03 1 rd rs1 imm
fields_of (Lw rd rs1 imm) = IType 0x03 2 rd rs1 imm
fields_of (Lbu rd rs1 imm) = IType 0x03 4 rd rs1 imm
fields_of (Lhu rd rs1 imm) = IType 0x03 5 rd rs1 imm
fields_of (Sb rs1 rs2 imm) = SType 0x23 0 rs1 rs2 imm
fields_of (Sh rs1 rs2 imm) = SType 0x23 1 rs1 rs2 imm
fields_of (Sw rs1 rs2 imm) = SType 0x23 2 rs1 rs2 imm
fields_of (Addi rd rs1 imm) = IType 0x13 0 rd rs1 imm
fields_of (Slti rd rs1 imm) = IType 0x13 2 rd rs1 imm
fields_of (Sltiu rd rs1 imm) = IType 0x13 3 rd rs1 imm
fields_of (Xori rd rs1 imm) = IType 0x13 4 rd rs1 imm
fields_of (Ori rd rs1 imm) = IType 0x13 6 rd rs1 imm
fields_of (Andi rd rs1 imm) = IType 0x13 7 rd rs1 imm
fields_of (Slli rd rs1 amount) = Shift 0x13 1 0x00 rd rs1 amount
fields_of (Srli rd rs1 amount) = Shift 0x13 5 0x00 rd rs1 amount
fields_of (Srai rd rs1 amount) = Shift 0x13 5 0x20 rd rs1 amount
fields_of (Add rd rs1 rs2) = RType 0x33 0 0x00 rd rs1 rs2
fields_of (Sub rd rs1 rs2) = RType 0x33 0 0x20 rd rs1 rs2
fields_of (Sll rd rs1 rs2) = RType 0x33 1 0x00 rd rs1 rs2
fields_of (Slt rd rs1 rs2) = RType 0x33 2 0x00 rd rs1 rs2
fields_of (Sltu rd rs1 rs2) = RType 0x33 3 0x00 rd rs1 rs2
fields_of (Xor rd rs1 rs2) = RType 0x33 4 0x00 rd rs1 rs2
fields_of (Srl rd rs1 rs2) = RType 0x33 5 0x00 rd rs1 rs2
fields_of (Sra rd rs1 rs2) = RType 0x33 5 0x20 rd rs1 rs2
fields_of (Or rd rs1 rs2) = RType 0x33 6 0x00 rd rs1 rs2
fields_of (And rd rs1 rs2) = RType 0x33 7 0x00 rd rs1 rs2
fields_of (Mul rd rs1 rs2) = RType 0x33 0 0x01 rd rs1 rs2
fields_of (Mulh rd rs1 rs2) = RType 0x33 1 0x01 rd rs1 rs2
fields_of (Mulhsu rd rs1 rs2) = RType 0x33 2 0x01 rd rs1 rs2
fields_of (Mulhu rd rs1 rs2) = RType 0x33 3 0x01 rd rs1 rs2
fields_of (Div rd rs1 rs2) = RType 0x33 4 0x01 rd rs1 rs2
fields_of (Divu rd rs1 rs2) = RType 0x33 5 0x01 rd rs1 rs2
fields_of (Rem rd rs1 rs2) = RType 0x33 6 0x01 rd rs1 rs2
fields_of (Remu rd rs1 rs2) = RType 0x33 7 0x01 rd rs1 rs2
fields_of (Fence rd rs1 imm) = IType 0x0F 0 rd rs1 imm
fields_of Ecall = Whole ECALL_WORD
fields_of Ebreak = Whole EBREAK_WORD

-- ---- words

abbrev pub word : Fields → ℕ
word (RType opcode funct3 funct7 rd rs1 rs2) = r_word opcode funct3 funct7 rd rs1 rs2
word (IType opcode funct3 rd rs1 imm) = i_word opcode funct3 rd rs1 (low_bits 12 imm)
word (Shift opcode funct3 funct7 rd rs1 amount) = i_word opcode funct3 rd rs1 (funct7 * 2 ^ 5 + low_bits 5 amount)
word (SType opcode funct3 rs1 rs2 imm) = s_word opcode funct3 rs1 rs2 (low_bits 12 imm)
word (BType opcode funct3 rs1 rs2 distance) = b_word opcode funct3 rs1 rs2 (low_bits 13 distance)
word (UType opcode rd imm) = u_word opcode rd (low_bits 20 imm)
word (JType opcode rd distance) = j_word opcode rd (low_bits 21 distance)
word (Whole w) = w

-- the word of an instruction
abbrev pub word_of : Rv → ℕ
word_of i = word (fields_of i)

-- ---- ranges

-- a signed number of n + 1 bits
abbrev pub IsSigned : ℕ → ℤ → Type 0
IsSigned n z = (neg_ℤ (pos (2 ^ n)) ≤ℤ z) × (z <ℤ pos (2 ^ n))

abbrev pub IsEven : ℤ → Type 0
IsEven z = unsigned_abs z % 2 ≡ 0

-- each field's value has a place in the format
abbrev pub Fits : Fields → Type 0
Fits (RType opcode funct3 funct7 rd rs1 rs2) = (rd < 32) × (rs1 < 32) × (rs2 < 32)
Fits (IType opcode funct3 rd rs1 imm) = (rd < 32) × (rs1 < 32) × IsSigned 11 imm
Fits (Shift opcode funct3 funct7 rd rs1 amount) = (rd < 32) × (rs1 < 32) × ((pos 0 ≤ℤ amount) × (amount <ℤ pos 32))
Fits (SType opcode funct3 rs1 rs2 imm) = (rs1 < 32) × (rs2 < 32) × IsSigned 11 imm
Fits (BType opcode funct3 rs1 rs2 distance) = (rs1 < 32) × (rs2 < 32) × (IsSigned 12 distance × IsEven distance)
Fits (UType opcode rd imm) = (rd < 32) × IsSigned 19 imm
Fits (JType opcode rd distance) = (rd < 32) × (IsSigned 20 distance × IsEven distance)
Fits (Whole w) = Unit {0}

-- the registers' numbers are below 32, and the immediate is one that the format can hold
abbrev pub InRange : Rv → Type 0
InRange i = Fits (fields_of i)
