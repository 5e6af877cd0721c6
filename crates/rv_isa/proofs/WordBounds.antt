-- The word of an instruction has 32 bits.
use Rattle.std.proofs.Common.{ℕ, ◌+◌, ◌*◌, ◌^◌, ◌<◌, arith, ℤ, lit<}
use Rattle.rv_isa.specs.declared.rv.Rv.{Rv}
use Rattle.rv_isa.specs.declared.rv.Rv.TheVariants.{Lui, Auipc, Jal, Jalr, Beq, Bne, Blt, Bge, Bltu, Bgeu, Lb, Lh, Lw, Lbu, Lhu, Sb, Sh, Sw, Addi, Slti, Sltiu, Xori, Ori, Andi, Slli, Srli, Srai, Add, Sub, Sll, Slt, Sltu, Xor, Srl, Sra, Or, And, Mul, Mulh, Mulhsu, Mulhu, Div, Divu, Rem, Remu, Fence, Ecall, Ebreak}
use Rattle.rv_isa.specs.Words.{low_bits, Fits, word, word_of, InRange, RType, IType, Shift, SType, BType, UType, JType, i_word, s_word, b_word, u_word, j_word}
use Rattle.rv_isa.proofs.Immediates.{low_bits_below}

r_below : (opcode funct3 funct7 rd rs1 rs2 : ℕ) → opcode < 128 → funct3 < 8 → funct7 < 128 → Fits (RType opcode funct3 funct7 rd rs1 rs2) → word (RType opcode funct3 funct7 rd rs1 rs2) < 2 ^ 32
r_below opcode funct3 funct7 rd rs1 rs2 ho h3 h7 fits = omega arith

i_fields : (opcode funct3 rd rs1 u : ℕ) → opcode < 128 → funct3 < 8 → rd < 32 → rs1 < 32 → u < 4096 → i_word opcode funct3 rd rs1 u < 2 ^ 32
i_fields opcode funct3 rd rs1 u ho h3 hd ha hu = omega arith

i_below : (opcode funct3 rd rs1 : ℕ) (imm : ℤ) → opcode < 128 → funct3 < 8 → Fits (IType opcode funct3 rd rs1 imm) → word (IType opcode funct3 rd rs1 imm) < 2 ^ 32
i_below opcode funct3 rd rs1 imm ho h3 fits = i_fields opcode funct3 rd rs1 (low_bits 12 imm) ho h3 fits.0 fits.1 (low_bits_below 12 imm)

shift_below : (opcode funct3 funct7 rd rs1 : ℕ) (amount : ℤ) → opcode < 128 → funct3 < 8 → funct7 < 128 → Fits (Shift opcode funct3 funct7 rd rs1 amount) → word (Shift opcode funct3 funct7 rd rs1 amount) < 2 ^ 32
shift_below opcode funct3 funct7 rd rs1 amount ho h3 h7 fits =
    let u : ℕ = low_bits 5 amount in
    let low : low_bits 5 amount < 32 = low_bits_below 5 amount in
    let upper : funct7 * 2 ^ 5 + low_bits 5 amount < 4096 = omega arith in
    i_fields opcode funct3 rd rs1 (funct7 * 2 ^ 5 + low_bits 5 amount) ho h3 fits.0 fits.1 upper

s_fields : (opcode funct3 rs1 rs2 u : ℕ) → opcode < 128 → funct3 < 8 → rs1 < 32 → rs2 < 32 → s_word opcode funct3 rs1 rs2 u < 2 ^ 32
s_fields opcode funct3 rs1 rs2 u ho h3 ha hb = omega arith

s_below : (opcode funct3 rs1 rs2 : ℕ) (imm : ℤ) → opcode < 128 → funct3 < 8 → Fits (SType opcode funct3 rs1 rs2 imm) → word (SType opcode funct3 rs1 rs2 imm) < 2 ^ 32
s_below opcode funct3 rs1 rs2 imm ho h3 fits = s_fields opcode funct3 rs1 rs2 (low_bits 12 imm) ho h3 fits.0 fits.1

b_fields : (opcode funct3 rs1 rs2 u : ℕ) → opcode < 128 → funct3 < 8 → rs1 < 32 → rs2 < 32 → b_word opcode funct3 rs1 rs2 u < 2 ^ 32
b_fields opcode funct3 rs1 rs2 u ho h3 ha hb = omega arith

b_below : (opcode funct3 rs1 rs2 : ℕ) (distance : ℤ) → opcode < 128 → funct3 < 8 → Fits (BType opcode funct3 rs1 rs2 distance) → word (BType opcode funct3 rs1 rs2 distance) < 2 ^ 32
b_below opcode funct3 rs1 rs2 distance ho h3 fits = b_fields opcode funct3 rs1 rs2 (low_bits 13 distance) ho h3 fits.0 fits.1

u_fields : (opcode rd u : ℕ) → opcode < 128 → rd < 32 → u < 1048576 → u_word opcode rd u < 2 ^ 32
u_fields opcode rd u ho hd hu = omega arith

u_below : (opcode rd : ℕ) (imm : ℤ) → opcode < 128 → Fits (UType opcode rd imm) → word (UType opcode rd imm) < 2 ^ 32
u_below opcode rd imm ho fits = u_fields opcode rd (low_bits 20 imm) ho fits.0 (low_bits_below 20 imm)

j_fields : (opcode rd u : ℕ) → opcode < 128 → rd < 32 → j_word opcode rd u < 2 ^ 32
j_fields opcode rd u ho hd = omega arith

j_below : (opcode rd : ℕ) (distance : ℤ) → opcode < 128 → Fits (JType opcode rd distance) → word (JType opcode rd distance) < 2 ^ 32
j_below opcode rd distance ho fits = j_fields opcode rd (low_bits 21 distance) ho fits.0

pub word_below : (i : Rv) → InRange i → word_of i < 2 ^ 32
word_below (Lui rd imm) r = u_below 0x37 rd imm (lit< tt) r
word_below (Auipc rd imm) r = u_below 0x17 rd imm (lit< tt) r
word_below (Jal rd distance) r = j_below 0x6F rd distance (lit< tt) r
word_below (Jalr rd rs1 imm) r = i_below 0x67 0 rd rs1 imm (lit< tt) (lit< tt) r
word_below (Beq rs1 rs2 distance) r = b_below 0x63 0 rs1 rs2 distance (lit< tt) (lit< tt) r
word_below (Bne rs1 rs2 distance) r = b_below 0x63 1 rs1 rs2 distance (lit< tt) (lit< tt) r
word_below (Blt rs1 rs2 distance) r = b_below 0x63 4 rs1 rs2 distance (lit< tt) (lit< tt) r
word_below (Bge rs1 rs2 distance) r = b_below 0x63 5 rs1 rs2 distance (lit< tt) (lit< tt) r
word_below (Bltu rs1 rs2 distance) r = b_below 0x63 6 rs1 rs2 distance (lit< tt) (lit< tt) r
word_below (Bgeu rs1 rs2 distance) r = b_below 0x63 7 rs1 rs2 distance (lit< tt) (lit< tt) r
word_below (Lb rd rs1 imm) r = i_below 0x03 0 rd rs1 imm (lit< tt) (lit< tt) r
word_below (Lh rd rs1 imm) r = i_below 0x03 1 rd rs1 imm (lit< tt) (lit< tt) r
word_below (Lw rd rs1 imm) r = i_below 0x03 2 rd rs1 imm (lit< tt) (lit< tt) r
word_below (Lbu rd rs1 imm) r = i_below 0x03 4 rd rs1 imm (lit< tt) (lit< tt) r
word_below (Lhu rd rs1 imm) r = i_below 0x03 5 rd rs1 imm (lit< tt) (lit< tt) r
word_below (Sb rs1 rs2 imm) r = s_below 0x23 0 rs1 rs2 imm (lit< tt) (lit< tt) r
word_below (Sh rs1 rs2 imm) r = s_below 0x23 1 rs1 rs2 imm (lit< tt) (lit< tt) r
word_below (Sw rs1 rs2 imm) r = s_below 0x23 2 rs1 rs2 imm (lit< tt) (lit< tt) r
word_below (Addi rd rs1 imm) r = i_below 0x13 0 rd rs1 imm (lit< tt) (lit< tt) r
word_below (Slti rd rs1 imm) r = i_below 0x13 2 rd rs1 imm (lit< tt) (lit< tt) r
word_below (Sltiu rd rs1 imm) r = i_below 0x13 3 rd rs1 imm (lit< tt) (lit< tt) r
word_below (Xori rd rs1 imm) r = i_below 0x13 4 rd rs1 imm (lit< tt) (lit< tt) r
word_below (Ori rd rs1 imm) r = i_below 0x13 6 rd rs1 imm (lit< tt) (lit< tt) r
word_below (Andi rd rs1 imm) r = i_below 0x13 7 rd rs1 imm (lit< tt) (lit< tt) r
word_below (Slli rd rs1 amount) r = shift_below 0x13 1 0x00 rd rs1 amount (lit< tt) (lit< tt) (lit< tt) r
word_below (Srli rd rs1 amount) r = shift_below 0x13 5 0x00 rd rs1 amount (lit< tt) (lit< tt) (lit< tt) r
word_below (Srai rd rs1 amount) r = shift_below 0x13 5 0x20 rd rs1 amount (lit< tt) (lit< tt) (lit< tt) r
word_below (Add rd rs1 rs2) r = r_below 0x33 0 0x00 rd rs1 rs2 (lit< tt) (lit< tt) (lit< tt) r
word_below (Sll rd rs1 rs2) r = r_below 0x33 1 0x00 rd rs1 rs2 (lit< tt) (lit< tt) (lit< tt) r
word_below (Slt rd rs1 rs2) r = r_below 0x33 2 0x00 rd rs1 rs2 (lit< tt) (lit< tt) (lit< tt) r
word_below (Sltu rd rs1 rs2) r = r_below 0x33 3 0x00 rd rs1 rs2 (lit< tt) (lit< tt) (lit< tt) r
word_below (Xor rd rs1 rs2) r = r_below 0x33 4 0x00 rd rs1 rs2 (lit< tt) (lit< tt) (lit< tt) r
word_below (Srl rd rs1 rs2) r = r_below 0x33 5 0x00 rd rs1 rs2 (lit< tt) (lit< tt) (lit< tt) r
word_below (Or rd rs1 rs2) r = r_below 0x33 6 0x00 rd rs1 rs2 (lit< tt) (lit< tt) (lit< tt) r
word_below (And rd rs1 rs2) r = r_below 0x33 7 0x00 rd rs1 rs2 (lit< tt) (lit< tt) (lit< tt) r
word_below (Sub rd rs1 rs2) r = r_below 0x33 0 0x20 rd rs1 rs2 (lit< tt) (lit< tt) (lit< tt) r
word_below (Sra rd rs1 rs2) r = r_below 0x33 5 0x20 rd rs1 rs2 (lit< tt) (lit< tt) (lit< tt) r
word_below (Mul rd rs1 rs2) r = r_below 0x33 0 0x01 rd rs1 rs2 (lit< tt) (lit< tt) (lit< tt) r
word_below (Mulh rd rs1 rs2) r = r_below 0x33 1 0x01 rd rs1 rs2 (lit< tt) (lit< tt) (lit< tt) r
word_below (Mulhsu rd rs1 rs2) r = r_below 0x33 2 0x01 rd rs1 rs2 (lit< tt) (lit< tt) (lit< tt) r
word_below (Mulhu rd rs1 rs2) r = r_below 0x33 3 0x01 rd rs1 rs2 (lit< tt) (lit< tt) (lit< tt) r
word_below (Div rd rs1 rs2) r = r_below 0x33 4 0x01 rd rs1 rs2 (lit< tt) (lit< tt) (lit< tt) r
word_below (Divu rd rs1 rs2) r = r_below 0x33 5 0x01 rd rs1 rs2 (lit< tt) (lit< tt) (lit< tt) r
word_below (Rem rd rs1 rs2) r = r_below 0x33 6 0x01 rd rs1 rs2 (lit< tt) (lit< tt) (lit< tt) r
word_below (Remu rd rs1 rs2) r = r_below 0x33 7 0x01 rd rs1 rs2 (lit< tt) (lit< tt) (lit< tt) r
word_below (Fence rd rs1 imm) r = i_below 0x0F 0 rd rs1 imm (lit< tt) (lit< tt) r
word_below Ecall r = lit< tt
word_below Ebreak r = lit< tt
