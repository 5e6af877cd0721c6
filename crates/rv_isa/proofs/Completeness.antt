-- A word that an instruction has decodes to that instruction.
use Rattle.std.proofs.Common.{◌≡◌, ℕ, refl, ◌∙◌, subst, Some, lit<}
use Rattle.rv_isa.specs.declared.rv.Rv.{Rv}
use Rattle.rv_isa.specs.declared.rv.Rv.TheVariants.{Lui, Auipc, Jal, Jalr, Beq, Bne, Blt, Bge, Bltu, Bgeu, Lb, Lh, Lw, Lbu, Lhu, Sb, Sh, Sw, Addi, Slti, Sltiu, Xori, Ori, Andi, Slli, Srli, Srai, Add, Sub, Sll, Slt, Sltu, Xor, Srl, Sra, Or, And, Mul, Mulh, Mulhsu, Mulhu, Div, Divu, Rem, Remu, Fence, Ecall, Ebreak}
use Rattle.rv_isa.specs.Words.{word_of, InRange}
use Rattle.rv_isa.specs.Decode.{opcode_of, funct3_of, funct7_of, decode_of, jalr_of, branch_of, load_of, store_of, op_imm_of, shift_left_of, shift_right_of, op_of, base_op_of, other_op_of, multiply_of, fence_of, system_of}
use Rattle.rv_isa.proofs.Formats.{r_reads, i_reads, shift_reads, s_reads, b_reads, u_reads, j_reads}

-- ---- what an opcode leads to

at_jalr : (w : ℕ) → opcode_of w ≡ 0x67 → decode_of w ≡ jalr_of w
unfolding decode_of
at_jalr w e = rw e refl

at_branch : (w : ℕ) → opcode_of w ≡ 0x63 → decode_of w ≡ branch_of w
unfolding decode_of
at_branch w e = rw e refl

at_load : (w : ℕ) → opcode_of w ≡ 0x03 → decode_of w ≡ load_of w
unfolding decode_of
at_load w e = rw e refl

at_store : (w : ℕ) → opcode_of w ≡ 0x23 → decode_of w ≡ store_of w
unfolding decode_of
at_store w e = rw e refl

at_op_imm : (w : ℕ) → opcode_of w ≡ 0x13 → decode_of w ≡ op_imm_of w
unfolding decode_of
at_op_imm w e = rw e refl

at_op : (w : ℕ) → opcode_of w ≡ 0x33 → decode_of w ≡ op_of w
unfolding decode_of
at_op w e = rw e refl

at_fence : (w : ℕ) → opcode_of w ≡ 0x0F → decode_of w ≡ fence_of w
unfolding decode_of
at_fence w e = rw e refl

at_system : (w : ℕ) → opcode_of w ≡ 0x73 → decode_of w ≡ system_of w
unfolding decode_of
at_system w e = rw e refl

at_shift_left : (w : ℕ) → funct3_of w ≡ 1 → op_imm_of w ≡ shift_left_of w
unfolding op_imm_of
at_shift_left w e = rw e refl

at_shift_right : (w : ℕ) → funct3_of w ≡ 5 → op_imm_of w ≡ shift_right_of w
unfolding op_imm_of
at_shift_right w e = rw e refl

at_base_op : (w : ℕ) → funct7_of w ≡ 0x00 → op_of w ≡ base_op_of w
unfolding op_of
at_base_op w e = rw e refl

at_other_op : (w : ℕ) → funct7_of w ≡ 0x20 → op_of w ≡ other_op_of w
unfolding op_of
at_other_op w e = rw e refl

at_multiply : (w : ℕ) → funct7_of w ≡ 0x01 → op_of w ≡ multiply_of w
unfolding op_of
at_multiply w e = rw e refl

-- ---- the instructions

pub complete : (i : Rv) (w : ℕ) → InRange i → word_of i ≡ w → decode_of w ≡ Some i
unfolding jalr_of branch_of load_of store_of op_imm_of shift_left_of shift_right_of base_op_of other_op_of multiply_of fence_of system_of
complete (Lui rd imm) w r e =
    let f = u_reads 0x37 rd imm w (lit< tt) r e in unfold decode_of in rw (f.opcode_is, f.rd_is, f.imm_is) refl
complete (Auipc rd imm) w r e =
    let f = u_reads 0x17 rd imm w (lit< tt) r e in unfold decode_of in rw (f.opcode_is, f.rd_is, f.imm_is) refl
complete (Jal rd distance) w r e =
    let f = j_reads 0x6F rd distance w (lit< tt) r e in unfold decode_of in rw (f.opcode_is, f.rd_is, f.distance_is) refl
complete (Jalr rd rs1 imm) w r e =
    let f = i_reads 0x67 0 rd rs1 imm w (lit< tt) (lit< tt) r e in
    at_jalr w f.opcode_is ∙ rw (f.funct3_is, f.rd_is, f.rs1_is, f.imm_is) refl
complete (Beq rs1 rs2 distance) w r e =
    let f = b_reads 0x63 0 rs1 rs2 distance w (lit< tt) (lit< tt) r e in
    at_branch w f.opcode_is ∙ rw (f.funct3_is, f.rs1_is, f.rs2_is, f.distance_is) refl
complete (Bne rs1 rs2 distance) w r e =
    let f = b_reads 0x63 1 rs1 rs2 distance w (lit< tt) (lit< tt) r e in
    at_branch w f.opcode_is ∙ rw (f.funct3_is, f.rs1_is, f.rs2_is, f.distance_is) refl
complete (Blt rs1 rs2 distance) w r e =
    let f = b_reads 0x63 4 rs1 rs2 distance w (lit< tt) (lit< tt) r e in
    at_branch w f.opcode_is ∙ rw (f.funct3_is, f.rs1_is, f.rs2_is, f.distance_is) refl
complete (Bge rs1 rs2 distance) w r e =
    let f = b_reads 0x63 5 rs1 rs2 distance w (lit< tt) (lit< tt) r e in
    at_branch w f.opcode_is ∙ rw (f.funct3_is, f.rs1_is, f.rs2_is, f.distance_is) refl
complete (Bltu rs1 rs2 distance) w r e =
    let f = b_reads 0x63 6 rs1 rs2 distance w (lit< tt) (lit< tt) r e in
    at_branch w f.opcode_is ∙ rw (f.funct3_is, f.rs1_is, f.rs2_is, f.distance_is) refl
complete (Bgeu rs1 rs2 distance) w r e =
    let f = b_reads 0x63 7 rs1 rs2 distance w (lit< tt) (lit< tt) r e in
    at_branch w f.opcode_is ∙ rw (f.funct3_is, f.rs1_is, f.rs2_is, f.distance_is) refl
complete (Lb rd rs1 imm) w r e =
    let f = i_reads 0x03 0 rd rs1 imm w (lit< tt) (lit< tt) r e in
    at_load w f.opcode_is ∙ rw (f.funct3_is, f.rd_is, f.rs1_is, f.imm_is) refl
complete (Lh rd rs1 imm) w r e =
    let f = i_reads 0x03 1 rd rs1 imm w (lit< tt) (lit< tt) r e in
    at_load w f.opcode_is ∙ rw (f.funct3_is, f.rd_is, f.rs1_is, f.imm_is) refl
complete (Lw rd rs1 imm) w r e =
    let f = i_reads 0x03 2 rd rs1 imm w (lit< tt) (lit< tt) r e in
    at_load w f.opcode_is ∙ rw (f.funct3_is, f.rd_is, f.rs1_is, f.imm_is) refl
complete (Lbu rd rs1 imm) w r e =
    let f = i_reads 0x03 4 rd rs1 imm w (lit< tt) (lit< tt) r e in
    at_load w f.opcode_is ∙ rw (f.funct3_is, f.rd_is, f.rs1_is, f.imm_is) refl
complete (Lhu rd rs1 imm) w r e =
    let f = i_reads 0x03 5 rd rs1 imm w (lit< tt) (lit< tt) r e in
    at_load w f.opcode_is ∙ rw (f.funct3_is, f.rd_is, f.rs1_is, f.imm_is) refl
complete (Sb rs1 rs2 imm) w r e =
    let f = s_reads 0x23 0 rs1 rs2 imm w (lit< tt) (lit< tt) r e in
    at_store w f.opcode_is ∙ rw (f.funct3_is, f.rs1_is, f.rs2_is, f.imm_is) refl
complete (Sh rs1 rs2 imm) w r e =
    let f = s_reads 0x23 1 rs1 rs2 imm w (lit< tt) (lit< tt) r e in
    at_store w f.opcode_is ∙ rw (f.funct3_is, f.rs1_is, f.rs2_is, f.imm_is) refl
complete (Sw rs1 rs2 imm) w r e =
    let f = s_reads 0x23 2 rs1 rs2 imm w (lit< tt) (lit< tt) r e in
    at_store w f.opcode_is ∙ rw (f.funct3_is, f.rs1_is, f.rs2_is, f.imm_is) refl
complete (Addi rd rs1 imm) w r e =
    let f = i_reads 0x13 0 rd rs1 imm w (lit< tt) (lit< tt) r e in
    at_op_imm w f.opcode_is ∙ rw (f.funct3_is, f.rd_is, f.rs1_is, f.imm_is) refl
complete (Slti rd rs1 imm) w r e =
    let f = i_reads 0x13 2 rd rs1 imm w (lit< tt) (lit< tt) r e in
    at_op_imm w f.opcode_is ∙ rw (f.funct3_is, f.rd_is, f.rs1_is, f.imm_is) refl
complete (Sltiu rd rs1 imm) w r e =
    let f = i_reads 0x13 3 rd rs1 imm w (lit< tt) (lit< tt) r e in
    at_op_imm w f.opcode_is ∙ rw (f.funct3_is, f.rd_is, f.rs1_is, f.imm_is) refl
complete (Xori rd rs1 imm) w r e =
    let f = i_reads 0x13 4 rd rs1 imm w (lit< tt) (lit< tt) r e in
    at_op_imm w f.opcode_is ∙ rw (f.funct3_is, f.rd_is, f.rs1_is, f.imm_is) refl
complete (Ori rd rs1 imm) w r e =
    let f = i_reads 0x13 6 rd rs1 imm w (lit< tt) (lit< tt) r e in
    at_op_imm w f.opcode_is ∙ rw (f.funct3_is, f.rd_is, f.rs1_is, f.imm_is) refl
complete (Andi rd rs1 imm) w r e =
    let f = i_reads 0x13 7 rd rs1 imm w (lit< tt) (lit< tt) r e in
    at_op_imm w f.opcode_is ∙ rw (f.funct3_is, f.rd_is, f.rs1_is, f.imm_is) refl
complete (Slli rd rs1 amount) w r e =
    let f = shift_reads 0x13 1 0x00 rd rs1 amount w (lit< tt) (lit< tt) (lit< tt) r e in
    at_op_imm w f.opcode_is ∙ at_shift_left w f.funct3_is ∙ rw (f.funct7_is, f.rd_is, f.rs1_is, f.amount_is) refl
complete (Srli rd rs1 amount) w r e =
    let f = shift_reads 0x13 5 0x00 rd rs1 amount w (lit< tt) (lit< tt) (lit< tt) r e in
    at_op_imm w f.opcode_is ∙ at_shift_right w f.funct3_is ∙ rw (f.funct7_is, f.rd_is, f.rs1_is, f.amount_is) refl
complete (Srai rd rs1 amount) w r e =
    let f = shift_reads 0x13 5 0x20 rd rs1 amount w (lit< tt) (lit< tt) (lit< tt) r e in
    at_op_imm w f.opcode_is ∙ at_shift_right w f.funct3_is ∙ rw (f.funct7_is, f.rd_is, f.rs1_is, f.amount_is) refl
complete (Add rd rs1 rs2) w r e =
    let f = r_reads 0x33 0 0x00 rd rs1 rs2 w (lit< tt) (lit< tt) (lit< tt) r e in
    at_op w f.opcode_is ∙ at_base_op w f.funct7_is ∙ rw (f.funct3_is, f.rd_is, f.rs1_is, f.rs2_is) refl
complete (Sll rd rs1 rs2) w r e =
    let f = r_reads 0x33 1 0x00 rd rs1 rs2 w (lit< tt) (lit< tt) (lit< tt) r e in
    at_op w f.opcode_is ∙ at_base_op w f.funct7_is ∙ rw (f.funct3_is, f.rd_is, f.rs1_is, f.rs2_is) refl
complete (Slt rd rs1 rs2) w r e =
    let f = r_reads 0x33 2 0x00 rd rs1 rs2 w (lit< tt) (lit< tt) (lit< tt) r e in
    at_op w f.opcode_is ∙ at_base_op w f.funct7_is ∙ rw (f.funct3_is, f.rd_is, f.rs1_is, f.rs2_is) refl
complete (Sltu rd rs1 rs2) w r e =
    let f = r_reads 0x33 3 0x00 rd rs1 rs2 w (lit< tt) (lit< tt) (lit< tt) r e in
    at_op w f.opcode_is ∙ at_base_op w f.funct7_is ∙ rw (f.funct3_is, f.rd_is, f.rs1_is, f.rs2_is) refl
complete (Xor rd rs1 rs2) w r e =
    let f = r_reads 0x33 4 0x00 rd rs1 rs2 w (lit< tt) (lit< tt) (lit< tt) r e in
    at_op w f.opcode_is ∙ at_base_op w f.funct7_is ∙ rw (f.funct3_is, f.rd_is, f.rs1_is, f.rs2_is) refl
complete (Srl rd rs1 rs2) w r e =
    let f = r_reads 0x33 5 0x00 rd rs1 rs2 w (lit< tt) (lit< tt) (lit< tt) r e in
    at_op w f.opcode_is ∙ at_base_op w f.funct7_is ∙ rw (f.funct3_is, f.rd_is, f.rs1_is, f.rs2_is) refl
complete (Or rd rs1 rs2) w r e =
    let f = r_reads 0x33 6 0x00 rd rs1 rs2 w (lit< tt) (lit< tt) (lit< tt) r e in
    at_op w f.opcode_is ∙ at_base_op w f.funct7_is ∙ rw (f.funct3_is, f.rd_is, f.rs1_is, f.rs2_is) refl
complete (And rd rs1 rs2) w r e =
    let f = r_reads 0x33 7 0x00 rd rs1 rs2 w (lit< tt) (lit< tt) (lit< tt) r e in
    at_op w f.opcode_is ∙ at_base_op w f.funct7_is ∙ rw (f.funct3_is, f.rd_is, f.rs1_is, f.rs2_is) refl
complete (Sub rd rs1 rs2) w r e =
    let f = r_reads 0x33 0 0x20 rd rs1 rs2 w (lit< tt) (lit< tt) (lit< tt) r e in
    at_op w f.opcode_is ∙ at_other_op w f.funct7_is ∙ rw (f.funct3_is, f.rd_is, f.rs1_is, f.rs2_is) refl
complete (Sra rd rs1 rs2) w r e =
    let f = r_reads 0x33 5 0x20 rd rs1 rs2 w (lit< tt) (lit< tt) (lit< tt) r e in
    at_op w f.opcode_is ∙ at_other_op w f.funct7_is ∙ rw (f.funct3_is, f.rd_is, f.rs1_is, f.rs2_is) refl
complete (Mul rd rs1 rs2) w r e =
    let f = r_reads 0x33 0 0x01 rd rs1 rs2 w (lit< tt) (lit< tt) (lit< tt) r e in
    at_op w f.opcode_is ∙ at_multiply w f.funct7_is ∙ rw (f.funct3_is, f.rd_is, f.rs1_is, f.rs2_is) refl
complete (Mulh rd rs1 rs2) w r e =
    let f = r_reads 0x33 1 0x01 rd rs1 rs2 w (lit< tt) (lit< tt) (lit< tt) r e in
    at_op w f.opcode_is ∙ at_multiply w f.funct7_is ∙ rw (f.funct3_is, f.rd_is, f.rs1_is, f.rs2_is) refl
complete (Mulhsu rd rs1 rs2) w r e =
    let f = r_reads 0x33 2 0x01 rd rs1 rs2 w (lit< tt) (lit< tt) (lit< tt) r e in
    at_op w f.opcode_is ∙ at_multiply w f.funct7_is ∙ rw (f.funct3_is, f.rd_is, f.rs1_is, f.rs2_is) refl
complete (Mulhu rd rs1 rs2) w r e =
    let f = r_reads 0x33 3 0x01 rd rs1 rs2 w (lit< tt) (lit< tt) (lit< tt) r e in
    at_op w f.opcode_is ∙ at_multiply w f.funct7_is ∙ rw (f.funct3_is, f.rd_is, f.rs1_is, f.rs2_is) refl
complete (Div rd rs1 rs2) w r e =
    let f = r_reads 0x33 4 0x01 rd rs1 rs2 w (lit< tt) (lit< tt) (lit< tt) r e in
    at_op w f.opcode_is ∙ at_multiply w f.funct7_is ∙ rw (f.funct3_is, f.rd_is, f.rs1_is, f.rs2_is) refl
complete (Divu rd rs1 rs2) w r e =
    let f = r_reads 0x33 5 0x01 rd rs1 rs2 w (lit< tt) (lit< tt) (lit< tt) r e in
    at_op w f.opcode_is ∙ at_multiply w f.funct7_is ∙ rw (f.funct3_is, f.rd_is, f.rs1_is, f.rs2_is) refl
complete (Rem rd rs1 rs2) w r e =
    let f = r_reads 0x33 6 0x01 rd rs1 rs2 w (lit< tt) (lit< tt) (lit< tt) r e in
    at_op w f.opcode_is ∙ at_multiply w f.funct7_is ∙ rw (f.funct3_is, f.rd_is, f.rs1_is, f.rs2_is) refl
complete (Remu rd rs1 rs2) w r e =
    let f = r_reads 0x33 7 0x01 rd rs1 rs2 w (lit< tt) (lit< tt) (lit< tt) r e in
    at_op w f.opcode_is ∙ at_multiply w f.funct7_is ∙ rw (f.funct3_is, f.rd_is, f.rs1_is, f.rs2_is) refl
complete (Fence rd rs1 imm) w r e =
    let f = i_reads 0x0F 0 rd rs1 imm w (lit< tt) (lit< tt) r e in
    at_fence w f.opcode_is ∙ rw (f.funct3_is, f.rd_is, f.rs1_is, f.imm_is) refl
complete Ecall w r e = subst (λ v. decode_of v ≡ Some Ecall) e (unfold decode_of in refl)
complete Ebreak w r e = subst (λ v. decode_of v ≡ Some Ebreak) e (unfold decode_of in refl)

pub decodes : (i : Rv) → InRange i → decode_of (word_of i) ≡ Some i
decodes i range = complete i (word_of i) range refl
