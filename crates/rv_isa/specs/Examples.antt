-- Rows and runs of the machine, worked out.
use Rattle.std.specs.Prelude.{ℕ, ◌≡◌, ◌/◌, ◌%◌, nat_eq, if◌then◌else◌, true, false, List, [], ◌∷◌, pos, negsuc}
use Rattle.rv_isa.specs.declared.rv.Rv.{Rv}
use Rattle.rv_isa.specs.declared.rv.Rv.TheVariants.{Lui, Auipc, Jal, Jalr, Beq, Bne, Blt, Bge, Bltu, Bgeu, Lb, Lh, Lw, Lbu, Lhu, Sb, Sh, Sw, Addi, Slti, Sltiu, Xori, Ori, Andi, Slli, Srli, Srai, Add, Sub, Sll, Slt, Sltu, Xor, Srl, Sra, Or, And, Mul, Mulh, Mulhsu, Mulhu, Div, Divu, Rem, Remu, Fence, Ecall, Ebreak}
use Rattle.rv_isa.specs.Words.{word_of}
use Rattle.rv_isa.specs.Arithmetic.{sign_extended}
use Rattle.rv_isa.specs.Isa.{Stop, Running, Exit, Access, Stack, Illegal, BadCall, Effect, Sets, Jumps, Branches, Loads, Stores, Continues, Calls, Breaks, effect, x, run}

-- ---- rows

-- what an instruction at 0x10004 does, where x1 and x2 read a and b
abbrev pub row : ℕ → ℕ → Rv → Effect
row a b i = effect 0x10004 (λ r. if nat_eq r 1 then a else (if nat_eq r 2 then b else 0)) i

pub record WorkedRows : Type 0 where
  pub the_sum_wraps : row 0xFFFFFFFF 0x2 (Add 3 1 2) ≡ Sets 3 0x1
  pub the_difference_wraps : row 0x1 0x2 (Sub 3 1 2) ≡ Sets 3 0xFFFFFFFF
  pub sll_takes_five_bits : row 0x3 0x2F (Sll 3 1 2) ≡ Sets 3 0x18000
  pub slt_is_signed : row 0x80000000 0x1 (Slt 3 1 2) ≡ Sets 3 0x1
  pub sltu_is_unsigned : row 0x80000000 0x1 (Sltu 3 1 2) ≡ Sets 3 0x0
  pub xor_row : row 0xFF00FF00 0xFF00FF0 (Xor 3 1 2) ≡ Sets 3 0xF0F0F0F0
  pub srl_row : row 0x80000000 0x1F (Srl 3 1 2) ≡ Sets 3 0x1
  pub sra_copies_the_sign : row 0x80000000 0x1F (Sra 3 1 2) ≡ Sets 3 0xFFFFFFFF
  pub or_row : row 0xF0 0xF (Or 3 1 2) ≡ Sets 3 0xFF
  pub and_row : row 0xFF 0x1F0 (And 3 1 2) ≡ Sets 3 0xF0
  pub the_product_wraps : row 0x10001 0x10001 (Mul 3 1 2) ≡ Sets 3 0x20001
  pub mulh_row : row 0x80000000 0x80000000 (Mulh 3 1 2) ≡ Sets 3 0x40000000
  pub mulh_of_opposite_signs : row 0xFFFFFFFF 0x2 (Mulh 3 1 2) ≡ Sets 3 0xFFFFFFFF
  pub mulhsu_row : row 0xFFFFFFFF 0xFFFFFFFF (Mulhsu 3 1 2) ≡ Sets 3 0xFFFFFFFF
  pub mulhu_row : row 0xFFFFFFFF 0xFFFFFFFF (Mulhu 3 1 2) ≡ Sets 3 0xFFFFFFFE
  pub div_rounds_toward_zero : row 0xFFFFFFF9 0x2 (Div 3 1 2) ≡ Sets 3 0xFFFFFFFD
  pub div_by_zero : row 0x7 0x0 (Div 3 1 2) ≡ Sets 3 0xFFFFFFFF
  pub div_overflows : row 0x80000000 0xFFFFFFFF (Div 3 1 2) ≡ Sets 3 0x80000000
  pub divu_row : row 0xFFFFFFF9 0x2 (Divu 3 1 2) ≡ Sets 3 0x7FFFFFFC
  pub divu_by_zero : row 0x7 0x0 (Divu 3 1 2) ≡ Sets 3 0xFFFFFFFF
  pub rem_has_the_dividends_sign : row 0xFFFFFFF9 0x2 (Rem 3 1 2) ≡ Sets 3 0xFFFFFFFF
  pub rem_by_zero : row 0xFFFFFFF9 0x0 (Rem 3 1 2) ≡ Sets 3 0xFFFFFFF9
  pub rem_overflows : row 0x80000000 0xFFFFFFFF (Rem 3 1 2) ≡ Sets 3 0x0
  pub remu_row : row 0xFFFFFFF9 0x2 (Remu 3 1 2) ≡ Sets 3 0x1
  pub remu_by_zero : row 0x7 0x0 (Remu 3 1 2) ≡ Sets 3 0x7
  pub addi_row : row 0x5 0 (Addi 3 1 (negsuc 5)) ≡ Sets 3 0xFFFFFFFF
  pub slti_row : row 0xFFFFFFFF 0 (Slti 3 1 (pos 0)) ≡ Sets 3 0x1
  pub sltiu_of_minus_one : row 0x5 0 (Sltiu 3 1 (negsuc 0)) ≡ Sets 3 0x1
  pub xori_inverts : row 0x5 0 (Xori 3 1 (negsuc 0)) ≡ Sets 3 0xFFFFFFFA
  pub ori_row : row 0x0 0 (Ori 3 1 (negsuc 2047)) ≡ Sets 3 0xFFFFF800
  pub andi_row : row 0xFFFF 0 (Andi 3 1 (pos 255)) ≡ Sets 3 0xFF
  pub slli_row : row 0x80000001 0 (Slli 3 1 (pos 4)) ≡ Sets 3 0x10
  pub srli_row : row 0x80000000 0 (Srli 3 1 (pos 4)) ≡ Sets 3 0x8000000
  pub srai_row : row 0x80000000 0 (Srai 3 1 (pos 4)) ≡ Sets 3 0xF8000000
  pub lui_row : row 0 0 (Lui 3 (negsuc 0)) ≡ Sets 3 0xFFFFF000
  pub auipc_row : row 0 0 (Auipc 3 (pos 1)) ≡ Sets 3 0x11004
  pub jal_row : row 0 0 (Jal 1 (negsuc 3)) ≡ Jumps 1 0x10000
  pub jalr_clears_bit_0 : row 0x10000 0 (Jalr 1 1 (pos 7)) ≡ Jumps 1 0x10006
  pub beq_row : row 0x5 0x5 (Beq 1 2 (pos 8)) ≡ Branches true 0x1000C
  pub bne_row : row 0x5 0x5 (Bne 1 2 (pos 8)) ≡ Branches false 0x1000C
  pub blt_row : row 0xFFFFFFFF 0x0 (Blt 1 2 (pos 8)) ≡ Branches true 0x1000C
  pub bge_row : row 0xFFFFFFFF 0x0 (Bge 1 2 (pos 8)) ≡ Branches false 0x1000C
  pub bltu_row : row 0xFFFFFFFF 0x0 (Bltu 1 2 (pos 8)) ≡ Branches false 0x1000C
  pub bgeu_row : row 0xFFFFFFFF 0x0 (Bgeu 1 2 (pos 8)) ≡ Branches true 0x1000C
  pub lb_row : row 0 0 (Lb 3 1 (negsuc 3)) ≡ Loads 3 0xFFFFFFFC 1 (sign_extended 256)
  pub lh_row : row 0 0 (Lh 3 1 (negsuc 3)) ≡ Loads 3 0xFFFFFFFC 2 (sign_extended 65536)
  pub lw_row : row 0 0 (Lw 3 1 (negsuc 3)) ≡ Loads 3 0xFFFFFFFC 4 (λ a. a)
  pub lbu_row : row 0 0 (Lbu 3 1 (negsuc 3)) ≡ Loads 3 0xFFFFFFFC 1 (λ a. a)
  pub lhu_row : row 0 0 (Lhu 3 1 (negsuc 3)) ≡ Loads 3 0xFFFFFFFC 2 (λ a. a)
  pub a_negative_byte : sign_extended 256 0x80 ≡ 0xFFFFFF80
  pub a_positive_halfword : sign_extended 65536 0x7FFF ≡ 0x7FFF
  pub sb_row : row 0x100 7 (Sb 1 2 (pos 4)) ≡ Stores 0x104 1 7
  pub sh_row : row 0x100 7 (Sh 1 2 (pos 4)) ≡ Stores 0x104 2 7
  pub sw_row : row 0x100 7 (Sw 1 2 (pos 4)) ≡ Stores 0x104 4 7
  pub fence_row : row 0 0 (Fence 0 0 (pos 255)) ≡ Continues
  pub ecall_row : row 0 0 Ecall ≡ Calls
  pub ebreak_row : row 0 0 Ebreak ≡ Breaks
  pub x0_reads_zero : effect 0 (x (λ q. 9)) (Addi 3 0 (pos 1)) ≡ Sets 3 1

-- ---- runs

-- the bytes of a word, little-endian, and of the words of instructions
abbrev pub onto : ℕ → List ℕ → List ℕ
onto w rest = w % 256 ∷ w / 256 % 256 ∷ w / 65536 % 256 ∷ w / 16777216 % 256 ∷ rest

abbrev pub text_of : List Rv → List ℕ
text_of [] = []
text_of (i ∷ is) = onto (word_of i) (text_of is)

-- instructions without data, where the input has these bytes, come to an end after n turns
pub record Ends (instructions : List Rv) (input : List ℕ) (n : ℕ) (stop : Stop) (output : List ℕ) : Type 0 where
  pub stop_is : (run (record { text = text_of instructions; data_bytes = [] }) input n).stop ≡ stop
  pub output_is : (run (record { text = text_of instructions; data_bytes = [] }) input n).output ≡ output

pub record WorkedRuns : Type 0 where
  pub a_put_and_an_exit : Ends (Addi 10 0 (pos 65) ∷ Addi 17 0 (pos 1) ∷ Ecall ∷ Addi 17 0 (pos 3) ∷ Ecall ∷ []) [] 5 (Exit 65) (65 ∷ [])
  pub one_turn_less : Ends (Addi 10 0 (pos 65) ∷ Addi 17 0 (pos 1) ∷ Ecall ∷ Addi 17 0 (pos 3) ∷ Ecall ∷ []) [] 4 Running (65 ∷ [])
  pub a_byte_and_the_inputs_end : Ends (Addi 17 0 (pos 2) ∷ Ecall ∷ Addi 11 10 (pos 0) ∷ Ecall ∷ Add 10 10 11 ∷ Addi 17 0 (pos 3) ∷ Ecall ∷ []) (7 ∷ []) 7 (Exit 6) []
  pub no_text : Ends [] [] 1 (Access 0x10000) []
  pub a_misaligned_target : Ends (Jal 0 (pos 6) ∷ Ebreak ∷ []) [] 2 (Access 0x10006) []
  pub a_store_below_the_stack : Ends (Lui 5 (pos 0x7FEFF) ∷ Sb 5 0 (negsuc 0) ∷ []) [] 2 (Stack 0x7FEFEFFF) []
  pub the_guards_end_is_tested_first : Ends (Lui 5 (pos 0x7FEDF) ∷ Lw 5 5 (negsuc 0) ∷ []) [] 2 (Stack 0x7FEDEFFF) []
  pub below_the_guard : Ends (Lui 5 (pos 0x7FEDF) ∷ Lb 5 5 (negsuc 0) ∷ []) [] 2 (Access 0x7FEDEFFF) []
  pub a_fetch_in_the_guard : Ends (Lui 5 (pos 0x7FEDF) ∷ Jalr 0 5 (pos 0) ∷ []) [] 3 (Stack 0x7FEDF000) []
  pub a_store_to_the_text : Ends (Auipc 5 (pos 0) ∷ Sw 5 0 (pos 0) ∷ []) [] 2 (Access 0x10000) []
  pub a_load_from_the_text : Ends (Auipc 5 (pos 0) ∷ Lw 10 5 (pos 8) ∷ Addi 17 0 (pos 3) ∷ Ecall ∷ []) [] 4 (Exit 0x00300893) []
  pub a_store_and_a_load : Ends (Addi 5 0 (negsuc 2) ∷ Sh 2 5 (negsuc 3) ∷ Lb 10 2 (negsuc 2) ∷ Addi 17 0 (pos 3) ∷ Ecall ∷ []) [] 5 (Exit 0xFFFFFFFF) []
  pub a_misaligned_load : Ends (Lw 5 2 (negsuc 5) ∷ []) [] 1 (Access 0x7FFFEFFA) []
  pub the_stack_ends : Ends (Lw 5 2 (pos 0) ∷ []) [] 1 (Access 0x7FFFF000) []
  pub no_instruction : Ends (Ebreak ∷ []) [] 1 (Illegal 0x00100073) []
  pub a_bad_call : Ends (Addi 17 0 (pos 9) ∷ Ecall ∷ []) [] 2 (BadCall 9) []
