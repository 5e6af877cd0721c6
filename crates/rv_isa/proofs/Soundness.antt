-- A word that decodes is the word of its instruction, which is in range.
use Rattle.std.proofs.Common.{◌≡◌, ℕ, ◌<◌, refl, sym, Bool, true, false, nat_eq, if◌then◌else◌, Option, Some, None}
use Rattle.std.specs.Prelude.{IfSome}
use Rattle.std.proofs.lemmas.Bool.{eqb-true}
use Rattle.rv_isa.specs.declared.encoding.TheConstants.{ECALL_WORD, EBREAK_WORD}
use Rattle.rv_isa.specs.declared.rv.Rv.{Rv}
use Rattle.rv_isa.specs.declared.rv.Rv.TheVariants.{Ecall, Ebreak}
use Rattle.rv_isa.specs.Words.{word_of, InRange}
use Rattle.rv_isa.specs.Decode.{opcode_of, funct3_of, funct7_of, decode_of, jalr_of, branch_of, load_of, store_of, op_imm_of, shift_left_of, shift_right_of, op_of, base_op_of, other_op_of, multiply_of, fence_of, system_of}
use Rattle.rv_isa.proofs.Formats.{r_written, i_written, shift_written, s_written, b_written, u_written, j_written}

-- what is to be shown of a word and what it decodes to
pub record IsDecoded (w : ℕ) (o : Option Rv) : Type 0 where
  pub encodes : IfSome o (λ i. InRange i × (word_of i ≡ w))

either : (w key k : ℕ) (a b : Option Rv) (c : Bool) → nat_eq key k ≡ c → (key ≡ k → IsDecoded w a) → IsDecoded w b → IsDecoded w (if c then a else b)
either w key k a b true t here there = here (eqb-true key k t)
either w key k a b false t here there = there

-- it holds of what a table has where it holds of the first row, where the key is that row's, and of what the others have
row : {w key k : ℕ} {a b : Option Rv} → (key ≡ k → IsDecoded w a) → IsDecoded w b → IsDecoded w (if nat_eq key k then a else b)
row {w = w} {key = key} {k = k} {a = a} {b = b} here there = either w key k a b (nat_eq key k) refl here there

nothing : (w : ℕ) → IsDecoded w None
nothing w = record { encodes = tt }

sound_jalr : (w : ℕ) → w < 4294967296 → opcode_of w ≡ 0x67 → IsDecoded w (jalr_of w)
unfolding jalr_of
sound_jalr w h o =
    row (λ f. record { encodes = i_written 0x67 0 w h o f }) (nothing w)

sound_branch : (w : ℕ) → w < 4294967296 → opcode_of w ≡ 0x63 → IsDecoded w (branch_of w)
unfolding branch_of
sound_branch w h o =
    row (λ f. record { encodes = b_written 0x63 0 w h o f }) (
    row (λ f. record { encodes = b_written 0x63 1 w h o f }) (
    row (λ f. record { encodes = b_written 0x63 4 w h o f }) (
    row (λ f. record { encodes = b_written 0x63 5 w h o f }) (
    row (λ f. record { encodes = b_written 0x63 6 w h o f }) (
    row (λ f. record { encodes = b_written 0x63 7 w h o f }) (nothing w))))))

sound_load : (w : ℕ) → w < 4294967296 → opcode_of w ≡ 0x03 → IsDecoded w (load_of w)
unfolding load_of
sound_load w h o =
    row (λ f. record { encodes = i_written 0x03 0 w h o f }) (
    row (λ f. record { encodes = i_written 0x03 1 w h o f }) (
    row (λ f. record { encodes = i_written 0x03 2 w h o f }) (
    row (λ f. record { encodes = i_written 0x03 4 w h o f }) (
    row (λ f. record { encodes = i_written 0x03 5 w h o f }) (nothing w)))))

sound_store : (w : ℕ) → w < 4294967296 → opcode_of w ≡ 0x23 → IsDecoded w (store_of w)
unfolding store_of
sound_store w h o =
    row (λ f. record { encodes = s_written 0x23 0 w h o f }) (
    row (λ f. record { encodes = s_written 0x23 1 w h o f }) (
    row (λ f. record { encodes = s_written 0x23 2 w h o f }) (nothing w)))

sound_shift_left : (w : ℕ) → w < 4294967296 → opcode_of w ≡ 0x13 → funct3_of w ≡ 1 → IsDecoded w (shift_left_of w)
unfolding shift_left_of
sound_shift_left w h o g =
    row (λ f. record { encodes = shift_written 0x13 1 0x00 w h o g f }) (nothing w)

sound_shift_right : (w : ℕ) → w < 4294967296 → opcode_of w ≡ 0x13 → funct3_of w ≡ 5 → IsDecoded w (shift_right_of w)
unfolding shift_right_of
sound_shift_right w h o g =
    row (λ f. record { encodes = shift_written 0x13 5 0x00 w h o g f }) (
    row (λ f. record { encodes = shift_written 0x13 5 0x20 w h o g f }) (nothing w))

sound_op_imm : (w : ℕ) → w < 4294967296 → opcode_of w ≡ 0x13 → IsDecoded w (op_imm_of w)
unfolding op_imm_of
sound_op_imm w h o =
    row (λ f. record { encodes = i_written 0x13 0 w h o f }) (
    row (λ f. sound_shift_left w h o f) (
    row (λ f. record { encodes = i_written 0x13 2 w h o f }) (
    row (λ f. record { encodes = i_written 0x13 3 w h o f }) (
    row (λ f. record { encodes = i_written 0x13 4 w h o f }) (
    row (λ f. sound_shift_right w h o f) (
    row (λ f. record { encodes = i_written 0x13 6 w h o f }) (
    row (λ f. record { encodes = i_written 0x13 7 w h o f }) (nothing w))))))))

sound_base_op : (w : ℕ) → w < 4294967296 → opcode_of w ≡ 0x33 → funct7_of w ≡ 0x00 → IsDecoded w (base_op_of w)
unfolding base_op_of
sound_base_op w h o g =
    row (λ f. record { encodes = r_written 0x33 0 0x00 w h o f g }) (
    row (λ f. record { encodes = r_written 0x33 1 0x00 w h o f g }) (
    row (λ f. record { encodes = r_written 0x33 2 0x00 w h o f g }) (
    row (λ f. record { encodes = r_written 0x33 3 0x00 w h o f g }) (
    row (λ f. record { encodes = r_written 0x33 4 0x00 w h o f g }) (
    row (λ f. record { encodes = r_written 0x33 5 0x00 w h o f g }) (
    row (λ f. record { encodes = r_written 0x33 6 0x00 w h o f g }) (
    row (λ f. record { encodes = r_written 0x33 7 0x00 w h o f g }) (nothing w))))))))

sound_other_op : (w : ℕ) → w < 4294967296 → opcode_of w ≡ 0x33 → funct7_of w ≡ 0x20 → IsDecoded w (other_op_of w)
unfolding other_op_of
sound_other_op w h o g =
    row (λ f. record { encodes = r_written 0x33 0 0x20 w h o f g }) (
    row (λ f. record { encodes = r_written 0x33 5 0x20 w h o f g }) (nothing w))

sound_multiply : (w : ℕ) → w < 4294967296 → opcode_of w ≡ 0x33 → funct7_of w ≡ 0x01 → IsDecoded w (multiply_of w)
unfolding multiply_of
sound_multiply w h o g =
    row (λ f. record { encodes = r_written 0x33 0 0x01 w h o f g }) (
    row (λ f. record { encodes = r_written 0x33 1 0x01 w h o f g }) (
    row (λ f. record { encodes = r_written 0x33 2 0x01 w h o f g }) (
    row (λ f. record { encodes = r_written 0x33 3 0x01 w h o f g }) (
    row (λ f. record { encodes = r_written 0x33 4 0x01 w h o f g }) (
    row (λ f. record { encodes = r_written 0x33 5 0x01 w h o f g }) (
    row (λ f. record { encodes = r_written 0x33 6 0x01 w h o f g }) (
    row (λ f. record { encodes = r_written 0x33 7 0x01 w h o f g }) (nothing w))))))))

sound_op : (w : ℕ) → w < 4294967296 → opcode_of w ≡ 0x33 → IsDecoded w (op_of w)
unfolding op_of
sound_op w h o =
    row (λ f. sound_base_op w h o f) (
    row (λ f. sound_other_op w h o f) (
    row (λ f. sound_multiply w h o f) (nothing w)))

sound_fence : (w : ℕ) → w < 4294967296 → opcode_of w ≡ 0x0F → IsDecoded w (fence_of w)
unfolding fence_of
sound_fence w h o =
    row (λ f. record { encodes = i_written 0x0F 0 w h o f }) (nothing w)

is_ecall : (w : ℕ) → w ≡ ECALL_WORD → IsDecoded w (Some Ecall)
is_ecall w e = record { encodes = (tt, sym e) }

is_ebreak : (w : ℕ) → w ≡ EBREAK_WORD → IsDecoded w (Some Ebreak)
is_ebreak w e = record { encodes = (tt, sym e) }

sound_system : (w : ℕ) → w < 4294967296 → IsDecoded w (system_of w)
unfolding system_of
sound_system w h =
    row (is_ecall w) (
    row (is_ebreak w) (nothing w))

pub sound : (w : ℕ) → w < 4294967296 → IsDecoded w (decode_of w)
unfolding decode_of
sound w h =
    row (λ o. record { encodes = u_written 0x37 w h o }) (
    row (λ o. record { encodes = u_written 0x17 w h o }) (
    row (λ o. record { encodes = j_written 0x6F w h o }) (
    row (λ o. sound_jalr w h o) (
    row (λ o. sound_branch w h o) (
    row (λ o. sound_load w h o) (
    row (λ o. sound_store w h o) (
    row (λ o. sound_op_imm w h o) (
    row (λ o. sound_op w h o) (
    row (λ o. sound_fence w h o) (
    row (λ o. sound_system w h) (nothing w)))))))))))
