-- The fields of a format's word, and the word of a word's fields.
use Rattle.std.proofs.Common.{◌≡◌, ℕ, ◌+◌, ◌*◌, ◌%◌, ◌^◌, ◌<◌, ap, ◌∙◌, arith, ℤ, pos, negsuc}
use Rattle.std.proofs.lemmas.Int.{ints}
use Rattle.oi_base.specs.Words.{signed_of}
use Rattle.rv_isa.specs.Words.{field, low_bits, Fits, word, RType, IType, Shift, SType, BType, UType, JType, r_word, i_word, s_word, b_word, u_word, j_word}
use Rattle.rv_isa.specs.Decode.{opcode_of, rd_of, funct3_of, rs1_of, rs2_of, funct7_of, imm_i, imm_s, imm_b, imm_u, imm_j}
use Rattle.rv_isa.proofs.Immediates.{low_bits_below, signed_word, word_signed, signed_fits, even_word, even_signed}

-- ---- the fields of a word

pub record ReadsR (opcode funct3 funct7 rd rs1 rs2 w : ℕ) : Type 0 where
  pub opcode_is : opcode_of w ≡ opcode
  pub funct3_is : funct3_of w ≡ funct3
  pub funct7_is : funct7_of w ≡ funct7
  pub rd_is : rd_of w ≡ rd
  pub rs1_is : rs1_of w ≡ rs1
  pub rs2_is : rs2_of w ≡ rs2

pub r_reads : (opcode funct3 funct7 rd rs1 rs2 w : ℕ) → opcode < 128 → funct3 < 8 → funct7 < 128 → Fits (RType opcode funct3 funct7 rd rs1 rs2) → r_word opcode funct3 funct7 rd rs1 rs2 ≡ w → ReadsR opcode funct3 funct7 rd rs1 rs2 w
r_reads opcode funct3 funct7 rd rs1 rs2 w ho h3 h7 fits e = record {
  opcode_is = omega arith;
  funct3_is = omega arith;
  funct7_is = omega arith;
  rd_is = omega arith;
  rs1_is = omega arith;
  rs2_is = omega arith;
}

pub record ReadsI (opcode funct3 rd rs1 : ℕ) (imm : ℤ) (w : ℕ) : Type 0 where
  pub opcode_is : opcode_of w ≡ opcode
  pub funct3_is : funct3_of w ≡ funct3
  pub rd_is : rd_of w ≡ rd
  pub rs1_is : rs1_of w ≡ rs1
  pub imm_is : imm_i w ≡ imm

i_field : (opcode funct3 rd rs1 u w : ℕ) → opcode < 128 → funct3 < 8 → rd < 32 → rs1 < 32 → u < 4096 → i_word opcode funct3 rd rs1 u ≡ w → (opcode_of w ≡ opcode) × (funct3_of w ≡ funct3) × (rd_of w ≡ rd) × (rs1_of w ≡ rs1) × (field w 31 20 ≡ u)
i_field opcode funct3 rd rs1 u w ho h3 hd ha hu e = (omega arith, omega arith, omega arith, omega arith, omega arith)

pub i_reads : (opcode funct3 rd rs1 : ℕ) (imm : ℤ) (w : ℕ) → opcode < 128 → funct3 < 8 → Fits (IType opcode funct3 rd rs1 imm) → i_word opcode funct3 rd rs1 (low_bits 12 imm) ≡ w → ReadsI opcode funct3 rd rs1 imm w
unfolding imm_i
i_reads opcode funct3 rd rs1 imm w ho h3 fits e =
    let f = i_field opcode funct3 rd rs1 (low_bits 12 imm) w ho h3 fits.0 fits.1 (low_bits_below 12 imm) e in
    record {
      opcode_is = f.0;
      funct3_is = f.1;
      rd_is = f.2;
      rs1_is = f.3;
      imm_is = ap (signed_of 4096) f.4 ∙ signed_word 2048 imm fits.2.0 fits.2.1;
    }

pub record ReadsShift (opcode funct3 funct7 rd rs1 : ℕ) (amount : ℤ) (w : ℕ) : Type 0 where
  pub opcode_is : opcode_of w ≡ opcode
  pub funct3_is : funct3_of w ≡ funct3
  pub funct7_is : funct7_of w ≡ funct7
  pub rd_is : rd_of w ≡ rd
  pub rs1_is : rs1_of w ≡ rs1
  pub amount_is : pos (rs2_of w) ≡ amount

pub shift_reads : (opcode funct3 funct7 rd rs1 : ℕ) (amount : ℤ) (w : ℕ) → opcode < 128 → funct3 < 8 → funct7 < 128 → Fits (Shift opcode funct3 funct7 rd rs1 amount) → i_word opcode funct3 rd rs1 (funct7 * 2 ^ 5 + low_bits 5 amount) ≡ w → ReadsShift opcode funct3 funct7 rd rs1 amount w
shift_reads opcode funct3 funct7 rd rs1 (negsuc a) w ho h3 h7 fits e = absurd (omega (arith, ints))
shift_reads opcode funct3 funct7 rd rs1 (pos a) w ho h3 h7 fits e =
    let below : a < 32 = omega (arith, ints) in
    let f : r_word opcode funct3 funct7 rd rs1 a ≡ w = omega arith in
    let r = r_reads opcode funct3 funct7 rd rs1 a w ho h3 h7 (fits.0, fits.1, below) f in
    record {
      opcode_is = r.opcode_is;
      funct3_is = r.funct3_is;
      funct7_is = r.funct7_is;
      rd_is = r.rd_is;
      rs1_is = r.rs1_is;
      amount_is = ap pos r.rs2_is;
    }

pub record ReadsS (opcode funct3 rs1 rs2 : ℕ) (imm : ℤ) (w : ℕ) : Type 0 where
  pub opcode_is : opcode_of w ≡ opcode
  pub funct3_is : funct3_of w ≡ funct3
  pub rs1_is : rs1_of w ≡ rs1
  pub rs2_is : rs2_of w ≡ rs2
  pub imm_is : imm_s w ≡ imm

s_field : (opcode funct3 rs1 rs2 u w : ℕ) → opcode < 128 → funct3 < 8 → rs1 < 32 → rs2 < 32 → u < 4096 → s_word opcode funct3 rs1 rs2 u ≡ w → (opcode_of w ≡ opcode) × (funct3_of w ≡ funct3) × (rs1_of w ≡ rs1) × (rs2_of w ≡ rs2) × (field w 31 25 * 2 ^ 5 + field w 11 7 ≡ u)
s_field opcode funct3 rs1 rs2 u w ho h3 ha hb hu e = (omega arith, omega arith, omega arith, omega arith, omega arith)

pub s_reads : (opcode funct3 rs1 rs2 : ℕ) (imm : ℤ) (w : ℕ) → opcode < 128 → funct3 < 8 → Fits (SType opcode funct3 rs1 rs2 imm) → s_word opcode funct3 rs1 rs2 (low_bits 12 imm) ≡ w → ReadsS opcode funct3 rs1 rs2 imm w
unfolding imm_s
s_reads opcode funct3 rs1 rs2 imm w ho h3 fits e =
    let f = s_field opcode funct3 rs1 rs2 (low_bits 12 imm) w ho h3 fits.0 fits.1 (low_bits_below 12 imm) e in
    record {
      opcode_is = f.0;
      funct3_is = f.1;
      rs1_is = f.2;
      rs2_is = f.3;
      imm_is = ap (signed_of 4096) f.4 ∙ signed_word 2048 imm fits.2.0 fits.2.1;
    }

pub record ReadsB (opcode funct3 rs1 rs2 : ℕ) (distance : ℤ) (w : ℕ) : Type 0 where
  pub opcode_is : opcode_of w ≡ opcode
  pub funct3_is : funct3_of w ≡ funct3
  pub rs1_is : rs1_of w ≡ rs1
  pub rs2_is : rs2_of w ≡ rs2
  pub distance_is : imm_b w ≡ distance

b_field : (opcode funct3 rs1 rs2 u w : ℕ) → opcode < 128 → funct3 < 8 → rs1 < 32 → rs2 < 32 → u < 8192 → u % 2 ≡ 0 → b_word opcode funct3 rs1 rs2 u ≡ w → (opcode_of w ≡ opcode) × (funct3_of w ≡ funct3) × (rs1_of w ≡ rs1) × (rs2_of w ≡ rs2) × (field w 31 31 * 2 ^ 12 + field w 7 7 * 2 ^ 11 + field w 30 25 * 2 ^ 5 + field w 11 8 * 2 ^ 1 ≡ u)
b_field opcode funct3 rs1 rs2 u w ho h3 ha hb hu even e = (omega arith, omega arith, omega arith, omega arith, omega arith)

pub b_reads : (opcode funct3 rs1 rs2 : ℕ) (distance : ℤ) (w : ℕ) → opcode < 128 → funct3 < 8 → Fits (BType opcode funct3 rs1 rs2 distance) → b_word opcode funct3 rs1 rs2 (low_bits 13 distance) ≡ w → ReadsB opcode funct3 rs1 rs2 distance w
unfolding imm_b
b_reads opcode funct3 rs1 rs2 distance w ho h3 fits e =
    let even = even_word 4096 distance (omega arith) fits.2.1 in
    let f = b_field opcode funct3 rs1 rs2 (low_bits 13 distance) w ho h3 fits.0 fits.1 (low_bits_below 13 distance) even e in
    record {
      opcode_is = f.0;
      funct3_is = f.1;
      rs1_is = f.2;
      rs2_is = f.3;
      distance_is = ap (signed_of 8192) f.4 ∙ signed_word 4096 distance fits.2.0.0 fits.2.0.1;
    }

pub record ReadsU (opcode rd : ℕ) (imm : ℤ) (w : ℕ) : Type 0 where
  pub opcode_is : opcode_of w ≡ opcode
  pub rd_is : rd_of w ≡ rd
  pub imm_is : imm_u w ≡ imm

u_field : (opcode rd u w : ℕ) → opcode < 128 → rd < 32 → u < 1048576 → u_word opcode rd u ≡ w → (opcode_of w ≡ opcode) × (rd_of w ≡ rd) × (field w 31 12 ≡ u)
u_field opcode rd u w ho hd hu e = (omega arith, omega arith, omega arith)

pub u_reads : (opcode rd : ℕ) (imm : ℤ) (w : ℕ) → opcode < 128 → Fits (UType opcode rd imm) → u_word opcode rd (low_bits 20 imm) ≡ w → ReadsU opcode rd imm w
unfolding imm_u
u_reads opcode rd imm w ho fits e =
    let f = u_field opcode rd (low_bits 20 imm) w ho fits.0 (low_bits_below 20 imm) e in
    record {
      opcode_is = f.0;
      rd_is = f.1;
      imm_is = ap (signed_of 1048576) f.2 ∙ signed_word 524288 imm fits.1.0 fits.1.1;
    }

pub record ReadsJ (opcode rd : ℕ) (distance : ℤ) (w : ℕ) : Type 0 where
  pub opcode_is : opcode_of w ≡ opcode
  pub rd_is : rd_of w ≡ rd
  pub distance_is : imm_j w ≡ distance

j_field : (opcode rd u w : ℕ) → opcode < 128 → rd < 32 → u < 2097152 → u % 2 ≡ 0 → j_word opcode rd u ≡ w → (opcode_of w ≡ opcode) × (rd_of w ≡ rd) × (field w 31 31 * 2 ^ 20 + field w 19 12 * 2 ^ 12 + field w 20 20 * 2 ^ 11 + field w 30 21 * 2 ^ 1 ≡ u)
j_field opcode rd u w ho hd hu even e = (omega arith, omega arith, omega arith)

pub j_reads : (opcode rd : ℕ) (distance : ℤ) (w : ℕ) → opcode < 128 → Fits (JType opcode rd distance) → j_word opcode rd (low_bits 21 distance) ≡ w → ReadsJ opcode rd distance w
unfolding imm_j
j_reads opcode rd distance w ho fits e =
    let even = even_word 1048576 distance (omega arith) fits.1.1 in
    let f = j_field opcode rd (low_bits 21 distance) w ho fits.0 (low_bits_below 21 distance) even e in
    record {
      opcode_is = f.0;
      rd_is = f.1;
      distance_is = ap (signed_of 2097152) f.2 ∙ signed_word 1048576 distance fits.1.0.0 fits.1.0.1;
    }

-- ---- the word of the fields

pub r_written : (opcode funct3 funct7 w : ℕ) → w < 4294967296 → opcode_of w ≡ opcode → funct3_of w ≡ funct3 → funct7_of w ≡ funct7 → Fits (RType opcode funct3 funct7 (rd_of w) (rs1_of w) (rs2_of w)) × (word (RType opcode funct3 funct7 (rd_of w) (rs1_of w) (rs2_of w)) ≡ w)
r_written opcode funct3 funct7 w hw o f g = ((omega arith, omega arith, omega arith), omega arith)

pub i_written : (opcode funct3 w : ℕ) → w < 4294967296 → opcode_of w ≡ opcode → funct3_of w ≡ funct3 → Fits (IType opcode funct3 (rd_of w) (rs1_of w) (imm_i w)) × (word (IType opcode funct3 (rd_of w) (rs1_of w) (imm_i w)) ≡ w)
unfolding imm_i
i_written opcode funct3 w hw o f =
    let u : ℕ = field w 31 20 in
    let below : u < 2048 + 2048 = omega arith in
    let e : low_bits 12 (signed_of 4096 u) ≡ u = word_signed 2048 u below in
    let j : i_word opcode funct3 (rd_of w) (rs1_of w) u ≡ w = omega arith in
    ((omega arith, omega arith, signed_fits 2048 u below), ap (i_word opcode funct3 (rd_of w) (rs1_of w)) e ∙ j)

pub shift_written : (opcode funct3 funct7 w : ℕ) → w < 4294967296 → opcode_of w ≡ opcode → funct3_of w ≡ funct3 → funct7_of w ≡ funct7 → Fits (Shift opcode funct3 funct7 (rd_of w) (rs1_of w) (pos (rs2_of w))) × (word (Shift opcode funct3 funct7 (rd_of w) (rs1_of w) (pos (rs2_of w))) ≡ w)
shift_written opcode funct3 funct7 w hw o f g = ((omega arith, omega arith, (omega (arith, ints), omega (arith, ints))), omega arith)

pub s_written : (opcode funct3 w : ℕ) → w < 4294967296 → opcode_of w ≡ opcode → funct3_of w ≡ funct3 → Fits (SType opcode funct3 (rs1_of w) (rs2_of w) (imm_s w)) × (word (SType opcode funct3 (rs1_of w) (rs2_of w) (imm_s w)) ≡ w)
unfolding imm_s
s_written opcode funct3 w hw o f =
    let u : ℕ = field w 31 25 * 2 ^ 5 + field w 11 7 in
    let below : u < 2048 + 2048 = omega arith in
    let e : low_bits 12 (signed_of 4096 u) ≡ u = word_signed 2048 u below in
    let j : s_word opcode funct3 (rs1_of w) (rs2_of w) u ≡ w = omega arith in
    ((omega arith, omega arith, signed_fits 2048 u below), ap (s_word opcode funct3 (rs1_of w) (rs2_of w)) e ∙ j)

pub b_written : (opcode funct3 w : ℕ) → w < 4294967296 → opcode_of w ≡ opcode → funct3_of w ≡ funct3 → Fits (BType opcode funct3 (rs1_of w) (rs2_of w) (imm_b w)) × (word (BType opcode funct3 (rs1_of w) (rs2_of w) (imm_b w)) ≡ w)
unfolding imm_b
b_written opcode funct3 w hw o f =
    let u : ℕ = field w 31 31 * 2 ^ 12 + field w 7 7 * 2 ^ 11 + field w 30 25 * 2 ^ 5 + field w 11 8 * 2 ^ 1 in
    let below : u < 4096 + 4096 = omega arith in
    let even : u % 2 ≡ 0 = omega arith in
    let e : low_bits 13 (signed_of 8192 u) ≡ u = word_signed 4096 u below in
    let j : b_word opcode funct3 (rs1_of w) (rs2_of w) u ≡ w = omega arith in
    ((omega arith, omega arith, (signed_fits 4096 u below, even_signed 4096 u below even)), ap (b_word opcode funct3 (rs1_of w) (rs2_of w)) e ∙ j)

pub u_written : (opcode w : ℕ) → w < 4294967296 → opcode_of w ≡ opcode → Fits (UType opcode (rd_of w) (imm_u w)) × (word (UType opcode (rd_of w) (imm_u w)) ≡ w)
unfolding imm_u
u_written opcode w hw o =
    let u : ℕ = field w 31 12 in
    let below : u < 524288 + 524288 = omega arith in
    let e : low_bits 20 (signed_of 1048576 u) ≡ u = word_signed 524288 u below in
    let j : u_word opcode (rd_of w) u ≡ w = omega arith in
    ((omega arith, signed_fits 524288 u below), ap (u_word opcode (rd_of w)) e ∙ j)

pub j_written : (opcode w : ℕ) → w < 4294967296 → opcode_of w ≡ opcode → Fits (JType opcode (rd_of w) (imm_j w)) × (word (JType opcode (rd_of w) (imm_j w)) ≡ w)
unfolding imm_j
j_written opcode w hw o =
    let u : ℕ = field w 31 31 * 2 ^ 20 + field w 19 12 * 2 ^ 12 + field w 20 20 * 2 ^ 11 + field w 30 21 * 2 ^ 1 in
    let below : u < 1048576 + 1048576 = omega arith in
    let even : u % 2 ≡ 0 = omega arith in
    let e : low_bits 21 (signed_of 2097152 u) ≡ u = word_signed 1048576 u below in
    let j : j_word opcode (rd_of w) u ≡ w = omega arith in
    ((omega arith, (signed_fits 1048576 u below, even_signed 1048576 u below even)), ap (j_word opcode (rd_of w)) e ∙ j)
