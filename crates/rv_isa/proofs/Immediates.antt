-- A signed number and its low bits.
use Rattle.std.proofs.Common.{◌≡◌, ℕ, ◌+◌, ◌-◌, ◌*◌, ◌/◌, ◌%◌, ◌^◌, ◌<◌, ◌≤◌, if◌then◌else◌, refl, ◌∙◌, arith, nat_lt, Bool, true, false, ℤ, pos, negsuc, neg_ℤ, ◌≤ℤ◌, ◌<ℤ◌}
use Rattle.std.proofs.Math.Nat.{mod-eq_of_lt, mul-add}
use Rattle.std.proofs.lemmas.Bool.Decides.{nat_tests}
use Rattle.std.proofs.lemmas.Int.{ints}
use Rattle.std.proofs.lemmas.Nat.{mod_below, pow_pos, div-add-mod'}
use Rattle.oi_base.specs.Words.{signed_of, word_of as word_modulo}
use Rattle.rv_isa.specs.Words.{low_bits, IsEven}

pub low_bits_below : (n : ℕ) (z : ℤ) → low_bits n z < 2 ^ n
low_bits_below n (pos a) = mod_below a (2 ^ n) (pow_pos n)
low_bits_below n (negsuc a) = let p : 0 < 2 ^ n = pow_pos n in omega arith

-- ---- where there are h + h words, half of them negative

not_negative : (h a : ℕ) → a < h → signed_of (h + h) (a % (h + h)) ≡ pos a
not_negative h a below =
    let e : a % (h + h) ≡ a = mod-eq_of_lt (omega arith) in
    let half : (h + h) / 2 ≡ h = omega arith in
    rw (e, half) (grind (arith, nat_tests))

negative : (h a : ℕ) → a < h → signed_of (h + h) (h + h - 1 - a % (h + h)) ≡ negsuc a
negative h a below =
    let e : a % (h + h) ≡ a = mod-eq_of_lt (omega arith) in
    let half : (h + h) / 2 ≡ h = omega arith in
    rw (e, half) (grind (arith, nat_tests))

pub signed_word : (h : ℕ) (z : ℤ) → neg_ℤ (pos h) ≤ℤ z → z <ℤ pos h → signed_of (h + h) (word_modulo (h + h) z) ≡ z
signed_word h (pos a) low high = not_negative h a (omega (arith, ints))
signed_word h (negsuc a) low high = negative h a (omega (arith, ints))

word_signed_by : (h u : ℕ) (c : Bool) → u < h + h → nat_lt u h ≡ c → word_modulo (h + h) (if c then pos u else negsuc (h + h - 1 - u)) ≡ u
word_signed_by h u true below t = mod-eq_of_lt below
word_signed_by h u false below t =
    let e : (h + h - 1 - u) % (h + h) ≡ h + h - 1 - u = mod-eq_of_lt (omega arith) in
    rw e (omega arith)

pub word_signed : (h u : ℕ) → u < h + h → word_modulo (h + h) (signed_of (h + h) u) ≡ u
word_signed h u below =
    let half : (h + h) / 2 ≡ h = omega arith in
    rw half (word_signed_by h u (nat_lt u h) below refl)

signed_fits_by : (h u : ℕ) (c : Bool) → u < h + h → nat_lt u h ≡ c → (neg_ℤ (pos h) ≤ℤ (if c then pos u else negsuc (h + h - 1 - u))) × ((if c then pos u else negsuc (h + h - 1 - u)) <ℤ pos h)
signed_fits_by h u true below t = let l : u < h = grind (arith, nat_tests) in (omega (arith, ints), omega (arith, ints))
signed_fits_by h u false below t = let l : h ≤ u = grind (arith, nat_tests) in (omega (arith, ints), omega (arith, ints))

pub signed_fits : (h u : ℕ) → u < h + h → (neg_ℤ (pos h) ≤ℤ signed_of (h + h) u) × (signed_of (h + h) u <ℤ pos h)
signed_fits h u below =
    let half : (h + h) / 2 ≡ h = omega arith in
    rw half (signed_fits_by h u (nat_lt u h) below refl)

-- ---- even numbers have even words

mod_parity : (h a : ℕ) → a % (h + h) % 2 ≡ a % 2
mod_parity h a =
    let e : a / (h + h) * (h + h) + a % (h + h) ≡ a = div-add-mod' a (h + h) in
    let d : a / (h + h) * (h + h) ≡ a / (h + h) * h + a / (h + h) * h = mul-add (a / (h + h)) h h in
    omega arith

pub even_word : (h : ℕ) (z : ℤ) → 0 < h → IsEven z → word_modulo (h + h) z % 2 ≡ 0
even_word h (pos a) some even = mod_parity h a ∙ even
even_word h (negsuc a) some even =
    let p = mod_parity h a in
    let l : a % (h + h) < h + h = mod_below a (h + h) (omega arith) in
    omega arith

even_signed_by : (h u : ℕ) (c : Bool) → u < h + h → u % 2 ≡ 0 → IsEven (if c then pos u else negsuc (h + h - 1 - u))
even_signed_by h u true below even = even
even_signed_by h u false below even = omega arith

pub even_signed : (h u : ℕ) → u < h + h → u % 2 ≡ 0 → IsEven (signed_of (h + h) u)
even_signed h u below even = even_signed_by h u (nat_lt u ((h + h) / 2)) below even
