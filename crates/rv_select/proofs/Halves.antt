-- The two parts of a word make the word.
use Rattle.std.proofs.Common.{◌≡◌, ℕ, ◌+◌, ◌%◌, ◌<◌, arith, true, ◌==◌, ◌*ℤ◌, pos}
use Rattle.std.proofs.lemmas.Int.{ints}
use Rattle.std.proofs.lemmas.Bool.Decides.{nat_tests}
use Rattle.rv_isa.specs.Arithmetic.{to_word, wrapping_add}
use Rattle.rv_select.specs.Parts.{hi, lo, is_short}
use Rattle.rv_select.specs.Linked.{distance}

abbrev pub upper : ℕ → ℕ
upper w = to_word (hi w *ℤ pos 4096)

pub hi_lo : (w : ℕ) → w < 4294967296 → wrapping_add (upper w) (to_word (lo w)) ≡ w
unfolding hi lo
hi_lo w h = grind (arith, nat_tests, ints)

pub lo_short : (w : ℕ) → w < 4294967296 → is_short w ≡ true → wrapping_add 0 (to_word (lo w)) ≡ w
unfolding lo
lo_short w h s = grind (arith, nat_tests, ints)

pub hi_alone : (w : ℕ) → w < 4294967296 → (w % 4096 == 0) ≡ true → upper w ≡ w
unfolding hi
hi_alone w h s = grind (arith, nat_tests, ints)

-- the same beside a base, modulo 2 to the 32
pub hi_base_lo_wraps : (w s : ℕ) → w < 4294967296 → s < 4294967296 → wrapping_add (wrapping_add (upper w) s) (to_word (lo w)) ≡ (s + w) % 4294967296
unfolding hi lo
hi_base_lo_wraps w s h k = grind (arith, nat_tests, ints)

pub hi_base_lo : (w s : ℕ) → s + w < 4294967296 → wrapping_add (wrapping_add (upper w) s) (to_word (lo w)) ≡ s + w
hi_base_lo w s h = let e = hi_base_lo_wraps w s (omega arith) (omega arith) in omega arith

-- from one address the distance to another leads there
pub distance_leads : (from to : ℕ) → from < 4294967296 → to < 4294967296 → (from + distance from to) % 4294967296 ≡ to
distance_leads from to h k = omega arith

pub small_sum : (s o : ℕ) → s + o < 4294967296 → wrapping_add s (to_word (pos o)) ≡ s + o
small_sum s o h = grind arith
