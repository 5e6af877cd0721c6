-- The low bits of a signed number, read from its 32 bits.
use Rattle.std.proofs.Common.{◌≡◌, ℕ, suc, ◌+◌, ◌-◌, ◌*◌, ◌/◌, ◌%◌, ◌^◌, ◌<◌, refl, sym, ap, ◌∙◌, arith, ℤ, pos, negsuc}
use Rattle.std.proofs.Math.Nat.{mul-add, div-lt_iff_lt-mul}
use Rattle.std.proofs.lemmas.Nat.{mod-mul-add, div-add-mod', mod_below, pow_pos, pow-add}
use Rattle.std.specs.Int.{w32, cast_unsigned}
use Rattle.std.specs.Prelude.{FitsSigned}
use Rattle.rv_isa.specs.Words.{low_bits}

-- where a is k * m + r, and m * q is above it
complement_parts : (m k d r : ℕ) → r < m → ((k + 1 + d) * m - 1 - (k * m + r)) % m ≡ m - 1 - r
complement_parts m k d r h =
    let e : m * (k + 1 + d) ≡ m * (k + 1) + m * d = mul-add m (k + 1) d in
    let f : m * (k + 1) ≡ m * k + m * 1 = mul-add m k 1 in
    let s : (k + 1 + d) * m - 1 - (k * m + r) ≡ d * m + (m - 1 - r) = grind arith in
    rw s (mod-mul-add d m (m - 1 - r) (omega arith))

-- the complement of a number, modulo a divisor of the number of words
complement : (m q a : ℕ) → 0 < m → a < q * m → (q * m - 1 - a) % m ≡ m - 1 - a % m
complement m q a some below =
    let k = a / m in
    let e : k * m + a % m ≡ a = div-add-mod' a m in
    let r : a % m < m = mod_below a m some in
    let lt : k < q = (div-lt_iff_lt-mul some).1 below in
    let s : k + 1 + (q - 1 - k) ≡ q = omega arith in
    let c = complement_parts m k (q - 1 - k) (a % m) r in
    rw (s, e) at c

pub low_bits_is : (n : ℕ) (z : ℤ) → n < 32 → FitsSigned w32 z → cast_unsigned w32 z % 2 ^ n ≡ low_bits n z
low_bits_is n (pos a) h f = refl
low_bits_is n (negsuc a) h f =
    let whole : 32 - n + n ≡ 32 = omega arith in
    let p : 2 ^ (32 - n) * 2 ^ n ≡ 2 ^ 32 = sym (pow-add 2 (32 - n) n) ∙ ap (λ k. 2 ^ k) whole in
    let small : a < 2 ^ 32 = let g = f.sfits in omega arith in
    let below : a < 2 ^ (32 - n) * 2 ^ n = rw p small in
    let c : (2 ^ (32 - n) * 2 ^ n - 1 - a) % 2 ^ n ≡ 2 ^ n - 1 - a % 2 ^ n = complement (2 ^ n) (2 ^ (32 - n)) a (pow_pos n) below in
    let d : 4294967296 - suc a ≡ 2 ^ (32 - n) * 2 ^ n - 1 - a = omega arith in
    rw d c
