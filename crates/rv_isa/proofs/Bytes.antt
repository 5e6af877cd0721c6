-- What is read after a write.
use Rattle.std.proofs.Common.{◌≡◌, ◌≢◌, ◌⊎◌, ℕ, zero, suc, ◌+◌, ◌*◌, ◌/◌, ◌%◌, ◌^◌, ◌<◌, ◌≤◌, refl, ◌∙◌, arith, inl, pow-suc}
use Rattle.std.proofs.Math.Arith.{mod-mul}
use Rattle.std.proofs.lemmas.Bool.Decides.{nat_tests}
use Rattle.rv_isa.specs.Memory.{read, write, with_byte}

pub with_byte_same : (f : ℕ → ℕ) (a v : ℕ) → with_byte f a v a ≡ v
with_byte_same f a v = grind (arith, nat_tests)

with_byte_other : (f : ℕ → ℕ) (a v q : ℕ) → q ≢ a → with_byte f a v q ≡ f q
with_byte_other f a v q h = grind (arith, nat_tests)

-- a byte outside of what is written stays
pub write_outside : (f : ℕ → ℕ) (n a v q : ℕ) → (q < a) ⊎ (a + n ≤ q) → write f n a v q ≡ f q
unfolding write
write_outside f zero a v q h = refl
write_outside f (suc n) a v q h =
    let ne : q ≢ a = grind arith in
    let out : (q < a + 1) ⊎ (a + 1 + n ≤ q) = grind arith in
    write_outside (with_byte f a (v % 256)) n (a + 1) (v / 256) q out ∙ with_byte_other f a (v % 256) q ne

-- what is read outside of what is written stays
pub read_outside : (f : ℕ → ℕ) (k n a v b : ℕ) → (b + k ≤ a) ⊎ (a + n ≤ b) → read (write f n a v) k b ≡ read f k b
unfolding read
read_outside f zero n a v b h = refl
read_outside f (suc k) n a v b h =
    let here : (b < a) ⊎ (a + n ≤ b) = grind arith in
    let rest : (b + 1 + k ≤ a) ⊎ (a + n ≤ b + 1) = grind arith in
    let e = write_outside f n a v b here in
    let r = read_outside f k n a v (b + 1) rest in
    rw (e, r) refl

pub read_same : (f g : ℕ → ℕ) (k b : ℕ) → ((q : ℕ) → b ≤ q → q < b + k → f q ≡ g q) → read f k b ≡ read g k b
unfolding read
read_same f g zero b h = refl
read_same f g (suc k) b h =
    let e : f b ≡ g b = h b (omega arith) (omega arith) in
    let r = read_same f g k (b + 1) (λ q lo hi. h q (omega arith) (omega arith)) in
    rw (e, r) refl

pub some_words : (n : ℕ) → 0 < 256 ^ n
some_words zero = omega arith
some_words (suc n) = let p : 256 ^ suc n ≡ 256 ^ n * 256 = pow-suc 256 n in let h = some_words n in omega arith

-- what was written is read, as far as the bytes hold it
pub read_back : (f : ℕ → ℕ) (n a v : ℕ) → read (write f n a v) n a ≡ v % 256 ^ n
unfolding read write
read_back f zero a v = omega arith
read_back f (suc n) a v =
    let g = with_byte f a (v % 256) in
    let e : write g n (a + 1) (v / 256) a ≡ v % 256 = write_outside g n (a + 1) (v / 256) a (inl (omega arith)) ∙ with_byte_same f a (v % 256) in
    let p : 256 ^ suc n ≡ 256 ^ n * 256 = pow-suc 256 n in
    let q : v % (256 ^ n * 256) ≡ (v / 256 % 256 ^ n) * 256 + v % 256 = mod-mul v {m = 256 ^ n} {c = 256} (some_words n) (omega arith) in
    let r = read_back g n (a + 1) (v / 256) in
    rw (e, r, p, q) (omega arith)
