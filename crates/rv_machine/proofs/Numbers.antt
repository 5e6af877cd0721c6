-- Numbers of one, two and four bytes.
use Rattle.std.proofs.Common.{◌≡◌, ℕ, zero, suc, ◌+◌, ◌*◌, ◌/◌, ◌%◌, ◌<◌, refl, sym, ap, ◌∙◌, arith}
use Rattle.std.proofs.lemmas.Bool.Decides.{nat_tests}
use Rattle.rv_isa.specs.Memory.{read, write, with_byte}

-- ---- read

pub read_one : (f : ℕ → ℕ) (a : ℕ) → read f 1 a ≡ f a
unfolding read
read_one f a = omega arith

pub read_two : (f : ℕ → ℕ) (a : ℕ) → read f 2 a ≡ f a + 256 * f (a + 1)
unfolding read
read_two f a = omega arith

pub read_four : (f : ℕ → ℕ) (a : ℕ) → read f 4 a ≡ f a + 256 * (f (a + 1) + 256 * (f (a + 2) + 256 * f (a + 3)))
unfolding read
read_four f a =
    let b : a + 1 + 1 ≡ a + 2 = omega arith in
    let c : a + 2 + 1 ≡ a + 3 = omega arith in
    rw (b, c) (omega arith)

-- a number depends on its own bytes alone
pub read_moved : (f g : ℕ → ℕ) (n a b : ℕ) → ((k : ℕ) → k < n → f (a + k) ≡ g (b + k)) → read f n a ≡ read g n b
unfolding read
read_moved f g zero a b h = refl
read_moved f g (suc n) a b h =
    let e : f a ≡ g b = ap f (omega arith) ∙ h 0 (omega arith) ∙ ap g (omega arith) in
    let r : read f n (a + 1) ≡ read g n (b + 1) = read_moved f g n (a + 1) (b + 1) (λ k lt. ap f (omega arith) ∙ h (suc k) (omega arith) ∙ ap g (omega arith)) in
    rw (e, r) refl

-- ---- written

pub write_one : (f : ℕ → ℕ) (a v : ℕ) → write f 1 a v ≡ with_byte f a (v % 256)
unfolding write
write_one f a v = refl

pub write_two : (f : ℕ → ℕ) (a v : ℕ) → write f 2 a v ≡ with_byte (with_byte f a (v % 256)) (a + 1) (v / 256 % 256)
unfolding write
write_two f a v = refl

pub write_four : (f : ℕ → ℕ) (a v : ℕ) → write f 4 a v ≡ with_byte (with_byte (with_byte (with_byte f a (v % 256)) (a + 1) (v / 256 % 256)) (a + 2) (v / 65536 % 256)) (a + 3) (v / 16777216 % 256)
unfolding write
write_four f a v =
    let b : a + 1 + 1 ≡ a + 2 = omega arith in
    let c : a + 2 + 1 ≡ a + 3 = omega arith in
    let d : v / 256 / 256 ≡ v / 65536 = omega arith in
    let e : v / 65536 / 256 ≡ v / 16777216 = omega arith in
    rw (b, c, d, e) refl

with_byte_moved : (f g : ℕ → ℕ) (s a v k : ℕ) → f (s + k) ≡ g k → with_byte f (s + a) v (s + k) ≡ with_byte g a v k
with_byte_moved f g s a v k h = grind (arith, nat_tests)

-- what was written at a place depends on what stood there alone
pub write_moved : (f g : ℕ → ℕ) (n s a v k : ℕ) → f (s + k) ≡ g k → write f n (s + a) v (s + k) ≡ write g n a v k
unfolding write
write_moved f g zero s a v k h = h
write_moved f g (suc n) s a v k h =
    let e : s + a + 1 ≡ s + (a + 1) = omega arith in
    rw e (write_moved (with_byte f (s + a) (v % 256)) (with_byte g a (v % 256)) n s (a + 1) (v / 256) k (with_byte_moved f g s a (v % 256) k h))

-- four bytes are written, one after another
pub put_four : (f f₁ f₂ f₃ f₄ : ℕ → ℕ) (a v : ℕ) → f₁ ≡ with_byte f a (v % 256) → f₂ ≡ with_byte f₁ (a + 1) (v / 256 % 256) → f₃ ≡ with_byte f₂ (a + 2) (v / 65536 % 256) → f₄ ≡ with_byte f₃ (a + 3) (v / 16777216 % 256) → f₄ ≡ write f 4 a v
put_four f f₁ f₂ f₃ f₄ a v e₁ e₂ e₃ e₄ =
    e₄
    ∙ ap (λ (g : ℕ → ℕ). with_byte g (a + 3) (v / 16777216 % 256)) (e₃
    ∙ ap (λ (g : ℕ → ℕ). with_byte g (a + 2) (v / 65536 % 256)) (e₂
    ∙ ap (λ (g : ℕ → ℕ). with_byte g (a + 1) (v / 256 % 256)) e₁))
    ∙ sym (write_four f a v)
