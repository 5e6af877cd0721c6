-- What a sum or a difference gives on values, and what the machine's operation gives on words that stand for them.
use Rattle.std.proofs.Common.{◌≡◌, ℕ, ◌+◌, ◌-◌, ◌%◌, ◌<◌, refl, sym, ap, ap₂, ◌∙◌, subst, arith, Bool, true, false, nat_lt, if◌then◌else◌}
use Rattle.std.proofs.lemmas.Bool.Decides.{nat_tests}
use Rattle.oi_base.specs.declared.words.Width.{Width}
use Rattle.oi_base.specs.declared.words.Width.TheVariants.{W1, W8, W16, W32}
use Rattle.oi_base.specs.Words.{modulus}
use Rattle.ir_core.specs.declared.flat.BinOp.{BinOp}
use Rattle.ir_core.specs.Words.{word_op, Known, divides}
use Rattle.ir_core.specs.Memory.{Value, Bits, At, NullPointer, Poisoned, Memory}
use Rattle.ir_core.specs.Rows.{Gives, NoGood, Mistyped, Is, IsPoison, IsOther, as_word, bin, bin_read, outcome, of_unknown}
use Rattle.rv_isa.specs.Arithmetic.{wrapping_add, wrapping_sub}
use Rattle.rv_select.specs.Stands.{IsWordOf, IsMade}
use Rattle.rv_select.proofs.Cuts.{cut, cut_low}

pub add_low : (w : Width) (a b : ℕ) → wrapping_add a b % modulus w ≡ (a + b) % modulus w
add_low W1 a b = omega arith
add_low W8 a b = omega arith
add_low W16 a b = omega arith
add_low W32 a b = omega arith

pub sub_low : (w : Width) (a b : ℕ) → a < modulus w → b < modulus w → wrapping_sub a b % modulus w ≡ (a + (modulus w - b)) % modulus w
sub_low W1 a b ha hb = omega arith
sub_low W8 a b ha hb = omega arith
sub_low W16 a b ha hb = omega arith
sub_low W32 a b ha hb = omega arith

-- what an operand that is to be a word is
pub data ReadIs (m : ℕ) (v : Value) : Type 0 where
  other : as_word m v ≡ IsOther → ReadIs m v
  poison : v ≡ Poisoned → as_word m v ≡ IsPoison → ReadIs m v
  number : (n : ℕ) → v ≡ Bits n → n < m → as_word m v ≡ Is n → ReadIs m v

pub read_is : (m : ℕ) (v : Value) → ReadIs m v
read_is m (Bits n) = by_test (nat_lt n m) refl
  where
    by_test : (c : Bool) → nat_lt n m ≡ c → ReadIs m (Bits n)
    by_test true e = number n refl (grind (arith, nat_tests)) (ap (λ (c : Bool). if c then Is n else IsOther) e)
    by_test false e = other (ap (λ (c : Bool). if c then Is n else IsOther) e)
read_is m (At b o) = other refl
read_is m NullPointer = other refl
read_is m Poisoned = poison refl refl

-- what the operation gives stands for a word, and names no block
pub record IsResult (mem : Memory) (at : ℕ → ℕ) (y : Value) (word : ℕ) : Type 0 where
  pub is : IsWordOf mem at y word
  pub made : (n : ℕ) → IsMade n y

module _ (mem : Memory) (at : ℕ → ℕ) (o : BinOp) (w : Width) (g : ℕ → ℕ → ℕ) (total : divides o ≡ false) (unknown : (k : ℕ) → of_unknown o w k ≡ Gives Poisoned) (gives : (n k : ℕ) → n < modulus w → k < modulus w → word_op o w n k ≡ Known (g n k % modulus w)) where
  gives_is : (v u : Value) → Gives v ≡ Gives u → v ≡ u
  gives_is v u e = cc

  mistyped : (u : Value) → Mistyped ≡ Gives u → ⊥
  mistyped u e = cc

  poison_is : (u : Value) (i : ℕ) → Gives Poisoned ≡ Gives u → IsResult mem at u i
  poison_is u i e = subst (λ v. IsResult mem at v i) (gives_is Poisoned u e) (record { is = tt; made = λ n. tt })

  poisoned_too : (u : Value) (i : ℕ) → (if divides o then NoGood else Gives Poisoned) ≡ Gives u → IsResult mem at u i
  poisoned_too u i e = poison_is u i (sym (ap (λ (t : Bool). if t then NoGood else Gives Poisoned) total) ∙ e)

  by_reads : (x y u : Value) (i j : ℕ) → ReadIs (modulus w) x → ReadIs (modulus w) y → IsWordOf mem at x i → IsWordOf mem at y j → bin o w x y ≡ Gives u → IsResult mem at u (cut w (g i j) % 4294967296)
  by_reads x y u i j (other p) q hx hy e = absurd (mistyped u (sym (ap (λ z. bin_read o w z (as_word (modulus w) y)) p) ∙ e))
  by_reads x y u i j (poison p p') (other q) hx hy e = absurd (mistyped u (sym (ap₂ (bin_read o w) p' q) ∙ e))
  by_reads x y u i j (number n p lp p') (other q) hx hy e = absurd (mistyped u (sym (ap₂ (bin_read o w) p' q) ∙ e))
  by_reads x y u i j (poison p p') (poison q q') hx hy e = poisoned_too u _ (sym (ap₂ (bin_read o w) p' q') ∙ e)
  by_reads x y u i j (poison p p') (number k q lq q') hx hy e = poison_is u _ (sym (unknown k) ∙ sym (ap₂ (bin_read o w) p' q') ∙ e)
  by_reads x y u i j (number n p lp p') (poison q q') hx hy e = poisoned_too u _ (sym (ap₂ (bin_read o w) p' q') ∙ e)
  by_reads x y u i j (number n p lp p') (number k q lq q') hx hy e =
      let e1 : outcome (word_op o w n k) ≡ Gives u = sym (ap₂ (bin_read o w) p' q') ∙ e in
      let e2 : Gives (Bits (g n k % modulus w)) ≡ Gives u = sym (ap outcome (gives n k lp lq)) ∙ e1 in
      let hi : i ≡ n = subst (λ v. IsWordOf mem at v i) p hx in
      let hj : j ≡ k = subst (λ v. IsWordOf mem at v j) q hy in
      let word : cut w (g i j) % 4294967296 ≡ g n k % modulus w = cut_low w (g i j) ∙ ap₂ (λ a b. g a b % modulus w) hi hj in
      subst (λ v. IsResult mem at v (cut w (g i j) % 4294967296)) (gives_is _ u e2) (record { is = word; made = λ n. tt })

  pub result_is : (x y u : Value) (i j : ℕ) → IsWordOf mem at x i → IsWordOf mem at y j → bin o w x y ≡ Gives u → IsResult mem at u (cut w (g i j) % 4294967296)
  result_is x y u i j hx hy e = by_reads x y u i j (read_is (modulus w) x) (read_is (modulus w) y) hx hy e

  -- the result names no block, whatever the words
  pub result_made : (x y u : Value) → bin o w x y ≡ Gives u → (n : ℕ) → IsMade n u
  result_made x y u e = by_read (read_is (modulus w) x) (read_is (modulus w) y)
    where
      by_read : ReadIs (modulus w) x → ReadIs (modulus w) y → (n : ℕ) → IsMade n u
      by_read (other p) q = absurd (mistyped u (sym (ap (λ z. bin_read o w z (as_word (modulus w) y)) p) ∙ e))
      by_read (poison p p') (other q) = absurd (mistyped u (sym (ap₂ (bin_read o w) p' q) ∙ e))
      by_read (number n p lp p') (other q) = absurd (mistyped u (sym (ap₂ (bin_read o w) p' q) ∙ e))
      by_read (poison p p') (poison q q') = (poisoned_too u 0 (sym (ap₂ (bin_read o w) p' q') ∙ e)).made
      by_read (poison p p') (number k q lq q') = (poison_is u 0 (sym (unknown k) ∙ sym (ap₂ (bin_read o w) p' q') ∙ e)).made
      by_read (number n p lp p') (poison q q') = (poisoned_too u 0 (sym (ap₂ (bin_read o w) p' q') ∙ e)).made
      by_read (number n p lp p') (number k q lq q') =
          let e1 : outcome (word_op o w n k) ≡ Gives u = sym (ap₂ (bin_read o w) p' q') ∙ e in
          subst (λ v. (n : ℕ) → IsMade n v) (gives_is _ u (sym (ap outcome (gives n k lp lq)) ∙ e1)) (λ n. tt)
