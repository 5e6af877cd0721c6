-- Each row respects what may stand for its operands.
use Rattle.std.proofs.Common.{◌≡◌, ◌⊎◌, ℕ, zero, suc, ◌-◌, refl, sym, subst, inl, inr, ⊎_elim, Bool, true, false, ◌||◌, nat_lt, nat_eq, if◌then◌else◌}
use Rattle.oi_base.specs.declared.words.Width.{Width}
use Rattle.ir_core.specs.declared.flat.BinOp.{BinOp}
use Rattle.ir_core.specs.declared.flat.BinOp.TheVariants.{Add, Sub, Mul, Udiv, Sdiv, Urem, Srem, Shl, Lshr, Ashr, And, Or, Xor}
use Rattle.ir_core.specs.declared.flat.Cmp.{Cmp}
use Rattle.ir_core.specs.declared.flat.CastOp.{CastOp}
use Rattle.oi_base.specs.declared.ids.RegId.{RegId}
use Rattle.oi_base.specs.Words.{modulus}
use Rattle.ir_core.specs.Words.{word_op, divides, Outcome, Known, NoWord, word_test, word_cast, bit, NoMeaning as NoWordMeaning}
use Rattle.ir_core.specs.Memory.{Value, Bits, At, NullPointer, Poisoned}
use Rattle.ir_core.specs.Rows.{Answer, Gives, NoGood, Mistyped, Read, Is, IsPoison, IsOther, as_word, bin, bin_read, outcome, of_unknown, test_read, choose, cast_read}
use Rattle.ir_core.specs.Flat.{Effect, answered, word_in}
use Rattle.ir_simulation.proofs.Below.{Below, Above, IsGood, above_poison, unknown_good}
use Rattle.ir_simulation.specs.Renamed.{reg_to}
use Rattle.ir_simulation.proofs.Matches.{Matches, sets, broken, no_source, no_follower}

module _ (Twin : ℕ → ℕ → Type 0) where
  -- an answer and its follower's
  abbrev pub AnswerBelow : Answer → Answer → Type 0
  AnswerBelow (Gives u) a = Above Twin u a
  AnswerBelow NoGood a = Unit {0}
  AnswerBelow Mistyped a = Unit {0}

  pub answered_matches : (g h : ℕ → ℕ) (d : RegId) (a b : Answer) → AnswerBelow a b → Matches Twin g h (answered d a) (answered (reg_to g d) b)
  answered_matches g h d (Gives v) (Gives u) k = sets k
  answered_matches g h d (Gives v) NoGood k = absurd k
  answered_matches g h d (Gives v) Mistyped k = no_follower
  answered_matches g h d NoGood b k = broken
  answered_matches g h d Mistyped b k = no_source

  -- what a word's reading is followed by: a word by itself, poison by anything
  abbrev pub ReadBelow : Read → Read → Type 0
  ReadBelow (Is a) r = r ≡ Is a
  ReadBelow IsPoison r = Unit {0}
  ReadBelow IsOther r = Unit {0}

  pub read_below : (m : ℕ) (v u : Value) → Below Twin v u → ReadBelow (as_word m v) (as_word m u)
  read_below m (Bits a) u b = subst (λ z. ReadBelow (as_word m (Bits a)) (as_word m z)) (sym b) (by_test (nat_lt a m))
    where
      by_test : (c : Bool) → ReadBelow (if c then Is a else IsOther) (if c then Is a else IsOther)
      by_test true = refl
      by_test false = tt
  read_below m (At c o) u b = tt
  read_below m NullPointer u b = tt
  read_below m Poisoned u b = tt

  pub word_matches : (g h : ℕ → ℕ) (r s : Read) (go go' : ℕ → Effect) → ReadBelow r s → ((a : ℕ) → Matches Twin g h (go a) (go' a)) → Matches Twin g h (word_in r go) (word_in s go')
  word_matches g h (Is a) s go go' b k = subst (λ z. Matches Twin g h (go a) (word_in z go')) (sym b) (k a)
  word_matches g h IsPoison s go go' b k = broken
  word_matches g h IsOther s go go' b k = no_source

  same_outcome : (o : Outcome) → AnswerBelow (outcome o) (outcome o)
  same_outcome (Known a) = refl
  same_outcome NoWord = tt
  same_outcome NoWordMeaning = tt

  poison_good : (op : BinOp) (w : Width) (b : ℕ) → IsGood Twin (of_unknown op w b) → AnswerBelow (of_unknown op w b) Mistyped
  poison_good op w b h = by_answer (of_unknown op w b)
    where
      by_answer : (a : Answer) → AnswerBelow a Mistyped
      by_answer (Gives v) = tt
      by_answer NoGood = tt
      by_answer Mistyped = tt

  -- an operation on poison and a word
  by_unknown : (op : BinOp) (w : Width) (b : ℕ) (a s : Answer) → (a ≡ NoGood) ⊎ (a ≡ Gives Poisoned) → (IsGood Twin a → IsGood Twin s) → AnswerBelow a s
  by_unknown op w b (Gives v) s k good = ⊎_elim
      (λ e. let e' : Gives v ≡ NoGood = e in absurd (cc))
      (λ e. let p : v ≡ Poisoned = cc in subst (λ z. Above Twin z s) (sym p) (above_poison Twin s (good tt)))
      k
  by_unknown op w b NoGood s k good = tt
  by_unknown op w b Mistyped s k good = tt

  two : (c : Bool) → ((if c then NoGood else Gives Poisoned) ≡ NoGood) ⊎ ((if c then NoGood else Gives Poisoned) ≡ Gives Poisoned)
  two true = inl refl
  two false = inr refl

  two_answers : (op : BinOp) (w : Width) (b : ℕ) → (of_unknown op w b ≡ NoGood) ⊎ (of_unknown op w b ≡ Gives Poisoned)
  two_answers Udiv w b = two (nat_eq b 0)
  two_answers Urem w b = two (nat_eq b 0)
  two_answers Sdiv w b = two (nat_eq b 0 || nat_eq b (modulus w - 1))
  two_answers Srem w b = two (nat_eq b 0 || nat_eq b (modulus w - 1))
  two_answers Add w b = inr refl
  two_answers Sub w b = inr refl
  two_answers Mul w b = inr refl
  two_answers Shl w b = inr refl
  two_answers Lshr w b = inr refl
  two_answers Ashr w b = inr refl
  two_answers And w b = inr refl
  two_answers Or w b = inr refl
  two_answers Xor w b = inr refl

  unknown_below : (op : BinOp) (w : Width) (r : Read) (b : ℕ) → AnswerBelow (of_unknown op w b) (bin_read op w r (Is b))
  unknown_below op w (Is a) b = by_unknown op w b (of_unknown op w b) _ (two_answers op w b) (unknown_good Twin op w a b)
  unknown_below op w IsPoison b = by_unknown op w b (of_unknown op w b) _ (two_answers op w b) (λ x. x)
  unknown_below op w IsOther b = by_unknown op w b (of_unknown op w b) _ (two_answers op w b) (λ x. tt)

  -- an operation that is no division is good whatever its operands
  no_division : (op : BinOp) (w : Width) (b : ℕ) → divides op ≡ false → IsGood Twin (of_unknown op w b)
  no_division Udiv w b e = absurd (let e' : true ≡ false = e in cc)
  no_division Urem w b e = absurd (let e' : true ≡ false = e in cc)
  no_division Sdiv w b e = absurd (let e' : true ≡ false = e in cc)
  no_division Srem w b e = absurd (let e' : true ≡ false = e in cc)
  no_division Add w b e = tt
  no_division Sub w b e = tt
  no_division Mul w b e = tt
  no_division Shl w b e = tt
  no_division Lshr w b e = tt
  no_division Ashr w b e = tt
  no_division And w b e = tt
  no_division Or w b e = tt
  no_division Xor w b e = tt

  good_anyway : (op : BinOp) (w : Width) (r s : Read) → divides op ≡ false → IsGood Twin (bin_read op w r s)
  good_anyway op w (Is a) (Is b) e = unknown_good Twin op w a b (no_division op w b e)
  good_anyway op w IsPoison (Is b) e = no_division op w b e
  good_anyway op w IsOther s e = tt
  good_anyway op w (Is a) IsOther e = tt
  good_anyway op w IsPoison IsOther e = tt
  good_anyway op w (Is a) IsPoison e = subst (λ (c : Bool). IsGood Twin (if c then NoGood else Gives Poisoned)) (sym e) tt
  good_anyway op w IsPoison IsPoison e = subst (λ (c : Bool). IsGood Twin (if c then NoGood else Gives Poisoned)) (sym e) tt

  by_divides : (op : BinOp) (w : Width) (r s : Read) (c : Bool) → divides op ≡ c → AnswerBelow (if c then NoGood else Gives Poisoned) (bin_read op w r s)
  by_divides op w r s true e = tt
  by_divides op w r s false e = above_poison Twin (bin_read op w r s) (good_anyway op w r s e)

  bin_read_below : (op : BinOp) (w : Width) (r s r' s' : Read) → ReadBelow r r' → ReadBelow s s' → AnswerBelow (bin_read op w r s) (bin_read op w r' s')
  bin_read_below op w (Is a) (Is b) r' s' h k = subst (λ x. AnswerBelow (outcome (word_op op w a b)) (bin_read op w x s')) (sym h) (subst (λ y. AnswerBelow (outcome (word_op op w a b)) (bin_read op w (Is a) y)) (sym k) (same_outcome (word_op op w a b)))
  bin_read_below op w IsPoison (Is b) r' s' h k = subst (λ y. AnswerBelow (of_unknown op w b) (bin_read op w r' y)) (sym k) (unknown_below op w r' b)
  bin_read_below op w IsOther s r' s' h k = tt
  bin_read_below op w (Is a) IsOther r' s' h k = tt
  bin_read_below op w IsPoison IsOther r' s' h k = tt
  bin_read_below op w (Is a) IsPoison r' s' h k = by_divides op w r' s' (divides op) refl
  bin_read_below op w IsPoison IsPoison r' s' h k = by_divides op w r' s' (divides op) refl

  pub bin_below : (op : BinOp) (w : Width) (x y x' y' : Value) → Below Twin x x' → Below Twin y y' → AnswerBelow (bin op w x y) (bin op w x' y')
  bin_below op w x y x' y' h k = bin_read_below op w (as_word (modulus w) x) (as_word (modulus w) y) _ _ (read_below (modulus w) x x' h) (read_below (modulus w) y y' k)

  -- ---- the other operations on modulus

  test_good : (c : Cmp) (w : Width) (r s : Read) → IsGood Twin (test_read c w r s)
  test_good c w (Is a) (Is b) = tt
  test_good c w IsOther s = tt
  test_good c w (Is a) IsOther = tt
  test_good c w IsPoison IsOther = tt
  test_good c w IsPoison (Is b) = tt
  test_good c w IsPoison IsPoison = tt
  test_good c w (Is a) IsPoison = tt

  pub test_below : (c : Cmp) (w : Width) (r s r' s' : Read) → ReadBelow r r' → ReadBelow s s' → AnswerBelow (test_read c w r s) (test_read c w r' s')
  test_below c w (Is a) (Is b) r' s' h k = subst (λ x. AnswerBelow (Gives (Bits (bit (word_test c w a b)))) (test_read c w x s')) (sym h) (subst (λ y. AnswerBelow (Gives (Bits (bit (word_test c w a b)))) (test_read c w (Is a) y)) (sym k) refl)
  test_below c w IsOther s r' s' h k = tt
  test_below c w (Is a) IsOther r' s' h k = tt
  test_below c w IsPoison IsOther r' s' h k = tt
  test_below c w IsPoison (Is b) r' s' h k = above_poison Twin (test_read c w r' s') (test_good c w r' s')
  test_below c w IsPoison IsPoison r' s' h k = above_poison Twin (test_read c w r' s') (test_good c w r' s')
  test_below c w (Is a) IsPoison r' s' h k = above_poison Twin (test_read c w r' s') (test_good c w r' s')

  pub choose_below : (r r' : Read) (x y x' y' : Value) → ReadBelow r r' → Below Twin x x' → Below Twin y y' → AnswerBelow (choose r x y) (choose r' x' y')
  choose_below (Is zero) r' x y x' y' h a b = subst (λ z. AnswerBelow (Gives y) (choose z x' y')) (sym h) b
  choose_below (Is (suc n)) r' x y x' y' h a b = subst (λ z. AnswerBelow (Gives x) (choose z x' y')) (sym h) a
  choose_below IsOther r' x y x' y' h a b = tt
  choose_below IsPoison r' x y x' y' h a b = by_read r'
    where
      by_read : (r' : Read) → Above Twin Poisoned (choose r' x' y')
      by_read (Is zero) = tt
      by_read (Is (suc n)) = tt
      by_read IsPoison = tt
      by_read IsOther = tt

  pub cast_below : (c : CastOp) (from to : Width) (r r' : Read) → ReadBelow r r' → AnswerBelow (cast_read c from to r) (cast_read c from to r')
  cast_below c from to (Is a) r' h = subst (λ z. AnswerBelow (Gives (Bits (word_cast c from to a))) (cast_read c from to z)) (sym h) refl
  cast_below c from to IsOther r' h = tt
  cast_below c from to IsPoison r' h = by_read r'
    where
      by_read : (r' : Read) → Above Twin Poisoned (cast_read c from to r')
      by_read (Is a) = tt
      by_read IsPoison = tt
      by_read IsOther = tt
