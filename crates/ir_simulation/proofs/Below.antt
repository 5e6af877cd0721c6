-- What may stand for a value: poison is below every value, and a pointer is below one into the block's twin.
use Rattle.std.proofs.Common.{◌≡◌, ◌≢◌, ℕ, ◌-◌, ◌/◌, ◌%◌, refl, sym, ap, ap₂, ◌∙◌, subst, arith, Bool, true, false, ◌&&◌, ◌||◌, nat_lt, nat_eq, if◌then◌else◌, List, [], ◌∷◌, length, Option, Some, None, slice_get}
use Rattle.std.proofs.lemmas.Bool.Decides.{nat_tests}
use Rattle.oi_base.specs.declared.words.Width.{Width}
use Rattle.ir_core.specs.declared.flat.BinOp.{BinOp}
use Rattle.ir_core.specs.declared.flat.BinOp.TheVariants.{Add, Sub, Mul, Udiv, Sdiv, Urem, Srem, Shl, Lshr, Ashr, And, Or, Xor}
use Rattle.oi_base.specs.Words.{modulus, bits}
use Rattle.ir_core.specs.Words.{word_op, by_shift, by_divisor, by_signed, Known, NoWord, NoMeaning}
use Rattle.ir_core.specs.Memory.{Value, Bits, At, NullPointer, Poisoned, Byte, Unset, PoisonByte, Octet, PartOf, Block, Memory, number, onto, bits_below}
use Rattle.ir_core.specs.Rows.{Answer, Gives, NoGood, Mistyped, outcome, of_unknown, is_live, is_inside, same_pointer}

module _ (Twin : ℕ → ℕ → Type 0) where
  abbrev pub Below : Value → Value → Type 0
  Below (Bits n) v = v ≡ Bits n
  Below (At b o) v = (c : ℕ) × Twin b c × (v ≡ At c o)
  Below NullPointer v = v ≡ NullPointer
  Below Poisoned v = Unit {0}

  -- the follower's answer, where the source's is a value: one above it, or none of this type
  abbrev pub Above : Value → Answer → Type 0
  Above u (Gives v) = Below u v
  Above u NoGood = ⊥
  Above u Mistyped = Unit {0}

  -- any answer but an undefined one is above poison
  abbrev pub IsGood : Answer → Type 0
  IsGood (Gives v) = Unit {0}
  IsGood NoGood = ⊥
  IsGood Mistyped = Unit {0}

  pub above_poison : (a : Answer) → IsGood a → Above Poisoned a
  above_poison (Gives v) h = tt
  above_poison NoGood h = h
  above_poison Mistyped h = tt

  pub gives_good : (u : Value) (a : Answer) → a ≡ Gives u → IsGood a
  gives_good u a e = subst IsGood (sym e) tt

  shift_good : (w : Width) (s x : ℕ) → IsGood (outcome (by_shift w s x))
  shift_good w s x = by_test (nat_lt s (bits w))
    where
      by_test : (c : Bool) → IsGood (outcome (if c then Known x else NoWord))
      by_test true = tt
      by_test false = tt

  divisor_good : (b x y : ℕ) → IsGood (outcome (by_divisor b x)) → IsGood (outcome (by_divisor b y))
  divisor_good b x y h = by_test (nat_eq b 0) h
    where
      by_test : (c : Bool) → IsGood (outcome (if c then NoMeaning else Known x)) → IsGood (outcome (if c then NoMeaning else Known y))
      by_test true h = h
      by_test false h = tt

  -- where poison in the first place is no harm, no word there is
  by_zero : (b x : ℕ) → IsGood (if nat_eq b 0 then NoGood else Gives Poisoned) → IsGood (outcome (by_divisor b x))
  by_zero b x h = by_test (nat_eq b 0) h
    where
      by_test : (c : Bool) → IsGood (if c then NoGood else Gives Poisoned) → IsGood (outcome (if c then NoMeaning else Known x))
      by_test true h = h
      by_test false h = tt

  by_minus_one : (m a b x : ℕ) → IsGood (if nat_eq b 0 || nat_eq b (m - 1) then NoGood else Gives Poisoned) → IsGood (outcome (by_signed m a b x))
  by_minus_one m a b x h = by_test (nat_eq b 0) (nat_eq b (m - 1)) (nat_eq a (m / 2)) h
    where
      by_test : (z o l : Bool) → IsGood (if z || o then NoGood else Gives Poisoned) → IsGood (outcome (if l && o then NoMeaning else (if z then NoMeaning else Known x)))
      by_test true o l h = absurd h
      by_test false true l h = absurd h
      by_test false false true h = tt
      by_test false false false h = tt

  pub unknown_good : (op : BinOp) (w : Width) (a b : ℕ) → IsGood (of_unknown op w b) → IsGood (outcome (word_op op w a b))
  unknown_good Add w a b h = tt
  unknown_good Sub w a b h = tt
  unknown_good Mul w a b h = tt
  unknown_good Udiv w a b h = by_zero b (a / b) h
  unknown_good Sdiv w a b h = by_minus_one (modulus w) a b _ h
  unknown_good Urem w a b h = by_zero b (a % b) h
  unknown_good Srem w a b h = by_minus_one (modulus w) a b _ h
  unknown_good Shl w a b h = shift_good w b _
  unknown_good Lshr w a b h = shift_good w b _
  unknown_good Ashr w a b h = shift_good w b _
  unknown_good And w a b h = tt
  unknown_good Or w a b h = tt
  unknown_good Xor w a b h = tt

-- ---- tests of pointers and memory

module _ (Twin : ℕ → ℕ → Type 0) where
  abbrev pub ByteBelow : Byte → Byte → Type 0
  ByteBelow Unset y = Unit {0}
  ByteBelow PoisonByte y = Unit {0}
  ByteBelow (Octet n) y = y ≡ Octet n
  ByteBelow (PartOf b o k) y = (c : ℕ) × Twin b c × (y ≡ PartOf c o k)

  abbrev pub BytesBelow : List Byte → List Byte → Type 0
  BytesBelow [] [] = Unit {0}
  BytesBelow (x ∷ xs) (y ∷ ys) = ByteBelow x y × BytesBelow xs ys
  BytesBelow [] (y ∷ ys) = ⊥
  BytesBelow (x ∷ xs) [] = ⊥

  pub record BlockBelow (b c : Block) : Type 0 where
    pub live : c.live ≡ true
    pub align : c.align ≡ b.align
    pub constant : c.constant ≡ b.constant
    pub long : length c.bytes ≡ length b.bytes
    pub bytes : BytesBelow b.bytes c.bytes

  pub record MemoryBelow (m n : Memory) : Type 0 where
    pub one_twin : (i c d : ℕ) → Twin i c → Twin i d → c ≡ d
    pub one_source : (i j c : ℕ) → Twin i c → Twin j c → i ≡ j
    pub twin : (i c : ℕ) (b : Block) → Twin i c → slice_get m i ≡ Some b → b.live ≡ true → (d : Block) × (slice_get n c ≡ Some d) × BlockBelow b d

  module _ (m n : Memory) (mb : MemoryBelow m n) where
    -- a place in a live block is one in its twin
    pub live_too : (b c : ℕ) → Twin b c → (o : Option Block) → slice_get m b ≡ o → is_live o ≡ true → is_live (slice_get n c) ≡ true
    live_too b c t None e h = let h' : false ≡ true = h in absurd (cc)
    live_too b c t (Some x) e h = let k = mb.twin b c x t e h in ap is_live k.1 ∙ k.2.live

    pub inside_too : (b c q : ℕ) → Twin b c → (o : Option Block) → slice_get m b ≡ o → is_inside o q ≡ true → is_inside (slice_get n c) q ≡ true
    inside_too b c q t None e h = let h' : false ≡ true = h in absurd (cc)
    inside_too b c q t (Some x) e h =
        let p = both_true x.live (nat_lt q (length x.bytes)) h in
        let k = mb.twin b c x t e p.0 in
        ap (λ y. is_inside y q) k.1 ∙ both_are k.0.live (nat_lt q (length k.0.bytes)) k.2.live (ap (nat_lt q) k.2.long ∙ p.1)
      where
        both_true : (p q : Bool) → (p && q) ≡ true → (p ≡ true) × (q ≡ true)
        both_true p q e = grind (arith, nat_tests)

        both_are : (p q : Bool) → p ≡ true → q ≡ true → (p && q) ≡ true
        both_are p q e f = grind (arith, nat_tests)

    pub eq_same : (b c b' c' : ℕ) → Twin b b' → Twin c c' → nat_eq b c ≡ nat_eq b' c'
    eq_same b c b' c' t u = by_test (nat_eq b c) refl
      where
        by_test : (k : Bool) → nat_eq b c ≡ k → nat_eq b c ≡ nat_eq b' c'
        by_test true e =
            let s : b ≡ c = grind (arith, nat_tests) in
            let z : b' ≡ c' = mb.one_twin c b' c' (subst (λ x. Twin x b') s t) u in
            grind (arith, nat_tests)
        by_test false e =
            let ne : b' ≢ c' = λ z. let s : b ≡ c = mb.one_source b c c' (subst (λ x. Twin b x) z t) u in absurd (grind (arith, nat_tests)) in
            grind (arith, nat_tests)

    -- where a test of pointers has an answer, its follower has the same
    same_by : (b c b' c' o q : ℕ) (r : Bool) → Twin b b' → Twin c c' → (k l i j : Bool) → nat_eq b' c' ≡ k → is_live (slice_get m b) ≡ l → is_inside (slice_get m b) o ≡ i → is_inside (slice_get m c) q ≡ j → (if k then (if l then Some (nat_eq o q) else None) else (if i && j then Some false else None)) ≡ Some r → (if k then (if is_live (slice_get n b') then Some (nat_eq o q) else None) else (if is_inside (slice_get n b') o && is_inside (slice_get n c') q then Some false else None)) ≡ Some r
    same_by b c b' c' o q r t u true true i j ek el ei ej e = ap (λ (x : Bool). if x then Some (nat_eq o q) else None) (live_too b b' t (slice_get m b) refl el) ∙ e
    same_by b c b' c' o q r t u true false i j ek el ei ej e = let e' : None ≡ Some r = e in absurd (cc)
    same_by b c b' c' o q r t u false l true true ek el ei ej e = ap₂ (λ (x y : Bool). if x && y then Some false else None) (inside_too b b' o t (slice_get m b) refl ei) (inside_too c c' q u (slice_get m c) refl ej) ∙ e
    same_by b c b' c' o q r t u false l true false ek el ei ej e = let e' : None ≡ Some r = e in absurd (cc)
    same_by b c b' c' o q r t u false l false j ek el ei ej e = let e' : None ≡ Some r = e in absurd (cc)

    near_null : (b c o : ℕ) (r : Bool) → Twin b c → (i : Bool) → is_inside (slice_get m b) o ≡ i → (if i then Some false else None) ≡ Some r → (if is_inside (slice_get n c) o then Some false else None) ≡ Some r
    near_null b c o r t true ei e = ap (λ (x : Bool). if x then Some false else None) (inside_too b c o t (slice_get m b) refl ei) ∙ e
    near_null b c o r t false ei e = let e' : None ≡ Some r = e in absurd (cc)

    pub same_pointer_too : (x y x' y' : Value) (r : Bool) → Below Twin x x' → Below Twin y y' → same_pointer m x y ≡ Some r → same_pointer n x' y' ≡ Some r
    same_pointer_too (At b o) (At c q) x' y' r h k e =
        let s : nat_eq b c ≡ nat_eq h.0 k.0 = eq_same b c h.0 k.0 h.1 k.1 in
        let e2 = sym (ap (λ (t : Bool). if t then (if is_live (slice_get m b) then Some (nat_eq o q) else None) else (if is_inside (slice_get m b) o && is_inside (slice_get m c) q then Some false else None)) s) ∙ e in
        ap₂ (same_pointer n) h.2 k.2 ∙ same_by b c h.0 k.0 o q r h.1 k.1 (nat_eq h.0 k.0) (is_live (slice_get m b)) (is_inside (slice_get m b) o) (is_inside (slice_get m c) q) refl refl refl refl e2
    same_pointer_too NullPointer NullPointer x' y' r h k e = ap₂ (same_pointer n) h k ∙ e
    same_pointer_too (At b o) NullPointer x' y' r h k e = ap₂ (same_pointer n) h.2 k ∙ near_null b h.0 o r h.1 (is_inside (slice_get m b) o) refl e
    same_pointer_too NullPointer (At b o) x' y' r h k e = ap₂ (same_pointer n) h k.2 ∙ near_null b k.0 o r k.1 (is_inside (slice_get m b) o) refl e
    same_pointer_too x y x' y' r h k e = let e' : None ≡ Some r = e in absurd (cc)

  -- a number that bytes make is made by those above them
  pub number_too : (xs ys : List Byte) (v : ℕ) → BytesBelow xs ys → number xs ≡ Some v → number ys ≡ Some v
  number_too [] [] v h e = e
  number_too (Octet a ∷ xs) (y ∷ ys) v h e = ap (λ z. number (z ∷ ys)) h.0 ∙ by_rest (number xs) (λ u f. number_too xs ys u h.1 f) e
    where
      by_rest : (o : Option ℕ) → ((u : ℕ) → o ≡ Some u → number ys ≡ Some u) → onto a o ≡ Some v → onto a (number ys) ≡ Some v
      by_rest None rest e = let e' : None ≡ Some v = e in absurd (cc)
      by_rest (Some u) rest e = ap (onto a) (rest u refl) ∙ e
  number_too (Unset ∷ xs) ys v h e = let e' : None ≡ Some v = e in absurd (cc)
  number_too (PoisonByte ∷ xs) ys v h e = let e' : None ≡ Some v = e in absurd (cc)
  number_too (PartOf b o k ∷ xs) ys v h e = let e' : None ≡ Some v = e in absurd (cc)
  number_too [] (y ∷ ys) v h e = absurd h
  number_too (Octet a ∷ xs) [] v h e = absurd h

  -- the value that an integer load gives
  pub word_load : (m : ℕ) (xs ys : List Byte) → BytesBelow xs ys → Below Twin (bits_below m (number xs)) (bits_below m (number ys))
  word_load m xs ys h = by_number (number xs) (λ v f. number_too xs ys v h f)
    where
      by_number : (o : Option ℕ) → ((v : ℕ) → o ≡ Some v → number ys ≡ Some v) → Below Twin (bits_below m o) (bits_below m (number ys))
      by_number None rest = tt
      by_number (Some v) rest = subst (λ o. Below Twin (bits_below m (Some v)) (bits_below m o)) (sym (rest v refl)) (by_test (nat_lt v m))
        where
          by_test : (c : Bool) → Below Twin (if c then Bits v else Poisoned) (if c then Bits v else Poisoned)
          by_test true = refl
          by_test false = tt
