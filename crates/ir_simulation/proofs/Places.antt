-- Pointers, loads and stores respect what may stand for their operands.
use Rattle.std.proofs.Common.{◌≡◌, ℕ, refl, sym, ap, ap₂, ◌∙◌, subst, arith, Bool, true, false, ◌&&◌, nat_le, nat_eq, if◌then◌else◌, length, Option, Some, None, slice_get}
use Rattle.std.proofs.lemmas.Bool.Decides.{nat_tests}
use Rattle.oi_base.specs.declared.words.Width.TheVariants.{W32}
use Rattle.ir_core.specs.declared.flat.Cmp.{Cmp}
use Rattle.ir_core.specs.declared.flat.Cmp.TheVariants.{Eq, Ne, Ugt, Uge, Ult, Ule, Sgt, Sge, Slt, Sle}
use Rattle.ir_core.specs.Words.{word_test, bit}
use Rattle.ir_core.specs.Memory.{Value, Bits, At, NullPointer, Poisoned, Block, Memory}
use Rattle.ir_core.specs.Rows.{Answer, Gives, NoGood, Mistyped, is_along, is_pointer, map_not, bit_or_poison, same_pointer, ordered, pointer_test}
use Rattle.ir_simulation.proofs.Below.{Below, Above, MemoryBelow, eq_same, same_pointer_too}
use Rattle.ir_simulation.proofs.Respect.{AnswerBelow}

module _ (Twin : ℕ → ℕ → Type 0) where
  -- ---- tests of pointers

  good_test : (o : Option Bool) → Above Twin Poisoned (bit_or_poison o)
  good_test None = tt
  good_test (Some b) = tt

  good_icmp : (m : Memory) (c : Cmp) (x y : Value) (t : Bool) → Above Twin Poisoned (if t then bit_or_poison (pointer_test m c x y) else Mistyped)
  good_icmp m c x y true = good_test (pointer_test m c x y)
  good_icmp m c x y false = tt

  -- an answer that stays where there is one
  test_by : (o o' : Option Bool) → ((b : Bool) → o ≡ Some b → o' ≡ Some b) → AnswerBelow Twin (bit_or_poison o) (bit_or_poison o')
  test_by None o' h = good_test o'
  test_by (Some b) o' h = subst (λ z. Above Twin (Bits (bit b)) (bit_or_poison z)) (sym (h b refl)) refl

  not_by : (o o' : Option Bool) → ((b : Bool) → o ≡ Some b → o' ≡ Some b) → (b : Bool) → map_not o ≡ Some b → map_not o' ≡ Some b
  not_by None o' h b e = let e' : None ≡ Some b = e in absurd (cc)
  not_by (Some a) o' h b e = ap map_not (h a refl) ∙ e

  both_true : (p q : Bool) → (p && q) ≡ true → (p ≡ true) × (q ≡ true)
  both_true p q e = grind (arith, nat_tests)

  module _ (m n : Memory) (mb : MemoryBelow Twin m n) where
    along_too : (b c o : ℕ) → Twin b c → (k : Option Block) → slice_get m b ≡ k → is_along k o ≡ true → is_along (slice_get n c) o ≡ true
    along_too b c o t None e h = let h' : false ≡ true = h in absurd (cc)
    along_too b c o t (Some x) e h =
        let p = both_true x.live (nat_le o (length x.bytes)) h in
        let k = mb.twin b c x t e p.0 in
        ap (λ y. is_along y o) k.1 ∙ ap₂ (λ u v. u && nat_le o v) k.2.live k.2.long ∙ p.1

    three : (a b c : Bool) (r : Bool) (w : Bool) → (if a && b && c then Some r else None) ≡ Some w → (a ≡ true) × (b ≡ true) × (c ≡ true) × (r ≡ w)
    three true true true r w e = let e' : Some r ≡ Some w = e in (refl, refl, refl, cc)
    three false b c r w e = let e' : None ≡ Some w = e in absurd (cc)
    three true false c r w e = let e' : None ≡ Some w = e in absurd (cc)
    three true true false r w e = let e' : None ≡ Some w = e in absurd (cc)

    ordered_too : (c : Cmp) (x y x' y' : Value) (r : Bool) → Below Twin x x' → Below Twin y y' → ordered m c x y ≡ Some r → ordered n c x' y' ≡ Some r
    ordered_too c (At b o) (At d q) x' y' r h k e =
        let f = three (nat_eq b d) (is_along (slice_get m b) o) (is_along (slice_get m d) q) (word_test c W32 o q) r e in
        let s : nat_eq h.0 k.0 ≡ true = sym (eq_same Twin m n mb b d h.0 k.0 h.1 k.1) ∙ f.0 in
        let a1 = along_too b h.0 o h.1 (slice_get m b) refl f.1 in
        let a2 = along_too d k.0 q k.1 (slice_get m d) refl f.2 in
        ap₂ (ordered n c) h.2 k.2 ∙ joined (nat_eq h.0 k.0) (is_along (slice_get n h.0) o) (is_along (slice_get n k.0) q) (word_test c W32 o q) s a1 a2 f.3
      where
        joined : (a b c w : Bool) → a ≡ true → b ≡ true → c ≡ true → w ≡ r → (if a && b && c then Some w else None) ≡ Some r
        joined true true true w e f g h = ap Some h
        joined false b c w e f g h = let e' : false ≡ true = e in absurd (cc)
        joined true false c w e f g h = let e' : false ≡ true = f in absurd (cc)
        joined true true false w e f g h = let e' : false ≡ true = g in absurd (cc)
    ordered_too c (At b o) (Bits w) x' y' r h k e = let e' : None ≡ Some r = e in absurd (cc)
    ordered_too c (At b o) NullPointer x' y' r h k e = let e' : None ≡ Some r = e in absurd (cc)
    ordered_too c (At b o) Poisoned x' y' r h k e = let e' : None ≡ Some r = e in absurd (cc)
    ordered_too c (Bits w) y x' y' r h k e = let e' : None ≡ Some r = e in absurd (cc)
    ordered_too c NullPointer y x' y' r h k e = let e' : None ≡ Some r = e in absurd (cc)
    ordered_too c Poisoned y x' y' r h k e = let e' : None ≡ Some r = e in absurd (cc)

    test_too : (c : Cmp) (x y x' y' : Value) → Below Twin x x' → Below Twin y y' → AnswerBelow Twin (bit_or_poison (pointer_test m c x y)) (bit_or_poison (pointer_test n c x' y'))
    test_too Eq x y x' y' h k = test_by (same_pointer m x y) (same_pointer n x' y') (λ b e. same_pointer_too Twin m n mb x y x' y' b h k e)
    test_too Ne x y x' y' h k = test_by (map_not (same_pointer m x y)) (map_not (same_pointer n x' y')) (not_by (same_pointer m x y) (same_pointer n x' y') (λ b e. same_pointer_too Twin m n mb x y x' y' b h k e))
    test_too Ugt x y x' y' h k = test_by (ordered m Ugt x y) (ordered n Ugt x' y') (λ b e. ordered_too Ugt x y x' y' b h k e)
    test_too Uge x y x' y' h k = test_by (ordered m Uge x y) (ordered n Uge x' y') (λ b e. ordered_too Uge x y x' y' b h k e)
    test_too Ult x y x' y' h k = test_by (ordered m Ult x y) (ordered n Ult x' y') (λ b e. ordered_too Ult x y x' y' b h k e)
    test_too Ule x y x' y' h k = test_by (ordered m Ule x y) (ordered n Ule x' y') (λ b e. ordered_too Ule x y x' y' b h k e)
    test_too Sgt x y x' y' h k = test_by (ordered m Sgt x y) (ordered n Sgt x' y') (λ b e. ordered_too Sgt x y x' y' b h k e)
    test_too Sge x y x' y' h k = test_by (ordered m Sge x y) (ordered n Sge x' y') (λ b e. ordered_too Sge x y x' y' b h k e)
    test_too Slt x y x' y' h k = test_by (ordered m Slt x y) (ordered n Slt x' y') (λ b e. ordered_too Slt x y x' y' b h k e)
    test_too Sle x y x' y' h k = test_by (ordered m Sle x y) (ordered n Sle x' y') (λ b e. ordered_too Sle x y x' y' b h k e)

    -- what stands for a pointer that is no poison is a pointer
    pub pointer_by : (c : Cmp) (x y x' y' : Value) (s t : Bool) → is_pointer x ≡ s → is_pointer y ≡ t → Below Twin x x' → Below Twin y y' → AnswerBelow Twin (if s && t then bit_or_poison (pointer_test m c x y) else Mistyped) (if is_pointer x' && is_pointer y' then bit_or_poison (pointer_test n c x' y') else Mistyped)
    pointer_by c x y x' y' false t e f h k = tt
    pointer_by c x y x' y' true false e f h k = tt
    pointer_by c x y x' y' true true e f h k = either (is_pointer x' && is_pointer y') (bit_or_poison (pointer_test m c x y)) (test_too c x y x' y' h k)
      where
        either : (t : Bool) (a : Answer) → AnswerBelow Twin a (bit_or_poison (pointer_test n c x' y')) → AnswerBelow Twin a (if t then bit_or_poison (pointer_test n c x' y') else Mistyped)
        either true a h = h
        either false (Gives (Bits w)) h = tt
        either false (Gives (At b o)) h = tt
        either false (Gives NullPointer) h = tt
        either false (Gives Poisoned) h = tt
        either false NoGood h = tt
        either false Mistyped h = tt
