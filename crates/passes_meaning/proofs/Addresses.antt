-- The terms of an address that are words belong to its constant part.
use Rattle.std.proofs.Common.{◌≡◌, ◌⊎◌, inl, inr, ℕ, ◌+◌, ◌%◌, Bool, true, false, cond, is_none, nat_eq, nat_lt, if◌then◌else◌, List, [], ◌∷◌, Option, Some, None, refl, sym, ap, ◌∙◌, subst, arith}
use Rattle.std.specs.List.{fold, filter}
use Rattle.std.specs.Option.{option_map, unwrap_or}
use Rattle.std.proofs.lemmas.Bool.Decides.{nat_tests}
use Rattle.oi_base.specs.declared.ids.RegId.{RegId}
use Rattle.oi_base.specs.declared.words.Width.{Width}
use Rattle.oi_base.specs.Words.{modulus}
use Rattle.ir_core.specs.declared.flat.FlatOp.{FlatOp}
use Rattle.ir_core.specs.declared.flat.FlatOp.TheVariants.{Reg, Word, Null, Address, Poison}
use Rattle.ir_core.specs.declared.flat.Term.{Term}
use Rattle.ir_core.specs.declared.flat.FlatInstr.TheVariants.{Copy, Gep}
use Rattle.ir_core.specs.Memory.{Value, Bits, At, NullPointer, Poisoned, Memory}
use Rattle.ir_core.specs.Rows.{Read, Is, IsPoison, IsOther, Gives, scaled, moved}
use Rattle.ir_core.specs.Flat.{Regs, Effect, Sets, value_of, using, answered, Distance, Far, PoisonFar, NoDistance, further, read_option, distance, gep_gives, effect}
use Rattle.ir_safety.specs.TypedRuns.{HasOffset}
use Rattle.const_fold.specs.Operands.{word_of_op, fitting, word_in}
use Rattle.const_fold.specs.FoldConstants.{with_term, is_variable, with_word, address_of}
use Rattle.ir_simulation.proofs.Moved.{IsBad}

pub word_is : (o : FlatOp) (a : ℕ) → word_of_op o ≡ Some a → o ≡ Word a
word_is (Word b) a e = ap Word cc
word_is (Reg r) a e = absurd cc
word_is Null a e = absurd cc
word_is (Address g k) a e = absurd cc
word_is Poison a e = absurd cc

-- a word of a width is a word
pub in_word : (w : Width) (o : FlatOp) (a : ℕ) → word_in w o ≡ Some a → (word_of_op o ≡ Some a) × (nat_lt a (modulus w) ≡ true)
in_word w o a e = by_word (word_of_op o) refl e
  where
    by_word : (u : Option ℕ) → word_of_op o ≡ u → fitting w u ≡ Some a → (word_of_op o ≡ Some a) × (nat_lt a (modulus w) ≡ true)
    by_word None is e = absurd cc
    by_word (Some b) is e = by_test (nat_lt b (modulus w)) refl e
      where
        by_test : (t : Bool) → nat_lt b (modulus w) ≡ t → (if t then Some b else None) ≡ Some a → (word_of_op o ≡ Some a) × (nat_lt a (modulus w) ≡ true)
        by_test true less e = let same : b ≡ a = cc in (is ∙ ap Some same, subst (λ n. nat_lt n (modulus w) ≡ true) same less)
        by_test false less e = absurd cc

-- the second is s further than the first, unless one of the first's terms is of another type
abbrev pub Near : ℕ → Distance → Distance → Type 0
Near s NoDistance y = Unit {0}
Near s PoisonFar y = y ≡ PoisonFar
Near s (Far d) y = (e : ℕ) × (y ≡ Far e) × (e % 4294967296 ≡ (d + s) % 4294967296)

near_word : (t : Term) (a s : ℕ) (x y : Distance) → Near (s + scaled t.width t.stride a) x y → Near s (further t (Is a) x) y
near_word t a s (Far d) y h = let e = h.2 in (h.0, h.1, omega (arith, e))
near_word t a s PoisonFar y h = h
near_word t a s NoDistance y h = tt

near_other : (t : Term) (s : ℕ) (x y : Distance) → Near s (further t IsOther x) y
near_other t s (Far d) y = tt
near_other t s PoisonFar y = tt
near_other t s NoDistance y = tt

near_both : (t : Term) (r : Read) (s : ℕ) (x y : Distance) → Near s x y → Near s (further t r x) (further t r y)
near_both t (Is a) s (Far d) y h = let e = h.2 in (scaled t.width t.stride a + h.0, ap (further t (Is a)) h.1, omega (arith, e))
near_both t (Is a) s PoisonFar y h = ap (further t (Is a)) h
near_both t (Is a) s NoDistance y h = tt
near_both t IsPoison s (Far d) y h = ap (further t IsPoison) h.1
near_both t IsPoison s PoisonFar y h = ap (further t IsPoison) h
near_both t IsPoison s NoDistance y h = tt
near_both t IsOther s (Far d) y h = tt
near_both t IsOther s PoisonFar y h = tt
near_both t IsOther s NoDistance y h = tt

module _ (regs : Regs) where
  pub near_all : (ts : List Term) (j k s : ℕ) → j % 4294967296 ≡ (k + s) % 4294967296 → Near s (distance regs k ts) (distance regs (fold with_word j ts) (filter is_variable ts))
  near_all [] j k s e = (j, refl, e)
  near_all (t ∷ ts) j k s e = by_word (word_in t.width t.operand) refl (λ i u h. near_all ts i k u h)
    where
      by_word : (o : Option ℕ) → word_in t.width t.operand ≡ o → ((i u : ℕ) → i % 4294967296 ≡ (k + u) % 4294967296 → Near u (distance regs k ts) (distance regs (fold with_word i ts) (filter is_variable ts)))
          → Near s (distance regs k (t ∷ ts)) (distance regs (fold with_word (unwrap_or (option_map (with_term j t) o) j) ts) (cond (is_none o) (t ∷ filter is_variable ts) (filter is_variable ts)))
      by_word None is rest = near_both t (read_option (modulus t.width) (value_of regs t.operand)) s _ _ (rest j s e)
      by_word (Some a) is rest =
          subst (λ (o : FlatOp). Near s (further t (read_option (modulus t.width) (value_of regs o)) (distance regs k ts)) (distance regs (fold with_word (with_term j t a) ts) (filter is_variable ts))) (sym (word_is t.operand a (in_word t.width t.operand a is).0))
          (by_test (nat_lt a (modulus t.width)))
        where
          by_test : (b : Bool) → Near s (further t (if b then Is a else IsOther) (distance regs k ts)) (distance regs (fold with_word (with_term j t a) ts) (filter is_variable ts))
          by_test true = near_word t a s (distance regs k ts) (distance regs (fold with_word (with_term j t a) ts) (filter is_variable ts)) (rest (with_term j t a) (s + scaled t.width t.stride a) (omega (arith, e)))
          by_test false = near_other t s (distance regs k ts) (distance regs (fold with_word (with_term j t a) ts) (filter is_variable ts))

-- ---- the address

abbrev Same : Effect → Effect → Type 0
Same new old = (new ≡ old) ⊎ IsBad old

null_moved : (d : RegId) (x y : ℕ) → y % 4294967296 ≡ x % 4294967296 → answered d (moved NullPointer y) ≡ answered d (moved NullPointer x)
null_moved d x y e = ap (λ n. answered d (if nat_eq n 0 then Gives NullPointer else Gives Poisoned)) e

moved_same : (d : RegId) (v : Value) (x y : ℕ) → y % 4294967296 ≡ x % 4294967296 → answered d (moved v y) ≡ answered d (moved v x)
moved_same d (At b o) x y e = ap (λ n. Sets d (At b n)) (omega (arith, e))
moved_same d NullPointer x y e = null_moved d x y e
moved_same d Poisoned x y e = refl
moved_same d (Bits a) x y e = refl

-- both distances give the same pointer
pub gives_same : (d : RegId) (v : Value) (x y : Distance) → Near 0 x y → Same (gep_gives d v y) (gep_gives d v x)
gives_same d v (Far n) y h = let e = h.2 in inl (ap (gep_gives d v) h.1 ∙ moved_same d v n h.0 (omega (arith, e)))
gives_same d v PoisonFar y h = inl (ap (gep_gives d v) h)
gives_same d v NoDistance y h = inr (inr refl)

-- a pointer that isn't moved
unmoved : (d : RegId) (v : Value) (n : ℕ) → HasOffset v → n % 4294967296 ≡ 0 → Same (Sets d v) (answered d (moved v n))
unmoved d (At b o) n small e = inl (ap (λ m. Sets d (At b m)) (omega (arith, small, e)))
unmoved d NullPointer n small e = inl (ap (λ m. answered d (if nat_eq m 0 then Gives NullPointer else Gives Poisoned)) (sym e))
unmoved d Poisoned n small e = inl refl
unmoved d (Bits a) n small e = inr (inr refl)

stays_there : (d : RegId) (v : Value) (x : Distance) → HasOffset v → Near 0 x (Far 0) → Same (Sets d v) (gep_gives d v x)
stays_there d v (Far n) small h = let same : h.0 ≡ 0 = sym (far h.0 h.1) in let e = h.2 in unmoved d v n small (omega (arith, same, e))
  where
    far : (m : ℕ) → Far 0 ≡ Far m → 0 ≡ m
    far m e = cc
stays_there d v PoisonFar small h = absurd cc
stays_there d v NoDistance small h = inr (inr refl)

-- the instruction with its words in the constant part does the same, where its base has a small value
pub address_same : (regs : Regs) (m : Memory) (d : RegId) (a : FlatOp) (k : ℕ) (ts : List Term) (v : Value) → value_of regs a ≡ Some v → HasOffset v → Same (effect regs m (address_of d a (fold with_word k ts) (filter is_variable ts))) (effect regs m (Gep d a k ts))
address_same regs m d a k ts v value small = by_terms (fold with_word k ts) (filter is_variable ts) (near_all regs ts k k 0 (omega arith))
  where
    old : effect regs m (Gep d a k ts) ≡ gep_gives d v (distance regs k ts)
    old = ap (λ o. using o (λ x. gep_gives d x (distance regs k ts))) value

    kept : (j : ℕ) (us : List Term) → Near 0 (distance regs k ts) (distance regs j us) → Same (effect regs m (Gep d a j us)) (effect regs m (Gep d a k ts))
    kept j us h = subst (λ e. Same (effect regs m (Gep d a j us)) e) (sym old)
        (subst (λ e. Same e (gep_gives d v (distance regs k ts))) (sym (ap (λ o. using o (λ x. gep_gives d x (distance regs j us))) value)) (gives_same d v (distance regs k ts) (distance regs j us) h))

    copied : (j : ℕ) → j ≡ 0 → Near 0 (distance regs k ts) (Far j) → Same (effect regs m (Copy d a)) (effect regs m (Gep d a k ts))
    copied j none h = subst (λ e. Same (effect regs m (Copy d a)) e) (sym old)
        (subst (λ e. Same e (gep_gives d v (distance regs k ts))) (sym (ap (λ o. using o (λ x. Sets d x)) value)) (stays_there d v (distance regs k ts) small (subst (λ n. Near 0 (distance regs k ts) (Far n)) none h)))

    by_test : (j : ℕ) (t : Bool) → nat_eq j 0 ≡ t → Near 0 (distance regs k ts) (Far j) → Same (effect regs m (if t then Copy d a else Gep d a j [])) (effect regs m (Gep d a k ts))
    by_test j true e h = copied j (grind (arith, nat_tests)) h
    by_test j false e h = kept j [] h

    by_terms : (j : ℕ) (us : List Term) → Near 0 (distance regs k ts) (distance regs j us) → Same (effect regs m (address_of d a j us)) (effect regs m (Gep d a k ts))
    by_terms j [] h = by_test j (nat_eq j 0) refl h
    by_terms j (u ∷ us) h = kept j (u ∷ us) h
