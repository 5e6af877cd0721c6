-- A register has another as its source exactly where it is a copy of it.
use Rattle.std.proofs.Common.{◌≡◌, ◌≢◌, ⊎_elim, ℕ, zero, suc, ◌<◌, Bool, true, false, nat_eq, if◌then◌else◌, List, Option, Some, None, slice_get, refl, sym, ap, ◌∙◌, arith}
use Rattle.std.proofs.lemmas.Bool.Decides.{nat_tests}
use Rattle.std.proofs.lemmas.Bool.{cases_lt}
use Rattle.ir_core.specs.declared.flat.FlatOp.TheVariants.{Reg, Word, Null, Address, Poison}
use Rattle.ir_core.specs.declared.flat.FlatInstr.{FlatInstr}
use Rattle.ir_core.specs.declared.flat.FlatInstr.TheVariants.{Bin, Icmp, Select, Cast, Copy, Alloca, Load, Store, Gep, Call, Put, Get, Exit}
use Rattle.ir_core.specs.Formed.{written_by}
use Rattle.local_passes.specs.LocalCopies.{operand_source, source_given, with_write, past, source, IsCopyOf}

module _ (code : List FlatInstr) (x y : ℕ) (ne : x ≢ y) where
  abbrev Spares : ℕ → Type 0
  Spares n = (i : FlatInstr) → slice_get code n ≡ Some i → (written_by i ≢ Some x) × (written_by i ≢ Some y)

  extend : (n : ℕ) → Spares n → IsCopyOf code n x y → IsCopyOf code (suc n) x y
  extend n spares c = record {
    place = c.place;
    copied = c.copied;
    before = let lt = c.before in omega (arith, lt);
    instr = c.instr;
    from = c.from;
    kept = λ m i after lt at. ⊎_elim
        (λ less. c.kept m i after less at)
        (λ le. (spares i (let same : m ≡ n = omega (arith, lt, le) in ap (slice_get code) (sym same) ∙ at)).0)
        (cases_lt m n);
    source_kept = λ m i after lt at. ⊎_elim
        (λ less. c.source_kept m i after less at)
        (λ le. (spares i (let same : m ≡ n = omega (arith, lt, le) in ap (slice_get code) (sym same) ∙ at)).1)
        (cases_lt m n);
  }

  restrict : (n : ℕ) (c : IsCopyOf code (suc n) x y) → c.place < n → IsCopyOf code n x y
  restrict n c lt = record {
    place = c.place;
    copied = c.copied;
    before = lt;
    instr = c.instr;
    from = c.from;
    kept = λ m i after less at. c.kept m i after (omega (arith, less)) at;
    source_kept = λ m i after less at. c.source_kept m i after (omega (arith, less)) at;
  }

  spared : (n : ℕ) (c : IsCopyOf code (suc n) x y) → c.place < n → Spares n
  spared n c lt i at = (c.kept n i lt (omega arith) at, c.source_kept n i lt (omega arith) at)

  -- ---- one instruction

  module _ (n : ℕ) where
    copy_now : (d a : _) → slice_get code n ≡ Some (Copy d a) → d.0 ≡ x → operand_source (source code n) x a ≡ y → IsCopyOf code (suc n) x y
    copy_now d (Reg z) at same is = record {
      place = n;
      copied = z;
      before = omega arith;
      instr = at ∙ ap (λ k. Some (Copy (record { 0 = k }) (Reg z))) same;
      from = is;
      kept = λ m i after lt e. absurd (omega (arith, after, lt));
      source_kept = λ m i after lt e. absurd (omega (arith, after, lt));
    }
    copy_now d (Word a) at same is = absurd (ne is)
    copy_now d Null at same is = absurd (ne is)
    copy_now d (Address g k) at same is = absurd (ne is)
    copy_now d Poison at same is = absurd (ne is)

    given_now : (i : FlatInstr) → slice_get code n ≡ Some i → written_by i ≡ Some x → source_given (source code n) x i ≡ y → IsCopyOf code (suc n) x y
    given_now (Copy d a) at w is = let same : d.0 ≡ x = cc in copy_now d a at same is
    given_now (Bin d op wd a b) at w is = absurd (ne is)
    given_now (Icmp d c t a b) at w is = absurd (ne is)
    given_now (Select d c a b) at w is = absurd (ne is)
    given_now (Cast d c from to a) at w is = absurd (ne is)
    given_now (Alloca d size align) at w is = absurd (ne is)
    given_now (Load d t align a) at w is = absurd (ne is)
    given_now (Store t align v a) at w is = absurd (ne is)
    given_now (Gep d a k ts) at w is = absurd (ne is)
    given_now (Call d f args) at w is = absurd (ne is)
    given_now (Put d a) at w is = absurd (ne is)
    given_now (Get d) at w is = absurd (ne is)
    given_now (Exit a) at w is = absurd (ne is)

    one_at : (i j : FlatInstr) → slice_get code n ≡ Some i → slice_get code n ≡ Some j → i ≡ j
    one_at i j at here = let both : Some i ≡ Some j = sym at ∙ here in cc

    other_now : (i : FlatInstr) (d : ℕ) → slice_get code n ≡ Some i → written_by i ≡ Some d → x ≢ d → (source code n x ≡ y → IsCopyOf code n x y) → (t : Bool) → nat_eq (source code n x) d ≡ t → (if t then x else source code n x) ≡ y → IsCopyOf code (suc n) x y
    other_now i d at w away before true e is = absurd (ne is)
    other_now i d at w away before false e is = extend n (λ j here.
        let same = one_at i j at here in (
          λ f. away (let both : Some x ≡ Some d = sym f ∙ ap written_by (sym same) ∙ w in cc),
          λ f. absurd (let both : Some y ≡ Some d = sym f ∙ ap written_by (sym same) ∙ w in let one : y ≡ d = cc in let here : source code n x ≡ d = is ∙ one in grind (arith, nat_tests)),
        )) (before is)

    written_now : (i : FlatInstr) (d : ℕ) → slice_get code n ≡ Some i → written_by i ≡ Some d → (source code n x ≡ y → IsCopyOf code n x y) → (t : Bool) → nat_eq x d ≡ t → (if t then source_given (source code n) d i else (if nat_eq (source code n x) d then x else source code n x)) ≡ y → IsCopyOf code (suc n) x y
    written_now i d at w before true e is =
        let same : d ≡ x = grind (arith, nat_tests) in
        given_now i at (w ∙ ap Some same) (ap (λ m. source_given (source code n) m i) (sym same) ∙ is)
    written_now i d at w before false e is = other_now i d at w (λ same. absurd (grind (arith, nat_tests))) before (nat_eq (source code n x) d) refl is

    by_write : (i : FlatInstr) (w : Option ℕ) → slice_get code n ≡ Some i → written_by i ≡ w → (source code n x ≡ y → IsCopyOf code n x y) → with_write (source code n) i w x ≡ y → IsCopyOf code (suc n) x y
    by_write i None at w before is = extend n (λ j here.
        let same = one_at i j at here in (
          λ f. absurd (let none : None ≡ Some x = sym w ∙ ap written_by same ∙ f in cc),
          λ f. absurd (let none : None ≡ Some y = sym w ∙ ap written_by same ∙ f in cc),
        )) (before is)
    by_write i (Some d) at w before is = written_now i d at w before (nat_eq x d) refl is

    by_instr : (o : Option FlatInstr) → slice_get code n ≡ o → (source code n x ≡ y → IsCopyOf code n x y) → past (source code n) o x ≡ y → IsCopyOf code (suc n) x y
    by_instr None at before is = extend n (λ j here. absurd (let none : None ≡ Some j = sym at ∙ here in cc)) (before is)
    by_instr (Some i) at before is = by_write i (written_by i) at refl before is

    -- ---- and back

    copies_now : (c : IsCopyOf code (suc n) x y) → c.place ≡ n → past (source code n) (slice_get code n) x ≡ y
    copies_now c same =
        let at : slice_get code n ≡ Some (Copy (record { 0 = x }) (Reg c.copied)) = ap (slice_get code) (sym same) ∙ c.instr in
        ap (λ o. past (source code n) o x) at
        ∙ ap (λ t. if t then source code n c.copied.0 else (if nat_eq (source code n x) x then x else source code n x)) (own x)
        ∙ ap (λ m. source code m c.copied.0) (sym same) ∙ c.from
      where
        own : (r : ℕ) → nat_eq r r ≡ true
        own r = grind (arith, nat_tests)

    stays_now : (o : Option FlatInstr) → slice_get code n ≡ o → Spares n → source code n x ≡ y → past (source code n) o x ≡ y
    stays_now None at spares is = is
    stays_now (Some i) at spares is = by_written (written_by i) refl
      where
        by_written : (w : Option ℕ) → written_by i ≡ w → with_write (source code n) i w x ≡ y
        by_written None w = is
        by_written (Some d) w =
            let spare = spares i at in
            let not_x : nat_eq x d ≡ false = away x (λ same. spare.0 (w ∙ ap Some (sym same))) in
            let not_y : nat_eq (source code n x) d ≡ false = ap (λ r. nat_eq r d) is ∙ away y (λ same. spare.1 (w ∙ ap Some (sym same))) in
            ap (λ t. if t then source_given (source code n) d i else (if nat_eq (source code n x) d then x else source code n x)) not_x
            ∙ ap (λ t. if t then x else source code n x) not_y ∙ is
          where
            away : (r : ℕ) → r ≢ d → nat_eq r d ≡ false
            away r h = grind (arith, nat_tests)

  pub copy_told : (n : ℕ) → source code n x ≡ y → IsCopyOf code n x y
  unfolding source
  copy_told zero is = absurd (ne is)
  copy_told (suc n) is = by_instr n (slice_get code n) refl (λ e. copy_told n e) is

  pub told_copy : (n : ℕ) → IsCopyOf code n x y → source code n x ≡ y
  unfolding source
  told_copy zero c = absurd (let lt = c.before in omega (arith, lt))
  told_copy (suc n) c = ⊎_elim
      (λ lt. stays_now n (slice_get code n) refl (spared n c lt) (told_copy n (restrict n c lt)))
      (λ le. let lt = c.before in copies_now n c (omega (arith, lt, le)))
      (cases_lt c.place n)
