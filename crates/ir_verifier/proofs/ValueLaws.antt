-- Meanings that are the same, and the values of a phi's blocks.
use Rattle.std.proofs.Common.{◌≡◌, ◌⊎◌, inl, inr, refl, sym, ap, ◌∙◌, subst, Bool, true, false, if◌then◌else◌, nat_eq, ℕ, zero, suc, ◌+◌, ◌<◌, List, [], ◌∷◌, ◌++◌, length, Option, Some, None, slice_get, arith}
use Rattle.std.specs.List.{list_any, position}
use Rattle.std.proofs.lemmas.Bool.Decides.{nat_tests}
use Rattle.std.proofs.lemmas.Option.{slice_get_within}
use Rattle.std.proofs.lemmas.List.{length-append}
use Rattle.ir_core.specs.declared.module.SymId.{SymId}
use Rattle.ir_core.specs.ValidConsts.{Meaning, OfLocal, IsWord, IsNull, IsAddress, IsPoison, HasNone}
use Rattle.ir_core.proofs.Lists.{Has, has_at}
use Rattle.ir_verifier.specs.PhiFaults.{same_meaning, Values, with_value_at}
use Rattle.module_rules.proofs.Decided.{false_is_not_true}
use Rattle.module_rules.proofs.Distinct.{IsDistinct, position_is, no_position, at_in_first, at_in_next}
use Rattle.module_rules.proofs.Sets.{number_decides}
use Rattle.module_rules.proofs.SameTypeLaws.{two_true}
use Rattle.module_rules.proofs.Sets.{local_of as same_local}
use Rattle.module_rules.proofs.Sets.{symbol_of}

both : (g h : SymId) (a b : ℕ) → nat_eq g.0 h.0 ≡ true → nat_eq a b ≡ true → IsAddress g a ≡ IsAddress h b
both g h a b e f =
    let global : g ≡ h = symbol_of g h (grind (arith, nat_tests)) in
    let bytes : a ≡ b = grind (arith, nat_tests) in
    ap (λ (s : SymId). IsAddress s a) global ∙ ap (IsAddress h) bytes

pub of_same : (m n : Meaning) → same_meaning m n ≡ true → m ≡ n
of_same (OfLocal x) (OfLocal x') e = ap OfLocal (same_local x x' (grind (arith, nat_tests)))
of_same (OfLocal x) (IsWord a') e = absurd (false_is_not_true e)
of_same (OfLocal x) IsNull e = absurd (false_is_not_true e)
of_same (OfLocal x) (IsAddress g' a') e = absurd (false_is_not_true e)
of_same (OfLocal x) IsPoison e = absurd (false_is_not_true e)
of_same (OfLocal x) HasNone e = absurd (false_is_not_true e)
of_same (IsWord a) (OfLocal x') e = absurd (false_is_not_true e)
of_same (IsWord a) (IsWord a') e = ap IsWord (let same : a ≡ a' = grind (arith, nat_tests) in same)
of_same (IsWord a) IsNull e = absurd (false_is_not_true e)
of_same (IsWord a) (IsAddress g' a') e = absurd (false_is_not_true e)
of_same (IsWord a) IsPoison e = absurd (false_is_not_true e)
of_same (IsWord a) HasNone e = absurd (false_is_not_true e)
of_same IsNull (OfLocal x') e = absurd (false_is_not_true e)
of_same IsNull (IsWord a') e = absurd (false_is_not_true e)
of_same IsNull IsNull e = refl
of_same IsNull (IsAddress g' a') e = absurd (false_is_not_true e)
of_same IsNull IsPoison e = absurd (false_is_not_true e)
of_same IsNull HasNone e = absurd (false_is_not_true e)
of_same (IsAddress g a) (OfLocal x') e = absurd (false_is_not_true e)
of_same (IsAddress g a) (IsWord a') e = absurd (false_is_not_true e)
of_same (IsAddress g a) IsNull e = absurd (false_is_not_true e)
of_same (IsAddress g a) (IsAddress g' a') e = let b = two_true (nat_eq g.0 g'.0) (nat_eq a a') e in both g g' a a' b.0 b.1
of_same (IsAddress g a) IsPoison e = absurd (false_is_not_true e)
of_same (IsAddress g a) HasNone e = absurd (false_is_not_true e)
of_same IsPoison (OfLocal x') e = absurd (false_is_not_true e)
of_same IsPoison (IsWord a') e = absurd (false_is_not_true e)
of_same IsPoison IsNull e = absurd (false_is_not_true e)
of_same IsPoison (IsAddress g' a') e = absurd (false_is_not_true e)
of_same IsPoison IsPoison e = refl
of_same IsPoison HasNone e = absurd (false_is_not_true e)
of_same HasNone (OfLocal x') e = absurd (false_is_not_true e)
of_same HasNone (IsWord a') e = absurd (false_is_not_true e)
of_same HasNone IsNull e = absurd (false_is_not_true e)
of_same HasNone (IsAddress g' a') e = absurd (false_is_not_true e)
of_same HasNone IsPoison e = absurd (false_is_not_true e)
of_same HasNone HasNone e = refl

equal_numbers : (a : ℕ) → nat_eq a a ≡ true
equal_numbers a = grind (arith, nat_tests)

pub self_same : (m : Meaning) → same_meaning m m ≡ true
self_same (OfLocal x) = equal_numbers x.0
self_same (IsWord a) = equal_numbers a
self_same IsNull = refl
self_same (IsAddress g a) = rw (equal_numbers g.0) (equal_numbers a)
self_same IsPoison = refl
self_same HasNone = refl

pub to_same : (m n : Meaning) → m ≡ n → same_meaning m n ≡ true
to_same m n e = subst (λ (o : Meaning). same_meaning m o ≡ true) e (self_same m)

-- ---- the values so far

-- what stands in a list with one more
at_end : {A : Type 0} (xs : List A) (x y : A) (k : ℕ) → slice_get (xs ++ x ∷ []) k ≡ Some y → (slice_get xs k ≡ Some y) ⊎ ((k ≡ length xs) × (x ≡ y))
at_end [] x y zero e = inr (refl, let same : x ≡ y = cc in same)
at_end [] x y (suc k) e = absurd (let clash : None ≡ Some y = e in cc)
at_end (z ∷ zs) x y zero e = inl e
at_end (z ∷ zs) x y (suc k) e = by_part (at_end zs x y k e)
  where
    by_part : (slice_get zs k ≡ Some y) ⊎ ((k ≡ length zs) × (x ≡ y)) → (slice_get (z ∷ zs) (suc k) ≡ Some y) ⊎ ((suc k ≡ suc (length zs)) × (x ≡ y))
    by_part (inl g) = inl g
    by_part (inr g) = inr (ap suc g.0, g.1)

-- a block has a value
abbrev pub Knows : Values → ℕ → Meaning → Type 0
Knows s x m = (k : ℕ) × (slice_get s.labels k ≡ Some x) × (slice_get s.values k ≡ Some m)

pub record IsFine (s : Values) : Type 0 where
  pub distinct : IsDistinct s.labels
  pub paired : length s.labels ≡ length s.values

pub knows_label : (s : Values) (x : ℕ) (m : Meaning) → Knows s x m → Has s.labels x
knows_label s x m k = has_at s.labels k.0 x k.1

pub one_value : (s : Values) (x : ℕ) (m n : Meaning) → IsFine s → Knows s x m → Knows s x n → m ≡ n
one_value s x m n fine j k =
    let same : j.0 ≡ k.0 = fine.distinct j.0 k.0 x j.1 k.1 in
    let two : Some m ≡ Some n = sym j.2 ∙ ap (slice_get s.values) same ∙ k.2 in cc

pub some_value : (s : Values) (x k : ℕ) → IsFine s → position (nat_eq x) s.labels ≡ Some k → (m : Meaning) × (slice_get s.values k ≡ Some m) × Knows s x m
some_value s x k fine e = by_value (slice_get s.values k) refl
  where
    label : slice_get s.labels k ≡ Some x
    label = position_is x s.labels k e

    within : k < length s.values
    within = let lt = slice_get_within s.labels k x label in let same = fine.paired in omega arith

    missing : (vs : List Meaning) (j : ℕ) → j < length vs → slice_get vs j ≡ None → ⊥
    missing [] j lt n = absurd (omega (arith, lt))
    missing (v ∷ vs) zero lt n = let clash : Some v ≡ None = n in cc
    missing (v ∷ vs) (suc j) lt n = missing vs j (omega (arith, lt)) n

    by_value : (o : Option Meaning) → slice_get s.values k ≡ o → (m : Meaning) × (slice_get s.values k ≡ Some m) × Knows s x m
    by_value None n = absurd (missing s.values k within n)
    by_value (Some m) n = (m, n, (k, label, n))

module _ (s : Values) (x : ℕ) (m : Meaning) (fine : IsFine s) (new : position (nat_eq x) s.labels ≡ None) where
  abbrev pub More : Values
  More = with_value_at s None x m

  pub not_listed : Has s.labels x → ⊥
  not_listed h = no_position x s.labels new h

  labels_more : More.labels ≡ s.labels ++ x ∷ []
  labels_more = by_test (list_any (nat_eq x) s.labels) refl
    where
      by_test : (t : Bool) → list_any (nat_eq x) s.labels ≡ t → (if t then s.labels else s.labels ++ x ∷ []) ≡ s.labels ++ x ∷ []
      by_test true e = absurd (not_listed ((number_decides x s.labels).0 e))
      by_test false e = refl

  pub keeps : (y : ℕ) (n : Meaning) → Knows s y n → Knows More y n
  keeps y n k = (k.0, subst (λ (ns : List ℕ). slice_get ns k.0 ≡ Some y) (sym labels_more) (at_in_first s.labels (x ∷ []) k.0 y k.1), at_in_first s.values (m ∷ []) k.0 n k.2)

  pub knows_new : Knows More x m
  knows_new =
      let paired = fine.paired in
      let at : length s.labels + 0 ≡ length s.values + 0 = omega arith in
      (length s.labels + 0, subst (λ (ns : List ℕ). slice_get ns (length s.labels + 0) ≡ Some x) (sym labels_more) (at_in_next s.labels (x ∷ []) 0 x refl), subst (λ (k : ℕ). slice_get (s.values ++ m ∷ []) k ≡ Some m) (sym at) (at_in_next s.values (m ∷ []) 0 m refl))

  pub knew : (y : ℕ) (n : Meaning) → Knows More y n → Knows s y n ⊎ ((x ≡ y) × (m ≡ n))
  knew y n k = by_parts (at_end s.labels x y k.0 (subst (λ (ns : List ℕ). slice_get ns k.0 ≡ Some y) labels_more k.1)) (at_end s.values m n k.0 k.2)
    where
      by_parts : (slice_get s.labels k.0 ≡ Some y) ⊎ ((k.0 ≡ length s.labels) × (x ≡ y)) → (slice_get s.values k.0 ≡ Some n) ⊎ ((k.0 ≡ length s.values) × (m ≡ n)) → Knows s y n ⊎ ((x ≡ y) × (m ≡ n))
      by_parts (inl a) (inl b) = inl (k.0, a, b)
      by_parts (inr a) (inr b) = inr (a.1, b.1)
      by_parts (inl a) (inr b) = absurd (let lt = slice_get_within s.labels k.0 y a in let e = b.0 in let p = fine.paired in omega arith)
      by_parts (inr a) (inl b) = absurd (let lt = slice_get_within s.values k.0 n b in let e = a.0 in let p = fine.paired in omega arith)

  pub more_fine : IsFine More
  more_fine = record { distinct = λ i j n a b. by_parts i j n (at_end s.labels x n i (subst (λ (ns : List ℕ). slice_get ns i ≡ Some n) labels_more a)) (at_end s.labels x n j (subst (λ (ns : List ℕ). slice_get ns j ≡ Some n) labels_more b)); paired = paired }
    where
      paired : length More.labels ≡ length More.values
      paired = let p = fine.paired in ap (λ (ns : List ℕ). length ns) labels_more ∙ length-append s.labels (x ∷ []) ∙ ap (λ (k : ℕ). k + 1) p ∙ sym (length-append s.values (m ∷ []))

      by_parts : (i j n : ℕ) → (slice_get s.labels i ≡ Some n) ⊎ ((i ≡ length s.labels) × (x ≡ n)) → (slice_get s.labels j ≡ Some n) ⊎ ((j ≡ length s.labels) × (x ≡ n)) → i ≡ j
      by_parts i j n (inl a) (inl b) = fine.distinct i j n a b
      by_parts i j n (inr a) (inr b) = a.0 ∙ sym b.0
      by_parts i j n (inl a) (inr b) = absurd (not_listed (subst (Has s.labels) (sym b.1) (has_at s.labels i n a)))
      by_parts i j n (inr a) (inl b) = absurd (not_listed (subst (Has s.labels) (sym a.1) (has_at s.labels j n b)))
