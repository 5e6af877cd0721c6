-- Checks of fields pass exactly where the fields' bytes stand.
use Rattle.std.proofs.Common.{◌≡◌, ℕ, zero, suc, ◌+◌, ◌-◌, ◌<◌, ◌≤◌, Bool, true, false, cond, eqb, List, [], ◌∷◌, ◌++◌, length, get_or, take, drop, refl, sym, ap, ◌∙◌, subst, add-zero, arith, length-append, length-drop, drop-cons, inl, inr}
use Rattle.std.specs.Prelude.{replicate, map}
use Rattle.std.specs.Int.{w16, w32, to_le_bytes, from_le_bytes}
use Rattle.std.proofs.lemmas.Bool.{eqb-true, eq-eqb, cases_lt}
use Rattle.std.proofs.lemmas.List.{take-append-drop, length-take, get_or-drop, get_or-take, get_or_past}
use Rattle.std.proofs.lemmas.List.Concat.{flat_map-cons}
use Rattle.std.proofs.lemmas.Nat.{le_bytes_2, le_bytes_4, from_le_bytes-to_le_bytes_2, from_le_bytes-to_le_bytes_4}
use Rattle.elf_object.specs.declared.elf32.Field.{Field}
use Rattle.elf_object.specs.declared.elf32.Field.TheVariants.{Byte, Half, Word}
use Rattle.elf_object.specs.declared.fault.ElfField.{ElfField}
use Rattle.elf_object.specs.declared.fault.ElfField.TheVariants as fields
use Rattle.elf_object.specs.declared.fault.ElfFault.{ElfFault}
use Rattle.elf_object.specs.declared.fault.ElfFault.TheVariants as faults
use Rattle.elf_object.specs.Elf32.{field_bytes, fields_bytes, size_of, span, number_of}
use Rattle.elf_object.specs.Checks.{Check, first_failed, byte_at, half_at, word_at, found_at, field_checks, zero_checks}
use Rattle.elf_object.proofs.CheckLaws.{Answer, passes, fails}
use Rattle.elf_object.proofs.PartLaws.{HasPart, HasZeros, IsBytes, has_part, left, right, both, has_nothing, cut_is}

-- ---- groups of checks that all pass

first_by : (ok : Bool) (e : ElfFault) (r s : Answer) → (s ≡ passes → r ≡ passes) → cond ok s (fails e) ≡ passes → cond ok r (fails e) ≡ passes
first_by true e r s so h = so h
first_by false e r s so h = absurd cc

second_by : (ok : Bool) (e : ElfFault) (r s : Answer) → (s ≡ passes → r ≡ passes) → cond ok s (fails e) ≡ passes → r ≡ passes
second_by true e r s so h = so h
second_by false e r s so h = absurd cc

pub first_pass : (xs ys : List Check) → first_failed (xs ++ ys) ≡ passes → first_failed xs ≡ passes
unfolding first_failed
first_pass [] ys h = refl
first_pass (x ∷ xs) ys h = first_by x.passes (faults.Field x.field x.offset x.found) (first_failed xs) (first_failed (xs ++ ys)) (first_pass xs ys) h

pub second_pass : (xs ys : List Check) → first_failed (xs ++ ys) ≡ passes → first_failed ys ≡ passes
unfolding first_failed
second_pass [] ys h = h
second_pass (x ∷ xs) ys h = second_by x.passes (faults.Field x.field x.offset x.found) (first_failed ys) (first_failed (xs ++ ys)) (second_pass xs ys) h

both_by : (ok : Bool) (e : ElfFault) (r s : Answer) → (r ≡ passes → s ≡ passes) → cond ok r (fails e) ≡ passes → cond ok s (fails e) ≡ passes
both_by true e r s so h = so h
both_by false e r s so h = absurd cc

pub both_pass : (xs ys : List Check) → first_failed xs ≡ passes → first_failed ys ≡ passes → first_failed (xs ++ ys) ≡ passes
unfolding first_failed
both_pass [] ys h k = k
both_pass (x ∷ xs) ys h k = both_by x.passes (faults.Field x.field x.offset x.found) (first_failed xs) (first_failed (xs ++ ys)) (λ g. both_pass xs ys g k) h

-- ---- fields

-- each field has the number that is wanted
abbrev pub AreRight : List ℕ → ℕ → List Field → Type 0
AreRight file at [] = Unit {0}
AreRight file at (f ∷ fs) = (found_at file at f ≡ number_of f) × AreRight file (at + size_of f) fs

one_right : (ok : Bool) (e : ElfFault) (r : Answer) → cond ok r (fails e) ≡ passes → (ok ≡ true) × (r ≡ passes)
one_right true e r h = (refl, h)
one_right false e r h = absurd cc

pub are_right : (kind : ElfField) (file : List ℕ) (at : ℕ) (fs : List Field) → first_failed (field_checks kind file at fs) ≡ passes → AreRight file at fs
unfolding first_failed field_checks
are_right kind file at [] h = tt
are_right kind file at (f ∷ fs) h =
    let k = one_right (eqb (found_at file at f) (number_of f)) (faults.Field kind at (found_at file at f)) (first_failed (field_checks kind file (at + size_of f) fs)) h in
    (eqb-true _ _ k.0, are_right kind file (at + size_of f) fs k.1)

right_pass : (ok : Bool) (e : ElfFault) (r : Answer) → ok ≡ true → r ≡ passes → cond ok r (fails e) ≡ passes
right_pass true e r h k = k
right_pass false e r h k = absurd cc

pub right_ones_pass : (kind : ElfField) (file : List ℕ) (at : ℕ) (fs : List Field) → AreRight file at fs → first_failed (field_checks kind file at fs) ≡ passes
unfolding first_failed field_checks
right_ones_pass kind file at [] h = refl
right_ones_pass kind file at (f ∷ fs) h =
    right_pass (eqb (found_at file at f) (number_of f)) (faults.Field kind at (found_at file at f)) (first_failed (field_checks kind file (at + size_of f) fs)) (eq-eqb _ _ h.0) (right_ones_pass kind file (at + size_of f) fs h.1)

-- ---- numbers and their bytes

bytes-drop : (file : List ℕ) → IsBytes file → (at i : ℕ) → get_or (drop at file) i 0 < 256
bytes-drop file h at i = rw (get_or-drop at file i 0) (h.byte (at + i))

bytes-take : (file : List ℕ) → IsBytes file → (at n i : ℕ) → get_or (take n (drop at file)) i 0 < 256
bytes-take file h at n i =
    elim (cases_lt i n) [
      | inl lt ↦ rw (get_or-take n (drop at file) i 0 lt) (bytes-drop file h at i)
      | inr le ↦ rw (get_or_past (take n (drop at file)) i 0 (omega (arith, length-take n (drop at file)))) (omega arith)
    ]

pub word_small : (file : List ℕ) → IsBytes file → (at : ℕ) → word_at file at < 4294967296
unfolding word_at
word_small file h at = omega (arith, bytes-take file h at 4 0, bytes-take file h at 4 1, bytes-take file h at 4 2, bytes-take file h at 4 3)

-- the bytes of the number that is found
found_bytes : (file : List ℕ) → IsBytes file → (at : ℕ) (f : Field) → at + size_of f ≤ length file → found_at file at f ≡ number_of f → field_bytes f ≡ take (size_of f) (drop at file)
unfolding byte_at half_at word_at
found_bytes file h at (Byte n) le is = rw (drop-cons file at 0 (omega arith)) (ap (λ (m : ℕ). m ∷ []) (sym is))
found_bytes file h at (Half n) le is = le_bytes_2 (take 2 (drop at file)) n (omega (arith, length-take 2 (drop at file), length-drop at file)) (bytes-take file h at 2) (sym is)
found_bytes file h at (Word n) le is = le_bytes_4 (take 4 (drop at file)) n (omega (arith, length-take 4 (drop at file), length-drop at file)) (bytes-take file h at 4) (sym is)

length-field_bytes : (f : Field) → length (field_bytes f) ≡ size_of f
length-field_bytes (Byte n) = refl
length-field_bytes (Half n) = refl
length-field_bytes (Word n) = refl

pub length-fields_bytes : (fs : List Field) → length (fields_bytes fs) ≡ span fs
length-fields_bytes [] = refl
length-fields_bytes (f ∷ fs) = rw (flat_map-cons field_bytes f fs) (omega (arith, length-append (field_bytes f) (fields_bytes fs), length-field_bytes f, length-fields_bytes fs))

-- where the numbers are right, the bytes of the fields stand
pub fields_here : (file : List ℕ) → IsBytes file → (at : ℕ) (fs : List Field) → at + span fs ≤ length file → AreRight file at fs → HasPart file at (fields_bytes fs)
fields_here file h at [] le right_ones = has_nothing file at (omega arith)
fields_here file h at (f ∷ fs) le right_ones =
    let bytes : field_bytes f ≡ take (size_of f) (drop at file) = found_bytes file h at f (omega arith) right_ones.0 in
    let one : HasPart file at (field_bytes f) = has_part file at (field_bytes f) (drop (size_of f) (drop at file)) (omega arith) (rw bytes (sym (take-append-drop (size_of f) (drop at file)))) in
    let others : HasPart file (at + length (field_bytes f)) (fields_bytes fs) = rw (length-field_bytes f) (fields_here file h (at + size_of f) fs (omega arith) right_ones.1) in
    rw (flat_map-cons field_bytes f fs) (both file at (field_bytes f) (fields_bytes fs) one others)

-- the number of a field fits its bytes
abbrev pub IsFit : Field → Type 0
IsFit (Byte n) = n < 256
IsFit (Half n) = n < 65536
IsFit (Word n) = n < 4294967296

abbrev pub AreFit : List Field → Type 0
AreFit [] = Unit {0}
AreFit (f ∷ fs) = IsFit f × AreFit fs

found_is : (file : List ℕ) (at : ℕ) (f : Field) → IsFit f → HasPart file at (field_bytes f) → found_at file at f ≡ number_of f
unfolding byte_at half_at word_at
found_is file at (Byte n) fit h = ap (λ (k : ℕ). get_or file k 0) (sym (add-zero at)) ∙ sym (get_or-drop at file 0 0) ∙ ap (λ (l : List ℕ). get_or l 0 0) h.here
found_is file at (Half n) fit h = ap (from_le_bytes w16) (cut_is file at 2 (to_le_bytes w16 n) h refl) ∙ from_le_bytes-to_le_bytes_2 n fit
found_is file at (Word n) fit h = ap (from_le_bytes w32) (cut_is file at 4 (to_le_bytes w32 n) h refl) ∙ from_le_bytes-to_le_bytes_4 n fit

-- where the bytes of the fields stand, the numbers are right
pub fields_right : (file : List ℕ) (at : ℕ) (fs : List Field) → AreFit fs → HasPart file at (fields_bytes fs) → AreRight file at fs
fields_right file at [] fit h = tt
fields_right file at (f ∷ fs) fit h =
    let k : HasPart file at (field_bytes f ++ fields_bytes fs) = subst (HasPart file at) (flat_map-cons field_bytes f fs) h in
    let others : HasPart file (at + size_of f) (fields_bytes fs) = subst (λ (n : ℕ). HasPart file (at + n) (fields_bytes fs)) (length-field_bytes f) (right file at (field_bytes f) (fields_bytes fs) k) in
    (found_is file at f fit.0 (left file at (field_bytes f) (fields_bytes fs) k), fields_right file (at + size_of f) fs fit.1 others)

-- the two together: the checks pass exactly where the bytes stand
pub checks_here : (kind : ElfField) (file : List ℕ) → IsBytes file → (at : ℕ) (fs : List Field) → at + span fs ≤ length file → first_failed (field_checks kind file at fs) ≡ passes → HasPart file at (fields_bytes fs)
checks_here kind file h at fs le ok = fields_here file h at fs le (are_right kind file at fs ok)

pub checks_pass : (kind : ElfField) (file : List ℕ) (at : ℕ) (fs : List Field) → AreFit fs → HasPart file at (fields_bytes fs) → first_failed (field_checks kind file at fs) ≡ passes
checks_pass kind file at fs fit h = right_ones_pass kind file at fs (fields_right file at fs fit h)

-- ---- bytes

pub fields_bytes-bytes : (bs : List ℕ) → fields_bytes (map Byte bs) ≡ bs
fields_bytes-bytes [] = refl
fields_bytes-bytes (b ∷ bs) = flat_map-cons field_bytes (Byte b) (map Byte bs) ∙ ap (λ (cs : List ℕ). b ∷ cs) (fields_bytes-bytes bs)

pub span-bytes : (bs : List ℕ) → span (map Byte bs) ≡ length bs
span-bytes [] = refl
span-bytes (b ∷ bs) = omega (arith, span-bytes bs)

fields_bytes-zeros : (n : ℕ) → fields_bytes (replicate n (Byte 0)) ≡ replicate n 0
fields_bytes-zeros zero = refl
fields_bytes-zeros (suc n) = flat_map-cons field_bytes (Byte 0) (replicate n (Byte 0)) ∙ ap (λ (cs : List ℕ). 0 ∷ cs) (fields_bytes-zeros n)

span-zeros : (n : ℕ) → span (replicate n (Byte 0)) ≡ n
span-zeros zero = refl
span-zeros (suc n) = omega (arith, span-zeros n)

fit-zeros : (n : ℕ) → AreFit (replicate n (Byte 0))
fit-zeros zero = tt
fit-zeros (suc n) = (omega arith, fit-zeros n)

pub zeros_here : (file : List ℕ) → IsBytes file → (from to : ℕ) → from ≤ to → to ≤ length file → first_failed (zero_checks file from to) ≡ passes → HasZeros file from to
unfolding zero_checks
zeros_here file h from to order le ok = record {
  zeros = rw (← fields_bytes-zeros (to - from)) (checks_here fields.Gap file h from (replicate (to - from) (Byte 0)) (omega (arith, span-zeros (to - from))) ok);
  order = order;
}

pub zeros_pass : (file : List ℕ) (from to : ℕ) → HasZeros file from to → first_failed (zero_checks file from to) ≡ passes
unfolding zero_checks
zeros_pass file from to h = checks_pass fields.Gap file from (replicate (to - from) (Byte 0)) (fit-zeros (to - from)) (rw (fields_bytes-zeros (to - from)) h.zeros)
