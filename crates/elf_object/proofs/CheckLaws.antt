-- Checks after each other.
use Rattle.std.proofs.Common.{◌≡◌, ℕ, suc, ◌+◌, ◌-◌, ◌<◌, ◌≤◌, Bool, true, false, cond, List, [], ◌∷◌, ◌++◌, length, get_or, drop, Result, Ok, Err, refl, sym, ap, ◌∙◌, add-one, arith, drop-cons}
use Rattle.std.specs.Prelude.{replicate, map}
use Rattle.std.proofs.lemmas.List.{drop_all}
use Rattle.elf_object.specs.declared.elf32.Field.{Field}
use Rattle.elf_object.specs.declared.elf32.Field.TheVariants.{Byte}
use Rattle.elf_object.specs.declared.fault.ElfField.{ElfField}
use Rattle.elf_object.specs.declared.fault.ElfField.TheVariants as fields
use Rattle.elf_object.specs.declared.fault.ElfFault.{ElfFault}
use Rattle.elf_object.specs.declared.fault.ElfFault.TheVariants as faults
use Rattle.elf_object.specs.Checks.{Check, first_failed, field_check, field_checks, zero_checks}
use Rattle.elf_object.specs.Elf32.{size_of, span}

-- what checks answer
abbrev pub Answer : Type 0
Answer = Result (Unit {0}) ElfFault

abbrev pub passes : Answer
passes = Ok tt

abbrev pub fails : ElfFault → Answer
fails e = Err e

passed_by : (ok : Bool) (e : ElfFault) (r s t : Answer) → (r ≡ passes → s ≡ t) → cond ok r (fails e) ≡ passes → cond ok s (fails e) ≡ t
passed_by true e r s t then_so h = then_so h
passed_by false e r s t then_so h = absurd cc

failed_by : (ok : Bool) (d e : ElfFault) (r s : Answer) → (r ≡ fails e → s ≡ fails e) → cond ok r (fails d) ≡ fails e → cond ok s (fails d) ≡ fails e
failed_by true d e r s then_so h = then_so h
failed_by false d e r s then_so h = h

-- where the first ones pass, the others decide
pub passed : (xs ys : List Check) → first_failed xs ≡ passes → first_failed (xs ++ ys) ≡ first_failed ys
unfolding first_failed
passed [] ys h = refl
passed (x ∷ xs) ys h = passed_by x.passes (faults.Field x.field x.offset x.found) (first_failed xs) (first_failed (xs ++ ys)) (first_failed ys) (passed xs ys) h

-- where one of the first ones fails, that decides
pub failed : (xs ys : List Check) (e : ElfFault) → first_failed xs ≡ fails e → first_failed (xs ++ ys) ≡ fails e
unfolding first_failed
failed [] ys e h = absurd cc
failed (x ∷ xs) ys e h = failed_by x.passes (faults.Field x.field x.offset x.found) e (first_failed xs) (first_failed (xs ++ ys)) (failed xs ys e) h

-- the same in a loop, that has come to these checks and had this answer for all
pub passed_in : (xs ys : List Check) (r total : Answer) → r ≡ first_failed xs → r ≡ passes → first_failed (xs ++ ys) ≡ total → first_failed ys ≡ total
passed_in xs ys r total is ok so_far = sym (passed xs ys (sym is ∙ ok)) ∙ so_far

pub failed_in : (xs ys : List Check) (r total : Answer) (e : ElfFault) → r ≡ first_failed xs → r ≡ fails e → first_failed (xs ++ ys) ≡ total → fails e ≡ total
failed_in xs ys r total e is bad so_far = sym (failed xs ys e (sym is ∙ bad)) ∙ so_far

-- ---- fields one after the other

field_checks-drop : (kind : ElfField) (file : List ℕ) (at i : ℕ) (fs : List Field) (d : Field) → i < length fs
    → field_checks kind file at (drop i fs) ≡ (field_check kind file at (get_or fs i d) ∷ []) ++ field_checks kind file (at + size_of (get_or fs i d)) (drop (i + 1) fs)
unfolding field_checks
field_checks-drop kind file at i fs d lt = rw (drop-cons fs i d lt, add-one) refl

pub fields-go_on : (kind : ElfField) (file : List ℕ) (at i n : ℕ) (fs : List Field) (d : Field) (r total : Answer) → i < length fs → n ≡ size_of (get_or fs i d)
    → r ≡ first_failed (field_check kind file at (get_or fs i d) ∷ []) → r ≡ passes → first_failed (field_checks kind file at (drop i fs)) ≡ total
    → first_failed (field_checks kind file (at + n) (drop (i + 1) fs)) ≡ total
fields-go_on kind file at i n fs d r total lt n-is is ok so_far =
    rw n-is (passed_in (field_check kind file at (get_or fs i d) ∷ []) (field_checks kind file (at + size_of (get_or fs i d)) (drop (i + 1) fs)) r total is ok (sym (ap first_failed (field_checks-drop kind file at i fs d lt)) ∙ so_far))

pub fields-stop : (kind : ElfField) (file : List ℕ) (at i : ℕ) (fs : List Field) (d : Field) (r total : Answer) (e : ElfFault) → i < length fs
    → r ≡ first_failed (field_check kind file at (get_or fs i d) ∷ []) → r ≡ fails e → first_failed (field_checks kind file at (drop i fs)) ≡ total → fails e ≡ total
fields-stop kind file at i fs d r total e lt is bad so_far =
    failed_in (field_check kind file at (get_or fs i d) ∷ []) (field_checks kind file (at + size_of (get_or fs i d)) (drop (i + 1) fs)) r total e is bad (sym (ap first_failed (field_checks-drop kind file at i fs d lt)) ∙ so_far)

pub fields-end : (kind : ElfField) (file : List ℕ) (at i : ℕ) (fs : List Field) (total : Answer) → length fs ≤ i → first_failed (field_checks kind file at (drop i fs)) ≡ total → passes ≡ total
unfolding first_failed field_checks
fields-end kind file at i fs total le so_far = sym (ap (λ (gs : List Field). first_failed (field_checks kind file at gs)) (drop_all i fs le)) ∙ so_far

pub sizes-drop : (i : ℕ) (fs : List Field) (d : Field) → i < length fs → span (drop i fs) ≡ size_of (get_or fs i d) + span (drop (i + 1) fs)
sizes-drop i fs d lt = rw (drop-cons fs i d lt, add-one) refl

-- ---- bytes one after the other

bytes-drop : (kind : ElfField) (file : List ℕ) (at i : ℕ) (bs : List ℕ) → i < length bs
    → field_checks kind file at (map Byte (drop i bs)) ≡ (field_check kind file at (Byte (get_or bs i 0)) ∷ []) ++ field_checks kind file (at + 1) (map Byte (drop (i + 1) bs))
unfolding field_checks
bytes-drop kind file at i bs lt = rw (drop-cons bs i 0 lt, add-one i) refl

pub bytes-go_on : (kind : ElfField) (file : List ℕ) (at i : ℕ) (bs : List ℕ) (r total : Answer) → i < length bs
    → r ≡ first_failed (field_check kind file at (Byte (get_or bs i 0)) ∷ []) → r ≡ passes → first_failed (field_checks kind file at (map Byte (drop i bs))) ≡ total
    → first_failed (field_checks kind file (at + 1) (map Byte (drop (i + 1) bs))) ≡ total
bytes-go_on kind file at i bs r total lt is ok so_far =
    passed_in (field_check kind file at (Byte (get_or bs i 0)) ∷ []) (field_checks kind file (at + 1) (map Byte (drop (i + 1) bs))) r total is ok (sym (ap first_failed (bytes-drop kind file at i bs lt)) ∙ so_far)

pub bytes-stop : (kind : ElfField) (file : List ℕ) (at i : ℕ) (bs : List ℕ) (r total : Answer) (e : ElfFault) → i < length bs
    → r ≡ first_failed (field_check kind file at (Byte (get_or bs i 0)) ∷ []) → r ≡ fails e → first_failed (field_checks kind file at (map Byte (drop i bs))) ≡ total → fails e ≡ total
bytes-stop kind file at i bs r total e lt is bad so_far =
    failed_in (field_check kind file at (Byte (get_or bs i 0)) ∷ []) (field_checks kind file (at + 1) (map Byte (drop (i + 1) bs))) r total e is bad (sym (ap first_failed (bytes-drop kind file at i bs lt)) ∙ so_far)

pub bytes-end : (kind : ElfField) (file : List ℕ) (at i : ℕ) (bs : List ℕ) (total : Answer) → length bs ≤ i → first_failed (field_checks kind file at (map Byte (drop i bs))) ≡ total → passes ≡ total
unfolding first_failed field_checks
bytes-end kind file at i bs total le so_far = sym (ap (λ (cs : List ℕ). first_failed (field_checks kind file at (map Byte cs))) (drop_all i bs le)) ∙ so_far

-- ---- zero bytes one after the other

zero_checks-cons : (file : List ℕ) (at to : ℕ) → at < to → zero_checks file at to ≡ (field_check fields.Gap file at (Byte 0) ∷ []) ++ zero_checks file (at + 1) to
unfolding zero_checks field_checks
zero_checks-cons file at to lt =
    let k : to - at ≡ suc (to - (at + 1)) = omega arith in
    rw k refl

pub zeros-go_on : (file : List ℕ) (at to : ℕ) (r total : Answer) → at < to → r ≡ first_failed (field_check fields.Gap file at (Byte 0) ∷ []) → r ≡ passes
    → first_failed (zero_checks file at to) ≡ total → first_failed (zero_checks file (at + 1) to) ≡ total
zeros-go_on file at to r total lt is ok so_far =
    passed_in (field_check fields.Gap file at (Byte 0) ∷ []) (zero_checks file (at + 1) to) r total is ok (sym (ap first_failed (zero_checks-cons file at to lt)) ∙ so_far)

pub zeros-stop : (file : List ℕ) (at to : ℕ) (r total : Answer) (e : ElfFault) → at < to → r ≡ first_failed (field_check fields.Gap file at (Byte 0) ∷ []) → r ≡ fails e
    → first_failed (zero_checks file at to) ≡ total → fails e ≡ total
zeros-stop file at to r total e lt is bad so_far =
    failed_in (field_check fields.Gap file at (Byte 0) ∷ []) (zero_checks file (at + 1) to) r total e is bad (sym (ap first_failed (zero_checks-cons file at to lt)) ∙ so_far)

pub zeros-end : (file : List ℕ) (at to : ℕ) (total : Answer) → to ≤ at → first_failed (zero_checks file at to) ≡ total → passes ≡ total
unfolding first_failed zero_checks field_checks
zeros-end file at to total le so_far =
    let k : to - at ≡ 0 = omega arith in
    sym (ap (λ (n : ℕ). first_failed (field_checks fields.Gap file at (replicate n (Byte 0)))) k) ∙ so_far
