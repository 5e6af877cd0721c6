-- What reading a whole file needs of the laws.
use Rattle.std.proofs.Common.{◌≡◌, ℕ, ◌+◌, ◌≤◌, ◌<◌, List, length, Result, Ok, Err, refl, sym, ◌∙◌, subst, arith}
use Rattle.std.specs.Prelude.{MatchResult, All}
use Rattle.elf_object.specs.declared.fault.ElfFault.{ElfFault}
use Rattle.elf_object.specs.declared.fault.ElfFault.TheVariants as faults
use Rattle.elf_object.specs.Image.{Parts, IsImage, HasWords}
use Rattle.elf_object.specs.Layout.{text_at, data_at}
use Rattle.elf_object.specs.File.{elf}
use Rattle.elf_object.specs.Checks.{first_failed, sizes, image, front_checks, layout_checks, table_checks, checks, Answers, IsLaidOut}
use Rattle.elf_object.proofs.CheckLaws.{Answer, passes, fails, passed, failed}
use Rattle.elf_object.proofs.Places.{data_after, symtab_after, strtab_is, shstrtab_is, sections_after}
use Rattle.elf_object.proofs.PartLaws.{IsBytes}
use Rattle.elf_object.proofs.FieldLaws.{first_pass, second_pass, both_pass}
use Rattle.elf_object.proofs.LayoutLaws.{has_frame, is_laid_out}
use Rattle.elf_object.proofs.FoundImage.{is_found}
use Rattle.elf_object.proofs.RereadLaws.{is_again}

-- a reading that failed
abbrev pub failed_read : ElfFault → Result Parts ElfFault
failed_read e = Err e

pub answers_fail : (e : ElfFault) (checked : Answer) → checked ≡ fails e → Answers (failed_read e) checked
answers_fail faults.NoMemory checked h = tt
answers_fail (faults.Field field offset found) checked h = h

pub front_fails : (file : List ℕ) (e : ElfFault) → first_failed (front_checks file) ≡ fails e → first_failed (checks file) ≡ fails e
unfolding checks
front_fails file e h = failed _ (table_checks file) e (failed (front_checks file) (layout_checks file) e h)

pub layout_fails : (file : List ℕ) (e : ElfFault) → first_failed (front_checks file) ≡ passes → first_failed (layout_checks file) ≡ fails e → first_failed (checks file) ≡ fails e
unfolding checks
layout_fails file e ok h = failed _ (table_checks file) e (passed (front_checks file) (layout_checks file) ok ∙ h)

pub table_fails : (file : List ℕ) (e : ElfFault) → first_failed (front_checks file) ≡ passes → first_failed (layout_checks file) ≡ passes → first_failed (table_checks file) ≡ fails e
    → first_failed (checks file) ≡ fails e
unfolding checks
table_fails file e ok also_ok h = passed _ (table_checks file) (both_pass (front_checks file) (layout_checks file) ok also_ok) ∙ h

pub all_pass : (file : List ℕ) → first_failed (front_checks file) ≡ passes → first_failed (layout_checks file) ≡ passes → first_failed (table_checks file) ≡ passes → first_failed (checks file) ≡ passes
unfolding checks
all_pass file front layout table = both_pass _ _ (both_pass _ _ front layout) table

pub laid_out : (file : List ℕ) → IsBytes file → length file < 4294967296 → first_failed (front_checks file) ≡ passes → first_failed (layout_checks file) ≡ passes → IsLaidOut file
laid_out file bytes short front layout = is_laid_out file (has_frame file bytes short front layout)

pub all_laid_out : (file : List ℕ) → IsBytes file → length file < 4294967296 → first_failed (checks file) ≡ passes → IsLaidOut file
unfolding checks
all_laid_out file bytes short ok = laid_out file bytes short (first_pass _ _ (first_pass _ _ ok)) (second_pass _ _ (first_pass _ _ ok))

-- the text and the data of a laid out file are within it
pub loaded_within : (file : List ℕ) → IsLaidOut file → (text_at + (sizes file).text ≤ length file) × (data_at (sizes file) + (sizes file).data_bytes ≤ length file)
loaded_within file h =
    let o1 = data_after (sizes file) in
    let o2 = symtab_after (sizes file) in
    let o3 = strtab_is (sizes file) in
    let o4 = shstrtab_is (sizes file) in
    let o5 = sections_after (sizes file) in
    (omega (arith, h.place, h.ended.end), omega (arith, h.place, h.ended.end))

-- what was read is an image whose file these bytes are
pub read_is_found : (file : List ℕ) (result : Result Parts ElfFault) → IsBytes file → length file < 4294967296 → Answers result (first_failed (checks file)) → MatchResult result (λ i. i ≡ image file) (λ e. Unit {0})
    → MatchResult result (λ i. IsImage i × (file ≡ elf i)) (λ e. Unit {0})
read_is_found file (Ok i) bytes short checked is = subst (λ (j : Parts). IsImage j × (file ≡ elf j)) (sym is) (is_found file bytes short checked)
read_is_found file (Err e) bytes short checked is = tt

-- and the file of an image is read as it
pub read_is_again : (file : List ℕ) (result : Result Parts ElfFault) (i : Parts) → IsImage i → All HasWords i.symbols → file ≡ elf i → Answers result (first_failed (checks file))
    → MatchResult result (λ j. j ≡ image file) (λ e. Unit {0}) → MatchResult result (λ j. j ≡ i) (λ e. e ≡ faults.NoMemory)
read_is_again file (Ok j) i h words e checked is = is ∙ (is_again file i h words e).1
read_is_again file (Err faults.NoMemory) i h words e checked is = refl
read_is_again file (Err (faults.Field field offset found)) i h words e checked is =
    let both : passes ≡ fails (faults.Field field offset found) = sym (is_again file i h words e).0 ∙ checked in
    absurd cc
