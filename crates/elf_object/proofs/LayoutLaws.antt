-- A file whose checks pass is laid out as the file of an image.
use Rattle.elf_object.specs.declared.image.TheConstants.{LARGEST_TABLES}
use Rattle.std.proofs.Common.{◌≡◌, ℕ, ◌+◌, ◌/◌, ◌%◌, ◌<◌, ◌≤◌, eqb, leb, List, ◌++◌, length, refl, ◌∙◌, subst, arith, length-append}
use Rattle.std.proofs.lemmas.Bool.{eqb-true, leb-true, and_parts}
use Rattle.elf_object.specs.declared.elf32.Ehdr.{Ehdr}
use Rattle.elf_object.specs.declared.elf32.Phdr.{Phdr}
use Rattle.elf_object.specs.declared.elf32.Shdr.{Shdr}
use Rattle.elf_object.specs.declared.layout.Sizes.{Sizes}
use Rattle.elf_object.specs.declared.fault.ElfField.TheVariants as fields
use Rattle.elf_object.specs.Elf32.{fields_bytes, span, ehdr_fields, phdr_fields, shdr_fields}
use Rattle.elf_object.specs.Layout.{text_at, data_at, symtab_at, shstrtab_at, sections_at, executable, text_segment, data_segment, section_names, null_section, text_section, data_section, symtab_section, strtab_section, shstrtab_section}
use Rattle.elf_object.specs.File.{header, segments, sections}
use Rattle.elf_object.specs.Checks.{first_failed, field_checks, shoff, sizes, loaded_sizes, info, wanted_text_segment, wanted_data_segment, wanted_symtab_section, wanted_strtab_section, program_checks, linking_section_checks, front_checks, layout_checks, header_checks, loaded_section_checks, gap_checks, IsEnded, IsLaidOut}
use Rattle.elf_object.proofs.CheckLaws.{passes}
use Rattle.elf_object.proofs.PassedChecks.{length_passed, end_passed, place_passed}
use Rattle.elf_object.proofs.SizeLaws.{AreLoaded, are_loaded, AreLinked, are_linked, wanted_text-is, wanted_data-is, wanted_symtab-is, wanted_strtab-is}
use Rattle.elf_object.proofs.Places.{data_after, symtab_after, strtab_is, shstrtab_is, sections_after}
use Rattle.elf_object.proofs.PartLaws.{IsBytes, HasPart, HasZeros, both}
use Rattle.elf_object.proofs.FieldLaws.{first_pass, second_pass, checks_here, length-fields_bytes, zeros_here}

-- ---- the sizes of headers

pub span-ehdr : (h : Ehdr) → span (ehdr_fields h) ≡ 52
unfolding ehdr_fields
span-ehdr h = refl

pub span-phdr : (h : Phdr) → span (phdr_fields h) ≡ 32
unfolding phdr_fields
span-phdr h = refl

pub span-shdr : (h : Shdr) → span (shdr_fields h) ≡ 40
unfolding shdr_fields
span-shdr h = refl

pub length-phdr : (h : Phdr) → length (fields_bytes (phdr_fields h)) ≡ 32
length-phdr h = length-fields_bytes (phdr_fields h) ∙ span-phdr h

pub length-shdr : (h : Shdr) → length (fields_bytes (shdr_fields h)) ≡ 40
length-shdr h = length-fields_bytes (shdr_fields h) ∙ span-shdr h

pub length-header : (s : Sizes) → length (header s) ≡ 52
unfolding header
length-header s = length-fields_bytes (ehdr_fields (executable (sections_at s))) ∙ span-ehdr (executable (sections_at s))

pub length-segments : (s : Sizes) → length (segments s) ≡ 64
unfolding segments
length-segments s = omega (arith, length-append (fields_bytes (phdr_fields (text_segment s))) (fields_bytes (phdr_fields (data_segment s))), length-phdr (text_segment s), length-phdr (data_segment s))

-- the headers of the sections, in two halves
abbrev pub loaded_sections : Sizes → List ℕ
loaded_sections s = fields_bytes (shdr_fields null_section) ++ fields_bytes (shdr_fields (text_section s)) ++ fields_bytes (shdr_fields (data_section s))

-- six headers of 40 bytes
pub length-six : (a b c d e f : List ℕ) → length a ≡ 40 → length b ≡ 40 → length c ≡ 40 → length d ≡ 40 → length e ≡ 40 → length f ≡ 40 → length (a ++ b ++ c ++ d ++ e ++ f) ≡ 240
length-six a b c d e f la lb lc ld le lf =
    omega (arith, length-append (a ++ b ++ c ++ d ++ e) f, length-append (a ++ b ++ c ++ d) e, length-append (a ++ b ++ c) d, length-append (a ++ b) c, length-append a b)

pub length-sections : (s : Sizes) (first : ℕ) → length (sections s first) ≡ 240
unfolding sections
length-sections s first = length-six _ _ _ _ _ _ (length-shdr null_section) (length-shdr (text_section s)) (length-shdr (data_section s)) (length-shdr (symtab_section s first)) (length-shdr (strtab_section s)) (length-shdr (shstrtab_section s))

pub length-section_names : length section_names ≡ 39
unfolding section_names
length-section_names = refl

-- six parts of 40 bytes after each other
pub six_here : (file : List ℕ) (at : ℕ) (a b c d e f : List ℕ) → length a ≡ 40 → length b ≡ 40 → length c ≡ 40 → length d ≡ 40 → length e ≡ 40
    → HasPart file at a → HasPart file (at + 40) b → HasPart file (at + 80) c → HasPart file (at + 120) d → HasPart file (at + 160) e → HasPart file (at + 200) f
    → HasPart file at (a ++ b ++ c ++ d ++ e ++ f)
six_here file at a b c d e f la lb lc ld le ha hb hc hd he hf =
    let two : HasPart file at (a ++ b) = both file at a b ha (subst (λ (n : ℕ). HasPart file n b) (omega arith) hb) in
    let three : HasPart file at (a ++ b ++ c) = both file at (a ++ b) c two (subst (λ (n : ℕ). HasPart file n c) (omega (arith, length-append a b)) hc) in
    let four : HasPart file at (a ++ b ++ c ++ d) = both file at (a ++ b ++ c) d three (subst (λ (n : ℕ). HasPart file n d) (omega (arith, length-append (a ++ b) c, length-append a b)) hd) in
    let five : HasPart file at (a ++ b ++ c ++ d ++ e) = both file at (a ++ b ++ c ++ d) e four (subst (λ (n : ℕ). HasPart file n e) (omega (arith, length-append (a ++ b ++ c) d, length-append (a ++ b) c, length-append a b)) he) in
    both file at (a ++ b ++ c ++ d ++ e) f five (subst (λ (n : ℕ). HasPart file n f) (omega (arith, length-append (a ++ b ++ c ++ d) e, length-append (a ++ b ++ c) d, length-append (a ++ b) c, length-append a b)) hf)

-- ---- what the passed checks say

pub is_ended : (file : List ℕ) → length file < 4294967296 → first_failed (front_checks file) ≡ passes → IsEnded file
unfolding front_checks
is_ended file short ok = record {
  long = length_passed file (first_pass _ _ (first_pass _ _ (first_pass _ _ ok)));
  short = short;
  end = end_passed file (second_pass _ _ ok);
}

-- the headers, the names and the gaps of a file stand where its sizes say
pub record HasFrame (file : List ℕ) : Type 0 where
  pub ended : IsEnded file
  pub place : shoff file ≡ sections_at (sizes file)
  pub loaded : AreLoaded file
  pub linked : AreLinked file
  pub header_here : HasPart file 0 (header (sizes file))
  pub segments_here : HasPart file 52 (segments (sizes file))
  pub sections_here : HasPart file (sections_at (sizes file)) (sections (sizes file) (info file))
  pub gap_before_text : HasZeros file 116 text_at
  pub gap_before_data : HasZeros file (text_at + (sizes file).text) (data_at (sizes file))
  pub gap_before_symtab : HasZeros file (data_at (sizes file) + (sizes file).data_bytes) (symtab_at (sizes file))
  pub gap_before_sections : HasZeros file (shstrtab_at (sizes file) + 39) (sections_at (sizes file))

header_found : (file : List ℕ) → IsBytes file → IsEnded file → shoff file ≡ sections_at (sizes file) → first_failed (header_checks file) ≡ passes → HasPart file 0 (header (sizes file))
unfolding header header_checks
header_found file bytes ended place ok =
    subst (λ (n : ℕ). HasPart file 0 (fields_bytes (ehdr_fields (executable n)))) place
    (checks_here fields.Header file bytes 0 (ehdr_fields (executable (shoff file))) (omega (arith, span-ehdr (executable (shoff file)), ended.long)) ok)

segments_found : (file : List ℕ) → IsBytes file → IsEnded file → AreLoaded file → first_failed (program_checks file) ≡ passes → HasPart file 52 (segments (sizes file))
unfolding segments program_checks
segments_found file bytes ended loaded ok =
    let text : HasPart file 52 (fields_bytes (phdr_fields (text_segment (sizes file)))) =
    subst (λ (h : Phdr). HasPart file 52 (fields_bytes (phdr_fields h))) (wanted_text-is file loaded)
    (checks_here fields.Program file bytes 52 (phdr_fields (wanted_text_segment (loaded_sizes file))) (omega (arith, span-phdr (wanted_text_segment (loaded_sizes file)), ended.long)) (first_pass _ _ ok)) in
    let data_bytes : HasPart file 84 (fields_bytes (phdr_fields (data_segment (sizes file)))) =
    subst (λ (h : Phdr). HasPart file 84 (fields_bytes (phdr_fields h))) (wanted_data-is file loaded)
    (checks_here fields.Program file bytes 84 (phdr_fields (wanted_data_segment (loaded_sizes file))) (omega (arith, span-phdr (wanted_data_segment (loaded_sizes file)), ended.long)) (second_pass _ _ ok)) in
    both file 52 _ _ text (subst (λ (n : ℕ). HasPart file n (fields_bytes (phdr_fields (data_segment (sizes file))))) (omega (arith, length-phdr (text_segment (sizes file)))) data_bytes)

-- one section header, whose fields were checked
section_found : (file : List ℕ) → IsBytes file → (at : ℕ) (h : Shdr) → at + 40 ≤ length file → first_failed (field_checks fields.Section file at (shdr_fields h)) ≡ passes → HasPart file at (fields_bytes (shdr_fields h))
section_found file bytes at h le ok = checks_here fields.Section file bytes at (shdr_fields h) (omega (arith, span-shdr h)) ok

sections_found : (file : List ℕ) → IsBytes file → IsEnded file → AreLinked file → first_failed (loaded_section_checks file) ≡ passes → first_failed (linking_section_checks file) ≡ passes
    → HasPart file (shoff file) (sections (sizes file) (info file))
unfolding sections loaded_section_checks linking_section_checks
sections_found file bytes ended linked ok more_ok =
    let end : shoff file + 240 ≡ length file = ended.end in
    let symtab = subst (λ (h : Shdr). HasPart file (shoff file + 120) (fields_bytes (shdr_fields h))) (wanted_symtab-is (sizes file) (info file) linked.symtab linked.info)
    (section_found file bytes (shoff file + 120) (wanted_symtab_section (sizes file) (info file)) (omega arith) (first_pass _ _ (first_pass _ _ more_ok))) in
    let strtab = subst (λ (h : Shdr). HasPart file (shoff file + 160) (fields_bytes (shdr_fields h))) (wanted_strtab-is (sizes file) linked.strtab)
    (section_found file bytes (shoff file + 160) (wanted_strtab_section (sizes file)) (omega arith) (second_pass _ _ (first_pass _ _ more_ok))) in
    six_here file (shoff file) _ _ _ _ _ _ (length-shdr null_section) (length-shdr (text_section (sizes file))) (length-shdr (data_section (sizes file))) (length-shdr (symtab_section (sizes file) (info file))) (length-shdr (strtab_section (sizes file)))
    (section_found file bytes (shoff file) null_section (omega arith) (first_pass _ _ (first_pass _ _ ok)))
    (section_found file bytes (shoff file + 40) (text_section (sizes file)) (omega arith) (second_pass _ _ (first_pass _ _ ok)))
    (section_found file bytes (shoff file + 80) (data_section (sizes file)) (omega arith) (second_pass _ _ ok))
    symtab
    strtab
    (section_found file bytes (shoff file + 200) (shstrtab_section (sizes file)) (omega arith) (second_pass _ _ more_ok))

pub has_frame : (file : List ℕ) → IsBytes file → length file < 4294967296 → first_failed (front_checks file) ≡ passes → first_failed (layout_checks file) ≡ passes → HasFrame file
unfolding front_checks layout_checks gap_checks
has_frame file bytes short front layout =
    let ended : IsEnded file = is_ended file short front in
    let header_ok : first_failed (header_checks file) ≡ passes = second_pass _ _ (first_pass _ _ (first_pass _ _ front)) in
    let program_ok : first_failed (program_checks file) ≡ passes = second_pass _ _ (first_pass _ _ front) in
    let loaded_ok : first_failed (loaded_section_checks file) ≡ passes = first_pass _ _ (first_pass _ _ (first_pass _ _ layout)) in
    let linking_ok : first_failed (linking_section_checks file) ≡ passes = second_pass _ _ (first_pass _ _ (first_pass _ _ layout)) in
    let place : shoff file ≡ sections_at (sizes file) = place_passed file (second_pass _ _ (first_pass _ _ layout)) in
    let gaps = second_pass _ _ layout in
    let loaded : AreLoaded file = are_loaded file bytes program_ok in
    let linked : AreLinked file = are_linked file bytes linking_ok in
    let s : Sizes = sizes file in
    let end : sections_at s + 240 ≡ length file = omega (arith, place, ended.end) in
    let o1 = data_after s in
    let o2 = symtab_after s in
    let o3 = strtab_is s in
    let o4 = shstrtab_is s in
    let o5 = sections_after s in
    record {
      ended = ended;
      place = place;
      loaded = loaded;
      linked = linked;
      header_here = header_found file bytes ended place header_ok;
      segments_here = segments_found file bytes ended loaded program_ok;
      sections_here = subst (λ (n : ℕ). HasPart file n (sections s (info file))) place (sections_found file bytes ended linked loaded_ok linking_ok);
      gap_before_text = zeros_here file bytes 116 text_at (omega arith) (omega arith) (first_pass _ _ (first_pass _ _ (first_pass _ _ gaps)));
      gap_before_data = zeros_here file bytes (text_at + s.text) (data_at s) o1 (omega arith) (second_pass _ _ (first_pass _ _ (first_pass _ _ gaps)));
      gap_before_symtab = zeros_here file bytes (data_at s + s.data_bytes) (symtab_at s) o2 (omega arith) (second_pass _ _ (first_pass _ _ gaps));
      gap_before_sections = zeros_here file bytes (shstrtab_at s + 39) (sections_at s) o5 (omega arith) (second_pass _ _ gaps);
    }

-- so the tables can be gone through
pub is_laid_out : (file : List ℕ) → HasFrame file → IsLaidOut file
is_laid_out file h =
    let symtab = and_parts (eqb ((sizes file).symtab % 16) 0) (leb 16 (sizes file).symtab) h.linked.symtab in
    let first = and_parts (leb 1 (info file)) (leb (info file) ((sizes file).symtab / 16)) h.linked.info in
    let strtab = and_parts (leb 1 (sizes file).strtab) (leb ((sizes file).symtab + (sizes file).strtab) LARGEST_TABLES) h.linked.strtab in
    record {
      ended = h.ended;
      place = h.place;
      symtab = (leb-true _ _ symtab.1, eqb-true _ _ symtab.0);
      strtab = leb-true _ _ strtab.0;
      info = (leb-true _ _ first.0, leb-true _ _ first.1);
    }
