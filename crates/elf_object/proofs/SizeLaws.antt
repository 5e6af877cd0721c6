-- The sizes that a file says, where its checks pass.
use Rattle.std.proofs.Common.{◌≡◌, ℕ, ◌+◌, ◌<◌, Bool, true, false, List, refl, ap, ◌∙◌, arith}
use Rattle.elf_object.specs.declared.elf32.Phdr.{Phdr}
use Rattle.elf_object.specs.declared.elf32.Shdr.{Shdr}
use Rattle.elf_object.specs.declared.layout.Sizes.{Sizes}
use Rattle.elf_object.specs.declared.fault.ElfField.TheVariants as fields
use Rattle.elf_object.specs.Elf32.{phdr_fields, shdr_fields}
use Rattle.elf_object.specs.Layout.{data_at, text_segment, data_segment, symtab_section, strtab_section}
use Rattle.elf_object.specs.Checks.{first_failed, word_at, permitted, is_text_size, is_data_size, is_symtab_size, is_first_global, is_strtab_size, shoff, sizes, loaded_sizes, info, wanted_text_segment, wanted_data_segment, wanted_symtab_section, wanted_strtab_section, program_checks, linking_section_checks}
use Rattle.elf_object.proofs.CheckLaws.{passes}
use Rattle.elf_object.proofs.PartLaws.{IsBytes}
use Rattle.elf_object.proofs.FieldLaws.{first_pass, second_pass, AreRight, are_right, word_small}

pub segment_size : (file : List ℕ) (at : ℕ) (h : Phdr) → AreRight file at (phdr_fields h) → word_at file (at + 16) ≡ h.p_filesz
unfolding phdr_fields
segment_size file at h k = ap (λ (n : ℕ). word_at file n) (omega arith) ∙ k.1.1.1.1.0

pub section_size : (file : List ℕ) (at : ℕ) (h : Shdr) → AreRight file at (shdr_fields h) → word_at file (at + 20) ≡ h.sh_size
unfolding shdr_fields
section_size file at h k = ap (λ (n : ℕ). word_at file n) (omega arith) ∙ k.1.1.1.1.1.0

pub section_info : (file : List ℕ) (at : ℕ) (h : Shdr) → AreRight file at (shdr_fields h) → word_at file (at + 28) ≡ h.sh_info
unfolding shdr_fields
section_info file at h k = ap (λ (n : ℕ). word_at file n) (omega arith) ∙ k.1.1.1.1.1.1.1.0

-- a word that is a permitted number is permitted
permitted_holds : (ok : Bool) (n : ℕ) → n < 4294967296 → n ≡ permitted ok n → ok ≡ true
unfolding permitted
permitted_holds true n small is = refl
permitted_holds false n small is = absurd (omega (arith, is))

permitted-true : (ok : Bool) (n : ℕ) → ok ≡ true → permitted ok n ≡ n
unfolding permitted
permitted-true true n h = refl
permitted-true false n h = absurd cc

-- what the checks of the program headers say of the sizes of the text and of the data
pub record AreLoaded (file : List ℕ) : Type 0 where
  pub text : is_text_size (sizes file).text ≡ true
  pub data_bytes : is_data_size (sizes file).data_bytes ≡ true

pub are_loaded : (file : List ℕ) → IsBytes file → first_failed (program_checks file) ≡ passes → AreLoaded file
unfolding program_checks wanted_text_segment wanted_data_segment sizes loaded_sizes
are_loaded file bytes ok =
    let text = segment_size file 52 (wanted_text_segment (loaded_sizes file)) (are_right fields.Program file 52 _ (first_pass _ _ ok)) in
    let data_bytes = segment_size file 84 (wanted_data_segment (loaded_sizes file)) (are_right fields.Program file 84 _ (second_pass _ _ ok)) in
    record {
      text = permitted_holds (is_text_size (word_at file 68)) (word_at file 68) (word_small file bytes 68) text;
      data_bytes = permitted_holds (is_data_size (word_at file 100)) (word_at file 100) (word_small file bytes 100) data_bytes;
    }

-- what the checks of the section headers say of the sizes of the tables
pub record AreLinked (file : List ℕ) : Type 0 where
  pub symtab : is_symtab_size (sizes file).symtab ≡ true
  pub info : is_first_global (sizes file).symtab (info file) ≡ true
  pub strtab : is_strtab_size (sizes file).symtab (sizes file).strtab ≡ true

pub are_linked : (file : List ℕ) → IsBytes file → first_failed (linking_section_checks file) ≡ passes → AreLinked file
unfolding linking_section_checks wanted_symtab_section wanted_strtab_section sizes info
are_linked file bytes ok =
    let at : ℕ = shoff file in
    let symtab_right = are_right fields.Section file (at + 120) (shdr_fields (wanted_symtab_section (sizes file) (info file))) (first_pass _ _ (first_pass _ _ ok)) in
    let strtab_right = are_right fields.Section file (at + 160) (shdr_fields (wanted_strtab_section (sizes file))) (second_pass _ _ (first_pass _ _ ok)) in
    let symtab : word_at file (at + 140) ≡ permitted (is_symtab_size (word_at file (at + 140))) (word_at file (at + 140)) = ap (λ (n : ℕ). word_at file n) (omega arith) ∙ section_size file (at + 120) _ symtab_right in
    let first : word_at file (at + 148) ≡ permitted (is_first_global (word_at file (at + 140)) (word_at file (at + 148))) (word_at file (at + 148)) = ap (λ (n : ℕ). word_at file n) (omega arith) ∙ section_info file (at + 120) _ symtab_right in
    let strtab : word_at file (at + 180) ≡ permitted (is_strtab_size (word_at file (at + 140)) (word_at file (at + 180))) (word_at file (at + 180)) = ap (λ (n : ℕ). word_at file n) (omega arith) ∙ section_size file (at + 160) _ strtab_right in
    record {
      symtab = permitted_holds _ _ (word_small file bytes (at + 140)) symtab;
      info = permitted_holds _ _ (word_small file bytes (at + 148)) first;
      strtab = permitted_holds _ _ (word_small file bytes (at + 180)) strtab;
    }

-- the headers that are wanted are those of the sizes
pub wanted_text-is : (file : List ℕ) → AreLoaded file → wanted_text_segment (loaded_sizes file) ≡ text_segment (sizes file)
unfolding wanted_text_segment text_segment sizes loaded_sizes
wanted_text-is file h = ap (λ (n : ℕ). record (text_segment (loaded_sizes file)) { p_filesz = n }) (permitted-true (is_text_size (word_at file 68)) (word_at file 68) h.text)

pub wanted_data-is : (file : List ℕ) → AreLoaded file → wanted_data_segment (loaded_sizes file) ≡ data_segment (sizes file)
unfolding wanted_data_segment data_segment data_at sizes loaded_sizes
wanted_data-is file h = ap (λ (n : ℕ). record (data_segment (loaded_sizes file)) { p_filesz = n }) (permitted-true (is_data_size (word_at file 100)) (word_at file 100) h.data_bytes)

pub wanted_symtab-is : (s : Sizes) (first : ℕ) → is_symtab_size s.symtab ≡ true → is_first_global s.symtab first ≡ true → wanted_symtab_section s first ≡ symtab_section s first
unfolding wanted_symtab_section symtab_section
wanted_symtab-is s first h k =
    ap (λ (n : ℕ). record (symtab_section s first) { sh_size = n; sh_info = permitted (is_first_global s.symtab first) first }) (permitted-true (is_symtab_size s.symtab) s.symtab h)
    ∙ ap (λ (n : ℕ). record (symtab_section s first) { sh_info = n }) (permitted-true (is_first_global s.symtab first) first k)

pub wanted_strtab-is : (s : Sizes) → is_strtab_size s.symtab s.strtab ≡ true → wanted_strtab_section s ≡ strtab_section s
unfolding wanted_strtab_section strtab_section
wanted_strtab-is s h = ap (λ (n : ℕ). record (strtab_section s) { sh_size = n }) (permitted-true (is_strtab_size s.symtab s.strtab) s.strtab h)
