-- The checks of the file of an image pass, and it says that image.
use Rattle.elf_object.specs.declared.image.TheConstants.{LEAST_TEXT, LARGEST_TEXT, LARGEST_DATA, LARGEST_TABLES}
use Rattle.std.proofs.Common.{◌≡◌, ℕ, ◌+◌, ◌-◌, ◌/◌, ◌%◌, ◌<◌, ◌≤◌, true, List, [], ◌∷◌, ◌++◌, length, take, drop, refl, sym, ap, ◌∙◌, subst, arith, length-append}
use Rattle.std.specs.Prelude.{map, count_by, not, All}
use Rattle.std.proofs.lemmas.Bool.{eq-eqb, le-leb, and_from}
use Rattle.std.proofs.lemmas.List.Elements.{recursion_from_All}
use Rattle.std.proofs.lemmas.List.Sums.{count_by-le-length}
use Rattle.elf_object.specs.declared.symbol.Symbol.{Symbol}
use Rattle.elf_object.specs.declared.elf32.Field.TheVariants.{Byte}
use Rattle.elf_object.specs.declared.elf32.Shdr.{Shdr}
use Rattle.elf_object.specs.declared.layout.Sizes.{Sizes}
use Rattle.elf_object.specs.declared.fault.ElfField.TheVariants as fields
use Rattle.elf_object.specs.Image.{Parts, IsNamed, HasWords, IsImage, string_table, symbol_table_size}
use Rattle.elf_object.specs.Elf32.{fields_bytes, ehdr_fields, phdr_fields, shdr_fields, sym_fields}
use Rattle.elf_object.specs.Layout.{text_at, data_at, symtab_at, strtab_at, shstrtab_at, sections_at, section_names, executable, text_segment, data_segment, null_section, text_section, data_section, symtab_section, strtab_section, shstrtab_section}
use Rattle.elf_object.specs.File.{Part, sizes_of, first_global, zero_entry, entries_bytes, symbol_table, header, segments, sections, loaded_parts, section_parts, elf}
use Rattle.elf_object.specs.Checks.{first_failed, field_checks, word_at, shoff, sizes, loaded_sizes, info, strings, symbols, image, is_text_size, is_symtab_size, is_first_global, is_strtab_size, wanted_text_segment, wanted_data_segment, wanted_symtab_section, wanted_strtab_section, length_checks, header_checks, program_checks, end_checks, loaded_section_checks, linking_section_checks, place_checks, gap_checks, zero_checks, entry_checks, name_checks, symbol_checks, string_checks, section_name_checks, table_checks, front_checks, layout_checks, checks}
use Rattle.elf_object.proofs.CheckLaws.{passes}
use Rattle.elf_object.proofs.Symbols.{names}
use Rattle.elf_object.proofs.PassedChecks.{one_passes}
use Rattle.elf_object.proofs.SizeLaws.{AreLoaded, AreLinked, segment_size, section_size, section_info, wanted_text-is, wanted_data-is, wanted_symtab-is, wanted_strtab-is}
use Rattle.elf_object.proofs.SymbolLaws.{AreAgain, are_again}
use Rattle.elf_object.proofs.Places.{data_after, symtab_after, strtab_is, shstrtab_is, sections_after}
use Rattle.elf_object.proofs.PartLaws.{HasPart, HasZeros, HasParts, InOrder, last_end, all_placed, length-all_placed, has_parts, has_itself, left, right, cut_is}
use Rattle.elf_object.proofs.FieldLaws.{both_pass, checks_pass, AreFit, AreRight, fields_right, length-fields_bytes, fields_bytes-bytes, zeros_pass}
use Rattle.elf_object.proofs.LayoutLaws.{length-header, length-segments, length-sections, length-section_names, length-phdr, length-shdr}
use Rattle.elf_object.proofs.FoundImage.{placed_is, length-symbol_table, span-zero_entry}

-- ---- the places of an image's parts are words

data_below : (s : Sizes) → data_at s ≤ 8191 + s.text
unfolding data_at
data_below s = omega arith

symtab_below : (s : Sizes) → symtab_at s ≤ 3 + (data_at s + s.data_bytes)
unfolding symtab_at
symtab_below s = omega arith

sections_below : (s : Sizes) → sections_at s ≤ 42 + shstrtab_at s
unfolding sections_at
sections_below s = omega arith

-- the bounds of an image's sizes
pub record AreSmall (s : Sizes) : Type 0 where
  pub text : s.text ≤ LARGEST_TEXT
  pub data_bytes : s.data_bytes ≤ LARGEST_DATA
  pub tables : s.symtab + s.strtab ≤ LARGEST_TABLES

sections_small : (s : Sizes) → AreSmall s → sections_at s < 1090000000
sections_small s h = omega (arith, h.text, h.data_bytes, h.tables, data_below s, symtab_below s, strtab_is s, shstrtab_is s, sections_below s)

-- ---- the fields of an image's headers fit

fit-ehdr : (shoff : ℕ) → shoff < 4294967296 → AreFit (ehdr_fields (executable shoff))
unfolding ehdr_fields executable
fit-ehdr shoff small = (omega arith, (omega arith, (omega arith, (omega arith, (omega arith, (omega arith, (omega arith, (omega arith, (omega arith, (omega arith, (omega arith, (omega arith, (omega arith, (omega arith, (omega arith, (omega arith, (omega arith, (omega arith, (omega arith, (omega arith, (omega arith, (omega arith, (omega arith, (omega arith, (omega arith, (omega arith, (omega arith, (omega arith, (omega arith, tt)))))))))))))))))))))))))))))

fit-text_segment : (s : Sizes) → s.text < 4294967296 → AreFit (phdr_fields (text_segment s))
unfolding phdr_fields text_segment
fit-text_segment s small = (omega arith, (omega arith, (omega arith, (omega arith, (omega arith, (omega arith, (omega arith, (omega arith, tt))))))))

fit-data_segment : (s : Sizes) → data_at s < 4294967296 → s.data_bytes < 4294967296 → AreFit (phdr_fields (data_segment s))
unfolding phdr_fields data_segment
fit-data_segment s place small = (omega arith, (omega arith, (omega arith, (omega arith, (omega arith, (omega arith, (omega arith, (omega arith, tt))))))))

fit-null_section : AreFit (shdr_fields null_section)
unfolding shdr_fields null_section
fit-null_section = (omega arith, (omega arith, (omega arith, (omega arith, (omega arith, (omega arith, (omega arith, (omega arith, (omega arith, (omega arith, tt))))))))))

fit-text_section : (s : Sizes) → s.text < 4294967296 → AreFit (shdr_fields (text_section s))
unfolding shdr_fields text_section
fit-text_section s small = (omega arith, (omega arith, (omega arith, (omega arith, (omega arith, (omega arith, (omega arith, (omega arith, (omega arith, (omega arith, tt))))))))))

fit-data_section : (s : Sizes) → data_at s < 4294967296 → s.data_bytes < 4294967296 → AreFit (shdr_fields (data_section s))
unfolding shdr_fields data_section
fit-data_section s place small = (omega arith, (omega arith, (omega arith, (omega arith, (omega arith, (omega arith, (omega arith, (omega arith, (omega arith, (omega arith, tt))))))))))

fit-symtab_section : (s : Sizes) (first : ℕ) → symtab_at s < 4294967296 → s.symtab < 4294967296 → first < 4294967296 → AreFit (shdr_fields (symtab_section s first))
unfolding shdr_fields symtab_section
fit-symtab_section s first place small first_small = (omega arith, (omega arith, (omega arith, (omega arith, (omega arith, (omega arith, (omega arith, (omega arith, (omega arith, (omega arith, tt))))))))))

fit-strtab_section : (s : Sizes) → strtab_at s < 4294967296 → s.strtab < 4294967296 → AreFit (shdr_fields (strtab_section s))
unfolding shdr_fields strtab_section
fit-strtab_section s place small = (omega arith, (omega arith, (omega arith, (omega arith, (omega arith, (omega arith, (omega arith, (omega arith, (omega arith, (omega arith, tt))))))))))

fit-shstrtab_section : (s : Sizes) → shstrtab_at s < 4294967296 → AreFit (shdr_fields (shstrtab_section s))
unfolding shdr_fields shstrtab_section
fit-shstrtab_section s place = (omega arith, (omega arith, (omega arith, (omega arith, (omega arith, (omega arith, (omega arith, (omega arith, (omega arith, (omega arith, tt))))))))))

fit-zero_entry : AreFit (sym_fields zero_entry)
unfolding sym_fields zero_entry
fit-zero_entry = (omega arith, (omega arith, (omega arith, (omega arith, (omega arith, (omega arith, tt))))))

fit-section_names : AreFit (map Byte section_names)
unfolding section_names
fit-section_names = (omega arith, (omega arith, (omega arith, (omega arith, (omega arith, (omega arith, (omega arith, (omega arith, (omega arith, (omega arith, (omega arith, (omega arith, (omega arith, (omega arith, (omega arith, (omega arith, (omega arith, (omega arith, (omega arith, (omega arith, (omega arith, (omega arith, (omega arith, (omega arith, (omega arith, (omega arith, (omega arith, (omega arith, (omega arith, (omega arith, (omega arith, (omega arith, (omega arith, (omega arith, (omega arith, (omega arith, (omega arith, (omega arith, (omega arith, tt)))))))))))))))))))))))))))))))))))))))

-- ---- what stands where in the file of an image

pub record IsFileOf (file : List ℕ) (i : Parts) : Type 0 where
  pub end : sections_at (sizes_of i) + 240 ≡ length file
  pub header_here : HasPart file 0 (header (sizes_of i))
  pub segments_here : HasPart file 52 (segments (sizes_of i))
  pub text_here : HasPart file text_at i.text
  pub data_here : HasPart file (data_at (sizes_of i)) i.data_bytes
  pub symbols_here : HasPart file (symtab_at (sizes_of i)) (symbol_table i.symbols)
  pub strings_here : HasPart file (strtab_at (sizes_of i)) (string_table i.symbols)
  pub names_here : HasPart file (shstrtab_at (sizes_of i)) section_names
  pub sections_here : HasPart file (sections_at (sizes_of i)) (sections (sizes_of i) (first_global i.symbols))
  pub gap_before_text : HasZeros file 116 text_at
  pub gap_before_data : HasZeros file (text_at + length i.text) (data_at (sizes_of i))
  pub gap_before_symtab : HasZeros file (data_at (sizes_of i) + length i.data_bytes) (symtab_at (sizes_of i))
  pub gap_before_sections : HasZeros file (shstrtab_at (sizes_of i) + 39) (sections_at (sizes_of i))

parts_in_order : (i : Parts) → InOrder 0 (loaded_parts (sizes_of i) i ++ section_parts (sizes_of i) i)
unfolding loaded_parts section_parts
parts_in_order i =
    let s : Sizes = sizes_of i in
    let o1 = data_after s in
    let o2 = symtab_after s in
    let o3 = strtab_is s in
    let o4 = shstrtab_is s in
    let o5 = sections_after s in
    (omega arith, (omega (arith, length-header s), (omega (arith, length-segments s), (omega arith, (omega arith, (omega (arith, length-symbol_table i.symbols), (omega arith, (omega (arith, length-section_names), tt))))))))

parts_end : (i : Parts) → last_end 0 (loaded_parts (sizes_of i) i ++ section_parts (sizes_of i) i) ≡ sections_at (sizes_of i) + 240
unfolding loaded_parts section_parts
parts_end i = omega (arith, length-sections (sizes_of i) (first_global i.symbols))

pub is_file_of : (file : List ℕ) (i : Parts) → file ≡ elf i → IsFileOf file i
unfolding elf loaded_parts section_parts
is_file_of file i e =
    let s : Sizes = sizes_of i in
    let ps : List Part = loaded_parts s i ++ section_parts s i in
    let whole : file ≡ all_placed [] ps = e ∙ sym (placed_is [] ps) in
    let len : length file ≡ sections_at s + 240 = ap length whole ∙ length-all_placed [] ps 0 refl (parts_in_order i) ∙ parts_end i in
    let h : HasParts file 0 ps = (has_parts file [] ps 0 refl (parts_in_order i) (has_itself file (all_placed [] ps) whole)).1 in
    record {
      end = sym len;
      header_here = h.1;
      segments_here = h.2.1;
      text_here = h.2.2.1;
      data_here = h.2.2.2.1;
      symbols_here = h.2.2.2.2.1;
      strings_here = h.2.2.2.2.2.1;
      names_here = h.2.2.2.2.2.2.1;
      sections_here = h.2.2.2.2.2.2.2.1;
      gap_before_text = subst (λ (n : ℕ). HasZeros file n text_at) (omega (arith, length-segments s)) h.2.2.0;
      gap_before_data = h.2.2.2.0;
      gap_before_symtab = h.2.2.2.2.0;
      gap_before_sections = subst (λ (n : ℕ). HasZeros file n (sections_at s)) (omega (arith, length-section_names)) h.2.2.2.2.2.2.2.0;
    }

-- six parts of 40 bytes after each other
record AreSix (file : List ℕ) (at : ℕ) (a b c d e f : List ℕ) : Type 0 where
  first : HasPart file at a
  second : HasPart file (at + 40) b
  third : HasPart file (at + 80) c
  fourth : HasPart file (at + 120) d
  fifth : HasPart file (at + 160) e
  sixth : HasPart file (at + 200) f

six_parts : (file : List ℕ) (at : ℕ) (a b c d e f : List ℕ) → length a ≡ 40 → length b ≡ 40 → length c ≡ 40 → length d ≡ 40 → length e ≡ 40
    → HasPart file at (a ++ b ++ c ++ d ++ e ++ f) → AreSix file at a b c d e f
six_parts file at a b c d e f la lb lc ld le h =
    let five : HasPart file at (a ++ b ++ c ++ d ++ e) = left file at _ f h in
    let four : HasPart file at (a ++ b ++ c ++ d) = left file at _ e five in
    let three : HasPart file at (a ++ b ++ c) = left file at _ d four in
    let two : HasPart file at (a ++ b) = left file at _ c three in
    record {
      first = left file at a b two;
      second = subst (λ (n : ℕ). HasPart file n b) (omega arith) (right file at a b two);
      third = subst (λ (n : ℕ). HasPart file n c) (omega (arith, length-append a b)) (right file at (a ++ b) c three);
      fourth = subst (λ (n : ℕ). HasPart file n d) (omega (arith, length-append (a ++ b) c, length-append a b)) (right file at (a ++ b ++ c) d four);
      fifth = subst (λ (n : ℕ). HasPart file n e) (omega (arith, length-append (a ++ b ++ c) d, length-append (a ++ b) c, length-append a b)) (right file at (a ++ b ++ c ++ d) e five);
      sixth = subst (λ (n : ℕ). HasPart file n f) (omega (arith, length-append (a ++ b ++ c ++ d) e, length-append (a ++ b ++ c) d, length-append (a ++ b) c, length-append a b)) (right file at (a ++ b ++ c ++ d ++ e) f h);
    }

sections_split : (file : List ℕ) (i : Parts) → IsFileOf file i
    → AreSix file (sections_at (sizes_of i)) (fields_bytes (shdr_fields null_section)) (fields_bytes (shdr_fields (text_section (sizes_of i)))) (fields_bytes (shdr_fields (data_section (sizes_of i))))
    (fields_bytes (shdr_fields (symtab_section (sizes_of i) (first_global i.symbols)))) (fields_bytes (shdr_fields (strtab_section (sizes_of i)))) (fields_bytes (shdr_fields (shstrtab_section (sizes_of i))))
unfolding sections
sections_split file i h =
    six_parts file (sections_at (sizes_of i)) _ _ _ _ _ _ (length-shdr null_section) (length-shdr (text_section (sizes_of i))) (length-shdr (data_section (sizes_of i))) (length-shdr (symtab_section (sizes_of i) (first_global i.symbols)))
    (length-shdr (strtab_section (sizes_of i))) h.sections_here

-- ---- the numbers that the file says

image_small : (i : Parts) → IsImage i → AreSmall (sizes_of i)
image_small i h = record { text = h.text_most; data_bytes = h.data_most; tables = h.symbols_most }

first_small : (i : Parts) → IsImage i → first_global i.symbols < 4294967296
first_small i h = omega (arith, h.symbols_most, count_by-le-length (λ (s : Symbol). not s.global) i.symbols)

pub shoff_is : (file : List ℕ) (i : Parts) → IsImage i → IsFileOf file i → shoff file ≡ sections_at (sizes_of i)
unfolding shoff header ehdr_fields executable
shoff_is file i h k =
    let small : sections_at (sizes_of i) < 4294967296 = omega (arith, sections_small (sizes_of i) (image_small i h)) in
    let r = fields_right file 0 (ehdr_fields (executable (sections_at (sizes_of i)))) (fit-ehdr (sections_at (sizes_of i)) small) k.header_here in
    r.1.1.1.1.1.1.1.1.1.1.1.1.1.1.1.1.1.1.1.1.1.0

-- the segments, and the numbers in them
text_segment_here : (file : List ℕ) (i : Parts) → IsFileOf file i → HasPart file 52 (fields_bytes (phdr_fields (text_segment (sizes_of i))))
unfolding segments
text_segment_here file i k = left file 52 _ _ k.segments_here

data_segment_here : (file : List ℕ) (i : Parts) → IsFileOf file i → HasPart file 84 (fields_bytes (phdr_fields (data_segment (sizes_of i))))
unfolding segments
data_segment_here file i k =
    subst (λ (n : ℕ). HasPart file n (fields_bytes (phdr_fields (data_segment (sizes_of i))))) (omega (arith, length-phdr (text_segment (sizes_of i))))
    (right file 52 (fields_bytes (phdr_fields (text_segment (sizes_of i)))) (fields_bytes (phdr_fields (data_segment (sizes_of i)))) k.segments_here)

text_size_is : (file : List ℕ) (i : Parts) → IsImage i → IsFileOf file i → word_at file 68 ≡ length i.text
unfolding text_segment
text_size_is file i h k =
    segment_size file 52 (text_segment (sizes_of i)) (fields_right file 52 (phdr_fields (text_segment (sizes_of i))) (fit-text_segment (sizes_of i) (omega (arith, h.text_most))) (text_segment_here file i k))

data_place_small : (i : Parts) → IsImage i → data_at (sizes_of i) < 4294967296
data_place_small i h = omega (arith, data_below (sizes_of i), h.text_most)

data_size_is : (file : List ℕ) (i : Parts) → IsImage i → IsFileOf file i → word_at file 100 ≡ length i.data_bytes
unfolding data_segment
data_size_is file i h k =
    segment_size file 84 (data_segment (sizes_of i))
    (fields_right file 84 (phdr_fields (data_segment (sizes_of i))) (fit-data_segment (sizes_of i) (data_place_small i h) (omega (arith, h.data_most))) (data_segment_here file i k))

-- the sections, and the numbers in them
fit-symtab : (i : Parts) → IsImage i → AreFit (shdr_fields (symtab_section (sizes_of i) (first_global i.symbols)))
fit-symtab i h =
    fit-symtab_section (sizes_of i) (first_global i.symbols) (omega (arith, symtab_below (sizes_of i), data_below (sizes_of i), h.text_most, h.data_most)) (omega (arith, h.symbols_most)) (first_small i h)

fit-strtab : (i : Parts) → IsImage i → AreFit (shdr_fields (strtab_section (sizes_of i)))
fit-strtab i h =
    fit-strtab_section (sizes_of i) (omega (arith, strtab_is (sizes_of i), symtab_below (sizes_of i), data_below (sizes_of i), h.text_most, h.data_most, h.symbols_most)) (omega (arith, h.symbols_most))

fit-shstrtab : (i : Parts) → IsImage i → AreFit (shdr_fields (shstrtab_section (sizes_of i)))
fit-shstrtab i h = fit-shstrtab_section (sizes_of i) (omega (arith, sections_small (sizes_of i) (image_small i h), sections_after (sizes_of i)))

symtab_right : (file : List ℕ) (i : Parts) → IsImage i → IsFileOf file i → AreRight file (sections_at (sizes_of i) + 120) (shdr_fields (symtab_section (sizes_of i) (first_global i.symbols)))
symtab_right file i h k = fields_right file (sections_at (sizes_of i) + 120) _ (fit-symtab i h) (sections_split file i k).fourth

symtab_size_is : (file : List ℕ) (i : Parts) → IsImage i → IsFileOf file i → word_at file (sections_at (sizes_of i) + 140) ≡ symbol_table_size i.symbols
unfolding symtab_section
symtab_size_is file i h k = ap (λ (n : ℕ). word_at file n) (omega arith) ∙ section_size file (sections_at (sizes_of i) + 120) (symtab_section (sizes_of i) (first_global i.symbols)) (symtab_right file i h k)

first_is : (file : List ℕ) (i : Parts) → IsImage i → IsFileOf file i → word_at file (sections_at (sizes_of i) + 148) ≡ first_global i.symbols
unfolding symtab_section
first_is file i h k = ap (λ (n : ℕ). word_at file n) (omega arith) ∙ section_info file (sections_at (sizes_of i) + 120) (symtab_section (sizes_of i) (first_global i.symbols)) (symtab_right file i h k)

strtab_size_is : (file : List ℕ) (i : Parts) → IsImage i → IsFileOf file i → word_at file (sections_at (sizes_of i) + 180) ≡ length (string_table i.symbols)
unfolding strtab_section
strtab_size_is file i h k =
    ap (λ (n : ℕ). word_at file n) (omega arith) ∙ section_size file (sections_at (sizes_of i) + 160) (strtab_section (sizes_of i)) (fields_right file (sections_at (sizes_of i) + 160) _ (fit-strtab i h) (sections_split file i k).fifth)

pub sizes_are : (file : List ℕ) (i : Parts) → IsImage i → IsFileOf file i → sizes file ≡ sizes_of i
unfolding sizes
sizes_are file i h k = rw (shoff_is file i h k, text_size_is file i h k, data_size_is file i h k, symtab_size_is file i h k, strtab_size_is file i h k) refl

pub info_is : (file : List ℕ) (i : Parts) → IsImage i → IsFileOf file i → info file ≡ first_global i.symbols
unfolding info
info_is file i h k = ap (λ (n : ℕ). word_at file (n + 148)) (shoff_is file i h k) ∙ first_is file i h k

-- ---- the checks pass

-- the numbers of a file whose image is known
pub record Says (file : List ℕ) (i : Parts) : Type 0 where
  pub shoff : shoff file ≡ sections_at (sizes_of i)
  pub sizes : sizes file ≡ sizes_of i
  pub info : info file ≡ first_global i.symbols

text_permitted : (n : ℕ) → LEAST_TEXT ≤ n → n ≤ LARGEST_TEXT → n % 4 ≡ 0 → is_text_size n ≡ true
text_permitted n least most words = and_from _ _ (and_from _ _ (le-leb _ _ least) (le-leb _ _ most)) (eq-eqb _ _ words)

symtab_permitted : (n : ℕ) → n % 16 ≡ 0 → 16 ≤ n → is_symtab_size n ≡ true
symtab_permitted n words least = and_from _ _ (eq-eqb _ _ words) (le-leb _ _ least)

first_permitted : (symtab n : ℕ) → 1 ≤ n → n ≤ symtab / 16 → is_first_global symtab n ≡ true
first_permitted symtab n least most = and_from _ _ (le-leb _ _ least) (le-leb _ _ most)

strtab_permitted : (symtab n : ℕ) → 1 ≤ n → symtab + n ≤ LARGEST_TABLES → is_strtab_size symtab n ≡ true
strtab_permitted symtab n least most = and_from _ _ (le-leb _ _ least) (le-leb _ _ most)

loaded_of : (file : List ℕ) (i : Parts) → IsImage i → Says file i → AreLoaded file
loaded_of file i h said = record {
  text = rw said.sizes (text_permitted (length i.text) h.text_least h.text_most h.text_words);
  data_bytes = rw said.sizes (le-leb _ _ h.data_most);
}

linked_of : (file : List ℕ) (i : Parts) → IsImage i → Says file i → AreLinked file
linked_of file i h said =
    let le : count_by (λ t. not t.global) i.symbols ≤ length i.symbols = count_by-le-length (λ (s : Symbol). not s.global) i.symbols in
    record {
      symtab = rw said.sizes (symtab_permitted (symbol_table_size i.symbols) (omega arith) (omega arith));
      info = rw (said.sizes, said.info) (first_permitted (symbol_table_size i.symbols) (first_global i.symbols) (omega arith) (omega arith));
      strtab = rw said.sizes (strtab_permitted (symbol_table_size i.symbols) (length (string_table i.symbols)) (omega arith) h.symbols_most);
    }

front_pass : (file : List ℕ) (i : Parts) → IsImage i → IsFileOf file i → Says file i → first_failed (front_checks file) ≡ passes
unfolding front_checks length_checks header_checks program_checks end_checks header
front_pass file i h k said =
    let small : sections_at (sizes_of i) < 4294967296 = omega (arith, sections_small (sizes_of i) (image_small i h)) in
    let loaded : AreLoaded file = loaded_of file i h said in
    let long : 116 ≤ length file = omega (arith, k.segments_here.within, length-segments (sizes_of i)) in
    let length_ok = one_passes _ (le-leb _ _ long) in
    let header_ok : first_failed (field_checks fields.Header file 0 (ehdr_fields (executable (shoff file)))) ≡ passes =
    rw said.shoff (checks_pass fields.Header file 0 (ehdr_fields (executable (sections_at (sizes_of i)))) (fit-ehdr (sections_at (sizes_of i)) small) k.header_here) in
    let text_ok : first_failed (field_checks fields.Program file 52 (phdr_fields (wanted_text_segment (loaded_sizes file)))) ≡ passes =
    rw (wanted_text-is file loaded, said.sizes) (checks_pass fields.Program file 52 (phdr_fields (text_segment (sizes_of i))) (fit-text_segment (sizes_of i) (omega (arith, h.text_most))) (text_segment_here file i k)) in
    let data_ok : first_failed (field_checks fields.Program file 84 (phdr_fields (wanted_data_segment (loaded_sizes file)))) ≡ passes =
    rw (wanted_data-is file loaded, said.sizes) (checks_pass fields.Program file 84 (phdr_fields (data_segment (sizes_of i))) (fit-data_segment (sizes_of i) (data_place_small i h) (omega (arith, h.data_most))) (data_segment_here file i k)) in
    let end_ok = one_passes _ (eq-eqb _ _ (omega (arith, said.shoff, k.end))) in
    both_pass _ _ (both_pass _ _ (both_pass _ _ length_ok header_ok) (both_pass _ _ text_ok data_ok)) end_ok

-- one section header that stands there passes
section_pass : (file : List ℕ) (at : ℕ) (h : Shdr) → AreFit (shdr_fields h) → HasPart file at (fields_bytes (shdr_fields h)) → first_failed (field_checks fields.Section file at (shdr_fields h)) ≡ passes
section_pass file at h fit here = checks_pass fields.Section file at (shdr_fields h) fit here

layout_pass : (file : List ℕ) (i : Parts) → IsImage i → IsFileOf file i → Says file i → first_failed (layout_checks file) ≡ passes
unfolding layout_checks loaded_section_checks linking_section_checks place_checks gap_checks
layout_pass file i h k said =
    let s : Sizes = sizes_of i in
    let at : ℕ = sections_at s in
    let linked : AreLinked file = linked_of file i h said in
    let split = sections_split file i k in
    let null_ok : first_failed (field_checks fields.Section file (shoff file) (shdr_fields null_section)) ≡ passes = rw said.shoff (section_pass file at null_section fit-null_section split.first) in
    let text_ok : first_failed (field_checks fields.Section file (shoff file + 40) (shdr_fields (text_section (sizes file)))) ≡ passes =
    rw (said.shoff, said.sizes) (section_pass file (at + 40) (text_section s) (fit-text_section s (omega (arith, h.text_most))) split.second) in
    let data_ok : first_failed (field_checks fields.Section file (shoff file + 80) (shdr_fields (data_section (sizes file)))) ≡ passes =
    rw (said.shoff, said.sizes) (section_pass file (at + 80) (data_section s) (fit-data_section s (data_place_small i h) (omega (arith, h.data_most))) split.third) in
    let symtab_ok : first_failed (field_checks fields.Section file (shoff file + 120) (shdr_fields (wanted_symtab_section (sizes file) (info file)))) ≡ passes =
    rw (wanted_symtab-is (sizes file) (info file) linked.symtab linked.info, said.shoff, said.sizes, said.info) (section_pass file (at + 120) (symtab_section s (first_global i.symbols)) (fit-symtab i h) split.fourth) in
    let strtab_ok : first_failed (field_checks fields.Section file (shoff file + 160) (shdr_fields (wanted_strtab_section (sizes file)))) ≡ passes =
    rw (wanted_strtab-is (sizes file) linked.strtab, said.shoff, said.sizes) (section_pass file (at + 160) (strtab_section s) (fit-strtab i h) split.fifth) in
    let shstrtab_ok : first_failed (field_checks fields.Section file (shoff file + 200) (shdr_fields (shstrtab_section (sizes file)))) ≡ passes =
    rw (said.shoff, said.sizes) (section_pass file (at + 200) (shstrtab_section s) (fit-shstrtab i h) split.sixth) in
    let place_ok = one_passes _ (eq-eqb _ _ (said.shoff ∙ ap sections_at (sym said.sizes))) in
    let gap_one = zeros_pass file 116 text_at k.gap_before_text in
    let gap_two : first_failed (zero_checks file (text_at + (sizes file).text) (data_at (sizes file))) ≡ passes = rw said.sizes (zeros_pass file (text_at + length i.text) (data_at s) k.gap_before_data) in
    let gap_three : first_failed (zero_checks file (data_at (sizes file) + (sizes file).data_bytes) (symtab_at (sizes file))) ≡ passes = rw said.sizes (zeros_pass file (data_at s + length i.data_bytes) (symtab_at s) k.gap_before_symtab) in
    let gap_four : first_failed (zero_checks file (shstrtab_at (sizes file) + 39) (sections_at (sizes file))) ≡ passes = rw said.sizes (zeros_pass file (shstrtab_at s + 39) (sections_at s) k.gap_before_sections) in
    both_pass _ _ (both_pass _ _ (both_pass _ _
    (both_pass _ _ (both_pass _ _ null_ok text_ok) data_ok)
    (both_pass _ _ (both_pass _ _ symtab_ok strtab_ok) shstrtab_ok))
    place_ok)
    (both_pass _ _ (both_pass _ _ (both_pass _ _ gap_one gap_two) gap_three) gap_four)

-- ---- the image

strings_are : (file : List ℕ) (i : Parts) → IsFileOf file i → Says file i → strings file ≡ string_table i.symbols
unfolding strings
strings_are file i k said = rw said.sizes (cut_is file (strtab_at (sizes_of i)) (length (string_table i.symbols)) (string_table i.symbols) k.strings_here refl)

zero_entry_here : (file : List ℕ) (i : Parts) → IsFileOf file i → HasPart file (symtab_at (sizes_of i)) (fields_bytes (sym_fields zero_entry))
unfolding symbol_table
zero_entry_here file i k = left file (symtab_at (sizes_of i)) _ (entries_bytes 1 i.symbols) k.symbols_here

entries_here : (file : List ℕ) (i : Parts) → IsFileOf file i → HasPart file (symtab_at (sizes_of i) + 16) (entries_bytes 1 i.symbols)
unfolding symbol_table
entries_here file i k =
    subst (λ (n : ℕ). HasPart file (symtab_at (sizes_of i) + n) (entries_bytes 1 i.symbols)) (length-fields_bytes (sym_fields zero_entry) ∙ span-zero_entry)
    (right file (symtab_at (sizes_of i)) (fields_bytes (sym_fields zero_entry)) (entries_bytes 1 i.symbols) k.symbols_here)

symbols_again : (file : List ℕ) (i : Parts) → IsImage i → All HasWords i.symbols → IsFileOf file i
    → AreAgain file (string_table i.symbols) (strtab_at (sizes_of i)) (symtab_at (sizes_of i) + 16) 1 (count_by (λ t. not t.global) i.symbols) i.symbols
symbols_again file i h words k =
    are_again file (string_table i.symbols) (strtab_at (sizes_of i)) (symtab_at (sizes_of i) + 16) 1 i.symbols (omega (arith, h.symbols_most)) (omega arith) refl
    (recursion_from_All IsNamed i.symbols h.named) (recursion_from_All HasWords i.symbols words) h.local_first (entries_here file i k)

symbols_are : (file : List ℕ) (i : Parts) → IsImage i → All HasWords i.symbols → IsFileOf file i → Says file i → symbols file ≡ i.symbols
unfolding symbols
symbols_are file i h words k said =
    let locals : info file - 1 ≡ count_by (λ t. not t.global) i.symbols = omega (arith, said.info) in
    let number : symbol_table_size i.symbols / 16 - 1 ≡ length i.symbols = omega arith in
    rw (said.sizes, strings_are file i k said, locals, number) (symbols_again file i h words k).read

image_is : (file : List ℕ) (i : Parts) → IsImage i → All HasWords i.symbols → IsFileOf file i → Says file i → image file ≡ i
unfolding image
image_is file i h words k said =
    let text : take (sizes file).text (drop text_at file) ≡ i.text = rw said.sizes (cut_is file text_at (length i.text) i.text k.text_here refl) in
    let data_bytes : take (sizes file).data_bytes (drop (data_at (sizes file)) file) ≡ i.data_bytes = rw said.sizes (cut_is file (data_at (sizes_of i)) (length i.data_bytes) i.data_bytes k.data_here refl) in
    rw (text, data_bytes, symbols_are file i h words k said) refl

table_pass : (file : List ℕ) (i : Parts) → IsImage i → All HasWords i.symbols → IsFileOf file i → Says file i → first_failed (table_checks file) ≡ passes
unfolding table_checks symbol_checks string_checks section_name_checks
table_pass file i h words k said =
    let again = symbols_again file i h words k in
    let same : symbols file ≡ i.symbols = symbols_are file i h words k said in
    let zero_ok : first_failed (field_checks fields.Symbol file (symtab_at (sizes file)) (sym_fields zero_entry)) ≡ passes =
    rw said.sizes (checks_pass fields.Symbol file (symtab_at (sizes_of i)) (sym_fields zero_entry) fit-zero_entry (zero_entry_here file i k)) in
    let entries_ok : first_failed (entry_checks file (sizes file).strtab (symtab_at (sizes file) + 16) 1 (symbols file)) ≡ passes = rw (same, said.sizes) again.entries_ok in
    let first_ok : first_failed (field_checks fields.Strings file (strtab_at (sizes file)) (Byte 0 ∷ [])) ≡ passes =
    rw said.sizes (checks_pass fields.Strings file (strtab_at (sizes_of i)) (Byte 0 ∷ []) (omega arith, tt) (left file (strtab_at (sizes_of i)) (0 ∷ []) (names i.symbols) k.strings_here)) in
    let names_ok : first_failed (name_checks file (strtab_at (sizes file)) (sizes file).strtab 1 (symbols file)) ≡ passes = rw (same, said.sizes) again.names_ok in
    let section_names_ok : first_failed (field_checks fields.Names file (shstrtab_at (sizes file)) (map Byte section_names)) ≡ passes =
    rw said.sizes (checks_pass fields.Names file (shstrtab_at (sizes_of i)) (map Byte section_names) fit-section_names (rw (fields_bytes-bytes section_names) k.names_here)) in
    both_pass _ _ (both_pass _ _ (both_pass _ _ zero_ok entries_ok) (both_pass _ _ first_ok names_ok)) section_names_ok

-- the checks of the file of an image pass, and the file says the image
pub is_again : (file : List ℕ) (i : Parts) → IsImage i → All HasWords i.symbols → file ≡ elf i → (first_failed (checks file) ≡ passes) × (image file ≡ i)
unfolding checks
is_again file i h words e =
    let k : IsFileOf file i = is_file_of file i e in
    let said : Says file i = record { shoff = shoff_is file i h k; sizes = sizes_are file i h k; info = info_is file i h k } in
    (both_pass _ _ (both_pass _ _ (front_pass file i h k said) (layout_pass file i h k said)) (table_pass file i h words k said), image_is file i h words k said)
