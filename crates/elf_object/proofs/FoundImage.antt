-- A file whose checks pass is the file of the image that it says.
use Rattle.elf_object.specs.declared.image.TheConstants.{LEAST_TEXT, LARGEST_TEXT, LARGEST_TABLES}
use Rattle.std.proofs.Common.{◌≡◌, ℕ, zero, suc, ◌+◌, ◌-◌, ◌*◌, ◌/◌, ◌%◌, ◌<◌, ◌≤◌, eqb, leb, List, [], ◌∷◌, ◌++◌, length, take, drop, refl, sym, ap, ◌∙◌, subst, arith, length-append}
use Rattle.std.specs.Prelude.{map, count_by, not, fold, All, ◌&&◌}
use Rattle.std.proofs.lemmas.Bool.{eqb-true, leb-true, and_parts}
use Rattle.std.proofs.lemmas.List.Elements.{All-from_recursion}
use Rattle.elf_object.specs.declared.symbol.Symbol.{Symbol}
use Rattle.elf_object.specs.declared.elf32.Field.TheVariants.{Byte}
use Rattle.elf_object.specs.declared.layout.Sizes.{Sizes}
use Rattle.elf_object.specs.declared.fault.ElfField.TheVariants as fields
use Rattle.elf_object.specs.Image.{Parts, IsNamed, IsLocalFirst, IsImage, string_table, symbol_table_size}
use Rattle.elf_object.specs.Elf32.{fields_bytes, span, sym_fields}
use Rattle.elf_object.specs.Layout.{text_at, data_at, symtab_at, strtab_at, shstrtab_at, sections_at, section_names}
use Rattle.elf_object.specs.File.{Part, placed, entry, sizes_of, first_global, zero_entry, entries_bytes, symbol_table, sections, loaded_parts, section_parts, elf}
use Rattle.elf_object.specs.Checks.{first_failed, field_checks, sizes, info, strings, symbols_at, symbols, image, entry_checks, name_checks, symbol_checks, string_checks, section_name_checks, table_checks, front_checks, layout_checks, checks, IsLaidOut}
use Rattle.elf_object.proofs.CheckLaws.{passes}
use Rattle.elf_object.proofs.SymbolLaws.{AreFound, are_found, length-entry, are_local_first, locals_are}
use Rattle.elf_object.proofs.Places.{data_after, symtab_after, strtab_is, shstrtab_is, sections_after, length-symbols}
use Rattle.elf_object.proofs.PartLaws.{IsBytes, HasPart, HasZeros, HasParts, InOrder, last_end, all_placed, length-all_placed, has_placed, is_whole, both, has_nothing, cut_out, length-cut_out}
use Rattle.elf_object.proofs.FieldLaws.{first_pass, second_pass, checks_here, length-fields_bytes, fields_bytes-bytes, span-bytes}
use Rattle.elf_object.proofs.LayoutLaws.{HasFrame, has_frame, is_laid_out, length-header, length-segments, length-sections, length-section_names}

-- ---- the tables

pub span-zero_entry : span (sym_fields zero_entry) ≡ 16
unfolding sym_fields
span-zero_entry = refl

-- the symbol table, the strings and the section names stand where the sizes say
pub record HasFilled (file : List ℕ) : Type 0 where
  pub symbols_here : HasPart file (symtab_at (sizes file)) (symbol_table (symbols file))
  pub strings_here : HasPart file (strtab_at (sizes file)) (string_table (symbols file))
  pub names_here : HasPart file (shstrtab_at (sizes file)) section_names
  pub strtab : length (string_table (symbols file)) ≡ (sizes file).strtab
  pub named : All IsNamed (symbols file)

-- where the parts of a laid out file end
ends : (file : List ℕ) → IsLaidOut file → shstrtab_at (sizes file) + 279 ≤ length file
ends file h = omega (arith, h.place, h.ended.end, sections_after (sizes file))

first_is : (n : ℕ) (xs ys : List ℕ) → 1 ≤ n → xs ≡ 0 ∷ ys → take n xs ≡ 0 ∷ drop 1 (take n xs)
first_is zero xs ys le e = absurd (omega arith)
first_is (suc n) xs ys le e = ap (take (suc n)) e ∙ ap (λ (zs : List ℕ). 0 ∷ drop 1 (take (suc n) zs)) (sym e)

strings_found : (file : List ℕ) → IsBytes file → IsLaidOut file → first_failed (field_checks fields.Strings file (strtab_at (sizes file)) (Byte 0 ∷ [])) ≡ passes → strings file ≡ 0 ∷ drop 1 (strings file)
unfolding strings
strings_found file bytes laid ok =
    let s : Sizes = sizes file in
    let zero_here : HasPart file (strtab_at s) (0 ∷ []) = checks_here fields.Strings file bytes (strtab_at s) (Byte 0 ∷ []) (omega (arith, ends file laid, shstrtab_is s)) ok in
    first_is s.strtab (drop (strtab_at s) file) (drop (strtab_at s + 1) file) laid.strtab zero_here.here

pub length-strings : (file : List ℕ) → IsLaidOut file → length (strings file) ≡ (sizes file).strtab
unfolding strings
length-strings file laid = length-cut_out file (strtab_at (sizes file)) (sizes file).strtab (omega (arith, ends file laid, shstrtab_is (sizes file)))

strings_cut : (file : List ℕ) → IsLaidOut file → HasPart file (strtab_at (sizes file)) (strings file)
unfolding strings
strings_cut file laid = cut_out file (strtab_at (sizes file)) (sizes file).strtab (omega (arith, ends file laid, shstrtab_is (sizes file)))

-- the symbols that were found in the tables
tables_found : (file : List ℕ) → IsBytes file → IsLaidOut file → first_failed (symbol_checks file) ≡ passes → first_failed (string_checks file) ≡ passes
    → AreFound file (strings file) (symtab_at (sizes file) + 16) 1 (symbols file)
unfolding symbols symbol_checks string_checks
tables_found file bytes laid symbols_ok strings_ok =
    let s : Sizes = sizes file in
    let len : s.strtab ≡ length (strings file) = sym (length-strings file laid) in
    let found : List Symbol = symbols_at file (strings file) (symtab_at s + 16) 1 (info file - 1) (s.symtab / 16 - 1) in
    let entries_ok : first_failed (entry_checks file s.strtab (symtab_at s + 16) 1 found) ≡ passes = second_pass (field_checks fields.Symbol file (symtab_at s) (sym_fields zero_entry)) _ symbols_ok in
    let names_ok : first_failed (name_checks file (strtab_at s) s.strtab 1 found) ≡ passes = second_pass (field_checks fields.Strings file (strtab_at s) (Byte 0 ∷ [])) _ strings_ok in
    are_found file (strings file) bytes (strtab_at s) (symtab_at s + 16) 1 (info file - 1) (s.symtab / 16 - 1)
    (omega (arith, len, laid.strtab)) (omega (arith, ends file laid, shstrtab_is s, strtab_is s, laid.symtab))
    (subst (λ (n : ℕ). first_failed (entry_checks file n (symtab_at s + 16) 1 found) ≡ passes) len entries_ok)
    (subst (λ (n : ℕ). first_failed (name_checks file (strtab_at s) n 1 found) ≡ passes) len names_ok)

pub has_filled : (file : List ℕ) → IsBytes file → IsLaidOut file → first_failed (table_checks file) ≡ passes → HasFilled file
unfolding table_checks symbol_checks string_checks section_name_checks symbol_table
has_filled file bytes laid ok =
    let s : Sizes = sizes file in
    let symbols_ok : first_failed (symbol_checks file) ≡ passes = first_pass _ _ (first_pass _ _ ok) in
    let strings_ok : first_failed (string_checks file) ≡ passes = second_pass _ _ (first_pass _ _ ok) in
    let names_ok : first_failed (field_checks fields.Names file (shstrtab_at s) (map Byte section_names)) ≡ passes = second_pass _ _ ok in
    let found : AreFound file (strings file) (symtab_at s + 16) 1 (symbols file) = tables_found file bytes laid symbols_ok strings_ok in
    let end = ends file laid in
    let zero_ok : first_failed (field_checks fields.Symbol file (symtab_at s) (sym_fields zero_entry)) ≡ passes = first_pass _ (entry_checks file s.strtab (symtab_at s + 16) 1 (symbols file)) symbols_ok in
    let zero_here : HasPart file (symtab_at s) (fields_bytes (sym_fields zero_entry)) =
    checks_here fields.Symbol file bytes (symtab_at s) (sym_fields zero_entry) (omega (arith, span-zero_entry, end, shstrtab_is s, strtab_is s, laid.symtab)) zero_ok in
    let first_ok : first_failed (field_checks fields.Strings file (strtab_at s) (Byte 0 ∷ [])) ≡ passes = first_pass _ (name_checks file (strtab_at s) s.strtab 1 (symbols file)) strings_ok in
    let table-is : strings file ≡ string_table (symbols file) = strings_found file bytes laid first_ok ∙ ap (λ (xs : List ℕ). 0 ∷ xs) found.filled in
    record {
      symbols_here = both file (symtab_at s) (fields_bytes (sym_fields zero_entry)) (entries_bytes 1 (symbols file)) zero_here
          (subst (λ (n : ℕ). HasPart file (symtab_at s + n) (entries_bytes 1 (symbols file))) (sym (length-fields_bytes (sym_fields zero_entry) ∙ span-zero_entry)) found.entries);
      strings_here = subst (HasPart file (strtab_at s)) table-is (strings_cut file laid);
      names_here = subst (HasPart file (shstrtab_at s)) (fields_bytes-bytes section_names)
          (checks_here fields.Names file bytes (shstrtab_at s) (map Byte section_names) (omega (arith, span-bytes section_names, length-section_names, end)) names_ok);
      strtab = ap length (sym table-is) ∙ length-strings file laid;
      named = All-from_recursion IsNamed (symbols file) found.named;
    }

-- ---- the image

count_of : (file : List ℕ) → IsLaidOut file → count_by (λ t. not t.global) (symbols file) ≡ info file - 1
unfolding symbols
count_of file laid = locals_are file (strings file) (symtab_at (sizes file) + 16) 1 (info file - 1) ((sizes file).symtab / 16 - 1) (omega (arith, laid.info, laid.symtab))

first_global_is : (file : List ℕ) → IsLaidOut file → first_global (symbols file) ≡ info file
first_global_is file laid = omega (arith, count_of file laid, laid.info)

symtab_is : (file : List ℕ) → IsLaidOut file → symbol_table_size (symbols file) ≡ (sizes file).symtab
symtab_is file laid = omega (arith, length-symbols file, laid.symtab)

-- the length of a symbol table
length-entries_bytes : (name_at : ℕ) (ss : List Symbol) → length (entries_bytes name_at ss) ≡ 16 * length ss
unfolding entries_bytes
length-entries_bytes name_at [] = refl
length-entries_bytes name_at (s ∷ ss) =
    omega (arith, length-append (fields_bytes (sym_fields (entry name_at s))) (entries_bytes (name_at + length s.name + 1) ss), length-entry name_at s, length-entries_bytes (name_at + length s.name + 1) ss)

pub length-symbol_table : (ss : List Symbol) → length (symbol_table ss) ≡ symbol_table_size ss
unfolding symbol_table
length-symbol_table ss =
    omega (arith, length-append (fields_bytes (sym_fields zero_entry)) (entries_bytes 1 ss), length-fields_bytes (sym_fields zero_entry), span-zero_entry, length-entries_bytes 1 ss)

-- four numbers as sizes
abbrev pub sizes_like : ℕ → ℕ → ℕ → ℕ → Sizes
sizes_like a b c d = record { text = a; data_bytes = b; symtab = c; strtab = d }

-- the sizes of the image are those that the file says
pub sizes_of-image : (file : List ℕ) → IsLaidOut file → HasFilled file → sizes_of (image file) ≡ sizes file
unfolding image
sizes_of-image file laid filled =
    let s : Sizes = sizes file in
    let end = ends file laid in
    let o1 = data_after s in
    let o2 = symtab_after s in
    let o3 = strtab_is s in
    let o4 = shstrtab_is s in
    let text : length (take s.text (drop text_at file)) ≡ s.text = length-cut_out file text_at s.text (omega arith) in
    let data_bytes : length (take s.data_bytes (drop (data_at s) file)) ≡ s.data_bytes = length-cut_out file (data_at s) s.data_bytes (omega arith) in
    same_sizes _ _ _ _ s text data_bytes (symtab_is file laid) filled.strtab where
      same_sizes : (a b c d : ℕ) (s : Sizes) → a ≡ s.text → b ≡ s.data_bytes → c ≡ s.symtab → d ≡ s.strtab → sizes_like a b c d ≡ s
      same_sizes a b c d s ea eb ec ed = rw (ea, eb, ec, ed) refl

symbols_first : (file : List ℕ) → IsLocalFirst (symbols file)
unfolding symbols
symbols_first file = are_local_first file (strings file) (symtab_at (sizes file) + 16) 1 (info file - 1) ((sizes file).symtab / 16 - 1)

-- the image is within the bounds
pub is_image : (file : List ℕ) → HasFrame file → IsLaidOut file → HasFilled file → IsImage (image file)
unfolding image
is_image file frame laid filled =
    let s : Sizes = sizes file in
    let same : sizes_of (image file) ≡ s = sizes_of-image file laid filled in
    let text-is : length (image file).text ≡ s.text = ap (λ (z : Sizes). z.text) same in
    let data_bytes-is : length (image file).data_bytes ≡ s.data_bytes = ap (λ (z : Sizes). z.data_bytes) same in
    let text = and_parts (leb LEAST_TEXT s.text && leb s.text LARGEST_TEXT) (eqb (s.text % 4) 0) frame.loaded.text in
    let text_bounds = and_parts (leb LEAST_TEXT s.text) (leb s.text LARGEST_TEXT) text.0 in
    let strtab = and_parts (leb 1 s.strtab) (leb (s.symtab + s.strtab) LARGEST_TABLES) frame.linked.strtab in
    record {
      text_least = omega (arith, text-is, leb-true _ _ text_bounds.0);
      text_most = omega (arith, text-is, leb-true _ _ text_bounds.1);
      text_words = ap (λ (n : ℕ). n % 4) text-is ∙ eqb-true _ _ text.1;
      data_most = omega (arith, data_bytes-is, leb-true _ _ frame.loaded.data_bytes);
      named = filled.named;
      local_first = symbols_first file;
      symbols_most = omega (arith, symtab_is file laid, filled.strtab, leb-true _ _ strtab.1);
    }

no_zeros : (file : List ℕ) (from to : ℕ) → from ≡ to → to ≤ length file → HasZeros file from to
no_zeros file from to same le =
    let none : to - from ≡ 0 = omega arith in
    record { zeros = rw none (has_nothing file from (omega arith)); order = omega arith }

zeros_from : (file : List ℕ) (from after to : ℕ) → HasZeros file from to → from ≡ after → HasZeros file after to
zeros_from file from after to h same = subst (λ (n : ℕ). HasZeros file n to) same h

-- the parts of the file, with these sizes
parts_found : (file : List ℕ) → HasFrame file → IsLaidOut file → HasFilled file → HasParts file 0 (loaded_parts (sizes file) (image file) ++ section_parts (sizes file) (image file))
unfolding loaded_parts section_parts image
parts_found file frame laid filled =
    let s : Sizes = sizes file in
    let i : Parts = image file in
    let end = ends file laid in
    let o1 = data_after s in
    let o2 = symtab_after s in
    let o3 = strtab_is s in
    let o4 = shstrtab_is s in
    let o5 = sections_after s in
    let same : sizes_of i ≡ s = sizes_of-image file laid filled in
    let text-is : length i.text ≡ s.text = ap (λ (z : Sizes). z.text) same in
    let data_bytes-is : length i.data_bytes ≡ s.data_bytes = ap (λ (z : Sizes). z.data_bytes) same in
    let symtab-is : length (symbol_table i.symbols) ≡ s.symtab = length-symbol_table i.symbols ∙ symtab_is file laid in
    let sections_here : HasPart file (sections_at s) (sections s (first_global (symbols file))) = subst (λ (n : ℕ). HasPart file (sections_at s) (sections s n)) (sym (first_global_is file laid)) frame.sections_here in (
      no_zeros file 0 0 refl (omega arith),
      frame.header_here,
      (
        no_zeros file _ 52 (omega (arith, length-header s)) (omega arith),
        frame.segments_here,
        (
          zeros_from file 116 _ text_at frame.gap_before_text (omega (arith, length-segments s)),
          cut_out file text_at s.text (omega arith),
          (
            zeros_from file (text_at + s.text) _ (data_at s) frame.gap_before_data (omega (arith, text-is)),
            cut_out file (data_at s) s.data_bytes (omega arith),
            (
              zeros_from file (data_at s + s.data_bytes) _ (symtab_at s) frame.gap_before_symtab (omega (arith, data_bytes-is)),
              filled.symbols_here,
              (
                no_zeros file _ (strtab_at s) (omega (arith, symtab-is)) (omega arith),
                filled.strings_here,
                (
                  no_zeros file _ (shstrtab_at s) (omega (arith, filled.strtab)) (omega arith),
                  filled.names_here,
                  (zeros_from file (shstrtab_at s + 39) _ (sections_at s) frame.gap_before_sections (omega (arith, length-section_names)), sections_here, tt),
                ),
              ),
            ),
          ),
        ),
      ),
    )

-- parts that a file has stand in order
order_of : (file : List ℕ) (at : ℕ) (ps : List Part) → HasParts file at ps → InOrder at ps
order_of file at [] h = tt
order_of file at (p ∷ ps) h = (h.0.order, order_of file (p.place + length p.bytes) ps h.2)

end_found : (file : List ℕ) → HasFrame file → last_end 0 (loaded_parts (sizes file) (image file) ++ section_parts (sizes file) (image file)) ≡ length file
unfolding loaded_parts section_parts
end_found file frame = omega (arith, frame.place, frame.ended.end, length-sections (sizes file) (first_global (image file).symbols))

pub placed_is : (before : List ℕ) (ps : List Part) → all_placed before ps ≡ fold placed before ps
placed_is before [] = refl
placed_is before (p ∷ ps) = placed_is (placed before p) ps

-- the file is that of the image
pub is_file : (file : List ℕ) → HasFrame file → IsLaidOut file → HasFilled file → file ≡ elf (image file)
unfolding elf
is_file file frame laid filled =
    let s : Sizes = sizes file in
    let ps : List Part = loaded_parts s (image file) ++ section_parts s (image file) in
    let parts : HasParts file 0 ps = parts_found file frame laid filled in
    let whole : HasPart file 0 (all_placed [] ps) = has_placed file [] ps 0 refl (has_nothing file 0 (omega arith)) parts in
    let len : length (all_placed [] ps) ≡ length file = length-all_placed [] ps 0 refl (order_of file 0 ps parts) ∙ end_found file frame in
    let e : file ≡ fold placed [] ps = is_whole file (all_placed [] ps) whole (sym len) ∙ placed_is [] ps in
    e ∙ ap (λ (z : Sizes). fold placed [] (loaded_parts z (image file) ++ section_parts z (image file))) (sym (sizes_of-image file laid filled))

-- a file all of whose checks pass is the file of the image that it says, and that image is within the bounds
pub is_found : (file : List ℕ) → IsBytes file → length file < 4294967296 → first_failed (checks file) ≡ passes → IsImage (image file) × (file ≡ elf (image file))
unfolding checks
is_found file bytes short ok =
    let front : first_failed (front_checks file) ≡ passes = first_pass _ _ (first_pass _ _ ok) in
    let layout : first_failed (layout_checks file) ≡ passes = second_pass _ _ (first_pass _ _ ok) in
    let frame : HasFrame file = has_frame file bytes short front layout in
    let laid : IsLaidOut file = is_laid_out file frame in
    let filled : HasFilled file = has_filled file bytes laid (second_pass _ _ ok) in
    (is_image file frame laid filled, is_file file frame laid filled)
