-- What a reader of the file checks, in order, and the image that the file says.
use Rattle.std.specs.Prelude.{◌≡◌, ◌<◌, ◌≤◌, ℕ, zero, suc, ◌+◌, ◌-◌, ◌/◌, ◌%◌, ◌==◌, ◌&&◌, nat_le, nat_lt, min, Bool, if◌then◌else◌, List, [], ◌∷◌, ◌++◌, length, take, drop, map, replicate, slice_index, Result, Ok, Err}
use Rattle.std.specs.List.{before_first}
use Rattle.std.specs.Int.{w16, w32, from_le_bytes}
use Rattle.elf_object.specs.declared.elf32.Field.{Field}
use Rattle.elf_object.specs.declared.elf32.Field.TheVariants.{Byte, Half, Word}
use Rattle.elf_object.specs.declared.elf32.Phdr.{Phdr}
use Rattle.elf_object.specs.declared.elf32.Shdr.{Shdr}
use Rattle.elf_object.specs.declared.fault.ElfField.{ElfField}
use Rattle.elf_object.specs.declared.fault.ElfField.TheVariants as fields
use Rattle.elf_object.specs.declared.fault.ElfFault.{ElfFault}
use Rattle.elf_object.specs.declared.fault.ElfFault.TheVariants as faults
use Rattle.elf_object.specs.declared.layout.Sizes.{Sizes}
use Rattle.elf_object.specs.declared.symbol.Symbol.{Symbol}
use Rattle.elf_object.specs.declared.symbol.SymKind.TheVariants.{Func, Object}
use Rattle.elf_object.specs.declared.image.TheConstants.{LEAST_TEXT, LARGEST_TEXT, LARGEST_DATA, LARGEST_TABLES}
use Rattle.elf_object.specs.declared.reading.TheConstants.{NO_WORD}
use Rattle.elf_object.specs.Image.{Parts}
use Rattle.elf_object.specs.Elf32.{size_of, number_of, ehdr_fields, phdr_fields, shdr_fields, sym_fields}
use Rattle.elf_object.specs.Layout.{segments_at, text_at, data_at, symtab_at, strtab_at, shstrtab_at, sections_at, executable, text_segment, data_segment, section_names, null_section, text_section, data_section, symtab_section, strtab_section, shstrtab_section}
use Rattle.elf_object.specs.File.{info_of, entry, zero_entry}

-- ---- checks

-- a check: what it looks at, its place and the number there, and whether that is right
pub record Check : Type 0 where
  pub field : ElfField
  pub offset : ℕ
  pub found : ℕ
  pub passes : Bool

-- the fault of the first failed check
unfoldable pub first_failed : List Check → Result (Unit {0}) ElfFault
first_failed [] = Ok tt
first_failed (c ∷ cs) = if c.passes then first_failed cs else Err (faults.Field c.field c.offset c.found)

-- the numbers in one, two and four bytes from a place on, the lowest byte first
unfoldable pub byte_at : List ℕ → ℕ → ℕ
byte_at file at = slice_index file at

unfoldable pub half_at : List ℕ → ℕ → ℕ
half_at file at = from_le_bytes w16 (take 2 (drop at file))

unfoldable pub word_at : List ℕ → ℕ → ℕ
word_at file at = from_le_bytes w32 (take 4 (drop at file))

-- the number that stands at a place where this field is wanted
abbrev pub found_at : List ℕ → ℕ → Field → ℕ
found_at file at (Byte n) = byte_at file at
found_at file at (Half n) = half_at file at
found_at file at (Word n) = word_at file at

abbrev pub field_check : ElfField → List ℕ → ℕ → Field → Check
field_check kind file at wanted = record { field = kind; offset = at; found = found_at file at wanted; passes = found_at file at wanted == number_of wanted }

-- from a place on these fields are wanted, one after the other
unfoldable pub field_checks : ElfField → List ℕ → ℕ → List Field → List Check
field_checks kind file at [] = []
field_checks kind file at (f ∷ fs) = field_check kind file at f ∷ field_checks kind file (at + size_of f) fs

-- any permitted number is wanted: the one that was found where it is permitted, else one that no field has
unfoldable pub permitted : Bool → ℕ → ℕ
permitted ok found = if ok then found else NO_WORD

-- ---- the length, the header and the program headers

-- the numbers that differ from file to file, as the file says them
unfoldable pub shoff : List ℕ → ℕ
shoff file = word_at file 32

unfoldable pub sizes : List ℕ → Sizes
sizes file = record { text = word_at file 68; data_bytes = word_at file 100; symtab = word_at file (shoff file + 140); strtab = word_at file (shoff file + 180) }

-- the sizes that the program headers say
unfoldable pub loaded_sizes : List ℕ → Sizes
loaded_sizes file = record { text = word_at file 68; data_bytes = word_at file 100; symtab = 0; strtab = 0 }

-- the number of the first global entry of the symbol table
unfoldable pub info : List ℕ → ℕ
info file = word_at file (shoff file + 148)

-- a file has at least its header and two program headers
unfoldable pub length_checks : List ℕ → List Check
length_checks file = record { field = fields.Length; offset = 0; found = length file; passes = nat_le 116 (length file) } ∷ []

-- the fields of the header; any place of the section headers is right here
unfoldable pub header_checks : List ℕ → List Check
header_checks file = field_checks fields.Header file 0 (ehdr_fields (executable (shoff file)))

-- from the least to the greatest size, in words of 4
abbrev pub is_text_size : ℕ → Bool
is_text_size n = nat_le LEAST_TEXT n && nat_le n LARGEST_TEXT && (n % 4 == 0)

-- at most the greatest size
abbrev pub is_data_size : ℕ → Bool
is_data_size n = nat_le n LARGEST_DATA

-- the program headers that are wanted: those of any permitted sizes
unfoldable pub wanted_text_segment : Sizes → Phdr
wanted_text_segment s = record (text_segment s) { p_filesz = permitted (is_text_size s.text) s.text }

unfoldable pub wanted_data_segment : Sizes → Phdr
wanted_data_segment s = record (data_segment s) { p_filesz = permitted (is_data_size s.data_bytes) s.data_bytes }

unfoldable pub program_checks : List ℕ → List Check
program_checks file =
    field_checks fields.Program file segments_at (phdr_fields (wanted_text_segment (loaded_sizes file)))
    ++ field_checks fields.Program file (segments_at + 32) (phdr_fields (wanted_data_segment (loaded_sizes file)))

-- the file ends after the six section headers
unfoldable pub end_checks : List ℕ → List Check
end_checks file = record { field = fields.Shoff; offset = 32; found = shoff file; passes = shoff file + 240 == length file } ∷ []

-- ---- the section headers and the gaps

-- whole entries, the zero entry among them
abbrev pub is_symtab_size : ℕ → Bool
is_symtab_size n = (n % 16 == 0) && nat_le 16 n

-- the zero entry comes before the first global one, which may be missing
abbrev pub is_first_global : ℕ → ℕ → Bool
is_first_global symtab n = nat_le 1 n && nat_le n (symtab / 16)

-- the first zero byte at least, and with the symbol table at most so many bytes
abbrev pub is_strtab_size : ℕ → ℕ → Bool
is_strtab_size symtab n = nat_le 1 n && nat_le (symtab + n) LARGEST_TABLES

-- the section headers that are wanted: those of any permitted sizes, and of any permitted first global entry
unfoldable pub wanted_symtab_section : Sizes → ℕ → Shdr
wanted_symtab_section s first = record (symtab_section s first) { sh_size = permitted (is_symtab_size s.symtab) s.symtab; sh_info = permitted (is_first_global s.symtab first) first }

unfoldable pub wanted_strtab_section : Sizes → Shdr
wanted_strtab_section s = record (strtab_section s) { sh_size = permitted (is_strtab_size s.symtab s.strtab) s.strtab }

-- the first three section headers, and the other three
unfoldable pub loaded_section_checks : List ℕ → List Check
loaded_section_checks file =
    let at = shoff file in
    field_checks fields.Section file at (shdr_fields null_section)
    ++ field_checks fields.Section file (at + 40) (shdr_fields (text_section (sizes file)))
    ++ field_checks fields.Section file (at + 80) (shdr_fields (data_section (sizes file)))

unfoldable pub linking_section_checks : List ℕ → List Check
linking_section_checks file =
    let at = shoff file in
    field_checks fields.Section file (at + 120) (shdr_fields (wanted_symtab_section (sizes file) (info file)))
    ++ field_checks fields.Section file (at + 160) (shdr_fields (wanted_strtab_section (sizes file)))
    ++ field_checks fields.Section file (at + 200) (shdr_fields (shstrtab_section (sizes file)))

-- the section headers stand after the other parts
unfoldable pub place_checks : List ℕ → List Check
place_checks file = record { field = fields.Shoff; offset = 32; found = shoff file; passes = shoff file == sections_at (sizes file) } ∷ []

-- zero bytes from a place up to another one
unfoldable pub zero_checks : List ℕ → ℕ → ℕ → List Check
zero_checks file from to = field_checks fields.Gap file from (replicate (to - from) (Byte 0))

-- the bytes between the parts
unfoldable pub gap_checks : List ℕ → List Check
gap_checks file =
    let s = sizes file in
    zero_checks file 116 text_at
    ++ zero_checks file (text_at + s.text) (data_at s)
    ++ zero_checks file (data_at s + s.data_bytes) (symtab_at s)
    ++ zero_checks file (shstrtab_at s + 39) (sections_at s)

-- ---- the image that the file says

-- the strings of the file
unfoldable pub strings : List ℕ → List ℕ
strings file = take (sizes file).strtab (drop (strtab_at (sizes file)) file)

-- the string at a place of the strings: up to the next zero byte, or all where there is none
unfoldable pub string_at : List ℕ → ℕ → List ℕ
string_at table at = before_first (λ b. b == 0) (drop at table)

-- the place after a string's zero byte, or the end of the strings where there is none
abbrev pub place_after : ℕ → ℕ → List ℕ → ℕ
place_after size at string = min (at + length string + 1) size

-- the symbol of the entry at a place of the file: an info byte that is not an object's is taken for a function's
unfoldable pub symbol_at : List ℕ → ℕ → Bool → List ℕ → Symbol
symbol_at file at global name = record {
  name = name;
  value = word_at file (at + 4);
  size = word_at file (at + 8);
  kind = if byte_at file (at + 12) == info_of Object global then Object else Func;
  global = global;
}

-- the symbols of so many entries, of which so many first ones are local, from a place of the file and a place of the strings on
unfoldable pub symbols_at : List ℕ → List ℕ → ℕ → ℕ → ℕ → ℕ → List Symbol
symbols_at file table at name_at locals zero = []
symbols_at file table at name_at locals (suc n) =
    let name = string_at table name_at in
    symbol_at file at (locals == 0) name ∷ symbols_at file table (at + 16) (place_after (length table) name_at name) (locals - 1) n

-- the symbols of the file: an entry each, but for the zero entry
unfoldable pub symbols : List ℕ → List Symbol
symbols file = symbols_at file (strings file) (symtab_at (sizes file) + 16) 1 (info file - 1) ((sizes file).symtab / 16 - 1)

-- the image of the file
unfoldable pub image : List ℕ → Parts
image file = record {
  text = take (sizes file).text (drop text_at file);
  data_bytes = take (sizes file).data_bytes (drop (data_at (sizes file)) file);
  symbols = symbols file;
}

-- ---- the symbol table, the strings and the section names

-- from a place of the file on these symbols' entries are wanted, whose names stand in strings of this size from a place on
unfoldable pub entry_checks : List ℕ → ℕ → ℕ → ℕ → List Symbol → List Check
entry_checks file size at name_at [] = []
entry_checks file size at name_at (s ∷ ss) = field_checks fields.Symbol file at (sym_fields (entry name_at s)) ++ entry_checks file size (at + 16) (place_after size name_at s.name) ss

-- the zero entry, and the symbols' entries
unfoldable pub symbol_checks : List ℕ → List Check
symbol_checks file =
    let s = sizes file in
    field_checks fields.Symbol file (symtab_at s) (sym_fields zero_entry) ++ entry_checks file s.strtab (symtab_at s + 16) 1 (symbols file)

-- a name from a place of the strings on has a byte, and a zero byte within the strings after it; else it is wrong at its first byte, or at the strings' last one
abbrev pub name_check : List ℕ → ℕ → ℕ → ℕ → List ℕ → Check
name_check file start size name_at name =
    let ended = nat_lt (name_at + length name) size in
    let at = start + (if ended then name_at else size - 1) in
    record { field = fields.Strings; offset = at; found = byte_at file at; passes = nat_lt 0 (length name) && ended }

-- the names after each other, and nothing after the last
unfoldable pub name_checks : List ℕ → ℕ → ℕ → ℕ → List Symbol → List Check
name_checks file start size name_at [] = record { field = fields.Strings; offset = start + name_at; found = byte_at file (start + name_at); passes = name_at == size } ∷ []
name_checks file start size name_at (s ∷ ss) = name_check file start size name_at s.name ∷ name_checks file start size (place_after size name_at s.name) ss

-- the zero byte that the strings begin with, and the names
unfoldable pub string_checks : List ℕ → List Check
string_checks file =
    let start = strtab_at (sizes file) in
    field_checks fields.Strings file start (Byte 0 ∷ []) ++ name_checks file start (sizes file).strtab 1 (symbols file)

-- the bytes of the section names
unfoldable pub section_name_checks : List ℕ → List Check
section_name_checks file = field_checks fields.Names file (shstrtab_at (sizes file)) (map Byte section_names)

-- ---- all

-- the length, the header, the program headers, and the place of the section headers before the file's end
unfoldable pub front_checks : List ℕ → List Check
front_checks file = length_checks file ++ header_checks file ++ program_checks file ++ end_checks file

-- the section headers, their place after the other parts, and the gaps
unfoldable pub layout_checks : List ℕ → List Check
layout_checks file = loaded_section_checks file ++ linking_section_checks file ++ place_checks file ++ gap_checks file

-- the symbol table, the strings and the section names
unfoldable pub table_checks : List ℕ → List Check
table_checks file = symbol_checks file ++ string_checks file ++ section_name_checks file

-- all checks, in order
unfoldable pub checks : List ℕ → List Check
checks file = front_checks file ++ layout_checks file ++ table_checks file

-- an answer says what the checks say, unless memory ran out
abbrev pub Answers : {A : Type 0} → Result A ElfFault → Result (Unit {0}) ElfFault → Type 0
Answers (Ok i) checked = checked ≡ Ok tt
Answers (Err faults.NoMemory) checked = Unit {0}
Answers (Err (faults.Field field offset found)) checked = checked ≡ Err (faults.Field field offset found)

-- what a passed check says: the file has its headers, and ends after the section headers
pub record IsEnded (file : List ℕ) : Type 0 where
  pub long : 116 ≤ length file
  pub short : length file < 4294967296
  pub end : shoff file + 240 ≡ length file

-- the section headers stand where the sizes say, and the sizes are permitted
pub record IsLaidOut (file : List ℕ) : Type 0 where
  pub ended : IsEnded file
  pub place : shoff file ≡ sections_at (sizes file)
  pub symtab : (16 ≤ (sizes file).symtab) × ((sizes file).symtab % 16 ≡ 0)
  pub strtab : 1 ≤ (sizes file).strtab
  pub info : (1 ≤ info file) × (info file ≤ (sizes file).symtab / 16)
