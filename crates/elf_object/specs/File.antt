-- The file of an image: parts at their places, with zero bytes between them.
use Rattle.std.specs.Prelude.{ℕ, ◌+◌, ◌-◌, Bool, if◌then◌else◌, List, [], ◌∷◌, ◌++◌, length, replicate, fold, count_by, not}
use Rattle.elf_object.specs.declared.elf32.Sym.{Sym}
use Rattle.elf_object.specs.declared.layout.Sizes.{Sizes}
use Rattle.elf_object.specs.declared.symbol.Symbol.{Symbol}
use Rattle.elf_object.specs.declared.symbol.SymKind.{SymKind}
use Rattle.elf_object.specs.declared.symbol.SymKind.TheVariants.{Func, Object}
use Rattle.elf_object.specs.Image.{Parts, string_table, symbol_table_size}
use Rattle.elf_object.specs.Elf32.{fields_bytes, ehdr_fields, phdr_fields, shdr_fields, sym_fields}
use Rattle.elf_object.specs.Layout.{segments_at, text_at, data_at, symtab_at, strtab_at, shstrtab_at, sections_at, executable, text_segment, data_segment, section_names, null_section, text_section, data_section, symtab_section, strtab_section, shstrtab_section}

-- zero bytes up to a place
abbrev pub padded : ℕ → List ℕ → List ℕ
padded at bytes = bytes ++ replicate (at - length bytes) 0

-- the sizes of the parts of the file that an image has
abbrev pub sizes_of : Parts → Sizes
sizes_of i = record {
  text = length i.text;
  data_bytes = length i.data_bytes;
  symtab = symbol_table_size i.symbols;
  strtab = length (string_table i.symbols);
}

-- the number of the first global entry of the symbol table: entry 0 is the zero entry, and local ones follow
abbrev pub first_global : List Symbol → ℕ
first_global symbols = count_by (λ s. not s.global) symbols + 1

-- ---- the symbol table

-- STT_FUNC or STT_OBJECT
abbrev pub symbol_type : SymKind → ℕ
symbol_type Func = 2
symbol_type Object = 1

-- STB_GLOBAL or STB_LOCAL in the upper four bits, and the type in the lower ones
abbrev pub info_of : SymKind → Bool → ℕ
info_of kind global = if global then 16 + symbol_type kind else symbol_type kind

-- the number of the section that a symbol stands in: .text or .data
abbrev pub section_of : SymKind → ℕ
section_of Func = 1
section_of Object = 2

-- the entry of a symbol whose name is at this place of the string table
unfoldable pub entry : ℕ → Symbol → Sym
entry name_at s = record { st_name = name_at; st_value = s.value; st_size = s.size; st_info = info_of s.kind s.global; st_other = 0; st_shndx = section_of s.kind }

-- entry 0 of each symbol table
unfoldable pub zero_entry : Sym
zero_entry = record { st_name = 0; st_value = 0; st_size = 0; st_info = 0; st_other = 0; st_shndx = 0 }

-- the entries of symbols whose names begin at this place of the string table, each with a zero byte after it
unfoldable pub entries_bytes : ℕ → List Symbol → List ℕ
entries_bytes name_at [] = []
entries_bytes name_at (s ∷ ss) = fields_bytes (sym_fields (entry name_at s)) ++ entries_bytes (name_at + length s.name + 1) ss

-- the zero entry, then the symbols' entries, whose first name is after the strings' zero byte
unfoldable pub symbol_table : List Symbol → List ℕ
symbol_table symbols = fields_bytes (sym_fields zero_entry) ++ entries_bytes 1 symbols

-- ---- the headers

-- the header, the two program headers, and the six section headers
unfoldable pub header : Sizes → List ℕ
header s = fields_bytes (ehdr_fields (executable (sections_at s)))

unfoldable pub segments : Sizes → List ℕ
segments s = fields_bytes (phdr_fields (text_segment s)) ++ fields_bytes (phdr_fields (data_segment s))

unfoldable pub sections : Sizes → ℕ → List ℕ
sections s first = fields_bytes (shdr_fields null_section) ++ fields_bytes (shdr_fields (text_section s)) ++ fields_bytes (shdr_fields (data_section s))
    ++ fields_bytes (shdr_fields (symtab_section s first)) ++ fields_bytes (shdr_fields (strtab_section s)) ++ fields_bytes (shdr_fields (shstrtab_section s))

-- ---- the file

-- a part of a file: where it stands, and its bytes
pub record Part : Type 0 where
  pub place : ℕ
  pub bytes : List ℕ

-- the part after those before it, with zero bytes up to its place
abbrev pub placed : List ℕ → Part → List ℕ
placed before part = padded part.place before ++ part.bytes

-- the headers of the file, and what a program is loaded from
unfoldable pub loaded_parts : Sizes → Parts → List Part
loaded_parts s i =
    record { place = 0; bytes = header s }
    ∷ record { place = segments_at; bytes = segments s }
    ∷ record { place = text_at; bytes = i.text }
    ∷ record { place = data_at s; bytes = i.data_bytes }
    ∷ []

-- the symbols, and the headers of the sections
unfoldable pub section_parts : Sizes → Parts → List Part
section_parts s i =
    record { place = symtab_at s; bytes = symbol_table i.symbols }
    ∷ record { place = strtab_at s; bytes = string_table i.symbols }
    ∷ record { place = shstrtab_at s; bytes = section_names }
    ∷ record { place = sections_at s; bytes = sections s (first_global i.symbols) }
    ∷ []

-- the file of an image
unfoldable pub elf : Parts → List ℕ
elf i = fold placed [] (loaded_parts (sizes_of i) i ++ section_parts (sizes_of i) i)
