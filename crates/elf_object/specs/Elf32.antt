-- The structures of ELF32 ("Executable and Linking Format", version 1.2, book I) as fields in file order,
-- and the bytes of fields, each with its lowest byte first.
use Rattle.std.specs.Prelude.{ℕ, ◌+◌, List, [], ◌∷◌, ◌++◌, map, replicate}
use Rattle.std.specs.List.{flat_map}
use Rattle.std.specs.Int.{w16, w32, to_le_bytes}
use Rattle.elf_object.specs.declared.elf32.Field.{Field}
use Rattle.elf_object.specs.declared.elf32.Field.TheVariants.{Byte, Half, Word}
use Rattle.elf_object.specs.declared.elf32.Ehdr.{Ehdr}
use Rattle.elf_object.specs.declared.elf32.Phdr.{Phdr}
use Rattle.elf_object.specs.declared.elf32.Shdr.{Shdr}
use Rattle.elf_object.specs.declared.elf32.Sym.{Sym}

abbrev pub field_bytes : Field → List ℕ
field_bytes (Byte n) = n ∷ []
field_bytes (Half n) = to_le_bytes w16 n
field_bytes (Word n) = to_le_bytes w32 n

abbrev pub fields_bytes : List Field → List ℕ
fields_bytes fields = flat_map field_bytes fields

-- the bytes that a field has, and those of fields after each other
abbrev pub size_of : Field → ℕ
size_of (Byte n) = 1
size_of (Half n) = 2
size_of (Word n) = 4

abbrev pub span : List Field → ℕ
span [] = 0
span (f ∷ fs) = size_of f + span fs

-- the number of a field
abbrev pub number_of : Field → ℕ
number_of (Byte n) = n
number_of (Half n) = n
number_of (Word n) = n

-- e_ident: the magic number, ELFCLASS32, ELFDATA2LSB, EV_CURRENT, and nine zero bytes
abbrev pub ident : List ℕ
ident = 127 ∷ 69 ∷ 76 ∷ 70 ∷ 1 ∷ 1 ∷ 1 ∷ replicate 9 0

-- Elf32_Ehdr, with e_ident
unfoldable pub ehdr_fields : Ehdr → List Field
ehdr_fields h = map Byte ident
    ++ Half h.e_type ∷ Half h.e_machine ∷ Word h.e_version ∷ Word h.e_entry ∷ Word h.e_phoff ∷ Word h.e_shoff ∷ Word h.e_flags
    ∷ Half h.e_ehsize ∷ Half h.e_phentsize ∷ Half h.e_phnum ∷ Half h.e_shentsize ∷ Half h.e_shnum ∷ Half h.e_shstrndx ∷ []

-- Elf32_Phdr
unfoldable pub phdr_fields : Phdr → List Field
phdr_fields h = Word h.p_type ∷ Word h.p_offset ∷ Word h.p_vaddr ∷ Word h.p_paddr ∷ Word h.p_filesz ∷ Word h.p_memsz ∷ Word h.p_flags ∷ Word h.p_align ∷ []

-- Elf32_Shdr
unfoldable pub shdr_fields : Shdr → List Field
shdr_fields h = Word h.sh_name ∷ Word h.sh_type ∷ Word h.sh_flags ∷ Word h.sh_addr ∷ Word h.sh_offset ∷ Word h.sh_size ∷ Word h.sh_link ∷ Word h.sh_info
    ∷ Word h.sh_addralign ∷ Word h.sh_entsize ∷ []

-- Elf32_Sym
unfoldable pub sym_fields : Sym → List Field
sym_fields s = Word s.st_name ∷ Word s.st_value ∷ Word s.st_size ∷ Byte s.st_info ∷ Byte s.st_other ∷ Half s.st_shndx ∷ []
