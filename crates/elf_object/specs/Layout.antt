-- Where each part of the file stands, and the headers that say so. A part begins at the next multiple of its
-- alignment: the least multiple that isn't below the end of the part before it.
use Rattle.std.specs.Prelude.{ℕ, ◌+◌, List, codes}
use Rattle.std.specs.Int.{next_multiple_of}
use Rattle.elf_object.specs.declared.elf32.Ehdr.{Ehdr}
use Rattle.elf_object.specs.declared.elf32.Phdr.{Phdr}
use Rattle.elf_object.specs.declared.elf32.Shdr.{Shdr}
use Rattle.elf_object.specs.declared.layout.Sizes.{Sizes}
use Rattle.elf_object.specs.declared.layout.TheConstants.{SEGMENTS_AT, TEXT_AT, PAGE}
use Rattle.rv_isa.specs.Memory.{text_start, data_start}

-- the header stands at 0, the program headers after it
abbrev pub segments_at : ℕ
segments_at = SEGMENTS_AT

abbrev pub text_at : ℕ
text_at = TEXT_AT

unfoldable pub data_at : Sizes → ℕ
data_at s = next_multiple_of (text_at + s.text) PAGE

unfoldable pub symtab_at : Sizes → ℕ
symtab_at s = next_multiple_of (data_at s + s.data_bytes) 4

unfoldable pub strtab_at : Sizes → ℕ
strtab_at s = symtab_at s + s.symtab

unfoldable pub shstrtab_at : Sizes → ℕ
shstrtab_at s = strtab_at s + s.strtab

unfoldable pub sections_at : Sizes → ℕ
sections_at s = next_multiple_of (shstrtab_at s + 39) 4

-- ET_EXEC for EM_RISCV, entered at the text's address, with two program headers and six section headers, of
-- which the last one is that of the section names
unfoldable pub executable : ℕ → Ehdr
executable shoff = record {
  e_type = 2;
  e_machine = 243;
  e_version = 1;
  e_entry = text_start;
  e_phoff = segments_at;
  e_shoff = shoff;
  e_flags = 0;
  e_ehsize = 52;
  e_phentsize = 32;
  e_phnum = 2;
  e_shentsize = 40;
  e_shnum = 6;
  e_shstrndx = 5;
}

-- PT_LOAD, read and execute
unfoldable pub text_segment : Sizes → Phdr
text_segment s = record {
  p_type = 1;
  p_offset = text_at;
  p_vaddr = text_start;
  p_paddr = text_start;
  p_filesz = s.text;
  p_memsz = s.text;
  p_flags = 5;
  p_align = PAGE;
}

-- PT_LOAD, read and write
unfoldable pub data_segment : Sizes → Phdr
data_segment s = record {
  p_type = 1;
  p_offset = data_at s;
  p_vaddr = data_start;
  p_paddr = data_start;
  p_filesz = s.data_bytes;
  p_memsz = s.data_bytes;
  p_flags = 6;
  p_align = PAGE;
}

-- the section names, of which a header has the place
unfoldable pub section_names : List ℕ
section_names = codes "\0.text\0.data\0.symtab\0.strtab\0.shstrtab\0"

unfoldable pub null_section : Shdr
null_section = record {
  sh_name = 0;
  sh_type = 0;
  sh_flags = 0;
  sh_addr = 0;
  sh_offset = 0;
  sh_size = 0;
  sh_link = 0;
  sh_info = 0;
  sh_addralign = 0;
  sh_entsize = 0;
}

-- SHT_PROGBITS, allocated and executed
unfoldable pub text_section : Sizes → Shdr
text_section s = record {
  sh_name = 1;
  sh_type = 1;
  sh_flags = 6;
  sh_addr = text_start;
  sh_offset = text_at;
  sh_size = s.text;
  sh_link = 0;
  sh_info = 0;
  sh_addralign = 4;
  sh_entsize = 0;
}

-- SHT_PROGBITS, allocated and written
unfoldable pub data_section : Sizes → Shdr
data_section s = record {
  sh_name = 7;
  sh_type = 1;
  sh_flags = 3;
  sh_addr = data_start;
  sh_offset = data_at s;
  sh_size = s.data_bytes;
  sh_link = 0;
  sh_info = 0;
  sh_addralign = 16;
  sh_entsize = 0;
}

-- SHT_SYMTAB, with the number of its string table and of its first global entry
unfoldable pub symtab_section : Sizes → ℕ → Shdr
symtab_section s first_global = record {
  sh_name = 13;
  sh_type = 2;
  sh_flags = 0;
  sh_addr = 0;
  sh_offset = symtab_at s;
  sh_size = s.symtab;
  sh_link = 4;
  sh_info = first_global;
  sh_addralign = 4;
  sh_entsize = 16;
}

-- SHT_STRTAB
unfoldable pub strtab_section : Sizes → Shdr
strtab_section s = record {
  sh_name = 21;
  sh_type = 3;
  sh_flags = 0;
  sh_addr = 0;
  sh_offset = strtab_at s;
  sh_size = s.strtab;
  sh_link = 0;
  sh_info = 0;
  sh_addralign = 1;
  sh_entsize = 0;
}

-- SHT_STRTAB, of the section names
unfoldable pub shstrtab_section : Sizes → Shdr
shstrtab_section s = record {
  sh_name = 29;
  sh_type = 3;
  sh_flags = 0;
  sh_addr = 0;
  sh_offset = shstrtab_at s;
  sh_size = 39;
  sh_link = 0;
  sh_info = 0;
  sh_addralign = 1;
  sh_entsize = 0;
}
