-- The parts of the file stand after each other.
use Rattle.std.proofs.Common.{◌≡◌, ℕ, zero, suc, ◌+◌, ◌-◌, ◌*◌, ◌/◌, ◌%◌, ◌<◌, ◌≤◌, List, length, refl, sym, ap, arith}
use Rattle.elf_object.specs.declared.layout.Sizes.{Sizes}
use Rattle.elf_object.specs.declared.symbol.Symbol.{Symbol}
use Rattle.elf_object.specs.Checks.{IsLaidOut, sizes, symbols_at, symbols}
use Rattle.elf_object.specs.Layout.{text_at, data_at, symtab_at, strtab_at, shstrtab_at, sections_at}

pub data_after : (s : Sizes) → text_at + s.text ≤ data_at s
unfolding data_at
data_after s = omega arith

pub symtab_after : (s : Sizes) → data_at s + s.data_bytes ≤ symtab_at s
unfolding symtab_at
symtab_after s = omega arith

pub strtab_is : (s : Sizes) → strtab_at s ≡ symtab_at s + s.symtab
unfolding strtab_at
strtab_is s = refl

pub shstrtab_is : (s : Sizes) → shstrtab_at s ≡ strtab_at s + s.strtab
unfolding shstrtab_at
shstrtab_is s = refl

pub sections_after : (s : Sizes) → shstrtab_at s + 39 ≤ sections_at s
unfolding sections_at
sections_after s = omega arith

pub ruleset places = (data_after, symtab_after, strtab_is, shstrtab_is, sections_after)

-- where the tables of a file stand whose section headers stand where its sizes say
pub record HasTables (file : List ℕ) (s : Sizes) : Type 0 where
  pub strtab : symtab_at s + s.symtab ≡ strtab_at s
  pub shstrtab : strtab_at s + s.strtab ≡ shstrtab_at s
  pub end : shstrtab_at s + 279 ≤ length file
  pub short : length file < 4294967296
  pub symtab_size : (16 ≤ s.symtab) × (s.symtab % 16 ≡ 0)
  pub strtab_size : 1 ≤ s.strtab

pub has_tables : (file : List ℕ) (s : Sizes) → s ≡ sizes file → IsLaidOut file → HasTables file s
has_tables file s is h = rw is (record {
  strtab = sym (strtab_is (sizes file));
  shstrtab = sym (shstrtab_is (sizes file));
  end = omega (arith, h.place, h.ended.end, sections_after (sizes file));
  short = h.ended.short;
  symtab_size = h.symtab;
  strtab_size = h.strtab;
})

-- as many symbols as the table has entries after the first
pub length-symbols_at : (file table : List ℕ) (at name_at locals n : ℕ) → length (symbols_at file table at name_at locals n) ≡ n
unfolding symbols_at
length-symbols_at file table at name_at locals zero = refl
length-symbols_at file table at name_at locals (suc n) = ap suc (length-symbols_at file table (at + 16) _ (locals - 1) n)

pub length-symbols : (file : List ℕ) → length (symbols file) ≡ (sizes file).symtab / 16 - 1
unfolding symbols
length-symbols file = length-symbols_at file _ _ _ _ _

-- the entries of the symbols end where the strings begin
pub entries_end : (file : List ℕ) (s : Sizes) → s ≡ sizes file → IsLaidOut file → (found : List Symbol) → found ≡ symbols file → symtab_at s + 16 + 16 * length found ≡ strtab_at s
entries_end file s is h found found-is =
    let w = has_tables file s is h in
    let n : length found ≡ s.symtab / 16 - 1 = rw (found-is, is) (length-symbols file) in
    omega arith
