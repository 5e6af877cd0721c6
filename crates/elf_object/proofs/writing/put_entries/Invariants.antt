use Rattle.std.proofs.Common.{◌≡◌, ◌+◌, ◌++◌, length, drop}
use Rattle.elf_object.specs.Image.{string_table}
use Rattle.elf_object.specs.File.{entries_bytes}
use Rattle.elf_object.proofs.Symbols.{names}
use Rattle.elf_object.proofs.writing.put_entries.Given as goal

abbrev pub invariant-loop-symbol : goal.invariant-loop-symbol
invariant-loop-symbol l = record {
  table : l.out.items ++ entries_bytes l.name_at (drop l.symbol-index l.symbols) ≡ l.fn.out.items ++ entries_bytes 1 l.symbols;
  strings : l.name_at + length (names (drop l.symbol-index l.symbols)) ≡ length (string_table l.symbols);
}
