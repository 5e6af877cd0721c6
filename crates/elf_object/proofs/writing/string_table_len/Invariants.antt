use Rattle.std.proofs.Common.{◌≡◌, ◌+◌, length, drop}
use Rattle.elf_object.specs.Image.{string_table}
use Rattle.elf_object.proofs.Symbols.{names}
use Rattle.elf_object.proofs.writing.string_table_len.Given as goal

abbrev pub invariant-loop-symbol : goal.invariant-loop-symbol
invariant-loop-symbol l = l.len + length (names (drop l.symbol-index l.symbols)) ≡ length (string_table l.symbols)
