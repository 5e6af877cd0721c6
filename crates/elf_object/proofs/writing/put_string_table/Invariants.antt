use Rattle.std.proofs.Common.{◌≡◌, ◌++◌, take}
use Rattle.elf_object.specs.Image.{string_table}
use Rattle.elf_object.proofs.writing.put_string_table.Given as goal

abbrev pub invariant-loop-symbol : goal.invariant-loop-symbol
invariant-loop-symbol l = l.out.items ≡ l.fn.out.items ++ string_table (take l.symbol-index l.symbols)
