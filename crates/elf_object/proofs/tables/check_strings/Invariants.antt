use Rattle.std.proofs.Common.{◌≡◌, ◌≤◌, drop}
use Rattle.elf_object.specs.Checks.{first_failed, name_checks}
use Rattle.elf_object.proofs.tables.check_strings.Given as goal

abbrev pub invariant-loop-symbol : goal.invariant-loop-symbol
invariant-loop-symbol l = record {
  same : first_failed (name_checks l.bytes l.start l.size l.name_at (drop l.symbol-index l.symbols)) ≡ first_failed (name_checks l.bytes l.start l.size 1 l.symbols);
  within : l.name_at ≤ l.size;
}
