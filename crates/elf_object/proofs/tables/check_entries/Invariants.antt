use Rattle.std.proofs.Common.{◌≡◌, ◌+◌, ◌-◌, ◌*◌, ◌≤◌, length, drop}
use Rattle.elf_object.specs.Checks.{first_failed, entry_checks}
use Rattle.elf_object.proofs.tables.check_entries.Given as goal

abbrev pub invariant-loop-symbol : goal.invariant-loop-symbol
invariant-loop-symbol l = record {
  same : first_failed (entry_checks l.bytes l.size l.at l.name_at (drop l.symbol-index l.symbols)) ≡ first_failed (entry_checks l.bytes l.size l.fn.at 1 l.symbols);
  entries : l.at + 16 * (length l.symbols - l.symbol-index) ≤ length l.bytes;
  within : l.name_at ≤ l.size;
}
