use Rattle.std.proofs.Common.{◌≡◌, ◌+◌, ◌-◌, ◌*◌, ◌≤◌, ◌++◌, length}
use Rattle.elf_object.specs.Checks.{symbols_at}
use Rattle.elf_object.proofs.tables.symbols_at.Given as goal

abbrev pub invariant-loop : goal.invariant-loop
invariant-loop l = record {
  so_far : l.symbols ++ symbols_at l.bytes l.table l.at l.name_at l.locals (l.count - l.counter) ≡ symbols_at l.bytes l.table l.fn.at 1 l.fn.locals l.count;
  entries : l.at + 16 * (l.count - l.counter) ≤ length l.bytes;
  within : l.name_at ≤ length l.table;
}
