use Rattle.std.proofs.Common.{◌≡◌}
use Rattle.elf_object.specs.Checks.{first_failed, zero_checks}
use Rattle.elf_object.proofs.checks.check_zeros.Given as goal

abbrev pub invariant-loop-at : goal.invariant-loop-at
invariant-loop-at l = first_failed (zero_checks l.bytes l.at l.to) ≡ first_failed (zero_checks l.bytes l.from l.to)
