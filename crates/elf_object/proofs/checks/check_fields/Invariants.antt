use Rattle.std.proofs.Common.{◌≡◌, ◌+◌, ◌≤◌, length, drop}
use Rattle.elf_object.specs.Checks.{first_failed, field_checks}
use Rattle.elf_object.specs.Elf32.{span}
use Rattle.elf_object.proofs.checks.check_fields.Given as goal

abbrev pub invariant-loop-one : goal.invariant-loop-one
invariant-loop-one l = record {
  same : first_failed (field_checks l.field l.bytes l.at (drop l.one-index l.wanted)) ≡ first_failed (field_checks l.field l.bytes l.fn.at l.wanted);
  within : l.at + span (drop l.one-index l.wanted) ≤ length l.bytes;
}
