use Rattle.std.proofs.Common.{◌≡◌, ◌+◌, ◌-◌, ◌≤◌, length, drop}
use Rattle.std.specs.Prelude.{map}
use Rattle.elf_object.specs.declared.elf32.Field.TheVariants.{Byte}
use Rattle.elf_object.specs.Checks.{first_failed, field_checks}
use Rattle.elf_object.proofs.checks.check_bytes.Given as goal

abbrev pub invariant-loop-one : goal.invariant-loop-one
invariant-loop-one l = record {
  same : first_failed (field_checks l.field l.bytes l.at (map Byte (drop l.one-index l.wanted))) ≡ first_failed (field_checks l.field l.bytes l.fn.at (map Byte l.wanted));
  within : l.at + (length l.wanted - l.one-index) ≤ length l.bytes;
}
