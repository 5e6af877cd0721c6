use Rattle.std.proofs.Common.{◌≡◌, ◌++◌, take}
use Rattle.elf_object.specs.Elf32.{fields_bytes}
use Rattle.elf_object.proofs.elf32.put_fields.Given as goal

abbrev pub invariant-loop-field : goal.invariant-loop-field
invariant-loop-field l = l.out.items ≡ l.fn.out.items ++ fields_bytes (take l.field-index l.fields)
