use Rattle.std.proofs.Common.{arith}
use Rattle.elf_object.specs.Layout.{section_names}
use Rattle.elf_object.specs.Checks.{section_name_checks}
use Rattle.elf_object.proofs.Places.{has_tables}
use Rattle.elf_object.proofs.reading.check_section_names.Goals as goal

pub check_bytes-requires-clause-within : goal.check_bytes-requires-clause-within
check_bytes-requires-clause-within c =
    let w = has_tables c.args.bytes.now c.sizes.result c.sizes.ensures c.requires in
    omega (arith, c.shstrtab_at-at.ensures.place)

pub returns : goal.returns
unfolding section_name_checks section_names
returns c = rw (c.shstrtab_at-at.ensures.place, c.sizes.ensures) at c.check_bytes.ensures
