use Rattle.std.proofs.Common.{arith}
use Rattle.elf_object.proofs.Places.{has_tables}
use Rattle.elf_object.proofs.reading.check_string_table.Goals as goal

pub check_fields-requires-clause-within : goal.check_fields-requires-clause-within
check_fields-requires-clause-within c =
    let w = has_tables c.args.bytes.now c.sizes-sizes.result c.sizes-sizes.ensures c.requires.laid_out in
    omega (arith, c.strtab_at-start.ensures.place)

pub check_strings-requires-clause-part : goal.check_strings-requires-clause-part
check_strings-requires-clause-part c =
    let w = has_tables c.args.bytes.now c.sizes-sizes.result c.sizes-sizes.ensures c.requires.laid_out in
    omega (arith, c.strtab_at-start.ensures.place)
