use Rattle.std.proofs.Common.{arith}
use Rattle.elf_object.proofs.Places.{has_tables, entries_end}
use Rattle.elf_object.proofs.reading.check_symbols.Goals as goal

pub check_fields-requires-clause-within : goal.check_fields-requires-clause-within
check_fields-requires-clause-within c =
    let w = has_tables c.args.bytes.now c.sizes-sizes.result c.sizes-sizes.ensures c.requires.laid_out in
    omega (arith, c.symtab_at-at.ensures.place, c.fields.ensures.span)

pub check_entries-requires-clause-entries : goal.check_entries-requires-clause-entries
check_entries-requires-clause-entries c =
    let w = has_tables c.args.bytes.now c.sizes-sizes.result c.sizes-sizes.ensures c.requires.laid_out in
    let e = entries_end c.args.bytes.now c.sizes-sizes.result c.sizes-sizes.ensures c.requires.laid_out c.args.found.now c.requires.found in
    omega (arith, c.symtab_at-at.ensures.place)
