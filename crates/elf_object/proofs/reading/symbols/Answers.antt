use Rattle.std.proofs.Common.{arith}
use Rattle.elf_object.proofs.Places.{has_tables}
use Rattle.elf_object.proofs.reading.symbols.Goals as goal

pub part-strings-requires : goal.part-strings-requires
part-strings-requires c =
    let w = has_tables c.args.bytes.now c.sizes-sizes.result c.sizes-sizes.ensures c.requires in
    omega (arith, c.strtab_at.ensures.place)

pub symbols_at-requires-clause-entries : goal.symbols_at-requires-clause-entries
symbols_at-requires-clause-entries c =
    let w = has_tables c.args.bytes.now c.sizes-sizes.result c.sizes-sizes.ensures c.requires in
    omega (arith, c.symtab_at.ensures.place)

pub symbols_at-requires-clause-strings : goal.symbols_at-requires-clause-strings
symbols_at-requires-clause-strings c =
    let w = has_tables c.args.bytes.now c.sizes-sizes.result c.sizes-sizes.ensures c.requires in
    (omega (arith, c.part-strings.ensures.len), omega (arith, c.part-strings.ensures.len))
