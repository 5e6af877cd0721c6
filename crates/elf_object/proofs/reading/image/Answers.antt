use Rattle.std.proofs.Common.{arith}
use Rattle.elf_object.specs.Checks.{image}
use Rattle.elf_object.proofs.FoundImage.{is_found}
use Rattle.elf_object.proofs.ReadLaws.{all_laid_out, loaded_within}
use Rattle.elf_object.proofs.reading.image.Goals as goal

pub sizes-sizes-requires : goal.sizes-sizes-requires
sizes-sizes-requires c = (all_laid_out c.args.bytes.now (record { byte = λ i. omega (arith, c.type_inv.bytes i) }) c.requires.short c.requires.passed).ended

pub part-requires : goal.part-requires
part-requires c =
    let w = loaded_within c.args.bytes.now (all_laid_out c.args.bytes.now (record { byte = λ i. omega (arith, c.type_inv.bytes i) }) c.requires.short c.requires.passed) in
    rw c.sizes-sizes.ensures w.0

pub part-requires-2 : goal.part-requires-2
part-requires-2 c =
    let w = loaded_within c.args.bytes.now (all_laid_out c.args.bytes.now (record { byte = λ i. omega (arith, c.type_inv.bytes i) }) c.requires.short c.requires.passed) in
    rw (c.data_at.ensures.place, c.sizes-sizes.ensures) w.1

pub invariant_of-result : goal.invariant_of-result
unfolding image
invariant_of-result c =
    let found = is_found c.args.bytes.now (record { byte = λ i. omega (arith, c.type_inv.bytes i) }) c.requires.short c.requires.passed in
    rw (c.in_ok-text.ensures, c.in_ok-data_bytes.ensures, c.part.ensures.bytes, c.part-2.ensures.bytes, c.data_at.ensures.place, c.sizes-sizes.ensures, c.requires.found) found.0
