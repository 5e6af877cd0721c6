use Rattle.std.proofs.Common.{arith}
use Rattle.elf_object.proofs.ReadLaws.{read_is_found, read_is_again}
use Rattle.elf_object.proofs.reading.read_elf.Goals as goal

pub returns-clause-found : goal.returns-clause-found
returns-clause-found c = read_is_found c.args.bytes.now c.read.result (record { byte = λ i. omega (arith, c.type_inv.bytes i) }) (omega arith) c.read.ensures.checked c.read.ensures.image

pub returns-clause-only : goal.returns-clause-only
returns-clause-only c = λ i h words e. read_is_again c.args.bytes.now c.read.result i h words e c.read.ensures.checked c.read.ensures.image
