use Rattle.std.proofs.Common.{◌∙◌}
use Rattle.rv_isa.proofs.Completeness.{complete}
use Rattle.rv_isa.proofs.Soundness.{sound}
use Rattle.rv_isa.proofs.decoding.decode.Goals as goal

pub returns-clause-encodes : goal.returns-clause-encodes
returns-clause-encodes c = rw c.by_opcode.ensures (sound c.args.w c.ranges.w.fits).encodes

pub returns-clause-every_instruction : goal.returns-clause-every_instruction
returns-clause-every_instruction c = λ i range has. c.by_opcode.ensures ∙ complete i c.args.w range has
