use Rattle.std.proofs.Common.{refl}
use Rattle.ir_grammar.specs.Pieces.{pieces}
use Rattle.ir_grammar.proofs.Faults.{limits_lifted}
use Rattle.ir_grammar.proofs.laws.a_read_module_is_readable.Goals as goal

pub returns-clause-readable : goal.returns-clause-readable
returns-clause-readable c bytes m small read = (bytes, m, small, limits_lifted (pieces bytes) m read, refl)

pub returns-clause-within : goal.returns-clause-within
returns-clause-within c bytes m small read = (bytes, m, small, read, refl)
