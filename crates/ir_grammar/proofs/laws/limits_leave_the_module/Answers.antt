use Rattle.ir_grammar.specs.Pieces.{pieces}
use Rattle.ir_grammar.proofs.Faults.{limits_lifted, enough_levels}
use Rattle.ir_grammar.proofs.laws.limits_leave_the_module.Goals as goal

pub returns-clause-lifted : goal.returns-clause-lifted
returns-clause-lifted c = λ bytes m h. limits_lifted (pieces bytes) m h

pub returns-clause-levels : goal.returns-clause-levels
returns-clause-levels c = λ bytes n m h. enough_levels n (pieces bytes) m h
