use Rattle.ir_grammar.proofs.Faults.{fault_at_piece}
use Rattle.ir_grammar.proofs.laws.a_fault_stands_at_a_piece.Goals as goal

pub returns : goal.returns
returns c = fault_at_piece
