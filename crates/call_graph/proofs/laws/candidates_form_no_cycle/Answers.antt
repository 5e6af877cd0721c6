use Rattle.call_graph.proofs.Cycles.{no_cycle}
use Rattle.call_graph.proofs.laws.candidates_form_no_cycle.Goals as goal

pub returns : goal.returns
returns c = no_cycle
