use Rattle.ir_proper.proofs.ReadIsProper.{answer_is_proper}
use Rattle.ir_proper.proofs.laws.an_answer_is_proper.Goals as goal

pub returns : goal.returns
returns g c = answer_is_proper _
