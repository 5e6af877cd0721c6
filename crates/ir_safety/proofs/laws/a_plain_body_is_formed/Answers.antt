use Rattle.ir_safety.proofs.FormedBodies.{one_is_formed}
use Rattle.ir_safety.proofs.laws.a_plain_body_is_formed.Goals as goal

pub returns : goal.returns
returns c m proper valid g f at few = one_is_formed m proper valid g f at few
