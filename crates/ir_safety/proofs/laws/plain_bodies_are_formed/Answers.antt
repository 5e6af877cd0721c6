use Rattle.ir_safety.proofs.FormedBodies.{plain_is_formed}
use Rattle.ir_safety.proofs.laws.plain_bodies_are_formed.Goals as goal

pub returns : goal.returns
returns c m proper valid few = plain_is_formed m proper valid few
