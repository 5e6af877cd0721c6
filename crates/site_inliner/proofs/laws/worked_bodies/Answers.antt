use Rattle.site_inliner.proofs.WorkedBodies.{worked_bodies}
use Rattle.site_inliner.proofs.laws.worked_bodies.Goals as goal

pub returns : goal.returns
returns c = worked_bodies
