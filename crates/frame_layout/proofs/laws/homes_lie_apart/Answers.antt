use Rattle.frame_layout.proofs.HomeLaws.{lie_apart}
use Rattle.frame_layout.proofs.laws.homes_lie_apart.Goals as goal

pub returns : goal.returns
returns c = lie_apart
