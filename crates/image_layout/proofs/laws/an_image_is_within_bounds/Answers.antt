use Rattle.image_layout.proofs.Bounds.{within_bounds}
use Rattle.image_layout.proofs.laws.an_image_is_within_bounds.Goals as goal

pub returns : goal.returns
returns c = within_bounds
