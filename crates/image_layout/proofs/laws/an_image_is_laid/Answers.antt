use Rattle.image_layout.proofs.Laid.{laid}
use Rattle.image_layout.proofs.laws.an_image_is_laid.Goals as goal

pub returns : goal.returns
returns c = laid
