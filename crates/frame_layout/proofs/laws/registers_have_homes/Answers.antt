use Rattle.frame_layout.proofs.HomeLaws.{have_homes}
use Rattle.frame_layout.proofs.laws.registers_have_homes.Goals as goal

pub returns : goal.returns
returns c = have_homes
