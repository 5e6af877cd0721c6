use Rattle.local_passes.proofs.Needing.{needed_told, told_needed}
use Rattle.local_passes.proofs.laws.needed_registers_have_uses.Goals as goal

pub returns : goal.returns
returns c b r h = (λ e. needed_told b h r e, λ n. told_needed b h n)
