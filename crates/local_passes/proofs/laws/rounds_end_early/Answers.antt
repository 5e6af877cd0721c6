use Rattle.local_passes.specs.Simplify.{one_round, simplified}
use Rattle.local_passes.proofs.Rounds.{ended}
use Rattle.local_passes.proofs.laws.rounds_end_early.Goals as goal

pub returns : goal.returns
unfolding simplified
returns c b n le e = ended one_round n 4 b le e
