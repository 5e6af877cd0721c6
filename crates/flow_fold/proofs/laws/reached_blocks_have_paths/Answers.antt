use Rattle.flow_fold.proofs.Reaching.{reached_path, path_reached}
use Rattle.flow_fold.proofs.laws.reached_blocks_have_paths.Goals as goal

pub returns-clause-path : goal.returns-clause-path
returns-clause-path c b n e = reached_path b n e

pub returns-clause-reached : goal.returns-clause-reached
returns-clause-reached c b older n path = path_reached b older n path
