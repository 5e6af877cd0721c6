use Rattle.flow_fold.specs.DropUnreached.{is_reached, unreached_dropped}
use Rattle.flow_fold.proofs.DroppedFormed.{dropped_formed, used_on_paths}
use Rattle.flow_fold.proofs.Reaching.{reached_closed, reached_path}
use Rattle.flow_fold.proofs.laws.reached_blocks_are_formed.Goals as goal

pub returns : goal.returns
unfolding unreached_dropped
returns c types funcs own b h = dropped_formed types funcs own b h (is_reached b) (reached_closed b) (used_on_paths types funcs own b h (is_reached b) (reached_closed b) (reached_path b))
