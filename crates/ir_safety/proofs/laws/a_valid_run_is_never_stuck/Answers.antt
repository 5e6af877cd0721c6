use Rattle.ir_safety.proofs.ValidRuns.{valid_never_stuck}
use Rattle.ir_safety.proofs.laws.a_valid_run_is_never_stuck.Goals as goal

pub returns : goal.returns
returns c = valid_never_stuck
