use Rattle.ir_safety.proofs.FormedSafe.{formed_safe}
use Rattle.ir_safety.proofs.NeverStuck.{never_stuck}
use Rattle.ir_safety.proofs.laws.a_formed_run_is_never_stuck.Goals as goal

pub returns : goal.returns
returns c p types funcs formed = never_stuck p types funcs (formed_safe p types funcs formed)
