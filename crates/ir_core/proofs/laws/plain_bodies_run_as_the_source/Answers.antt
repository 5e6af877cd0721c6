use Rattle.ir_core.proofs.SoundRules.{runs_as_the_source_where_valid}
use Rattle.ir_core.proofs.laws.plain_bodies_run_as_the_source.Goals as goal

pub returns : goal.returns
returns c = runs_as_the_source_where_valid
