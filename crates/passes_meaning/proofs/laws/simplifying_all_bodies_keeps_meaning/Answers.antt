use Rattle.local_passes.specs.Simplify.{simplified}
use Rattle.ir_simulation.proofs.Composed.{all_kept}
use Rattle.passes_meaning.proofs.SimplifiedLaw.{simplified_keeps}
use Rattle.passes_meaning.proofs.laws.simplifying_all_bodies_keeps_meaning.Goals as goal

pub returns : goal.returns
returns c = all_kept simplified simplified_keeps
