use Rattle.ir_core.proofs.AcyclicLemmas.{acyclic_laid}
use Rattle.ir_core.proofs.laws.acyclic_types_have_layouts.Goals as goal

pub returns : goal.returns
returns c among acyclic v h = acyclic_laid c.args.defs.now among acyclic c.args.t.now v h
