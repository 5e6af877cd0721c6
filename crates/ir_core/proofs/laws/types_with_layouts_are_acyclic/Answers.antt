use Rattle.ir_core.proofs.AcyclicLemmas.{laid_no_void, laid_defined, laid_no_cycle}
use Rattle.ir_core.proofs.laws.types_with_layouts_are_acyclic.Goals as goal

pub returns-clause-no_void : goal.returns-clause-no_void
returns-clause-no_void c laid = laid_no_void c.args.defs.now c.args.t.now laid

pub returns-clause-defined : goal.returns-clause-defined
returns-clause-defined c laid x is = laid_defined c.args.defs.now c.args.t.now laid x is

pub returns-clause-no_cycle : goal.returns-clause-no_cycle
returns-clause-no_cycle c laid x is = laid_no_cycle c.args.defs.now c.args.t.now laid x is
