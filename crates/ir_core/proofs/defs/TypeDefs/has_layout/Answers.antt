use Rattle.ir_core.proofs.Measured.{whole_layout, laid_is}
use Rattle.ir_core.proofs.defs.TypeDefs.has_layout.Goals as goal

pub returns : goal.returns
returns c = laid_is c.args.self.now c.args.t.now c.layout_of.result c.is_some.result (whole_layout c.table.result.now c.args.self.now c.args.t.now c.layout_of.result c.table.ensures c.layout_of.ensures) c.is_some.ensures
