use Rattle.std.proofs.Common.{Some, None}
use Rattle.ir_core.proofs.Measured.{whole_layout, align_is, has_layout}
use Rattle.ir_core.proofs.sizes.align_of.Goals as goal

pub returns-in-Some : goal.returns-in-Some
returns-in-Some c = align_is c.args.m.now.types.defs c.args.t.now c.in-Some.layout (whole_layout c.table.result.now c.args.m.now.types.defs c.args.t.now (Some c.in-Some.layout) c.table.ensures c.in-Some.ensures)

pub returns-in-None : goal.returns-in-None
returns-in-None c = has_layout c.args.m.now.types.defs c.args.t.now c.requires.laid (whole_layout c.table.result.now c.args.m.now.types.defs c.args.t.now None c.table.ensures c.in-None.ensures)
