use Rattle.std.proofs.Common.{◌≡◌, Some, None, Ok, ap, arith}
use Rattle.ir_core.specs.Sizes.{size}
use Rattle.ir_core.proofs.Measured.{whole_layout, size_is, has_layout}
use Rattle.ir_core.proofs.sizes.size_of.Goals as goal

pub returns-in-Some-clause-fits : goal.returns-in-Some-clause-fits
returns-in-Some-clause-fits c small =
    let is = size_is c.args.m.now.types.defs c.args.t.now c.in-Some.layout (whole_layout c.table.result.now c.args.m.now.types.defs c.args.t.now (Some c.in-Some.layout) c.table.ensures c.in-Some.ensures) in
    let same : c.in-Some.layout.size ≡ size c.args.m.now.types.defs c.args.t.now = omega arith in
    ap Ok same

pub returns-in-Some-clause-too_large : goal.returns-in-Some-clause-too_large
returns-in-Some-clause-too_large c large =
    let is = size_is c.args.m.now.types.defs c.args.t.now c.in-Some.layout (whole_layout c.table.result.now c.args.m.now.types.defs c.args.t.now (Some c.in-Some.layout) c.table.ensures c.in-Some.ensures) in
    let le = c.if-layout-le-LARGEST.true in
    absurd (omega arith)

pub returns-in_default-clause-fits : goal.returns-in_default-clause-fits
returns-in_default-clause-fits c small =
    let is = size_is c.args.m.now.types.defs c.args.t.now c.in-Some.layout (whole_layout c.table.result.now c.args.m.now.types.defs c.args.t.now (Some c.in-Some.layout) c.table.ensures c.in-Some.ensures) in
    let more = c.if-layout-le-LARGEST.false in
    absurd (omega arith)

pub returns-in_default-2-clause-fits : goal.returns-in_default-2-clause-fits
returns-in_default-2-clause-fits c small =
    has_layout c.args.m.now.types.defs c.args.t.now c.requires.laid (whole_layout c.table.result.now c.args.m.now.types.defs c.args.t.now None c.table.ensures c.in_default.ensures)
