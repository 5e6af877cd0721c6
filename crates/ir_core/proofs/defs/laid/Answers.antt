use Rattle.std.proofs.Common.{length, refl}
use Rattle.std.proofs.lemmas.Option.{slice_get_read}
use Rattle.ir_core.specs.Known.{so_far}
use Rattle.ir_core.proofs.Laying.{knows_so_far, laid_there, no_layout_there, fewer}
use Rattle.ir_core.proofs.defs.laid.Goals as goal

pub returns-in_err-layout-clause-stuck : goal.returns-in_err-layout-clause-stuck
returns-in_err-layout-clause-stuck c =
    let found = slice_get_read c.args.defs.now (length c.args.defs.now) c.in-Defined.at c.in_ok-def.def.now refl c.in_ok-def.ensures.lookup.3.0 c.in_ok-def.ensures.lookup.1 in
    let never = c.in_err-layout.ensures (so_far c.args.table.now c.args.defs.now) (knows_so_far c.args.table.now c.args.defs.now c.requires.right) in
    rw c.from_residual-in_err-layout.ensures (no_layout_there c.args.table.now c.args.defs.now c.args.x c.in-Defined.at c.requires.within c.in-Defined.is c.requires.right c.in_ok-def.def.now found never)

pub returns-clause-right : goal.returns-clause-right
returns-clause-right c =
    let found = slice_get_read c.args.defs.now (length c.args.defs.now) c.in-Defined.at c.in_ok-def.def.now refl c.in_ok-def.ensures.lookup.3.0 c.in_ok-def.ensures.lookup.1 in
    let gives = c.in_ok-layout.ensures (so_far c.args.table.now c.args.defs.now) (knows_so_far c.args.table.now c.args.defs.now c.requires.right) in
    laid_there c.args.table.now c.args.defs.now c.args.x c.in-Defined.at c.requires.within c.in-Defined.is c.requires.right c.in_ok-def.def.now c.in_ok-layout.layout found gives

pub returns-clause-fewer : goal.returns-clause-fewer
returns-clause-fewer c = fewer c.args.table.now c.args.defs.now c.args.x c.in-Defined.at c.requires.within c.in-Defined.is c.in_ok-layout.layout
