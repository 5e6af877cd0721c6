use Rattle.std.proofs.Common.{◌≡◌, ◌++◌, drop}
use Rattle.oi_base.specs.declared.ids.FuncId.{FuncId}
use Rattle.site_inliner.specs.Placed.{Whole, block_regs, firsts, lasts}
use Rattle.site_inliner.specs.Points.{point, HasExtents}
use Rattle.site_inliner.proofs.tables.number_blocks.Given as goal

abbrev pub invariant-loop-block : goal.invariant-loop-block
invariant-loop-block l =
    HasExtents l.locals.source l.at
    × ((all : Whole) (f : FuncId) → (l.tables.regs.items ++ block_regs l.locals.source.funcs f (point l.locals.source all l.at) (drop l.block-index l.blocks) ≡ l.fn.tables.regs.items ++ block_regs l.locals.source.funcs f (point l.locals.source all l.start) l.blocks)
    × (l.tables.firsts.items ++ firsts l.locals.source.funcs f (point l.locals.source all l.at) (drop l.block-index l.blocks) ≡ l.fn.tables.firsts.items ++ firsts l.locals.source.funcs f (point l.locals.source all l.start) l.blocks)
    × (l.tables.lasts.items ++ lasts l.locals.source.funcs f (point l.locals.source all l.at) (drop l.block-index l.blocks) ≡ l.fn.tables.lasts.items ++ lasts l.locals.source.funcs f (point l.locals.source all l.start) l.blocks))
