use Rattle.std.proofs.Common.{◌≡◌, ◌++◌, drop}
use Rattle.oi_base.specs.declared.ids.FuncId.{FuncId}
use Rattle.site_inliner.specs.Placed.{Whole, code_end, code_regs}
use Rattle.site_inliner.specs.Points.{point, HasExtents}
use Rattle.site_inliner.proofs.tables.number_code.Given as goal

abbrev pub invariant-loop-instr : goal.invariant-loop-instr
invariant-loop-instr l =
    HasExtents l.locals.source l.at
    × ((all : Whole) (f : FuncId) → (code_end l.locals.source.funcs f (point l.locals.source all l.at) (drop l.instr-index l.block.code) ≡ code_end l.locals.source.funcs f (point l.locals.source all l.start) l.block.code)
    × (l.regs.items ++ code_regs l.locals.source.funcs f (point l.locals.source all l.at) (drop l.instr-index l.block.code) ≡ l.fn.regs.items ++ code_regs l.locals.source.funcs f (point l.locals.source all l.start) l.block.code))
