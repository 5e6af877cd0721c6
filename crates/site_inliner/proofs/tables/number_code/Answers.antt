use Rattle.std.proofs.Common.{◌+◌, ◌++◌, drop, subst, List}
use Rattle.module_rules.proofs.Folds.{cut}
use Rattle.ir_core.specs.declared.func.Instr.{Instr}
use Rattle.site_inliner.specs.Placed.{code_end, code_regs}
use Rattle.site_inliner.specs.Points.{point}
use Rattle.site_inliner.proofs.TableLaws.{CodeDone, code_more}
use Rattle.site_inliner.proofs.tables.number_code.Goals as goal

pub loop-instr-preserved : goal.loop-instr-preserved
loop-instr-preserved c =
    let m = c.args.locals.now.source in
    let step = cut c.as_slice-instr-items.result.now c.args.block.now.code c.loop-instr.instr-index c.instr-item.result c.as_slice-instr-items.ensures c.loop-instr-test.true c.instr-item.is in
    let has = c.loop-instr.invariant.0 in (
      c.in_ok-at.ensures.extents m (c.in_ok-past.ensures.extents m has),
      λ all f.
          let p = point m all c.loop-instr.at in
          let end = code_end m.funcs f (point m all c.args.start) c.args.block.now.code in
          let whole = c.args.regs.now.items ++ code_regs m.funcs f (point m all c.args.start) c.args.block.now.code in
          let so_far = subst (λ (is : List Instr). CodeDone m.funcs f p is c.loop-instr.regs.items end whole) step (c.loop-instr.invariant.1 all f) in
          code_more m.funcs f p (point m all c.in_ok-past.past) (point m all c.in_ok-at.at) c.is_site.result c.instr-item.result (drop (c.loop-instr.instr-index + 1) c.args.block.now.code) c.loop-instr.regs.items c.push_result.new.regs.items whole end
          (c.is_site.ensures f) (c.in_ok-past.ensures.point m all has) (c.in_ok-at.ensures.point m all) c.in_ok-push_result.ensures so_far,
    )
