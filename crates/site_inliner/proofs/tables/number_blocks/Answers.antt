use Rattle.std.proofs.Common.{◌+◌, ◌++◌, drop, refl, subst, List}
use Rattle.module_rules.proofs.Folds.{cut}
use Rattle.ir_core.specs.declared.func.Block.{Block}
use Rattle.site_inliner.specs.Placed.{block_regs, firsts, lasts}
use Rattle.site_inliner.specs.Points.{point}
use Rattle.site_inliner.proofs.TableLaws.{BlocksDone, block_more}
use Rattle.site_inliner.proofs.tables.number_blocks.Goals as goal

pub loop-block-preserved : goal.loop-block-preserved
loop-block-preserved c =
    let m = c.args.locals.now.source in
    let step = cut c.args.blocks.now c.args.blocks.now c.loop-block.block-index c.block-item.result refl c.loop-block-test.true c.block-item.is in
    let has = c.loop-block.invariant.0 in (
      c.in_ok-at.ensures.extents,
      λ all f.
          let p = point m all c.loop-block.at in
          let start = point m all c.args.start in
          let rs = c.args.tables.now.regs.items ++ block_regs m.funcs f start c.args.blocks.now in
          let xs = c.args.tables.now.firsts.items ++ firsts m.funcs f start c.args.blocks.now in
          let ys = c.args.tables.now.lasts.items ++ lasts m.funcs f start c.args.blocks.now in
          let t = c.loop-block.tables in
          let u = c.number_block.new.tables in
          let so_far = subst (λ (bs : List Block). BlocksDone m.funcs f p bs t.regs.items t.firsts.items t.lasts.items rs xs ys) step (c.loop-block.invariant.1 all f) in
          block_more m.funcs f p (point m all c.in_ok-at.at) c.block-item.result (drop (c.loop-block.block-index + 1) c.args.blocks.now) t.regs.items t.firsts.items t.lasts.items u.regs.items u.firsts.items u.lasts.items rs xs ys
          (c.in_ok-at.ensures.point all f) (c.in_ok-at.ensures.regs all f) c.in_ok-at.ensures.firsts (c.in_ok-at.ensures.lasts all f) so_far,
    )
