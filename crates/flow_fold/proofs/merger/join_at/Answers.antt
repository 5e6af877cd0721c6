use Rattle.std.proofs.Common.{◌≢◌, sym, ◌∙◌}
use Rattle.std.proofs.lemmas.Option.{get_or_from_slice_get}
use Rattle.flow_fold.proofs.Edges.{get_other}
use Rattle.flow_fold.proofs.OneMerge.{join_so}
use Rattle.flow_fold.proofs.merger.join_at.Goals as goal

pub returns : goal.returns
returns c = λ k l ek el.
    let apart : c.args.n ≢ c.args.m = λ e. c.requires.apart (sym e) in
    join_so c.args.blocks.now.items c.args.n c.args.m c.replace-second.new.dest c.replace-first.new.dest c.in_ok-blocks.field-0 c.replace-first.result c.replace-second.result k l c.requires.apart
    (c.replace-second.ensures.after ∙ c.empty_block.ensures)
    (c.replace-second.ensures.value ∙ c.index_mut.ensures.value ∙ get_or_from_slice_get c.args.blocks.now.items c.args.m l c.index_mut.result.now el)
    (c.replace-first.ensures.value ∙ c.index_mut-2.ensures.value ∙ get_or_from_slice_get _ c.args.n k c.index_mut-2.result.now (get_other c.args.blocks.now.items c.args.m c.args.n c.replace-second.new.dest apart ∙ ek))
    c.in_ok-blocks.ensures
