use Rattle.std.proofs.Common.{◌<◌, false, length, replicate, sym, ap, ◌∙◌, subst}
use Rattle.flow_fold.specs.Walks.{marked_in}
use Rattle.flow_fold.proofs.Walking.{open_last, begun, walked, block_at, targets_marked, ended}
use Rattle.flow_fold.proofs.reached.reached.Goals as goal

pub loop-b-init : goal.loop-b-init
loop-b-init c = begun c.args.body.now c.requires.formed c.in_ok-walk.walk c.mark.new.self (c.in_ok-walk.ensures.marks ∙ ap (λ bs. replicate (length bs) false) c.as_slice-blocks.ensures) c.in_ok-walk.ensures.todo c.in_ok-mark.ensures

pub bounds-blocks-b : goal.bounds-blocks-b
bounds-blocks-b c = subst (λ bs. c.in-Some.b.0 < length bs) (sym c.as_slice-blocks.ensures) (c.loop-b.invariant.within c.in-Some.b.0 (open_last c.loop-b.walk c.take.new.self c.in-Some.b.0 c.in-Some.ensures.todo))

pub mark_targets-requires : goal.mark_targets-requires
mark_targets-requires c = record {
  within = targets_marked c.args.body.now c.requires.formed c.loop-b.walk c.take.new.self c.in-Some.b.0 c.as_slice-blocks.result.now c.index-blocks-b.result c.as_slice-blocks.ensures c.loop-b.invariant c.take.ensures.marks
      (subst (λ bs. c.in-Some.b.0 < length bs) (sym c.as_slice-blocks.ensures) (c.loop-b.invariant.within c.in-Some.b.0 (open_last c.loop-b.walk c.take.new.self c.in-Some.b.0 c.in-Some.ensures.todo)));
}

pub loop-b-preserved : goal.loop-b-preserved
loop-b-preserved c =
    walked c.args.body.now c.requires.formed c.loop-b.walk c.take.new.self c.mark_targets.new.self c.in-Some.b.0 _ c.loop-b.invariant c.take.ensures.marks c.in-Some.ensures.todo
    (block_at c.args.body.now c.requires.formed c.as_slice-blocks.result.now c.as_slice-blocks.ensures c.in-Some.b.0 c.index-blocks-b.result
    (subst (λ bs. c.in-Some.b.0 < length bs) (sym c.as_slice-blocks.ensures) (c.loop-b.invariant.within c.in-Some.b.0 (open_last c.loop-b.walk c.take.new.self c.in-Some.b.0 c.in-Some.ensures.todo))))
    c.in_ok-mark_targets.ensures

pub returns-clause-reached : goal.returns-clause-reached
returns-clause-reached c = ap marked_in c.into_marks.ensures ∙ ap marked_in c.take.ensures.marks ∙ ended c.args.body.now c.requires.formed c.loop-b.walk c.loop-b.invariant c.in_default.ensures.todo.0
