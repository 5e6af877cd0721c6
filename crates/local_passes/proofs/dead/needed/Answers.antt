use Rattle.std.proofs.Common.{ap, ◌∙◌, subst}
use Rattle.std.specs.List.{flat_map}
use Rattle.flow_fold.specs.Walks.{marked_in}
use Rattle.local_passes.specs.DropDead.{acts_in}
use Rattle.local_passes.specs.NeedTables.{Marks}
use Rattle.local_passes.proofs.NeedWalk.{open_last, begun, walked, ended}
use Rattle.local_passes.proofs.dead.needed.Goals as goal

pub loop-r-init : goal.loop-r-init
loop-r-init c =
    begun c.args.body.now c.requires.formed c.in_ok-needs.needs c.mark_acts.new.needs c.in_ok-needs.ensures.marks c.in_ok-needs.ensures.todo
    (subst (λ ks. Marks c.in_ok-needs.needs c.mark_acts.new.needs (flat_map acts_in ks)) c.as_slice.ensures c.in_ok-mark_acts.ensures)

pub loop-r-preserved : goal.loop-r-preserved
loop-r-preserved c =
    let body = c.args.body.now in
    let inv = c.loop-r.invariant in
    let r = c.in-Some.r in
    let within = inv.within r.0 (open_last c.loop-r.needs c.take.new.self r c.in-Some.ensures.todo) in
    walked body c.requires.formed c.loop-r.needs c.take.new.self c.mark_all.new.self r inv c.take.ensures.marks c.in-Some.ensures.todo
    (subst (Marks c.take.new.self c.mark_all.new.self) (c.of.ensures ∙ c.in_ok-table.ensures r.0 within) c.in_ok-mark_all.ensures)

pub returns : goal.returns
returns c = ap marked_in c.into_marks.ensures ∙ ap marked_in c.take.ensures.marks ∙ ended c.args.body.now c.requires.formed c.loop-r.needs c.loop-r.invariant c.in_default.ensures.todo.0
