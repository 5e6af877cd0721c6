use Rattle.std.proofs.Common.{length}
use Rattle.strong_components.specs.Chains.{IsRootIn}
use Rattle.strong_components.proofs.Walked.{state_begun}
use Rattle.strong_components.proofs.walk.Walk.start.Goals as goal

pub returns-clause-inv : goal.returns-clause-inv
returns-clause-inv c =
    state_begun (length c.args.graph.now.roots.now) c.args.graph.now.edges.now (IsRootIn c.args.graph.now.roots.now) c.requires.edges _ c.in_ok-starts_of.ensures _ _ _ _ _ _
    c.new-marks.ensures.items c.new-marks.ensures.len c.in_ok-resize.ensures.items c.new.ensures.items c.new-2.ensures.items c.new-3.ensures.items
