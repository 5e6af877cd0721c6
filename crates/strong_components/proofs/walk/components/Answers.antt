use Rattle.std.proofs.Common.{length, arith}
use Rattle.strong_components.specs.Chains.{IsRootIn}
use Rattle.strong_components.specs.Walk.{state}
use Rattle.strong_components.proofs.Walked.{idle_components, one_more}
use Rattle.strong_components.proofs.walk.components.Goals as goal

pub loop-f-preserved : goal.loop-f-preserved
loop-f-preserved c = record {
  inv = c.in_ok-visit.ensures.inv;
  idle = c.in_ok-visit.ensures.idle;
  seen = one_more (IsRootIn c.args.graph.now.roots.now) (state c.loop-f.walk) (state c.visit.new.self) c.loop-f.f c.loop-f.invariant.seen c.in_ok-visit.ensures.onward c.in_ok-visit.ensures.seen;
}

pub returns : goal.returns
returns c =
    let test = c.loop-f-test.false in
    idle_components (length c.args.graph.now.roots.now) c.args.graph.now.edges.now (IsRootIn c.args.graph.now.roots.now) (state c.loop-f.walk) c.loop-f.invariant.inv c.loop-f.invariant.idle
    (λ r lt root. c.loop-f.invariant.seen r (omega (arith, lt, test)) root)
