use Rattle.std.proofs.Common.{length}
use Rattle.strong_components.specs.Chains.{IsRootIn}
use Rattle.strong_components.specs.Walk.{state, Inv, Onward, measure}
use Rattle.strong_components.proofs.walk.Walk.run.Given as goal

abbrev pub invariant-loop : goal.invariant-loop
invariant-loop l = record {
  inv : Inv (length l.graph.roots.now) l.graph.edges.now (IsRootIn l.graph.roots.now) (state l.self);
  onward : Onward (state l.initial.self) (state l.self);
}

abbrev pub decreases-loop : goal.decreases-loop
decreases-loop l = measure (length l.graph.edges.now) (state l.self)
