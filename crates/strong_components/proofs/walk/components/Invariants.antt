use Rattle.std.proofs.Common.{◌≡◌, ◌<◌, ℕ, length}
use Rattle.strong_components.specs.Chains.{IsRootIn}
use Rattle.strong_components.specs.Walk.{state, Inv, IsSeen}
use Rattle.strong_components.proofs.walk.components.Given as goal

abbrev pub invariant-loop-f : goal.invariant-loop-f
invariant-loop-f l = record {
  inv : Inv (length l.graph.roots.now) l.graph.edges.now (IsRootIn l.graph.roots.now) (state l.walk);
  idle : length l.walk.active.items ≡ 0;
  seen : (r : ℕ) → r < l.f → IsRootIn l.graph.roots.now r → IsSeen (state l.walk) r;
}
