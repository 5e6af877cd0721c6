use Rattle.std.proofs.Common.{◌≡◌, length}
use Rattle.component_split.specs.Over.{site_graph, labels}
use Rattle.component_split.specs.Arcs.{AreArcs}
use Rattle.component_split.proofs.arcs.arcs_of.Given as goal

abbrev pub invariant-loop-at : goal.invariant-loop-at
invariant-loop-at l = record {
  count : length l.arcs.items ≡ length l.s.0;
  arcs : AreArcs (site_graph l.g) (labels l.p) l.s.0 l.s.1 l.arcs.items;
}
