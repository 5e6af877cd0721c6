use Rattle.std.proofs.Common.{◌≡◌, ◌≤◌, length, drop}
use Rattle.component_split.specs.Classes.{AreParents, AreClassesBy, kept_but}
use Rattle.component_split.specs.Over.{site_graph, labels}
use Rattle.component_split.proofs.unions.join_sites.Given as goal

abbrev pub invariant-loop-i : goal.invariant-loop-i
invariant-loop-i l = record {
  classes : AreClassesBy (site_graph l.g) (kept_but (labels l.p) l.but) l.s.0 (drop l.i l.s.1) l.parents.items;
  parents : AreParents l.parents.items;
  count : length l.parents.items ≡ length l.fn.parents.items;
  within : l.i ≤ length l.s.1;
}

abbrev pub decreases-loop-i : goal.decreases-loop-i
decreases-loop-i l = l.i
