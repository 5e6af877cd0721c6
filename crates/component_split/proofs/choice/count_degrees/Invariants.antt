use Rattle.std.proofs.Common.{◌≡◌, take, length}
use Rattle.component_split.specs.Chosen.{open_of, AreDegrees}
use Rattle.component_split.specs.Over.{site_graph, labels}
use Rattle.component_split.proofs.choice.count_degrees.Given as goal

abbrev pub invariant-loop-site : goal.invariant-loop-site
invariant-loop-site l = record {
  degrees : AreDegrees (site_graph l.g) l.s.0 (open_of (labels l.p) (take l.site-index l.s.1)) l.degrees.items;
  room : length l.degrees.items ≡ length l.fn.degrees.items;
}
