use Rattle.std.proofs.Common.{◌≡◌, drop}
use Rattle.component_split.specs.Split.{open_sites}
use Rattle.component_split.specs.Chosen.{open_of}
use Rattle.component_split.specs.Over.{site_graph, labels}
use Rattle.component_split.proofs.count.is_decided.Given as goal

abbrev pub invariant-loop-site : goal.invariant-loop-site
invariant-loop-site l = open_sites (site_graph l.g) (labels l.p) l.s.0 ≡ open_of (labels l.p) (drop l.site-index l.s.1)
