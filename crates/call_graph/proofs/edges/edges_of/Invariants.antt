use Rattle.std.proofs.Common.{◌≡◌, ◌++◌, drop}
use Rattle.call_graph.specs.Edges.{edges_of}
use Rattle.call_graph.proofs.edges.edges_of.Given as goal

abbrev pub invariant-loop-site : goal.invariant-loop-site
invariant-loop-site l = l.edges.items ++ edges_of (drop l.site-index l.sites) ≡ edges_of l.sites
