use Rattle.std.proofs.Common.{◌≡◌, ◌++◌, drop}
use Rattle.call_graph.specs.Sites.{sites_from, all_sites}
use Rattle.call_graph.proofs.sites.sites_of.Given as goal

abbrev pub invariant-loop-f : goal.invariant-loop-f
invariant-loop-f l = l.sites.items ++ sites_from l.functions l.f (drop l.f l.functions) ≡ all_sites l.functions
