use Rattle.std.proofs.Common.{◌≡◌, ◌++◌, drop}
use Rattle.call_graph.specs.Facts.{site_facts}
use Rattle.call_graph.proofs.facts.site_facts.Given as goal

abbrev pub invariant-loop-site : goal.invariant-loop-site
invariant-loop-site l = l.facts.items ++ site_facts l.funcs l.marks l.free (drop l.site-index l.sites) ≡ site_facts l.funcs l.marks l.free l.sites
