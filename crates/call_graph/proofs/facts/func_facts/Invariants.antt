use Rattle.std.proofs.Common.{◌≡◌, ◌++◌, drop}
use Rattle.call_graph.specs.Facts.{func_facts}
use Rattle.call_graph.proofs.facts.func_facts.Given as goal

abbrev pub invariant-loop-f : goal.invariant-loop-f
invariant-loop-f l = l.facts.items ++ func_facts l.marks l.f (drop l.f l.funcs) ≡ func_facts l.marks 0 l.funcs
