use Rattle.std.proofs.Common.{◌≡◌, ◌++◌, ◌+◌, drop}
use Rattle.call_graph.specs.Graph.{candidates_from}
use Rattle.call_graph.proofs.facts.candidates.Given as goal

abbrev pub invariant-loop-k : goal.invariant-loop-k
invariant-loop-k l = l.ids.items ++ candidates_from (l.k + 1) (drop l.k l.facts) ≡ candidates_from 1 l.facts
