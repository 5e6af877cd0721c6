use Rattle.std.proofs.Common.{◌≡◌, ◌++◌, drop}
use Rattle.call_graph.specs.Edges.{are_external}
use Rattle.call_graph.proofs.edges.are_external.Given as goal

abbrev pub invariant-loop-func : goal.invariant-loop-func
invariant-loop-func l = l.external.items ++ are_external (drop l.func-index l.funcs) ≡ are_external l.funcs
