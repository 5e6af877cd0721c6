use Rattle.std.proofs.Common.{◌≡◌, map, take}
use Rattle.std.specs.List.{filter}
use Rattle.const_fold.specs.Operands.{with_operand}
use Rattle.const_fold.specs.FoldConstants.{known, is_variable}
use Rattle.const_fold.specs.FactTables.{facts_in}
use Rattle.const_fold.proofs.rewrite.variable_terms.Given as goal

abbrev pub invariant-loop-term : goal.invariant-loop-term
invariant-loop-term l = l.variable ≡ filter is_variable (map (with_operand (known (facts_in l.facts))) (take l.term-index l.terms))
