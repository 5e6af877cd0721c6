use Rattle.std.proofs.Common.{◌≡◌, Some, take}
use Rattle.std.specs.List.{fold}
use Rattle.const_fold.specs.FoldConstants.{summed}
use Rattle.const_fold.specs.FactTables.{facts_in}
use Rattle.const_fold.proofs.results.summed.Given as goal

abbrev pub invariant-loop-term : goal.invariant-loop-term
invariant-loop-term l = l.sum ≡ fold (summed (facts_in l.facts)) (Some l.k) (take l.term-index l.terms)
