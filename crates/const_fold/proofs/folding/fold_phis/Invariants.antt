use Rattle.std.proofs.Common.{◌≡◌, ◌++◌, map, take, drop}
use Rattle.const_fold.specs.FoldConstants.{phi_with}
use Rattle.const_fold.specs.FactTables.{facts_in}
use Rattle.const_fold.proofs.folding.fold_phis.Given as goal

abbrev pub invariant-loop-at : goal.invariant-loop-at
invariant-loop-at l = l.phis ≡ map (phi_with (facts_in l.facts)) (take l.at l.initial.phis) ++ drop l.at l.initial.phis
