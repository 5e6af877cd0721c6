use Rattle.std.proofs.Common.{◌≡◌, ◌++◌, map, take, drop}
use Rattle.const_fold.specs.FoldConstants.{instr_with}
use Rattle.const_fold.specs.FactTables.{facts_in}
use Rattle.const_fold.proofs.folding.fold_code.Given as goal

abbrev pub invariant-loop-at : goal.invariant-loop-at
invariant-loop-at l = l.code ≡ map (instr_with (facts_in l.facts)) (take l.at l.initial.code) ++ drop l.at l.initial.code
