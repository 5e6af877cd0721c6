use Rattle.std.proofs.Common.{◌≡◌, map, take}
use Rattle.const_fold.specs.FoldConstants.{known}
use Rattle.const_fold.specs.FactTables.{facts_in}
use Rattle.const_fold.proofs.rewrite.known_args.Given as goal

abbrev pub invariant-loop-arg : goal.invariant-loop-arg
invariant-loop-arg l = l.new ≡ map (known (facts_in l.facts)) (take l.arg-index l.args)
