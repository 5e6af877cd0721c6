use Rattle.std.proofs.Common.{◌≡◌, map, take}
use Rattle.std.specs.List.{fold}
use Rattle.const_fold.specs.Operands.{with_operand}
use Rattle.const_fold.specs.FoldConstants.{known, with_word}
use Rattle.const_fold.specs.FactTables.{facts_in}
use Rattle.const_fold.proofs.rewrite.constant_part.Given as goal

abbrev pub invariant-loop-term : goal.invariant-loop-term
invariant-loop-term l = l.part ≡ fold with_word l.k (map (with_operand (known (facts_in l.facts))) (take l.term-index l.terms))
