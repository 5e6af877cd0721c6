use Rattle.component_split.specs.Over.{IsMarksOf}
use Rattle.component_split_tests.proofs.component_tests.bridges_of.Given as goal

abbrev pub invariant-loop-site : goal.invariant-loop-site
invariant-loop-site l = IsMarksOf l.g l.marks
