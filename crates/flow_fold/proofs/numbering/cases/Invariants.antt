use Rattle.std.proofs.Common.{◌≡◌, map, take}
use Rattle.flow_fold.specs.Blocks.{number_of, case_renamed}
use Rattle.flow_fold.specs.Walks.{marked_in}
use Rattle.flow_fold.proofs.numbering.cases.Given as goal

abbrev pub invariant-loop-case : goal.invariant-loop-case
invariant-loop-case l = l.new ≡ map (case_renamed (number_of (marked_in l.marks))) (take l.case-index l.cases)
