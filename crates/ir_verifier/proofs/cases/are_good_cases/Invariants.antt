use Rattle.std.proofs.Common.{◌≡◌, [], drop}
use Rattle.ir_verifier.specs.Faults.{are_good_cases}
use Rattle.ir_verifier.proofs.cases.are_good_cases.Given as goal

abbrev pub invariant-loop-case : goal.invariant-loop-case
invariant-loop-case l = are_good_cases l.words (drop l.case-index l.cases) ≡ are_good_cases [] l.cases
