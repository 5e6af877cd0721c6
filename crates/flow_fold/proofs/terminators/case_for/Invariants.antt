use Rattle.std.proofs.Common.{◌≡◌, drop}
use Rattle.ir_core.specs.Flat.{case_for}
use Rattle.flow_fold.proofs.terminators.case_for.Given as goal

abbrev pub invariant-loop-case : goal.invariant-loop-case
invariant-loop-case l = case_for l.z (drop l.case-index l.cases) l.other ≡ case_for l.z l.cases l.other
