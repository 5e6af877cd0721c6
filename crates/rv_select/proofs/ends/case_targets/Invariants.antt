use Rattle.std.proofs.Common.{◌≡◌, ◌++◌, drop, map}
use Rattle.rv_select.specs.Lowered.{numbers}
use Rattle.rv_select.proofs.ends.case_targets.Given as goal

abbrev pub invariant-loop-case : goal.invariant-loop-case
invariant-loop-case l = numbers l.targets.items ++ map (λ c. c.to.0) (drop l.case-index l.cases) ≡ map (λ c. c.to.0) l.cases
