use Rattle.std.proofs.Common.{◌≡◌, take, map}
use Rattle.site_inliner.specs.Parts.{case_in}
use Rattle.site_inliner.proofs.locals.Locals.cases.Given as goal

abbrev pub invariant-loop-case : goal.invariant-loop-case
invariant-loop-case l = l.cases ≡ map (case_in l.self) (take l.case-index l.source)
