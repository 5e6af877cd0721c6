use Rattle.std.proofs.Common.{◌≡◌, ◌++◌, drop}
use Rattle.std.specs.List.{flat_map}
use Rattle.rv_select.specs.Lowered.{case_code}
use Rattle.rv_select.proofs.ends.push_cases.Given as goal

abbrev pub invariant-loop-case : goal.invariant-loop-case
invariant-loop-case l = l.code ++ flat_map case_code (drop l.case-index l.cases) ≡ l.fn.code ++ flat_map case_code l.cases
