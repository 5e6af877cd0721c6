use Rattle.std.proofs.Common.{◌≡◌, drop, map}
use Rattle.module_rules.specs.Faults.{with_numbers}
use Rattle.site_inliner.specs.Parts.{param_number}
use Rattle.site_inliner.proofs.names.add_params.Given as goal

abbrev pub invariant-loop-param : goal.invariant-loop-param
invariant-loop-param l = with_numbers l.numbers (map param_number (drop l.param-index l.params)) ≡ with_numbers l.fn.numbers (map param_number l.params)
