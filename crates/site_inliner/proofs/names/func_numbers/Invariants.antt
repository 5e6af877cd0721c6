use Rattle.std.proofs.Common.{◌≡◌, drop, map}
use Rattle.module_rules.specs.Faults.{numbers_of, with_numbers}
use Rattle.site_inliner.specs.Parts.{func_number}
use Rattle.site_inliner.proofs.names.func_numbers.Given as goal

abbrev pub invariant-loop-func : goal.invariant-loop-func
invariant-loop-func l = with_numbers l.numbers (map func_number (drop l.func-index l.funcs)) ≡ numbers_of (map func_number l.funcs)
