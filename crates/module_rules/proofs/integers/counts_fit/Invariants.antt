use Rattle.std.proofs.Common.{◌≡◌, drop}
use Rattle.std.specs.List.{list_all}
use Rattle.module_rules.specs.Faults.{count_fits}
use Rattle.module_rules.proofs.integers.counts_fit.Given as goal

abbrev pub invariant-loop-count : goal.invariant-loop-count
invariant-loop-count l = list_all count_fits (drop l.count-index l.counts) ≡ list_all count_fits l.counts
