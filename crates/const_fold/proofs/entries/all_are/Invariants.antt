use Rattle.std.proofs.Common.{◌≡◌, drop}
use Rattle.std.specs.List.{list_all}
use Rattle.const_fold.specs.Operands.{same_op}
use Rattle.const_fold.specs.FoldConstants.{known}
use Rattle.const_fold.specs.FactTables.{facts_in}
use Rattle.const_fold.proofs.entries.all_are.Given as goal

abbrev pub invariant-loop-entry : goal.invariant-loop-entry
invariant-loop-entry l = list_all (λ x. same_op (known (facts_in l.facts) x.value) l.c) (drop l.entry-index l.entries) ≡ list_all (λ x. same_op (known (facts_in l.facts) x.value) l.c) l.entries
