use Rattle.std.proofs.Common.{◌≡◌, ◌+◌, take, sum_by}
use Rattle.module_rules.specs.declared.totals.Name.{Name}
use Rattle.module_rules.proofs.totals.first_past.Given as goal

abbrev pub invariant-loop-name : goal.invariant-loop-name
invariant-loop-name l = l.left + sum_by (λ (n : Name). n.bytes) (take l.name-index l.names) ≡ l.most
