use Rattle.std.proofs.Common.{ap, sum_by, arith}
use Rattle.std.proofs.lemmas.List.{take_all}
use Rattle.module_rules.specs.declared.totals.Name.{Name}
use Rattle.module_rules.proofs.NameSums.{stops_at, none_past}
use Rattle.module_rules.proofs.totals.first_past.Goals as goal

pub returns-then-name-left : goal.returns-then-name-left
returns-then-name-left c =
    stops_at c.args.names.now c.requires c.loop-name.name-index _ c.loop-name-test.true c.loop-name.left c.args.most c.loop-name.invariant c.if-name-left.true

pub returns : goal.returns
returns c =
    let all = ap (sum_by (λ (n : Name). n.bytes)) (take_all c.loop-name.name-index c.args.names.now c.loop-name-test.false) in
    let sum = c.loop-name.invariant in
    none_past c.args.most c.args.names.now (omega (arith, all, sum))
