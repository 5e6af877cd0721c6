use Rattle.std.proofs.Common.{length, ap, arith}
use Rattle.module_rules.proofs.Listing.{read_item}
use Rattle.module_rules.proofs.TypeNameLaws.{none_so_far, one_more, all_so_far}
use Rattle.module_rules.proofs.cycles.first_itself.Goals as goal

pub loop-def-init : goal.loop-def-init
loop-def-init c = none_so_far c.args.m.now c.args.before c.requires.others

pub loop-def-preserved : goal.loop-def-preserved
loop-def-preserved c =
    one_more c.args.m.now c.loop-def.def-index c.def-item.result
    (read_item c.as_slice-def-items.result.now c.args.m.now.types.defs c.loop-def.def-index c.def-item.result c.as_slice-def-items.ensures c.loop-def-test.true c.def-item.is)
    c.loop-def.first c.in_ok-first.first (c.in_ok-first.ensures {u = tt}) c.loop-def.invariant

pub returns : goal.returns
returns c =
    let n = ap (λ xs. length xs) c.as_slice-def-items.ensures in
    let t = c.loop-def-test.false in
    all_so_far c.args.m.now c.loop-def.def-index c.loop-def.first (omega (arith, n, t)) c.loop-def.invariant
