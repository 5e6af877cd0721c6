use Rattle.std.proofs.Common.{◌≡◌, ap, arith, length}
use Rattle.rv_select.specs.Branches.{count_true}
use Rattle.rv_select.proofs.Counts.{counted, count_few, count_part}
use Rattle.rv_select.proofs.settling.Choice.item.Goals as goal

pub overflow_add-result : goal.overflow_add-result
overflow_add-result c =
    let bits = c.self.inside.longs.items in
    let view : length bits ≡ length c.args.self.now = ap length c.self.view_is in
    let count = counted bits c.self.inside.before.items c.args.draft c.index.result.now c.self.invariant (omega (arith, c.requires, view)) c.index.ensures in
    omega (arith, c.requires, view, count, count_few bits c.args.draft, c.self.inside.longs.ok.0, c.self.inside.longs.ok.1, c.self.inside.longs.small)

pub returns-clause-within : goal.returns-clause-within
returns-clause-within c =
    let bits = c.self.inside.longs.items in
    let view : length bits ≡ length c.args.self.now = ap length c.self.view_is in
    let count = counted bits c.self.inside.before.items c.args.draft c.index.result.now c.self.invariant (omega (arith, c.requires, view)) c.index.ensures in
    let whole = ap count_true c.self.view_is in
    omega (arith, count, whole, count_part bits c.args.draft)
