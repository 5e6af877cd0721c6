use Rattle.std.proofs.Common.{◌≡◌, ◌+◌, ◌∙◌, length, sym, arith}
use Rattle.rv_select.specs.Branches.{count_true}
use Rattle.rv_select.specs.Heads.{head_in}
use Rattle.rv_select.proofs.Branches.{last_round, next_round, round_length, none_yet}
use Rattle.rv_select.proofs.settling.settle.Goals as goal

pub loop-round-init : goal.loop-round-init
loop-round-init c = c.in_ok-choice.ensures ∙ c.in_ok-vec.ensures.items_if_clones_equal (λ y e. e) ∙ none_yet c.args.drafts.now

pub grow-requires-clause-same : goal.grow-requires-clause-same
grow-requires-clause-same c = sym (round_length (head_in c.args.heads.now (length c.args.drafts.now)) c.args.drafts.now c.loop-round.round c.loop-round.choice c.loop-round.invariant)

pub returns-then-items : goal.returns-then-items
returns-then-items c =
    let heads = head_in c.args.heads.now (length c.args.drafts.now) in
    let count : length c.in_ok-next.next + count_true c.in_ok-next.next ≡ length c.loop-round.choice + count_true c.loop-round.choice = omega (arith, c.items.ensures, c.items-in-loop-round.ensures, c.if-items.true) in
    last_round heads c.args.drafts.now c.loop-round.round c.count_branches-round-end.result c.loop-round.choice c.in_ok-next.next c.loop-round.invariant c.loop-round-test.true c.count_branches-round-end.ensures (c.in_ok-next.ensures ∙ c.in_ok-grow.ensures) count

pub loop-round-preserved : goal.loop-round-preserved
loop-round-preserved c =
    next_round (head_in c.args.heads.now (length c.args.drafts.now)) c.args.drafts.now c.loop-round.round c.loop-round.choice c.in_ok-next.next c.loop-round.invariant (c.in_ok-next.ensures ∙ c.in_ok-grow.ensures)
