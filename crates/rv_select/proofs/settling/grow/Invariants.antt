use Rattle.std.proofs.Common.{◌≡◌, ◌++◌, drop, length}
use Rattle.rv_select.specs.Branches.{grown_from, grown}
use Rattle.rv_select.specs.Heads.{head_in}
use Rattle.rv_select.proofs.settling.grow.Given as goal

abbrev pub invariant-loop-at : goal.invariant-loop-at
invariant-loop-at l = l.longs.items ++ grown_from (head_in l.heads (length l.drafts)) l.choice l.at (drop l.at l.drafts) ≡ grown (head_in l.heads (length l.drafts)) l.drafts l.choice
