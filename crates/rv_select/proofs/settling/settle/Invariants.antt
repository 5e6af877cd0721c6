use Rattle.std.proofs.Common.{◌≡◌, length}
use Rattle.std.specs.Fn.{iterate}
use Rattle.rv_select.specs.Branches.{grown, all_short}
use Rattle.rv_select.specs.Heads.{head_in}
use Rattle.rv_select.proofs.settling.settle.Given as goal

abbrev pub invariant-loop-round : goal.invariant-loop-round
invariant-loop-round l = l.choice ≡ iterate (grown (head_in l.heads (length l.drafts)) l.drafts) l.round (all_short l.drafts)
