use Rattle.std.proofs.Common.{◌≡◌, take}
use Rattle.std.specs.List.{count_by}
use Rattle.rv_select.specs.Branches.{is_branch}
use Rattle.rv_select.proofs.settling.count_branches.Given as goal

abbrev pub invariant-loop-draft : goal.invariant-loop-draft
invariant-loop-draft l = l.branches ≡ count_by is_branch (take l.draft-index l.drafts)
