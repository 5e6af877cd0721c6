use Rattle.std.proofs.Common.{◌≡◌, ◌++◌, drop, length}
use Rattle.rv_select.specs.Branches.{place}
use Rattle.rv_select.specs.Pending.{items_from}
use Rattle.rv_select.specs.Heads.{head_in}
use Rattle.rv_select.specs.Code.{items_of}
use Rattle.rv_select.proofs.selecting.items.Given as goal

abbrev pub invariant-loop-k : goal.invariant-loop-k
invariant-loop-k l = l.items.items ++ items_from (λ n. place l.choice (head_in l.heads (length l.drafts) n)) l.choice l.k (drop l.k l.drafts) ≡ items_of (head_in l.heads (length l.drafts)) l.choice l.drafts
