use Rattle.std.proofs.Common.{◌≡◌, ◌++◌, drop, length}
use Rattle.rv_select.specs.Lowered.{blocks_from}
use Rattle.rv_select.specs.Heads.{heads_from}
use Rattle.rv_select.proofs.selecting.push_blocks.Given as goal

abbrev pub invariant-loop-n : goal.invariant-loop-n
invariant-loop-n l =
    (l.code ++ blocks_from l.f l.blocks l.n (drop l.n l.blocks) ≡ l.fn.code ++ blocks_from l.f l.blocks 0 l.blocks)
    × (l.heads.items ++ heads_from l.f l.blocks l.n (length l.code) (drop l.n l.blocks) ≡ heads_from l.f l.blocks 0 (length l.fn.code) l.blocks)
