-- Branches that are decided, and the phi entries that go with the last edge between two blocks.
use Rattle.std.specs.Prelude.{ℕ, Bool, false, not, ◌&&◌, nat_eq, if◌then◌else◌, List, [], ◌∷◌, map, Option, Some, None, slice_get}
use Rattle.ir_core.specs.declared.flat.FlatOp.{FlatOp}
use Rattle.oi_base.specs.declared.words.Width.{Width}
use Rattle.oi_base.specs.declared.ids.BlockId.{BlockId}
use Rattle.ir_core.specs.declared.flat.Case.{Case}
use Rattle.ir_core.specs.declared.flat.Entry.{Entry}
use Rattle.ir_core.specs.declared.flat.FlatEnd.{FlatEnd}
use Rattle.ir_core.specs.declared.flat.FlatEnd.TheVariants.{Ret, Br, Cond, Switch, Unreachable}
use Rattle.ir_core.specs.declared.flat.FlatBlock.{FlatBlock}
use Rattle.ir_core.specs.declared.flat.FlatBody.{FlatBody}
use Rattle.ir_core.specs.Flat.{case_for}
use Rattle.flow_fold.specs.Targets.{goes_to}
use Rattle.const_fold.specs.Operands.{word_of_op}
use Rattle.flow_fold.specs.Blocks.{by_number, with_entries}

-- a branch on a word, or to two equal blocks
abbrev pub cond_decided : Option ℕ → FlatOp → BlockId → BlockId → FlatEnd
cond_decided (Some z) c t f = Br (if nat_eq z 0 then f else t)
cond_decided None c t f = if nat_eq t.0 f.0 then Br t else Cond c t f

-- a switch on a word, or without cases
abbrev pub switch_decided : Option ℕ → FlatOp → Width → List Case → BlockId → FlatEnd
switch_decided (Some z) a w cases other = Br (case_for z cases other)
switch_decided None a w [] other = Br other
switch_decided None a w (c ∷ cs) other = Switch a w (c ∷ cs) other

-- a terminator that can be decided is a plain branch
abbrev pub decided : FlatEnd → FlatEnd
decided (Ret a) = Ret a
decided (Br b) = Br b
decided (Cond c t f) = cond_decided (word_of_op c) c t f
decided (Switch a w cases other) = switch_decided (word_of_op a) a w cases other
decided Unreachable = Unreachable

-- whether a block went to block b and does no longer
abbrev pub leaves : ℕ → Option FlatBlock → Bool
leaves b None = false
leaves b (Some k) = goes_to b k.end && not (goes_to b (decided k.end))

-- an entry stays unless the last edge from its block went
abbrev pub still_comes : FlatBody → ℕ → Entry → Bool
still_comes body b e = not (leaves b (slice_get body.blocks e.from.0))

abbrev pub block_decided : FlatBody → ℕ → FlatBlock → FlatBlock
block_decided body b k = record { phis = map (with_entries (still_comes body b)) k.phis; code = k.code; end = decided k.end }

-- the body with its branches folded
unfoldable pub branches_folded : FlatBody → FlatBody
branches_folded body = record body { blocks = by_number (block_decided body) 0 body.blocks }
