-- Blocks to which no path leads from the entry.
use Rattle.std.specs.Prelude.{ℕ, Bool, false, length, Option, Some, None, slice_get}
use Rattle.ir_core.specs.declared.flat.FlatBlock.{FlatBlock}
use Rattle.ir_core.specs.declared.flat.FlatBody.{FlatBody}
use Rattle.flow_fold.specs.Targets.{goes_to}
use Rattle.flow_fold.specs.Ways.{leads}
use Rattle.flow_fold.specs.Blocks.{only_blocks}

-- whether a block, if there is one, goes to block b
abbrev pub block_goes_to : ℕ → Option FlatBlock → Bool
block_goes_to b None = false
block_goes_to b (Some k) = goes_to b k.end

-- whether an edge leads from block a to block b
abbrev pub has_edge : FlatBody → ℕ → ℕ → Bool
has_edge body a b = block_goes_to b (slice_get body.blocks a)

-- whether a path leads from the entry to block b
abbrev pub is_reached : FlatBody → ℕ → Bool
is_reached body b = leads (has_edge body) (length body.blocks) 0 b

-- the body without the blocks that are not reached
unfoldable pub unreached_dropped : FlatBody → FlatBody
unreached_dropped body = only_blocks (is_reached body) body
