-- What tells that a body has no branch to be folded.
use Rattle.std.specs.Prelude.{Bool, is_some}
use Rattle.ir_core.specs.declared.flat.FlatBlock.{FlatBlock}
use Rattle.flow_fold.specs.Changes.{change}

-- whether the terminator of a block is decided, and no plain branch yet
abbrev pub is_decided : FlatBlock → Bool
is_decided k = is_some (change k.end)
