-- The blocks that a terminator goes to.
use Rattle.std.specs.Prelude.{ℕ, Bool, nat_eq}
use Rattle.std.specs.List.{list_any}
use Rattle.ir_core.specs.declared.flat.FlatEnd.{FlatEnd}
use Rattle.ir_core.specs.Formed.{targets}

-- whether a terminator goes to a block
abbrev pub goes_to : ℕ → FlatEnd → Bool
goes_to b e = list_any (λ t. nat_eq t b) (targets e)
