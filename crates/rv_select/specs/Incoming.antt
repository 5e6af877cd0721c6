-- The values that phis take by the block that control comes from, and a table of them.
use Rattle.std.specs.Prelude.{◌≡◌, ℕ, Bool, ◌&&◌, ◌==◌, List, Option, Some, None, slice_get}
use Rattle.std.specs.Map.{lookup}
use Rattle.ir_core.specs.declared.flat.FlatOp.{FlatOp}
use Rattle.ir_core.specs.declared.flat.Phi.{Phi}
use Rattle.ir_core.specs.declared.flat.FlatBlock.{FlatBlock}
use Rattle.ir_core.specs.Flat.{entry_for}
use Rattle.rv_select.specs.Lowered.{phis_of}

-- the value that a phi has for a block; a phi that is not there has none
abbrev pub value_for : ℕ → Option Phi → Option FlatOp
value_for from None = None
value_for from (Some p) = entry_for from p.entries

-- an edge into a phi: the numbers of the phi's block, of the phi among those there, and of the block that control comes from
abbrev pub PhiEdge : Type 0
PhiEdge = ℕ × ℕ × ℕ

-- two edges are the same
abbrev pub same_edge : PhiEdge → PhiEdge → Bool
same_edge d e = d.0 == e.0 && d.1 == e.1 && d.2 == e.2

-- the value at an edge, if the table has one
abbrev pub value_at : List (PhiEdge × FlatOp) → ℕ → ℕ → ℕ → Option FlatOp
value_at values to position from = lookup (same_edge (to, position, from)) values

-- the table has exactly the values of these blocks' phis
abbrev pub HasIncoming : List (PhiEdge × FlatOp) → List FlatBlock → Type 0
HasIncoming values blocks = (to position from : ℕ) → value_at values to position from ≡ value_for from (slice_get (phis_of (slice_get blocks to)) position)
