-- The code of a body.
use Rattle.frame_layout.specs.declared.laying.TheConstants.{LARGEST_FRAME}
use Rattle.rv_select.specs.declared.selecting.TheConstants.{LARGEST_CODE}
use Rattle.std.specs.Prelude.{◌≡◌, ℕ, ◌+◌, ◌*◌, ◌<◌, ◌≤◌, min, Bool, List, ◌++◌, Some, length, take, slice_get}
use Rattle.oi_base.specs.declared.ids.FuncId.{FuncId}
use Rattle.ir_core.specs.declared.flat.FlatBody.{FlatBody}
use Rattle.frame_layout.specs.Offsets.{Offsets}
use Rattle.frame_layout.specs.Frame.{frame, frame_of}
use Rattle.rv_select.specs.declared.item.Item.{Item}
use Rattle.rv_select.specs.declared.item.Item.TheVariants.{CallHigh, CallLow}
use Rattle.rv_select.specs.declared.item.Draft.{Draft}
use Rattle.rv_select.specs.declared.faults.Cause.{Cause}
use Rattle.rv_select.specs.declared.faults.Cause.TheVariants.{Weight, Frame, Code}
use Rattle.rv_select.specs.declared.faults.SelectFault.{SelectFault}
use Rattle.rv_select.specs.declared.faults.SelectFault.TheVariants as fault
use Rattle.rv_select.specs.Branches.{place, settled}
use Rattle.rv_select.specs.Pending.{items_from}
use Rattle.rv_select.specs.Lowered.{blocks_from, prologue}

-- the drafts of the prologue and of the first n blocks
abbrev pub drafts_before : Offsets → FlatBody → ℕ → List Draft
drafts_before f b n = prologue f b.params ++ blocks_from f b.blocks 0 (take n b.blocks)

abbrev pub drafts : Offsets → FlatBody → List Draft
drafts f b = prologue f b.params ++ blocks_from f b.blocks 0 b.blocks

-- the number of the draft at which block n begins
abbrev pub block_head : Offsets → FlatBody → ℕ → ℕ
block_head f b n = length (drafts_before f b n)

-- which of its drafts are long branches
abbrev pub longs : Offsets → FlatBody → List Bool
longs f b = settled (block_head f b) (drafts f b)

-- where block n begins, in bytes from the code's start
abbrev pub block_place : Offsets → FlatBody → ℕ → ℕ
block_place f b n = place (longs f b) (block_head f b n)

-- the items of drafts under a choice of long branches, where each block begins at the draft of this number
abbrev pub items_of : (ℕ → ℕ) → List Bool → List Draft → List Item
items_of heads longs ds = items_from (λ n. place longs (heads n)) longs 0 ds

-- with this frame
abbrev pub code_with : Offsets → FlatBody → List Item
code_with f b = items_of (block_head f b) (longs f b) (drafts f b)

unfoldable pub code : FlatBody → List Item
code b = code_with (frame_of b) b

-- the size in bytes
abbrev pub code_bytes : FlatBody → ℕ
code_bytes b = 4 * length (code b)

-- each high half of a call stands directly before the low half of a call of the same function, and each low half directly after
-- such a high half
pub record ArePaired (is : List Item) : Type 0 where
  pub high : (k : ℕ) (f : FuncId) → slice_get is k ≡ Some (CallHigh f) → slice_get is (k + 1) ≡ Some (CallLow f)
  pub low : (k : ℕ) (f : FuncId) → slice_get is k ≡ Some (CallLow f) → (j : ℕ) × (k ≡ j + 1) × (slice_get is j ≡ Some (CallHigh f))

-- a body has no size for this cause: its frame is too large, or else its code is; a number that no `u64` holds is given as the greatest
abbrev pub IsTooMuch : FlatBody → ℕ → Cause → Type 0
IsTooMuch b number Weight = ⊥
IsTooMuch b number Frame = (LARGEST_FRAME < frame b) × (number ≡ frame b)
IsTooMuch b number Code = (frame b ≤ LARGEST_FRAME) × (LARGEST_CODE < code_bytes b) × (number ≡ min (code_bytes b) 18446744073709551615)

abbrev pub IsRefused : FlatBody → SelectFault → Type 0
IsRefused b (fault.NoSize n) = IsTooMuch b n.number n.cause
IsRefused b fault.NoMemory = Unit {0}
