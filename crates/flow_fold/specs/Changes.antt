-- Which terminators are decided, and the entries that stay.
use Rattle.std.specs.Prelude.{ℕ, Bool, true, nat_eq, if◌then◌else◌, List, [], ◌∷◌, map, Option, Some, None, slice_get}
use Rattle.oi_base.specs.declared.ids.BlockId.{BlockId}
use Rattle.ir_core.specs.declared.flat.Case.{Case}
use Rattle.ir_core.specs.declared.flat.Entry.{Entry}
use Rattle.ir_core.specs.declared.flat.FlatEnd.{FlatEnd}
use Rattle.ir_core.specs.declared.flat.FlatEnd.TheVariants.{Ret, Br, Cond, Switch, Unreachable}
use Rattle.ir_core.specs.declared.flat.FlatBlock.{FlatBlock}
use Rattle.ir_core.specs.Flat.{case_for}
use Rattle.const_fold.specs.Operands.{word_of_op}
use Rattle.flow_fold.specs.Blocks.{with_entries}
use Rattle.flow_fold.specs.FoldBranches.{decided}

abbrev pub cond_change : Option ℕ → BlockId → BlockId → Option BlockId
cond_change (Some z) t f = Some (if nat_eq z 0 then f else t)
cond_change None t f = if nat_eq t.0 f.0 then Some t else None

abbrev pub switch_change : Option ℕ → List Case → BlockId → Option BlockId
switch_change (Some z) cases other = Some (case_for z cases other)
switch_change None [] other = Some other
switch_change None (c ∷ cs) other = None

-- the one block to which a terminator goes that is decided
abbrev pub change : FlatEnd → Option BlockId
change (Ret a) = None
change (Br b) = None
change (Cond c t f) = cond_change (word_of_op c) t f
change (Switch a w cases other) = switch_change (word_of_op a) cases other
change Unreachable = None

abbrev pub with_change : FlatEnd → Option BlockId → FlatEnd
with_change e None = e
with_change e (Some b) = Br b

abbrev pub changes : List FlatBlock → List (Option BlockId)
changes blocks = map (λ (k : FlatBlock). change k.end) blocks

-- whether a block that is not decided, or is decided to go to block b, still goes there
abbrev pub goes_on : ℕ → Option (Option BlockId) → Bool
goes_on b None = true
goes_on b (Some None) = true
goes_on b (Some (Some c)) = nat_eq c.0 b

abbrev pub entry_stays : List (Option BlockId) → ℕ → Entry → Bool
entry_stays cs b e = goes_on b (slice_get cs e.from.0)

abbrev pub block_changed : List (Option BlockId) → ℕ → FlatBlock → FlatBlock
block_changed cs b k = record { phis = map (with_entries (entry_stays cs b)) k.phis; code = k.code; end = decided k.end }
