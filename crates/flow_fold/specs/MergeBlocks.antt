-- Merging: for each block in body order, while it ends in a plain branch to another block that isn't the entry and of which
-- it is the only predecessor, that block is merged into it.
use Rattle.std.specs.Prelude.{ℕ, zero, suc, Bool, true, false, not, ◌&&◌, ◌||◌, nat_eq, nat_lt, if◌then◌else◌, List, [], ◌∷◌, ◌++◌, map, length, Option, Some, None, slice_get, slice_set}
use Rattle.std.specs.Fn.{iterate}
use Rattle.ir_core.specs.declared.flat.FlatOp.{FlatOp}
use Rattle.ir_core.specs.declared.flat.FlatOp.TheVariants.{Poison}
use Rattle.ir_core.specs.declared.flat.Entry.{Entry}
use Rattle.ir_core.specs.declared.flat.Phi.{Phi}
use Rattle.ir_core.specs.declared.flat.FlatInstr.{FlatInstr}
use Rattle.ir_core.specs.declared.flat.FlatInstr.TheVariants.{Copy}
use Rattle.ir_core.specs.declared.flat.FlatEnd.{FlatEnd}
use Rattle.ir_core.specs.declared.flat.FlatEnd.TheVariants.{Ret, Br, Cond, Switch, Unreachable}
use Rattle.ir_core.specs.declared.flat.FlatBlock.{FlatBlock}
use Rattle.ir_core.specs.declared.flat.FlatBody.{FlatBody}
use Rattle.flow_fold.specs.Targets.{goes_to}
use Rattle.flow_fold.specs.Blocks.{phi_renamed, only_blocks}

-- the blocks, and which of them are left, since they were not merged into others
pub record Merging : Type 0 where
  pub blocks : List FlatBlock
  pub left : ℕ → Bool

-- block m has no predecessor but n, where the blocks' first number is a
abbrev pub comes_only : ℕ → ℕ → ℕ → List FlatBlock → Bool
comes_only n m a [] = true
comes_only n m a (k ∷ ks) = (nat_eq a n || not (goes_to m k.end)) && comes_only n m (suc a) ks

-- the block to which a plain branch goes
abbrev pub plain_target : FlatEnd → Option ℕ
plain_target (Br b) = Some b.0
plain_target (Ret a) = None
plain_target (Cond c t f) = None
plain_target (Switch a w cases other) = None
plain_target Unreachable = None

-- the value of the first entry
abbrev pub first_value : List Entry → FlatOp
first_value [] = Poison
first_value (e ∷ es) = e.value

-- a phi of a block with one predecessor is a copy
abbrev pub as_copy : Phi → FlatInstr
as_copy f = Copy f.reg (first_value f.entries)

-- a block with another behind it
abbrev pub joined : FlatBlock → FlatBlock → FlatBlock
joined k l = record { phis = k.phis; code = k.code ++ map as_copy l.phis ++ l.code; end = l.end }

-- what stands in the place of a block that was merged
abbrev pub empty_block : FlatBlock
empty_block = record { phis = []; code = []; end = Unreachable }

-- n in the place of m
abbrev pub one_name : ℕ → ℕ → ℕ → ℕ
one_name n m b = if nat_eq b m then n else b

-- a block whose phis name other blocks
abbrev pub renamed_in : (ℕ → ℕ) → FlatBlock → FlatBlock
renamed_in name k = record k { phis = map (phi_renamed name) k.phis }

-- block m is merged into n
abbrev pub merged : Merging → ℕ → ℕ → FlatBlock → FlatBlock → Merging
merged s n m k l = record {
  blocks = map (renamed_in (one_name n m)) (slice_set (slice_set s.blocks n (joined k l)) m empty_block);
  left = λ b. not (nat_eq b m) && s.left b;
}

abbrev pub merged_where : Merging → ℕ → ℕ → FlatBlock → Bool → Option FlatBlock → Merging
merged_where s n m k false l = s
merged_where s n m k true None = s
merged_where s n m k true (Some l) = merged s n m k l

abbrev pub merged_to : Merging → ℕ → FlatBlock → Option ℕ → Merging
merged_to s n k None = s
merged_to s n k (Some m) = merged_where s n m k (not (nat_eq m 0) && not (nat_eq m n) && comes_only n m 0 s.blocks) (slice_get s.blocks m)

abbrev pub merged_once_at : Merging → ℕ → Option FlatBlock → Merging
merged_once_at s n None = s
merged_once_at s n (Some k) = merged_to s n k (plain_target k.end)

-- where block n ends in a plain branch to another that isn't the entry and has no other predecessor, that one is merged into n
abbrev pub merged_once : ℕ → Merging → Merging
merged_once n s = merged_once_at s n (slice_get s.blocks n)

-- as long as there is such a one; each merging takes away one of the blocks
abbrev pub merged_behind : Merging → ℕ → Merging
merged_behind s n = iterate (merged_once n) (length s.blocks) s

-- the first n blocks, in their order
abbrev pub merged_through : ℕ → Merging → Merging
merged_through zero s = s
merged_through (suc n) s = merged_behind (merged_through n s) n

-- nothing is merged yet
abbrev pub unmerged : FlatBody → Merging
unmerged body = record { blocks = body.blocks; left = λ b. nat_lt b (length body.blocks) }

abbrev pub all_merged : FlatBody → Merging
all_merged body = merged_through (length body.blocks) (unmerged body)

-- the body with its blocks merged
unfoldable pub blocks_merged : FlatBody → FlatBody
blocks_merged body = let s = all_merged body in only_blocks s.left (record body { blocks = s.blocks })
