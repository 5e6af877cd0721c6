-- Merges, the names that blocks have after them, and how many edges lead to a block.
use Rattle.std.specs.Prelude.{◌≡◌, ℕ, ◌+◌, ◌<◌, Bool, not, ◌&&◌, nat_eq, if◌then◌else◌, List, [], ◌∷◌, map, length, Option, Some, None, slice_get, slice_index_or, Contains}
use Rattle.std.specs.List.{fold}
use Rattle.ir_core.specs.declared.flat.FlatBlock.{FlatBlock}
use Rattle.ir_core.specs.Formed.{targets}
use Rattle.flow_fold.specs.declared.merger.Merge.{Merge}
use Rattle.flow_fold.specs.declared.merger.Merger.{Merger}
use Rattle.flow_fold.specs.Blocks.{one_if}
use Rattle.flow_fold.specs.MergeBlocks.{Merging, one_name, plain_target, renamed_in}
use Rattle.flow_fold.specs.Walks.{marked_in}

-- the names after one merge more
abbrev pub renaming : (ℕ → ℕ) → Merge → ℕ → ℕ
renaming name x b = one_name x.into.0 x.from.0 (name b)

abbrev pub names : List Merge → ℕ → ℕ
names ms = fold renaming (λ b. b) ms

-- the name of a block in a list of names; what is past it has its own
abbrev pub name_in : List ℕ → ℕ → ℕ
name_in ns b = slice_index_or ns b b

-- how often a number stands in a list
abbrev pub count : ℕ → List ℕ → ℕ
count t [] = 0
count t (x ∷ xs) = one_if (nat_eq x t) + count t xs

-- how many edges lead to a block
abbrev pub edge_count : ℕ → List FlatBlock → ℕ
edge_count t [] = 0
edge_count t (k ∷ ks) = count t (targets k.end) + edge_count t ks

abbrev pub count_in : List ℕ → ℕ → ℕ
count_in counts t = slice_index_or counts t 0

-- the block that is merged into n next, where n goes there, by the counts of edges
abbrev pub next_where : ℕ → List ℕ → Option ℕ → Option ℕ
next_where n counts None = None
next_where n counts (Some m) = if not (nat_eq m 0) && not (nat_eq m n) && nat_eq (count_in counts m) 1 then Some m else None

abbrev pub next_merge : ℕ → List ℕ → FlatBlock → Option ℕ
next_merge n counts k = next_where n counts (plain_target k.end)

-- counts and numbers are in range
pub record IsSound (size : ℕ) (c : Merger) : Type 0 where
  pub long : length c.blocks.items ≡ size
  pub long_left : length c.left ≡ size
  pub long_counts : length c.counts ≡ size
  pub counted : (t : ℕ) → count_in c.counts t ≡ edge_count t c.blocks.items
  pub within : (a t : ℕ) (k : FlatBlock) → slice_get c.blocks.items a ≡ Some k → Contains (targets k.end) t → t < size
  pub merges : (x : Merge) → Contains c.merges x → x.from.0 < size

-- the blocks are those of the definition but for the names in phis
pub record Shows (s : Merging) (c : Merger) : Type 0 where
  pub blocks : s.blocks ≡ map (renamed_in (names c.merges)) c.blocks.items
  pub left : s.left ≡ marked_in c.left
