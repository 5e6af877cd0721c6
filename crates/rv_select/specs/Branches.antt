-- Branches that are near or far. A `beq` or `bne` reaches from 4096 bytes before itself to 4094 after it (RISC-V Unprivileged ISA,
-- "Conditional Branches"); where its block is farther, the opposite branch skips a `jal` to it. All branches begin short. Those
-- that do not reach their blocks become long, all at once, and this is repeated with the new places until all that are short do.
use Rattle.rv_select.specs.declared.settling.TheConstants.{REACH_BEFORE, REACH_AFTER}
use Rattle.std.specs.Prelude.{◌≡◌, ℕ, ◌+◌, ◌*◌, Bool, true, false, ◌||◌, nat_lt, List, [], ◌∷◌, map, take, slice_index_or}
use Rattle.std.specs.List.{count_by}
use Rattle.std.specs.Fn.{iterate}
use Rattle.rv_select.specs.declared.item.Draft.{Draft}
use Rattle.rv_select.specs.declared.item.Draft.TheVariants.{Fixed, Jump, Near}

-- a choice says of each draft whether it is a long branch
abbrev pub is_long : List Bool → ℕ → Bool
is_long longs k = slice_index_or longs k false

abbrev pub count_true : List Bool → ℕ
count_true bs = count_by (λ (b : Bool). b) bs

-- where draft k begins, in bytes from the code's start: a draft has four bytes, and a long branch eight
abbrev pub place : List Bool → ℕ → ℕ
place longs k = 4 * (k + count_true (take k longs))

-- a branch at one place does not reach another
abbrev pub is_far : ℕ → ℕ → Bool
is_far at to = nat_lt (to + REACH_BEFORE) at || nat_lt (at + REACH_AFTER) to

-- a branch, as draft k, does not reach its block, where each block begins at the draft of this number
abbrev pub is_out_of_reach : (ℕ → ℕ) → List Bool → ℕ → Draft → Bool
is_out_of_reach heads longs k (Near t r q b) = is_far (place longs k) (place longs (heads b.0))
is_out_of_reach heads longs k (Fixed i) = false
is_out_of_reach heads longs k (Jump b) = false

-- the choice after one round, for the drafts from number k on
abbrev pub grown_from : (ℕ → ℕ) → List Bool → ℕ → List Draft → List Bool
grown_from heads longs k [] = []
grown_from heads longs k (d ∷ ds) = (is_long longs k || is_out_of_reach heads longs k d) ∷ grown_from heads longs (k + 1) ds

abbrev pub grown : (ℕ → ℕ) → List Draft → List Bool → List Bool
grown heads ds longs = grown_from heads longs 0 ds

abbrev pub is_branch : Draft → Bool
is_branch (Near t r q b) = true
is_branch (Fixed i) = false
is_branch (Jump b) = false

-- all branches short
abbrev pub all_short : List Draft → List Bool
all_short ds = map (λ d. false) ds

-- each round but the last makes a branch long, so there are at most as many rounds as branches
abbrev pub settled : (ℕ → ℕ) → List Draft → List Bool
settled heads ds = iterate (grown heads ds) (count_by is_branch ds) (all_short ds)

-- each branch that is long in one choice is long in another
abbrev pub IsWithin : List Bool → List Bool → Type 0
IsWithin longs more = (k : ℕ) → is_long longs k ≡ true → is_long more k ≡ true
