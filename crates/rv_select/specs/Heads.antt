-- Where blocks begin in a code that is being built.
use Rattle.rv_select.specs.declared.selecting.TheConstants.{LARGEST_CODE}
use Rattle.std.specs.Prelude.{◌≡◌, ℕ, ◌+◌, ◌<◌, ◌≤◌, min, Bool, All, List, [], ◌∷◌, length, take, slice_index_or}
use Rattle.ir_core.specs.declared.flat.FlatBlock.{FlatBlock}
use Rattle.frame_layout.specs.Offsets.{Offsets}
use Rattle.rv_select.specs.declared.faults.Cause.TheVariants.{Code}
use Rattle.rv_select.specs.declared.faults.SelectFault.{SelectFault}
use Rattle.rv_select.specs.declared.faults.SelectFault.TheVariants as fault
use Rattle.rv_select.specs.Branches.{count_true}
use Rattle.rv_select.specs.Lowered.{block, HasFewArguments}

-- each call of a block has at most eight arguments
abbrev pub HasFewIn : FlatBlock → Type 0
HasFewIn k = All HasFewArguments k.code

-- at which draft each block from number n on begins, where the first begins at this one
abbrev pub heads_from : Offsets → List FlatBlock → ℕ → ℕ → List FlatBlock → List ℕ
heads_from f blocks n at [] = []
heads_from f blocks n at (k ∷ ks) = at ∷ heads_from f blocks (n + 1) (at + length (block f blocks n k)) ks

-- the number of the draft at which a block begins; a block that is not there begins at the end
abbrev pub head_in : List ℕ → ℕ → ℕ → ℕ
head_in heads end b = slice_index_or heads b end

-- these are the numbers of those that are true before each bit, and before the end
abbrev pub AreCounts : List Bool → List ℕ → Type 0
AreCounts bits counts = (length counts ≡ length bits + 1) × ((k : ℕ) → k ≤ length bits → slice_index_or counts k 0 ≡ count_true (take k bits))

-- a code of so many bytes is refused since it is too long; a number that no `u64` holds is given as the greatest
abbrev pub IsTooLong : ℕ → SelectFault → Type 0
IsTooLong bytes (fault.NoSize n) = (n.cause ≡ Code) × (LARGEST_CODE < bytes) × (n.number ≡ min bytes 18446744073709551615)
IsTooLong bytes fault.NoMemory = Unit {0}
