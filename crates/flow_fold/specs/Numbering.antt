-- The new numbers of blocks of which some are left.
use Rattle.std.specs.Prelude.{◌≡◌, ℕ, ◌+◌, ◌≤◌, Bool, List, length, slice_index_or}
use Rattle.ir_core.specs.declared.flat.Phi.{Phi}
use Rattle.flow_fold.specs.Blocks.{number_of, with_entries, phi_renamed}
use Rattle.flow_fold.specs.Walks.{marked_in}

-- of each block the number of marked ones before it, and at the end their number
pub record IsNumbering (marks : List Bool) (numbers : List ℕ) : Type 0 where
  pub long : length numbers ≡ length marks + 1
  pub each : (b : ℕ) → b ≤ length marks → slice_index_or numbers b 0 ≡ number_of (marked_in marks) b

-- a phi with the entries for blocks that are left, under their new numbers
abbrev pub phi_left : (ℕ → Bool) → Phi → Phi
phi_left keep f = phi_renamed (number_of keep) (with_entries (λ e. keep e.from.0) f)
