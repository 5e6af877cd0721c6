-- What is seen of a run of IR, and what it is that one run follows another.
use Rattle.std.specs.Prelude.{ℕ, ◌≡◌, ◌≤◌, ◌⊎◌, List, ◌++◌}

-- how a run stands: it goes on, has ended with a word, is undefined, or is stuck, since a register without a value or
-- a value of another type was asked for
pub data Status : Type 0 where
  Going : Status
  Ended : (word : ℕ) → Status
  Undefined : Status
  Stuck : Status

-- what is seen of a run after some turns: its output, how it stands, and how many activations haven't returned
pub record Seen : Type 0 where
  pub output : List ℕ
  pub status : Status
  pub depth : ℕ

-- a status that a follower has to share: nothing is asked of it where the run is undefined, and a run that is stuck has
-- no follower
abbrev pub IsLasting : Status → Type 0
IsLasting Going = Unit {0}
IsLasting (Ended word) = Unit {0}
IsLasting Undefined = ⊥
IsLasting Stuck = ⊥

abbrev pub IsPrefix : List ℕ → List ℕ → Type 0
IsPrefix xs ys = (rest : List ℕ) × (xs ++ rest ≡ ys)

-- both have the same output and go on, or ended with the same word
pub record Agrees (r s : Seen) : Type 0 where
  pub same_output : r.output ≡ s.output
  pub same_status : r.status ≡ s.status
  pub lasting : IsLasting r.status

-- the source is undefined, and what the follower wrote begins with its output
pub record Breaks (r s : Seen) : Type 0 where
  pub undefined : r.status ≡ Undefined
  pub kept : IsPrefix r.output s.output

-- The run s follows the run r, on one input: at each of its turns it stands as r does at some turn, and is no deeper, or
-- r is undefined there; and where r goes on or has ended, s stands so at some turn of its own.
pub record Follows (r s : ℕ → Seen) : Type 0 where
  pub to_source : (n : ℕ) → (m : ℕ) × (Breaks (r m) (s n) ⊎ (Agrees (r m) (s n) × ((s n).depth ≤ (r m).depth)))
  pub to_follower : (m : ℕ) → IsLasting (r m).status → (n : ℕ) × Agrees (r m) (s n)
