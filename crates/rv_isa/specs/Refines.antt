-- What it is that an object refines a run of IR.
use Rattle.std.specs.Prelude.{ℕ, ◌≡◌, ◌*◌, ◌<◌, ◌⊎◌}
use Rattle.oi_base.specs.Follows.{Status, Going, Ended, Undefined, Seen, IsPrefix, IsLasting}
use Rattle.rv_isa.specs.Isa.{Machine, Stop, Running, Exit, Stack}
use Rattle.rv_isa.specs.Memory.{stack_size}

-- the object stands as the run does
pub data Same : Status → Stop → Type 0 where
  both_go : Same Going Running
  both_end : (word : ℕ) → Same (Ended word) (Exit word)

-- both have the same output, and go on or ended with the same word
pub record Agrees (r : Seen) (o : Machine) : Type 0 where
  pub same_output : r.output ≡ o.output
  pub same_status : Same r.status o.stop

-- the run is undefined, and what the object put begins with its output
pub record Breaks (r : Seen) (o : Machine) : Type 0 where
  pub undefined : r.status ≡ Undefined
  pub kept : IsPrefix r.output o.output

-- the object's stack ended, at a depth at which frames of this size, the largest, exceed it
pub record Overflows (largest : ℕ) (r : Seen) (o : Machine) : Type 0 where
  pub stopped : (a : ℕ) × (o.stop ≡ Stack a)
  pub same_output : r.output ≡ o.output
  pub deep : stack_size < r.depth * largest

-- The object's run refines the run of IR, on one input: after any number of its steps it stands as the run does after
-- some number of turns, or the run is undefined there, or the object's stack ended for its depth; and where the run goes
-- on or has ended, the object stands so after some number of steps, unless its stack ended.
pub record Refines (largest : ℕ) (r : ℕ → Seen) (o : ℕ → Machine) : Type 0 where
  pub to_source : (n : ℕ) → (m : ℕ) × ((Agrees (r m) (o n) ⊎ Breaks (r m) (o n)) ⊎ Overflows largest (r m) (o n))
  pub to_object : (m : ℕ) → IsLasting (r m).status → (n : ℕ) × (Agrees (r m) (o n) ⊎ ((a : ℕ) × ((o n).stop ≡ Stack a)))
