-- What the row of an instruction or of the end of a block owes: the machine carries it out.
use Rattle.std.specs.Prelude.{◌≡◌, ◌⊎◌, ℕ, ◌+◌, ◌-◌, List, [], ◌∷◌, drop, length}
use Rattle.oi_base.specs.Turns.{Turn}
use Rattle.oi_base.specs.Follows.{Ended}
use Rattle.ir_core.specs.declared.flat.FlatBlock.{FlatBlock}
use Rattle.ir_core.specs.Flat.{Program, Run, flat_step, seen}
use Rattle.rv_isa.specs.Isa.{Machine, Exit, step}
use Rattle.rv_isa.specs.Refines.{Agrees, Breaks, Overflows}
use Rattle.rv_select.specs.Stands.{Object, StandsFor, body_in}

-- both ended with one word, after one output
pub record BothEnded (r : Run) (m : Machine) : Type 0 where
  pub word : ℕ
  pub ended : r.status ≡ Ended word
  pub exited : m.stop ≡ Exit word
  pub output : m.output ≡ r.output

-- the machine's state stands for the run's, wherever the blocks lie, or both ended
abbrev pub IsMatched : Object → Program → Run → Machine → Type 0
IsMatched o p r m = ((at : ℕ → ℕ) × StandsFor o p at r m) ⊎ BothEnded r m

-- the instructions and ends of some blocks
abbrev pub count : List FlatBlock → ℕ
count [] = 0
count (k ∷ ks) = length k.code + 1 + count ks

-- those from where a run stands on, in the order of its function's text: a turn that takes the machine no step goes on there
abbrev pub left : Program → Run → ℕ
left p r = count (drop r.top.block (body_in p r.top.func).blocks) - r.top.place

-- The run's next turn is matched by the machine: it comes to a state that stands for the run's next, and meanwhile agrees with the
-- run before or after the turn; or the turn is undefined; or the stack ends, and frames of this size, the largest, exceed it.
abbrev pub IsCarriedOut : Object → Program → ℕ → Run → Machine → Type 0
IsCarriedOut o p largest r m = Turn (flat_step p) (step o.segments) (IsMatched o p) (λ x y. Agrees (seen x) y) (λ x y. Breaks (seen x) y) (λ x y. Overflows largest (seen x) y) (left p) r m
