-- What the bounded machine has to do with the definition's, whose output has no bound.
use Rattle.std.specs.Prelude.{ℕ, zero, suc, ◌≡◌, ◌+◌, ◌≤◌, ◌<◌, true, false, if◌then◌else◌, List, length}
use Rattle.rv_isa.specs.Memory.{Segments}
use Rattle.rv_isa.specs.Isa.{Machine, step, loaded, run}
use Rattle.rv_machine.specs.State.{Bounded, output_room, carried, runs}

-- how many instructions a machine carries out in n turns
abbrev pub carried_in : Segments → ℕ → Machine → ℕ
carried_in s zero m = 0
carried_in s (suc n) m = (if runs m.stop then carried (step s m).stop else 0) + carried_in s n (step s m)

-- it is the definition's machine after n turns
pub record IsRun (s : Segments) (input : List ℕ) (n : ℕ) (b : Bounded) : Type 0 where
  pub machine : b.machine ≡ run s input n
  pub full : b.full ≡ false
  pub steps : b.steps ≡ carried_in s n (loaded s input)

-- it is full, and the definition's machine before the turn that put more than there is room for
pub record IsFull (s : Segments) (input : List ℕ) (n : ℕ) (b : Bounded) : Type 0 where
  pub turns : ℕ
  pub fewer : turns < n
  pub machine : b.machine ≡ run s input turns
  pub full : b.full ≡ true
  pub steps : b.steps ≡ carried_in s turns (loaded s input)
  pub fits : length (run s input turns).output ≤ output_room
  pub more : output_room < length (run s input (suc turns)).output
