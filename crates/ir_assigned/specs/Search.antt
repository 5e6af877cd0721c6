-- What the search for a path keeps.
use Rattle.std.specs.Prelude.{◌≡◌, ◌≢◌, ◌⊎◌, ℕ, ◌+◌, ◌<◌, ◌≤◌, ◌==◌, if◌then◌else◌, List, [], ◌∷◌, ◌++◌, length, Option, Some, None, slice_get, slice_set, slice_index_or}
use Rattle.ir_core.specs.declared.func.Func.{Func}
use Rattle.ir_core.specs.ValidPaths.{IsSuccessor}
use Rattle.ir_assigned.specs.BlockPaths.{IsRoute}
use Rattle.ir_assigned.specs.declared.search.Step.{Step}
use Rattle.ir_assigned.specs.declared.search.Aim.{Aim}
use Rattle.ir_assigned.specs.declared.search.Search.{Search}

pub record State : Type 0 where
  pub marks : List ℕ
  pub queue : List Step

abbrev pub state : Search → State
state s = record { marks = s.marks.items; queue = s.queue.items }

abbrev pub mark : State → ℕ → ℕ
mark s v = slice_index_or s.marks v 0

-- the search of this round came to the block
abbrev pub IsMarked : ℕ → State → ℕ → Type 0
IsMarked round s v = mark s v ≡ round

abbrev pub entered : ℕ → ℕ → ℕ → State → State
entered round v after s = record {
  marks = slice_set s.marks v round;
  queue = s.queue ++ record { block = v; after = after } ∷ [];
}

-- how many blocks the search of this round didn't come to
abbrev pub unmarked : ℕ → List ℕ → ℕ
unmarked round [] = 0
unmarked round (m ∷ ms) = (if m == round then 0 else 1) + unmarked round ms

abbrev pub left : ℕ → State → ℕ
left round s = unmarked round s.marks + length s.queue

-- marks of as many blocks, of this round and of earlier ones
pub record AreMarks (n round : ℕ) (s : State) : Type 0 where
  pub count : length s.marks ≡ n
  pub upto : (v : ℕ) → mark s v ≤ round

-- a block is offered: it is the one to go around or the search came to it, or the search comes to it
pub data IsOffered (aim : Aim) (v after : ℕ) (old new : State) : Type 0 where
  Skipped : (aim.around ≡ Some v) ⊎ IsMarked aim.round old v → new ≡ old → IsOffered aim v after old new
  Entered : (aim.around ≡ Some v → ⊥) → (IsMarked aim.round old v → ⊥) → new ≡ entered aim.round v after old → IsOffered aim v after old new

module _ (f : Func) (aim : Aim) where
  -- it isn't the entry, and the search came to all blocks before it, but the one to go around
  abbrev pub IsDone : State → ℕ → Type 0
  IsDone s v = (v ≢ 0) × ((u : ℕ) → IsSuccessor f u v → (aim.around ≡ Some u) ⊎ IsMarked aim.round s u)

  -- no path leads from the entry to where the searches of this round came
  abbrev pub IsClean : State → Type 0
  IsClean s = (v : ℕ) → IsMarked aim.round s v → IsDone s v

  abbrev pub IsWaiting : ℕ → State → ℕ → Type 0
  IsWaiting at s v = (i : ℕ) × (e : Step) × (at ≤ i) × (slice_get s.queue i ≡ Some e) × (e.block ≡ v)

  -- each step but the first goes to a successor, that of the step after it, and not from the block to go around
  abbrev pub AreSteps : List Step → Type 0
  AreSteps queue = (i : ℕ) (e : Step) → slice_get queue i ≡ Some e → 0 < i → (g : Step) × (e.after < i) × (slice_get queue e.after ≡ Some g) × IsSuccessor f e.block g.block × (aim.around ≡ Some e.block → ⊥)

  -- the search for a path to the block of the first step, where the steps before one are done
  pub record Inv (at : ℕ) (s : State) : Type 0 where
    pub marks : AreMarks (length f.blocks) aim.round s
    pub steps : AreSteps s.queue
    pub marked : (i : ℕ) (e : Step) → slice_get s.queue i ≡ Some e → IsMarked aim.round s e.block
    pub each : (v : ℕ) → IsMarked aim.round s v → IsDone s v ⊎ IsWaiting at s v

  -- the search comes to more blocks, and no step changes
  pub record Onward (old new : State) : Type 0 where
    pub marks : (v : ℕ) → IsMarked aim.round old v → IsMarked aim.round new v
    pub queue : (i : ℕ) (e : Step) → slice_get old.queue i ≡ Some e → slice_get new.queue i ≡ Some e

  -- blocks are offered
  pub record Spreads (at : ℕ) (vs : List ℕ) (old new : State) : Type 0 where
    pub inv : Inv at new
    pub onward : Onward old new
    pub left : left aim.round new ≡ left aim.round old
    pub offered : (k u : ℕ) → slice_get vs k ≡ Some u → (aim.around ≡ Some u) ⊎ IsMarked aim.round new u

  -- the search is over: no path leads from the entry, or a step is at the entry
  abbrev pub IsOver : Option ℕ → State → Type 0
  IsOver None s = IsClean s
  IsOver (Some at) s = AreSteps s.queue × ((e : Step) × (slice_get s.queue at ≡ Some e) × (e.block ≡ 0))

  -- blocks along the steps, from that of one to that of the first
  abbrev pub IsAlong : List Step → ℕ → List ℕ → Type 0
  IsAlong queue at path = (r e : Step) → slice_get queue 0 ≡ Some r → slice_get queue at ≡ Some e → (before : List ℕ) × (path ≡ before ++ r.block ∷ []) × IsRoute f aim.around r.block e.block before

  -- blocks along the steps from one to another, which isn't among them
  abbrev pub IsLeading : List Step → ℕ → ℕ → List ℕ → Type 0
  IsLeading queue at from path = (b : ℕ) (d e : Step) (rest : List ℕ) → slice_get queue at ≡ Some e → slice_get queue from ≡ Some d → IsRoute f aim.around b d.block rest → IsRoute f aim.around b e.block (path ++ rest)
