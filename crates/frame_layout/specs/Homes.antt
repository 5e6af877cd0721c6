-- Where a frame keeps each register.
use Rattle.frame_layout.specs.declared.laying.TheConstants.{LARGEST_FRAME}
use Rattle.std.specs.Prelude.{ℕ, ◌+◌, ◌≤◌, nat_eq, if◌then◌else◌, List, [], ◌∷◌, Option, Some, None, slice_set}
use Rattle.frame_layout.specs.declared.parts.Need.{Need}
use Rattle.frame_layout.specs.declared.parts.Need.TheVariants.{Slot, SlotAndShadow, Memory}
use Rattle.frame_layout.specs.declared.parts.Part.{Part}
use Rattle.frame_layout.specs.declared.homes.Home.{Home}
use Rattle.frame_layout.specs.declared.homes.Home.TheVariants.{NoHome, InSlot, OfPhi, InMemory}
use Rattle.frame_layout.specs.Parts.{begin_of, end_of}

-- what is kept at an offset
abbrev pub home_at : ℕ → Need → Home
home_at o Slot = InSlot o
home_at o SlotAndShadow = OfPhi o
home_at o (Memory size align) = InMemory o

-- the home of a register among parts that begin after an offset
abbrev pub home_among : ℕ → List Part → ℕ → Home
home_among at [] r = NoHome
home_among at (p ∷ ps) r = if nat_eq p.reg.0 r then home_at (begin_of at p.need) p.need else home_among (end_of at p.need) ps r

-- the offset of a register's slot, of a phi's shadow, which stands after its slot, and of an alloca's memory
abbrev pub slot_in : Home → Option ℕ
slot_in NoHome = None
slot_in (InSlot o) = Some o
slot_in (OfPhi o) = Some o
slot_in (InMemory o) = None

abbrev pub shadow_in : Home → Option ℕ
shadow_in NoHome = None
shadow_in (InSlot o) = None
shadow_in (OfPhi o) = Some (o + 4)
shadow_in (InMemory o) = None

abbrev pub place_in : Home → Option ℕ
place_in NoHome = None
place_in (InSlot o) = None
place_in (OfPhi o) = None
place_in (InMemory o) = Some o

-- a table of homes by register, with the homes of more parts, one after another
abbrev pub with_homes : List Home → ℕ → List Part → List Home
with_homes homes at [] = homes
with_homes homes at (p ∷ ps) = with_homes (slice_set homes p.reg.0 (home_at (begin_of at p.need) p.need)) (end_of at p.need) ps

-- an offset within the largest frame
abbrev pub IsLow : Home → Type 0
IsLow NoHome = Unit {0}
IsLow (InSlot o) = o ≤ LARGEST_FRAME
IsLow (OfPhi o) = o ≤ LARGEST_FRAME
IsLow (InMemory o) = o ≤ LARGEST_FRAME
