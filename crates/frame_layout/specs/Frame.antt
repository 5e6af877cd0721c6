-- The frame of a body. The return address is at 0. From 4 on each parameter, and then each register in the order of the body's
-- text but allocas, has four bytes; a phi has eight, its slot and then its shadow. Then each alloca, in that order, stands at the next
-- multiple of its alignment. The whole is rounded up to 16 bytes (RISC-V ELF psABI, "Integer Calling Convention").
use Rattle.frame_layout.specs.declared.laying.TheConstants.{LARGEST_FRAME}
use Rattle.std.specs.Prelude.{◌≡◌, ◌<◌, ℕ, List, map, replicate, Option}
use Rattle.std.specs.List.{range_with_len}
use Rattle.std.specs.Int.{next_multiple_of}
use Rattle.ir_core.specs.declared.flat.FlatBody.{FlatBody}
use Rattle.frame_layout.specs.declared.parts.Part.{Part}
use Rattle.frame_layout.specs.declared.homes.Home.{Home}
use Rattle.frame_layout.specs.declared.homes.Home.TheVariants.{NoHome}
use Rattle.frame_layout.specs.declared.faults.FrameFault.{FrameFault}
use Rattle.frame_layout.specs.declared.faults.FrameFault.TheVariants.{FrameTooLarge, NoMemory}
use Rattle.frame_layout.specs.Parts.{slots, parts, end_of_all}
use Rattle.frame_layout.specs.Homes.{home_among, with_homes, slot_in, shadow_in, place_in}
use Rattle.frame_layout.specs.Offsets.{Offsets}

-- the size in bytes of a frame with these parts after the return address
abbrev pub size : List Part → ℕ
size ps = next_multiple_of (end_of_all 4 ps) 16

-- the size in bytes
unfoldable pub frame : FlatBody → ℕ
frame b = size (parts b)

-- where the slots end
unfoldable pub slots_end : FlatBody → ℕ
slots_end b = end_of_all 4 (slots b)

-- where a register is kept
unfoldable pub home : FlatBody → ℕ → Home
home b r = home_among 4 (parts b) r

-- the offsets of a register's slot, of its shadow and of its alloca's memory
abbrev pub slot : FlatBody → ℕ → Option ℕ
slot b r = slot_in (home b r)

abbrev pub shadow : FlatBody → ℕ → Option ℕ
shadow b r = shadow_in (home b r)

abbrev pub place : FlatBody → ℕ → Option ℕ
place b r = place_in (home b r)

-- as contracts see it
unfoldable pub frame_of : FlatBody → Offsets
frame_of b = record { bytes = frame b; homes = map (home b) (range_with_len 0 b.regs) }

-- a frame of this size is refused since it is too large, and the fault has the size
abbrev pub IsRefused : ℕ → FrameFault → Type 0
IsRefused size (FrameTooLarge n) = (LARGEST_FRAME < size) × (n ≡ size)
IsRefused size NoMemory = Unit {0}

-- what a table of so many registers holds, into which the home of each part was written
abbrev pub offsets : ℕ → List Part → Offsets
offsets n ps = record { bytes = size ps; homes = with_homes (replicate n NoHome) 4 ps }
