-- What a frame holds after the return address, in its order.
use Rattle.std.specs.Prelude.{ℕ, zero, suc, ◌+◌, ◌<◌, List, [], ◌∷◌, ◌++◌, map, Option, Some, None}
use Rattle.std.specs.List.{flat_map, filter_map}
use Rattle.std.specs.Int.{next_multiple_of}
use Rattle.std.specs.Option.{option_map}
use Rattle.oi_base.specs.declared.ids.RegId.{RegId}
use Rattle.ir_core.specs.declared.flat.Phi.{Phi}
use Rattle.ir_core.specs.declared.flat.FlatInstr.{FlatInstr}
use Rattle.ir_core.specs.declared.flat.FlatInstr.TheVariants.{Alloca}
use Rattle.ir_core.specs.declared.flat.FlatBlock.{FlatBlock}
use Rattle.ir_core.specs.declared.flat.FlatBody.{FlatBody}
use Rattle.ir_core.specs.Formed.{IsAlign, result_of}
use Rattle.frame_layout.specs.declared.parts.Need.{Need}
use Rattle.frame_layout.specs.declared.parts.Need.TheVariants.{Slot, SlotAndShadow, Memory}
use Rattle.frame_layout.specs.declared.parts.Part.{Part}

abbrev pub part : RegId → Need → Part
part r need = record { reg = r; need = need }

-- ---- which parts, and in which order

-- a slot for each of the first n registers
abbrev pub param_parts : ℕ → List Part
param_parts zero = []
param_parts (suc n) = param_parts n ++ part (record { 0 = n }) Slot ∷ []

-- a slot and its shadow for a phi
abbrev pub phi_part : Phi → Part
phi_part f = part f.reg SlotAndShadow

abbrev pub slot_for : RegId → Part
slot_for r = part r Slot

-- a slot for the register that an instruction writes, but of an alloca
abbrev pub slot_part : FlatInstr → Option Part
slot_part (Alloca d size align) = None
slot_part i = option_map slot_for (result_of i)

-- the memory of an alloca
abbrev pub alloca_part : FlatInstr → Option Part
alloca_part (Alloca d size align) = Some (part d (Memory size align))
alloca_part _ = None

-- of a block the phis come before the code
abbrev pub block_slots : FlatBlock → List Part
block_slots k = map phi_part k.phis ++ filter_map slot_part k.code

abbrev pub block_allocas : FlatBlock → List Part
block_allocas k = filter_map alloca_part k.code

-- each parameter, then each register in the order of the body's text but allocas, then each alloca in that order
abbrev pub slots : FlatBody → List Part
slots b = param_parts b.params ++ flat_map block_slots b.blocks

abbrev pub allocas : FlatBody → List Part
allocas b = flat_map block_allocas b.blocks

abbrev pub parts : FlatBody → List Part
parts b = slots b ++ allocas b

-- ---- where they stand

-- in bytes
abbrev pub size_of : Need → ℕ
size_of Slot = 4
size_of SlotAndShadow = 8
size_of (Memory size align) = size

-- where a part begins, where the one before it ends at an offset: an alloca at the next multiple of its alignment, a slot right there
abbrev pub begin_of : ℕ → Need → ℕ
begin_of at Slot = at
begin_of at SlotAndShadow = at
begin_of at (Memory size align) = next_multiple_of at align

abbrev pub end_of : ℕ → Need → ℕ
end_of at need = begin_of at need + size_of need

-- where the last of some parts ends
abbrev pub end_of_all : ℕ → List Part → ℕ
end_of_all at [] = at
end_of_all at (p ∷ ps) = end_of_all (end_of at p.need) ps

-- an alignment is 1, 2, 4, 8 or 16, and a size is below 2^32
abbrev pub IsNeed : Need → Type 0
IsNeed Slot = Unit {0}
IsNeed SlotAndShadow = Unit {0}
IsNeed (Memory size align) = IsAlign align × (size < 4294967296)

-- the part of a register below n
abbrev pub IsPart : ℕ → Part → Type 0
IsPart n p = (p.reg.0 < n) × IsNeed p.need
