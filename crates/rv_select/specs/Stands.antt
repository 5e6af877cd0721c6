-- When a state of the machine stands for a state of a run of flat bodies.
use Rattle.std.specs.Prelude.{◌≡◌, ◌≢◌, ◌⊎◌, ℕ, ◌+◌, ◌*◌, ◌/◌, ◌%◌, ◌^◌, ◌<◌, ◌≤◌, true, List, [], ◌∷◌, ◌++◌, length, take, Option, Some, None, unwrap_or, slice_get, All, Contains}
use Rattle.std.specs.Option.{option_map_or}
use Rattle.std.specs.List.{flat_map}
use Rattle.oi_base.specs.declared.ids.RegId.{RegId}
use Rattle.oi_base.specs.Follows.{Going}
use Rattle.ir_core.specs.declared.flat.FlatInstr.TheVariants.{Alloca}
use Rattle.ir_core.specs.declared.flat.FlatBlock.{FlatBlock}
use Rattle.ir_core.specs.declared.flat.FlatBody.{FlatBody}
use Rattle.ir_core.specs.Memory.{Value, Bits, At, NullPointer, Poisoned, Byte, Unset, PoisonByte, Octet, PartOf, Block, Memory, PointsWithin}
use Rattle.ir_core.specs.Rows.{is_live}
use Rattle.ir_core.specs.Flat.{Program, Activation, Run}
use Rattle.ir_core.specs.WellFormed.{IsWellFormed}
use Rattle.frame_layout.specs.declared.laying.TheConstants.{LARGEST_FRAME}
use Rattle.frame_layout.specs.Offsets.{Offsets}
use Rattle.frame_layout.specs.Frame.{frame, frame_of, slot, place}
use Rattle.frame_layout.specs.Laws.{HasInstr}
use Rattle.rv_isa.specs.declared.rv.Rv.{Rv}
use Rattle.rv_isa.specs.Memory.{Segments, read, bytes_at_load, text_start, data_start, stack_start, stack_end}
use Rattle.rv_isa.specs.Isa.{Machine, Running}
use Rattle.rv_isa.specs.Laws.{Kept, Holds}
use Rattle.rv_select.specs.declared.item.Draft.{Draft}
use Rattle.rv_select.specs.Branches as branches
use Rattle.rv_select.specs.Code.{code, drafts_before, longs}
use Rattle.rv_select.specs.Lowered.{head, instr}
use Rattle.rv_select.specs.Parts.{a0, store_slot}
use Rattle.rv_select.specs.Linked.{Link, linked, stub}

-- ---- objects

-- what is loaded, and the addresses that are filled in
pub record Object : Type 0 where
  pub segments : Segments
  pub link : Link

abbrev pub empty_body : FlatBody
empty_body = record { params = 0; regs = 0; blocks = [] }

-- a function's body, and the size of its frame
abbrev pub body_in : Program → ℕ → FlatBody
body_in p f = unwrap_or (p.body f) empty_body

abbrev pub frame_in : Program → ℕ → ℕ
frame_in p f = frame (body_in p f)

-- the drafts before instruction k of block n, or before what stands at the block's end
abbrev pub drafts_in_block : Offsets → Option FlatBlock → ℕ → List Draft
drafts_in_block f None k = []
drafts_in_block f (Some b) k = head f b.phis ++ flat_map (instr f) (take k b.code)

abbrev pub drafts_to : FlatBody → ℕ → ℕ → List Draft
drafts_to b n k = drafts_before (frame_of b) b n ++ drafts_in_block (frame_of b) (slice_get b.blocks n) k

-- where it begins, in bytes from the code's start
abbrev pub offset_of : FlatBody → ℕ → ℕ → ℕ
offset_of b n k = branches.place (longs (frame_of b) b) (length (drafts_to b n k))

-- where the machine goes on in an activation
abbrev pub goes_on : Object → Program → Activation → ℕ
goes_on o p a = o.link.entry a.func + offset_of (body_in p a.func) a.block a.place

-- ---- values and bytes

-- a word that stands for a value, where each block lies at its address: for poison and a pointer to a dead block it may
-- be any word
abbrev pub IsWordOf : Memory → (ℕ → ℕ) → Value → ℕ → Type 0
IsWordOf mem at (Bits n) w = w ≡ n
IsWordOf mem at (At b o) w = is_live (slice_get mem b) ≡ true → w ≡ (at b + o) % 4294967296
IsWordOf mem at NullPointer w = w ≡ 0
IsWordOf mem at Poisoned w = Unit {0}

-- the same of a byte; a part of a pointer is that byte of its word
abbrev pub IsByteOf : Memory → (ℕ → ℕ) → Byte → ℕ → Type 0
IsByteOf mem at Unset c = Unit {0}
IsByteOf mem at PoisonByte c = Unit {0}
IsByteOf mem at (Octet n) c = c ≡ n
IsByteOf mem at (PartOf b o k) c = is_live (slice_get mem b) ≡ true → c ≡ (((at b + o) % 4294967296) / 256 ^ k) % 256

-- a value names only blocks that were made, with offsets of 32 bits
abbrev pub IsMade : ℕ → Value → Type 0
IsMade n (At b o) = (b < n) × (o < 4294967296)
IsMade n v = Unit {0}

-- ---- frames on the stack

-- the registers of an activation of this body, with its frame at s: each that has a value has a home, and there its
-- value, or it is an alloca's, whose value is the address of its home
pub record RegsStand (mem : Memory) (at bytes : ℕ → ℕ) (b : FlatBody) (s : ℕ) (regs : ℕ → Option Value) : Type 0 where
  pub slots : (r o : ℕ) (v : Value) → slot b r ≡ Some o → regs r ≡ Some v → IsWordOf mem at v (read bytes 4 (s + o))
  pub allocas : (r o : ℕ) (v : Value) → place b r ≡ Some o → regs r ≡ Some v → (i : ℕ) × (v ≡ At i 0) × (at i ≡ s + o)
  pub homes : (r : ℕ) (v : Value) → regs r ≡ Some v → ((o : ℕ) × (slot b r ≡ Some o)) ⊎ ((o : ℕ) × (place b r ≡ Some o))

-- the result of a call, from a0 into the slot of the register that waits for it
abbrev pub result_code : FlatBody → Option RegId → List Rv
result_code b None = []
result_code b (Some d) = option_map_or (store_slot a0) (slot b d.0) []

-- where the machine goes on after a return: from the first activation in the stub, after its call; else in the caller, where
-- the result is put into its slot before the next instruction
abbrev pub ReturnsTo : Object → Program → Option RegId → List Activation → ℕ → Type 0
ReturnsTo o p waiting [] back = back ≡ text_start + 8
ReturnsTo o p waiting (a ∷ as') back = Holds o.segments back (result_code (body_in p a.func) waiting) × (back + 4 * length (result_code (body_in p a.func) waiting) ≡ goes_on o p a)

-- an activation's frame at s, with its return address at 0
pub record FrameStands (o : Object) (p : Program) (mem : Memory) (at bytes : ℕ → ℕ) (s : ℕ) (a : Activation) (callers : List Activation) : Type 0 where
  pub body : p.body a.func ≡ Some (body_in p a.func)
  pub regs : RegsStand mem at bytes (body_in p a.func) s a.regs
  pub return_address : ReturnsTo o p a.waiting callers (read bytes 4 s)

-- the activations' frames fill the stack from s to its end
abbrev pub FramesStand : Object → Program → Memory → (ℕ → ℕ) → (ℕ → ℕ) → ℕ → List Activation → Type 0
FramesStand o p mem at bytes s [] = s ≡ stack_end
FramesStand o p mem at bytes s (a ∷ as') = FrameStands o p mem at bytes s a as' × FramesStand o p mem at bytes (s + frame_in p a.func) as'

-- the registers of activations name only blocks that were made
abbrev pub RegsMade : ℕ → List Activation → Type 0
RegsMade n [] = Unit {0}
RegsMade n (a ∷ as') = ((r : ℕ) (v : Value) → a.regs r ≡ Some v → IsMade n v) × RegsMade n as'

-- ---- blocks of memory

-- a live block's bytes are in memory
pub record BlockStands (mem : Memory) (at bytes : ℕ → ℕ) (i : ℕ) (b : Block) : Type 0 where
  pub each : (k : ℕ) (c : Byte) → slice_get b.bytes k ≡ Some c → IsByteOf mem at c (bytes (at i + k))
  pub aligned : at i % b.align ≡ 0

-- a block of so many bytes is that of an alloca of the activation with its frame at s, and stands at the alloca's home
pub record OwnsBlock (at : ℕ → ℕ) (b : FlatBody) (s : ℕ) (a : Activation) (i size : ℕ) : Type 0 where
  pub reg : RegId
  pub align : ℕ
  pub home : ℕ
  pub alloca : HasInstr b (Alloca reg size align)
  pub is_home : place b reg.0 ≡ Some home
  pub value : a.regs reg.0 ≡ Some (At i 0)
  pub made : Contains a.made i
  pub address : at i ≡ s + home

-- some activation owns it, where their frames begin at s
abbrev pub IsOwned : Program → (ℕ → ℕ) → ℕ → List Activation → ℕ → ℕ → Type 0
IsOwned p at s [] i size = ⊥
IsOwned p at s (a ∷ as') i size = OwnsBlock at (body_in p a.func) s a i size ⊎ IsOwned p at (s + frame_in p a.func) as' i size

-- ---- the relation

-- the state of the machine stands for the state of the run, where each block lies at its address
pub record StandsFor (o : Object) (p : Program) (at : ℕ → ℕ) (r : Run) (m : Machine) : Type 0 where
  pub going : r.status ≡ Going
  pub running : m.stop ≡ Running
  pub output : m.output ≡ r.output
  pub input : m.input ≡ r.input
  pub input_bytes : All (λ (b : ℕ). b < 256) r.input
  pub pc : m.pc ≡ goes_on o p r.top
  pub kept : Kept o.segments m
  pub low : stack_start ≤ m.registers 2
  pub frames : FramesStand o p r.memory at m.memory (m.registers 2) (r.top ∷ r.below)
  pub blocks : (i : ℕ) (b : Block) → slice_get r.memory i ≡ Some b → b.live ≡ true → BlockStands r.memory at m.memory i b
  pub owners : (i : ℕ) (b : Block) → slice_get r.memory i ≡ Some b → b.live ≡ true → (i < length p.globals) ⊎ IsOwned p at (m.registers 2) (r.top ∷ r.below) i (length b.bytes)
  pub globals : (g : ℕ) → g < length p.globals → at g ≡ o.link.global_at g
  pub sizes : (g : ℕ) (b c : Block) → slice_get p.globals g ≡ Some b → slice_get r.memory g ≡ Some c → length c.bytes ≡ length b.bytes
  pub more : length p.globals ≤ length r.memory
  pub regs_made : RegsMade (length r.memory) (r.top ∷ r.below)
  pub pointers : PointsWithin r.memory

-- ---- what the layout owes

-- the globals lie in the data as they were loaded, and no two of them have a byte in common
pub record DataIsLaid (o : Object) (globals : Memory) : Type 0 where
  pub blocks : (g : ℕ) (b : Block) → slice_get globals g ≡ Some b → BlockStands globals o.link.global_at (bytes_at_load o.segments) g b
  pub inside : (g : ℕ) (b : Block) → slice_get globals g ≡ Some b → (data_start ≤ o.link.global_at g) × (o.link.global_at g + length b.bytes ≤ data_start + length o.segments.data_bytes)
  pub apart : (g h : ℕ) (b c : Block) → slice_get globals g ≡ Some b → slice_get globals h ≡ Some c → g ≢ h → (o.link.global_at g + length b.bytes ≤ o.link.global_at h) ⊎ (o.link.global_at h + length c.bytes ≤ o.link.global_at g)
  pub pointers : PointsWithin globals

-- the code of a body stands at its function's entry
pub record CodeIsLaid (o : Object) (f : ℕ) (b : FlatBody) : Type 0 where
  pub formed : IsWellFormed b
  pub small : frame b ≤ LARGEST_FRAME
  pub holds : Holds o.segments (o.link.entry f) (linked o.link (o.link.entry f) (code b))

-- how a program lies in an object: the stub at the text's start, the code of each body, and the globals
pub record IsLaid (o : Object) (p : Program) : Type 0 where
  pub text : length o.segments.text ≤ 4194304
  pub data_bytes : length o.segments.data_bytes ≤ 1048576
  pub start : Holds o.segments text_start (linked o.link text_start (stub p.main))
  pub codes : (f : ℕ) (b : FlatBody) → p.body f ≡ Some b → CodeIsLaid o f b
  pub globals : DataIsLaid o p.globals
