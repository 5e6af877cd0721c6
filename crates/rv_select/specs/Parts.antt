-- Parts of the lowering: the machine's instructions for words, slots, frames and operations, over any register, offset
-- and frame. Registers of the machine have their numbers (RISC-V Calling Conventions, "Integer Register Convention").
use Rattle.std.specs.Prelude.{ℕ, ◌+◌, ◌/◌, ◌%◌, ◌==◌, Bool, ◌||◌, nat_lt, nat_le, if◌then◌else◌, List, [], ◌∷◌, ◌++◌, ℤ, pos, neg_ℤ}
use Rattle.oi_base.specs.declared.words.Width.{Width}
use Rattle.oi_base.specs.declared.words.Width.TheVariants.{W1, W8, W16, W32}
use Rattle.oi_base.specs.Words.{signed_of}
use Rattle.rv_isa.specs.declared.rv.Rv.{Rv}
use Rattle.rv_isa.specs.declared.rv.Rv.TheVariants as rv
use Rattle.ir_core.specs.declared.flat.BinOp.{BinOp}
use Rattle.ir_core.specs.declared.flat.BinOp.TheVariants as op

-- ---- registers of the machine

abbrev pub zero_register : ℕ
zero_register = 0

abbrev pub ra : ℕ
ra = 1

abbrev pub sp : ℕ
sp = 2

abbrev pub t0 : ℕ
t0 = 5

abbrev pub t1 : ℕ
t1 = 6

abbrev pub t2 : ℕ
t2 = 7

abbrev pub a0 : ℕ
a0 = 10

abbrev pub a7 : ℕ
a7 = 17

-- ---- numbers in two parts

-- hi(x), for `lui` and `auipc`: (x + 2048) >> 12 as a signed number of 20 bits
unfoldable pub hi : ℕ → ℤ
hi x = signed_of 1048576 ((x + 2048) / 4096 % 1048576)

-- lo(x), which an instruction after them adds: the signed number of the low 12 bits
unfoldable pub lo : ℕ → ℤ
lo x = signed_of 4096 (x % 4096)

-- ---- words and slots

-- the word is from -2048 to 2047 as a signed number
abbrev pub is_short : ℕ → Bool
is_short w = nat_lt w 2048 || nat_le 4294965248 w

-- a word into a register
unfoldable pub load_word : ℕ → ℕ → List Rv
load_word r w =
    if is_short w then rv.Addi r zero_register (lo w) ∷ []
    else rv.Lui r (hi w) ∷ (if w % 4096 == 0 then [] else rv.Addi r r (lo w) ∷ [])

-- the stack pointer and the upper part of an offset into a register
abbrev pub far_base : ℕ → ℕ → List Rv
far_base r offset = rv.Lui r (hi offset) ∷ rv.Add r r sp ∷ []

-- what the slot at this offset holds into a register
unfoldable pub load_slot : ℕ → ℕ → List Rv
load_slot r offset = if nat_le offset 2047 then rv.Lw r sp (pos offset) ∷ [] else far_base r offset ++ rv.Lw r r (lo offset) ∷ []

-- a register into the slot at this offset
unfoldable pub store_slot : ℕ → ℕ → List Rv
store_slot r offset = if nat_le offset 2047 then rv.Sw sp r (pos offset) ∷ [] else far_base t2 offset ++ rv.Sw t2 r (lo offset) ∷ []

-- the address of what lies at this offset of the frame into a register
unfoldable pub load_home : ℕ → ℕ → List Rv
load_home r offset = if nat_le offset 2047 then rv.Addi r sp (pos offset) ∷ [] else rv.Lui r (hi offset) ∷ rv.Addi r r (lo offset) ∷ rv.Add r r sp ∷ []

-- an address that is known at link time into a register, always in two instructions
abbrev pub load_address : ℕ → ℕ → List Rv
load_address r address = rv.Lui r (hi address) ∷ rv.Addi r r (lo address) ∷ []

-- ---- frames

-- the size of a large frame into t0
abbrev pub large_frame : ℕ → List Rv
large_frame size = rv.Lui t0 (hi size) ∷ rv.Addi t0 t0 (lo size) ∷ []

-- the stack pointer down or up by the frame
unfoldable pub frame_down : ℕ → List Rv
frame_down size = if nat_le size 2032 then rv.Addi sp sp (neg_ℤ (pos size)) ∷ [] else large_frame size ++ rv.Sub sp sp t0 ∷ []

unfoldable pub frame_up : ℕ → List Rv
frame_up size = if nat_le size 2032 then rv.Addi sp sp (pos size) ∷ [] else large_frame size ++ rv.Add sp sp t0 ∷ []

-- the stack pointer down by the frame, and the return address into it
abbrev pub open_frame : ℕ → List Rv
open_frame size = frame_down size ++ rv.Sw sp ra (pos 0) ∷ []

-- the return address out of the frame, the stack pointer up by it, and the return
abbrev pub epilogue : ℕ → List Rv
epilogue size = rv.Lw ra sp (pos 0) ∷ [] ++ frame_up size ++ rv.Jalr zero_register ra (pos 0) ∷ []

-- ---- operations

-- a narrow word in a register is extended by zeros, or by its sign
abbrev pub zero_extend : Width → ℕ → List Rv
zero_extend W1 r = rv.Andi r r (pos 1) ∷ []
zero_extend W8 r = rv.Andi r r (pos 255) ∷ []
zero_extend W16 r = rv.Slli r r (pos 16) ∷ rv.Srli r r (pos 16) ∷ []
zero_extend W32 r = []

abbrev pub sign_extend : Width → ℕ → List Rv
sign_extend W1 r = rv.Slli r r (pos 31) ∷ rv.Srai r r (pos 31) ∷ []
sign_extend W8 r = rv.Slli r r (pos 24) ∷ rv.Srai r r (pos 24) ∷ []
sign_extend W16 r = rv.Slli r r (pos 16) ∷ rv.Srai r r (pos 16) ∷ []
sign_extend W32 r = []

-- words are kept extended by zeros, and some operations ask for their signs
abbrev pub signs : BinOp → Width → List Rv
signs op.Sdiv w = sign_extend w t0 ++ sign_extend w t1
signs op.Srem w = sign_extend w t0 ++ sign_extend w t1
signs op.Ashr w = sign_extend w t0
signs o w = []

-- the operation on t0 and t1, into t0
abbrev pub machine_op : BinOp → Rv
machine_op op.Add = rv.Add t0 t0 t1
machine_op op.Sub = rv.Sub t0 t0 t1
machine_op op.Mul = rv.Mul t0 t0 t1
machine_op op.Udiv = rv.Divu t0 t0 t1
machine_op op.Sdiv = rv.Div t0 t0 t1
machine_op op.Urem = rv.Remu t0 t0 t1
machine_op op.Srem = rv.Rem t0 t0 t1
machine_op op.Shl = rv.Sll t0 t0 t1
machine_op op.Lshr = rv.Srl t0 t0 t1
machine_op op.Ashr = rv.Sra t0 t0 t1
machine_op op.And = rv.And t0 t0 t1
machine_op op.Or = rv.Or t0 t0 t1
machine_op op.Xor = rv.Xor t0 t0 t1

-- the result is cut to its width, but where the operation cannot exceed it
abbrev pub cuts : BinOp → Width → List Rv
cuts op.Udiv w = []
cuts op.Urem w = []
cuts op.Lshr w = []
cuts op.And w = []
cuts op.Or w = []
cuts op.Xor w = []
cuts o w = zero_extend w t0

-- ---- calls

-- a call of what stands this many bytes after its first instruction
abbrev pub call : ℕ → List Rv
call distance = rv.Auipc ra (hi distance) ∷ rv.Jalr ra ra (lo distance) ∷ []

-- the start stub: a call of `main` at this distance, and the exit with its result
abbrev pub stub : ℕ → List Rv
stub distance = call distance ++ rv.Addi a7 zero_register (pos 3) ∷ rv.Ecall ∷ []
