-- The rows of the lowering: the drafts of each instruction and of each end of a block.
use Rattle.std.specs.Prelude.{ℕ, zero, suc, ◌+◌, ◌==◌, nat_eq, Bool, true, false, if◌then◌else◌, List, [], ◌∷◌, ◌++◌, Option, Some, None, slice_get, map, length, ◌≤◌, pos}
use Rattle.std.specs.List.{flat_map}
use Rattle.oi_base.specs.declared.words.Width.{Width}
use Rattle.oi_base.specs.declared.words.Width.TheVariants.{W1, W8, W16, W32}
use Rattle.oi_base.specs.declared.ids.RegId.{RegId}
use Rattle.oi_base.specs.declared.ids.BlockId.{BlockId}
use Rattle.oi_base.specs.declared.ids.FuncId.{FuncId}
use Rattle.rv_isa.specs.declared.rv.Rv.{Rv}
use Rattle.rv_isa.specs.declared.rv.Rv.TheVariants as rv
use Rattle.ir_core.specs.declared.flat.Cmp.{Cmp}
use Rattle.ir_core.specs.declared.flat.Cmp.TheVariants as cmp
use Rattle.ir_core.specs.declared.flat.CastOp.{CastOp}
use Rattle.ir_core.specs.declared.flat.CastOp.TheVariants as cast
use Rattle.ir_core.specs.declared.flat.Scalar.{Scalar}
use Rattle.ir_core.specs.declared.flat.Scalar.TheVariants as scalar
use Rattle.ir_core.specs.declared.flat.FlatOp.{FlatOp}
use Rattle.ir_core.specs.declared.flat.FlatOp.TheVariants.{Reg, Word, Null, Address, Poison}
use Rattle.ir_core.specs.declared.flat.Term.{Term}
use Rattle.ir_core.specs.declared.flat.Case.{Case}
use Rattle.ir_core.specs.declared.flat.Phi.{Phi}
use Rattle.ir_core.specs.declared.flat.FlatInstr.{FlatInstr}
use Rattle.ir_core.specs.declared.flat.FlatInstr.TheVariants.{Bin, Icmp, Select, Cast, Copy, Alloca, Load, Store, Gep, Call, Put, Get, Exit}
use Rattle.ir_core.specs.declared.flat.FlatEnd.{FlatEnd}
use Rattle.ir_core.specs.declared.flat.FlatEnd.TheVariants.{Ret, Br, Cond, Switch, Unreachable}
use Rattle.ir_core.specs.declared.flat.FlatBlock.{FlatBlock}
use Rattle.ir_core.specs.Flat.{entry_for}
use Rattle.ir_core.specs.Formed.{targets}
use Rattle.frame_layout.specs.Offsets.{Offsets, slot_of, shadow_of, place_of}
use Rattle.rv_select.specs.declared.item.Draft.{Draft}
use Rattle.rv_select.specs.declared.item.Draft.TheVariants.{Fixed, Jump, Near}
use Rattle.rv_select.specs.declared.item.Test.TheVariants.{Equal, NotEqual}
use Rattle.rv_select.specs.declared.item.Item.TheVariants as item
use Rattle.rv_select.specs.Pending.{words}
use Rattle.rv_select.specs.Parts.{zero_register, t0, t1, t2, a0, a7, load_word, load_slot, store_slot, load_home, open_frame, epilogue, zero_extend, sign_extend, signs, machine_op, cuts}

-- ---- operands and results

-- what stands in a slot into a register of the machine, and back; without a slot nothing
abbrev pub load_from : ℕ → Option ℕ → List Draft
load_from r None = []
load_from r (Some o) = words (load_slot r o)

abbrev pub store_to : ℕ → Option ℕ → List Draft
store_to r None = []
store_to r (Some o) = words (store_slot r o)

-- a register is an alloca's, whose address is its value, or stands in its slot
abbrev pub load_register : ℕ → Option ℕ → Option ℕ → List Draft
load_register r (Some o) slot = words (load_home r o)
load_register r None slot = load_from r slot

abbrev pub load : Offsets → ℕ → FlatOp → List Draft
load f r (Reg q) = load_register r (place_of f q.0) (slot_of f q.0)
load f r (Word w) = words (load_word r w)
load f r Null = words (load_word r 0)
load f r Poison = words (load_word r 0)
load f r (Address g k) = Fixed (item.AddressHigh r g k) ∷ Fixed (item.AddressLow r g k) ∷ []

abbrev pub store : Offsets → ℕ → RegId → List Draft
store f r d = store_to r (slot_of f d.0)

abbrev pub store_result : Offsets → Option RegId → List Draft
store_result f None = []
store_result f (Some d) = store f a0 d

-- ---- instructions

-- pointers have 32 bits
abbrev pub width_of : Scalar → Width
width_of (scalar.Word w) = w
width_of scalar.Pointer = W32

-- signed orders compare signed words
abbrev pub compared : Cmp → Width → List Rv
compared cmp.Sgt w = sign_extend w t0 ++ sign_extend w t1
compared cmp.Sge w = sign_extend w t0 ++ sign_extend w t1
compared cmp.Slt w = sign_extend w t0 ++ sign_extend w t1
compared cmp.Sle w = sign_extend w t0 ++ sign_extend w t1
compared c w = []

-- whether t0 and t1 are so, into t0
abbrev pub test : Cmp → List Rv
test cmp.Eq = rv.Sub t0 t0 t1 ∷ rv.Sltiu t0 t0 (pos 1) ∷ []
test cmp.Ne = rv.Sub t0 t0 t1 ∷ rv.Sltu t0 zero_register t0 ∷ []
test cmp.Ult = rv.Sltu t0 t0 t1 ∷ []
test cmp.Ugt = rv.Sltu t0 t1 t0 ∷ []
test cmp.Ule = rv.Sltu t0 t1 t0 ∷ rv.Xori t0 t0 (pos 1) ∷ []
test cmp.Uge = rv.Sltu t0 t0 t1 ∷ rv.Xori t0 t0 (pos 1) ∷ []
test cmp.Slt = rv.Slt t0 t0 t1 ∷ []
test cmp.Sgt = rv.Slt t0 t1 t0 ∷ []
test cmp.Sle = rv.Slt t0 t1 t0 ∷ rv.Xori t0 t0 (pos 1) ∷ []
test cmp.Sge = rv.Slt t0 t0 t1 ∷ rv.Xori t0 t0 (pos 1) ∷ []

-- t1, or t2 where t0 is 0
abbrev pub choice : List Rv
choice = rv.Bne t0 zero_register (pos 8) ∷ rv.Addi t1 t2 (pos 0) ∷ []

-- a word in t0 to another width
abbrev pub converted : CastOp → Width → Width → List Rv
converted cast.Zext from to = []
converted cast.Trunc from to = zero_extend to t0
converted cast.Sext from to = sign_extend from t0 ++ zero_extend to t0

-- what stands at the address in t0, into t0
abbrev pub fetched : Scalar → Rv
fetched (scalar.Word W1) = rv.Lbu t0 t0 (pos 0)
fetched (scalar.Word W8) = rv.Lbu t0 t0 (pos 0)
fetched (scalar.Word W16) = rv.Lhu t0 t0 (pos 0)
fetched (scalar.Word W32) = rv.Lw t0 t0 (pos 0)
fetched scalar.Pointer = rv.Lw t0 t0 (pos 0)

-- t0 to the address in t1
abbrev pub put_down : Scalar → Rv
put_down (scalar.Word W1) = rv.Sb t1 t0 (pos 0)
put_down (scalar.Word W8) = rv.Sb t1 t0 (pos 0)
put_down (scalar.Word W16) = rv.Sh t1 t0 (pos 0)
put_down (scalar.Word W32) = rv.Sw t1 t0 (pos 0)
put_down scalar.Pointer = rv.Sw t1 t0 (pos 0)

-- t1 times a stride
abbrev pub scaled : ℕ → List Draft
scaled stride = if stride == 1 then [] else words (load_word t2 stride) ++ words (rv.Mul t1 t1 t2 ∷ [])

-- a term of an address, added to t0
abbrev pub term : Offsets → Term → List Draft
term f t = load f t1 t.operand ++ words (sign_extend t.width t1) ++ scaled t.stride ++ words (rv.Add t0 t0 t1 ∷ [])

-- the constant part of an address, added to t0
abbrev pub constant_part : ℕ → List Draft
constant_part k = if k == 0 then [] else words (load_word t1 k) ++ words (rv.Add t0 t0 t1 ∷ [])

-- arguments from a number on, into the argument registers
abbrev pub arguments : Offsets → ℕ → List FlatOp → List Draft
arguments f n [] = []
arguments f n (o ∷ os) = load f (a0 + n) o ++ arguments f (n + 1) os

abbrev pub call_pair : FuncId → List Draft
call_pair g = Fixed (item.CallHigh g) ∷ Fixed (item.CallLow g) ∷ []

-- a call of the environment
abbrev pub environment_call : ℕ → List Rv
environment_call number = rv.Addi a7 zero_register (pos number) ∷ rv.Ecall ∷ []

-- a call has at most eight arguments
abbrev pub HasFewArguments : FlatInstr → Type 0
HasFewArguments (Call d g args) = length args ≤ 8
HasFewArguments i = Unit {0}

-- one row an instruction
abbrev pub instr : Offsets → FlatInstr → List Draft
instr f (Bin d op w a b) = load f t0 a ++ load f t1 b ++ words (signs op w) ++ words (machine_op op ∷ []) ++ words (cuts op w) ++ store f t0 d
instr f (Icmp d c s a b) = load f t0 a ++ load f t1 b ++ words (compared c (width_of s)) ++ words (test c) ++ store f t0 d
instr f (Select d c a b) = load f t0 c ++ load f t1 a ++ load f t2 b ++ words choice ++ store f t1 d
instr f (Cast d c from to a) = load f t0 a ++ words (converted c from to) ++ store f t0 d
instr f (Copy d a) = load f t0 a ++ store f t0 d
instr f (Alloca d size align) = []
instr f (Load d s align a) = load f t0 a ++ words (fetched s ∷ []) ++ store f t0 d
instr f (Store s align v a) = load f t0 v ++ load f t1 a ++ words (put_down s ∷ [])
instr f (Gep d a k ts) = load f t0 a ++ flat_map (term f) ts ++ constant_part k ++ store f t0 d
instr f (Call d g args) = arguments f 0 args ++ call_pair g ++ store_result f d
instr f (Put d a) = load f a0 a ++ words (environment_call 1) ++ store_result f d
instr f (Get d) = words (environment_call 2) ++ store_result f d
instr f (Exit a) = load f a0 a ++ words (environment_call 3)

-- ---- blocks

-- at a block's head each phi's next value comes out of its shadow
abbrev pub take_phi : Offsets → Phi → List Draft
take_phi f p = load_from t0 (shadow_of f p.reg.0) ++ store f t0 p.reg

abbrev pub head : Offsets → List Phi → List Draft
head f phis = flat_map (take_phi f) phis

-- after block n each phi of a successor has its next value put into its shadow
abbrev pub load_entry : Offsets → Option FlatOp → List Draft
load_entry f None = []
load_entry f (Some o) = load f t0 o

abbrev pub give_phi : Offsets → ℕ → Phi → List Draft
give_phi f n p = load_entry f (entry_for n p.entries) ++ store_to t0 (shadow_of f p.reg.0)

abbrev pub phis_of : Option FlatBlock → List Phi
phis_of None = []
phis_of (Some k) = k.phis

abbrev pub give_phis : Offsets → List FlatBlock → ℕ → ℕ → List Draft
give_phis f blocks n to = flat_map (give_phi f n) (phis_of (slice_get blocks to))

abbrev pub numbers : List BlockId → List ℕ
numbers bs = map (λ (b : BlockId). b.0) bs

-- a number is in a list
abbrev pub is_in : List ℕ → ℕ → Bool
is_in [] x = false
is_in (y ∷ ys) x = if nat_eq y x then true else is_in ys x

-- the numbers of a list that are not among those seen, each once, in the order in which they first come
abbrev pub distinct_from : List ℕ → List ℕ → List ℕ
distinct_from seen [] = []
distinct_from seen (x ∷ xs) = if is_in seen x then distinct_from seen xs else x ∷ distinct_from (seen ++ x ∷ []) xs

abbrev pub successors : FlatEnd → List ℕ
successors e = distinct_from [] (targets e)

abbrev pub before_end : Offsets → List FlatBlock → ℕ → FlatEnd → List Draft
before_end f blocks n e = flat_map (give_phis f blocks n) (successors e)

-- a jump, which is left out where its block comes next
abbrev pub jump : ℕ → BlockId → List Draft
jump n b = if nat_eq b.0 (n + 1) then [] else Jump b ∷ []

-- to one block where t0 is not 0, else to another
abbrev pub choose : ℕ → BlockId → BlockId → List Draft
choose n t e = if nat_eq t.0 (n + 1) then Near Equal t0 zero_register e ∷ [] else Near NotEqual t0 zero_register t ∷ jump n e

abbrev pub case_code : Case → List Draft
case_code c = words (load_word t1 c.word) ++ Near Equal t0 t1 c.to ∷ []

abbrev pub load_value : Offsets → Option FlatOp → List Draft
load_value f None = []
load_value f (Some a) = load f a0 a

-- one row an end
abbrev pub end_code : Offsets → ℕ → FlatEnd → List Draft
end_code f n (Ret v) = load_value f v ++ words (epilogue f.bytes)
end_code f n (Br b) = jump n b
end_code f n (Cond c t e) = load f t0 c ++ choose n t e
end_code f n (Switch v w cases other) = load f t0 v ++ flat_map case_code cases ++ jump n other
end_code f n Unreachable = words (rv.Ebreak ∷ [])

abbrev pub block : Offsets → List FlatBlock → ℕ → FlatBlock → List Draft
block f blocks n k = head f k.phis ++ flat_map (instr f) k.code ++ before_end f blocks n k.end ++ end_code f n k.end

-- blocks from a number on
abbrev pub blocks_from : Offsets → List FlatBlock → ℕ → List FlatBlock → List Draft
blocks_from f blocks n [] = []
blocks_from f blocks n (k ∷ ks) = block f blocks n k ++ blocks_from f blocks (n + 1) ks

-- ---- bodies

-- each parameter, which comes in an argument register, into its slot
abbrev pub keep_parameters : Offsets → ℕ → List Draft
keep_parameters f zero = []
keep_parameters f (suc n) = keep_parameters f n ++ store f (a0 + n) (record { 0 = n })

abbrev pub prologue : Offsets → ℕ → List Draft
prologue f params = words (open_frame f.bytes) ++ keep_parameters f params
