-- Dead code: a register is needed where a store, a call, a put, an exit or a terminator uses it, or the instruction of a needed
-- register does. What gives a register that isn't needed is dropped; a call, a put or a get loses its result instead.
use Rattle.std.specs.Prelude.{ℕ, Bool, true, false, nat_eq, if◌then◌else◌, List, [], map, ◌++◌, Option, Some, None, Contains}
use Rattle.std.specs.List.{list_any, filter, filter_map, flat_map}
use Rattle.oi_base.specs.declared.ids.RegId.{RegId}
use Rattle.ir_core.specs.declared.flat.FlatOp.{FlatOp}
use Rattle.ir_core.specs.declared.flat.FlatOp.TheVariants.{Reg, Word, Null, Address, Poison}
use Rattle.ir_core.specs.declared.flat.Entry.{Entry}
use Rattle.ir_core.specs.declared.flat.Phi.{Phi}
use Rattle.ir_core.specs.declared.flat.FlatInstr.{FlatInstr}
use Rattle.ir_core.specs.declared.flat.FlatInstr.TheVariants.{Bin, Icmp, Select, Cast, Copy, Alloca, Load, Store, Gep, Call, Put, Get, Exit}
use Rattle.ir_core.specs.declared.flat.FlatBlock.{FlatBlock}
use Rattle.ir_core.specs.declared.flat.FlatBody.{FlatBody}
use Rattle.ir_core.specs.Formed.{written_by, used_by, used_at_end}
use Rattle.flow_fold.specs.Ways.{leads}

-- ---- what is used

abbrev pub is_reg : ℕ → FlatOp → Bool
is_reg r (Reg q) = nat_eq q.0 r
is_reg r (Word a) = false
is_reg r Null = false
is_reg r (Address g k) = false
is_reg r Poison = false

-- what a store, a call, a put or an exit uses
abbrev pub used_by_act : FlatInstr → List FlatOp
used_by_act (Store s align v a) = used_by (Store s align v a)
used_by_act (Call d f args) = used_by (Call d f args)
used_by_act (Put d a) = used_by (Put d a)
used_by_act (Exit a) = used_by (Exit a)
used_by_act (Get d) = []
used_by_act (Bin d op w a b) = []
used_by_act (Icmp d c s a b) = []
used_by_act (Select d c a b) = []
used_by_act (Cast d c from to a) = []
used_by_act (Copy d a) = []
used_by_act (Alloca d size align) = []
used_by_act (Load d s align a) = []
used_by_act (Gep d a k ts) = []

-- what is used in any case
abbrev pub acts_in : FlatBlock → List FlatOp
acts_in k = flat_map used_by_act k.code ++ used_at_end k.end

abbrev pub all_acts : FlatBody → List FlatOp
all_acts body = flat_map acts_in body.blocks

abbrev pub values : Phi → List FlatOp
values f = map (λ (e : Entry). e.value) f.entries

abbrev pub if_same : ℕ → Option ℕ → List FlatOp → List FlatOp
if_same d None os = []
if_same d (Some r) os = if nat_eq r d then os else []

-- what the phi or the instruction of register d uses
abbrev pub used_in : ℕ → FlatBlock → List FlatOp
used_in d k = flat_map (λ (f : Phi). if_same d (Some f.reg.0) (values f)) k.phis ++ flat_map (λ i. if_same d (written_by i) (used_by i)) k.code

abbrev pub used_for : FlatBody → ℕ → List FlatOp
used_for body d = flat_map (used_in d) body.blocks

-- ---- what is needed

-- whether what gives register d uses r
abbrev pub is_used_for : FlatBody → ℕ → ℕ → Bool
is_used_for body d r = list_any (is_reg r) (used_for body d)

-- an operand that is a register leads by such uses to r
abbrev pub reaches : FlatBody → ℕ → FlatOp → Bool
reaches body r (Reg q) = leads (is_used_for body) body.regs q.0 r
reaches body r (Word a) = false
reaches body r Null = false
reaches body r (Address g k) = false
reaches body r Poison = false

-- whether what is used in any case leads to a register
abbrev pub is_needed : FlatBody → ℕ → Bool
is_needed body r = list_any (reaches body r) (all_acts body)

-- ---- what is dropped

abbrev pub result_kept : (ℕ → Bool) → Option RegId → Option RegId
result_kept keep None = None
result_kept keep (Some d) = if keep d.0 then Some d else None

abbrev pub kept_if : Bool → FlatInstr → Option FlatInstr
kept_if true i = Some i
kept_if false i = None

abbrev pub instr_kept : (ℕ → Bool) → FlatInstr → Option FlatInstr
instr_kept keep (Bin d op w a b) = kept_if (keep d.0) (Bin d op w a b)
instr_kept keep (Icmp d c s a b) = kept_if (keep d.0) (Icmp d c s a b)
instr_kept keep (Select d c a b) = kept_if (keep d.0) (Select d c a b)
instr_kept keep (Cast d c from to a) = kept_if (keep d.0) (Cast d c from to a)
instr_kept keep (Copy d a) = kept_if (keep d.0) (Copy d a)
instr_kept keep (Alloca d size align) = kept_if (keep d.0) (Alloca d size align)
instr_kept keep (Load d s align a) = kept_if (keep d.0) (Load d s align a)
instr_kept keep (Gep d a k ts) = kept_if (keep d.0) (Gep d a k ts)
instr_kept keep (Store s align v a) = Some (Store s align v a)
instr_kept keep (Call d f args) = Some (Call (result_kept keep d) f args)
instr_kept keep (Put d a) = Some (Put (result_kept keep d) a)
instr_kept keep (Get d) = Some (Get (result_kept keep d))
instr_kept keep (Exit a) = Some (Exit a)

abbrev pub block_kept : (ℕ → Bool) → FlatBlock → FlatBlock
block_kept keep k = record { phis = filter (λ (f : Phi). keep f.reg.0) k.phis; code = filter_map (instr_kept keep) k.code; end = k.end }

-- the body where only some registers are left
abbrev pub only_registers : (ℕ → Bool) → FlatBody → FlatBody
only_registers keep body = record body { blocks = map (block_kept keep) body.blocks }

-- the body without its dead code
unfoldable pub dead_dropped : FlatBody → FlatBody
dead_dropped body = only_registers (is_needed body) body

-- ---- the same in two cases

-- a register is needed where what is used in any case names it, or what gives a needed register does
pub data IsNeeded (body : FlatBody) : ℕ → Type 0 where
  by_act : (r : ℕ) → Contains (all_acts body) (Reg (record { 0 = r })) → IsNeeded body r
  by_definition : (d r : ℕ) → IsNeeded body d → Contains (used_for body d) (Reg (record { 0 = r })) → IsNeeded body r
