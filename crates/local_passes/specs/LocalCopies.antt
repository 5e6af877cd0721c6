-- Copies within a block: where a register is a copy, the register that it is a copy of stands in its place.
use Rattle.std.specs.Prelude.{◌≡◌, ◌≢◌, ℕ, zero, suc, ◌<◌, nat_eq, if◌then◌else◌, List, map, length, Option, Some, None, slice_get}
use Rattle.oi_base.specs.declared.ids.RegId.{RegId}
use Rattle.ir_core.specs.declared.flat.FlatOp.{FlatOp}
use Rattle.ir_core.specs.declared.flat.FlatOp.TheVariants.{Reg, Word, Null, Address, Poison}
use Rattle.ir_core.specs.declared.flat.Entry.{Entry}
use Rattle.ir_core.specs.declared.flat.Phi.{Phi}
use Rattle.ir_core.specs.declared.flat.FlatInstr.{FlatInstr}
use Rattle.ir_core.specs.declared.flat.FlatInstr.TheVariants.{Bin, Icmp, Select, Cast, Copy, Alloca, Load, Store, Gep, Call, Put, Get, Exit}
use Rattle.ir_core.specs.declared.flat.FlatBlock.{FlatBlock}
use Rattle.ir_core.specs.declared.flat.FlatBody.{FlatBody}
use Rattle.ir_core.specs.Formed.{written_by}
use Rattle.const_fold.specs.Operands.{with_operands, end_with_operands}
use Rattle.flow_fold.specs.Blocks.{by_number}

-- ---- the source of a register at a place of a block

-- of each register the one that it is a copy of, or itself
abbrev pub Sources : Type 0
Sources = ℕ → ℕ

-- no register is a copy
abbrev pub no_copies : Sources
no_copies r = r

-- the source of what an operand gives to register d
abbrev pub operand_source : Sources → ℕ → FlatOp → ℕ
operand_source s d (Reg y) = s y.0
operand_source s d (Word a) = d
operand_source s d Null = d
operand_source s d (Address g k) = d
operand_source s d Poison = d

-- the source of a register right after the instruction that writes it: a copy has the source of its operand, anything else is its own
abbrev pub source_given : Sources → ℕ → FlatInstr → ℕ
source_given s d (Copy x a) = operand_source s d a
source_given s d (Bin x op w a b) = d
source_given s d (Icmp x c t a b) = d
source_given s d (Select x c a b) = d
source_given s d (Cast x c from to a) = d
source_given s d (Alloca x size align) = d
source_given s d (Load x t align a) = d
source_given s d (Store t align v a) = d
source_given s d (Gep x a k ts) = d
source_given s d (Call x f args) = d
source_given s d (Put x a) = d
source_given s d (Get x) = d
source_given s d (Exit a) = d

-- register d is written and has source c from then on, and no other register is a copy of it any more
abbrev pub redefined : Sources → ℕ → ℕ → Sources
redefined s d c r = if nat_eq r d then c else (if nat_eq (s r) d then r else s r)

abbrev pub with_write : Sources → FlatInstr → Option ℕ → Sources
with_write s i None = s
with_write s i (Some d) = redefined s d (source_given s d i)

abbrev pub past : Sources → Option FlatInstr → Sources
past s None = s
past s (Some i) = with_write s i (written_by i)

-- the register of which a register is a copy before place n of the code, or itself; before a block no register is a copy
unfoldable pub source : List FlatInstr → ℕ → Sources
source code zero = no_copies
source code (suc n) = past (source code n) (slice_get code n)

-- ---- what stands in the places of copies

-- an operand with its source in its place
abbrev pub from_source : Sources → FlatOp → FlatOp
from_source s (Reg r) = Reg (record { 0 = s r.0 })
from_source s (Word a) = Word a
from_source s Null = Null
from_source s (Address g k) = Address g k
from_source s Poison = Poison

-- the sources at the end of a block
abbrev pub end_sources : FlatBlock → Sources
end_sources k = source k.code (length k.code)

abbrev pub sources_from : Option FlatBlock → Sources
sources_from None = no_copies
sources_from (Some k) = end_sources k

-- the value of an entry is used at the end of the entry's block, whose sources `ends` tells
abbrev pub entry_copied : (ℕ → Sources) → Entry → Entry
entry_copied ends e = record e { value = from_source (ends e.from.0) e.value }

abbrev pub phi_copied : (ℕ → Sources) → Phi → Phi
phi_copied ends f = record f { entries = map (entry_copied ends) f.entries }

-- an instruction at a place of the code
abbrev pub instr_copied : List FlatInstr → ℕ → FlatInstr → FlatInstr
instr_copied code n i = with_operands (from_source (source code n)) i

abbrev pub code_copied : List FlatInstr → List FlatInstr
code_copied code = by_number (instr_copied code) 0 code

abbrev pub block_copied : (ℕ → Sources) → FlatBlock → FlatBlock
block_copied ends k = record {
  phis = map (phi_copied ends) k.phis;
  code = code_copied k.code;
  end = end_with_operands (from_source (end_sources k)) k.end;
}

-- the sources at the end of each block of a body
abbrev pub all_ends : FlatBody → ℕ → Sources
all_ends body b = sources_from (slice_get body.blocks b)

-- the body with the sources of copies in the copies' places
unfoldable pub copies_replaced : FlatBody → FlatBody
copies_replaced body = record body { blocks = map (block_copied (all_ends body)) body.blocks }

-- ---- when a register is a copy

-- no instruction after place j and before place n writes a register
abbrev pub IsUnwritten : List FlatInstr → ℕ → ℕ → ℕ → Type 0
IsUnwritten code j n r = (m : ℕ) (i : FlatInstr) → j < m → m < n → slice_get code m ≡ Some i → written_by i ≢ Some r

-- before place n register x is a copy of y: y, or a copy of it, was copied into x, and since then neither was written
pub record IsCopyOf (code : List FlatInstr) (n x y : ℕ) : Type 0 where
  pub place : ℕ
  pub copied : RegId
  pub before : place < n
  pub instr : slice_get code place ≡ Some (Copy (record { 0 = x }) (Reg copied))
  pub from : source code place copied.0 ≡ y
  pub kept : IsUnwritten code place n x
  pub source_kept : IsUnwritten code place n y
