-- Tables of the last definitions of registers, and the sources that they tell.
use Rattle.std.specs.Prelude.{◌≡◌, ◌⊎◌, ℕ, ◌≤◌, ◌<◌, Bool, true, false, not, ◌&&◌, nat_lt, nat_le, if◌then◌else◌, List, map, length, Option, Some, None, slice_index_or, slice_get, Contains}
use Rattle.std.specs.Option.{unwrap_or}
use Rattle.std.specs.List.{filter_map, flat_map, list_any}
use Rattle.ir_core.specs.declared.flat.FlatInstr.{FlatInstr}
use Rattle.ir_core.specs.declared.flat.FlatOp.{FlatOp}
use Rattle.ir_core.specs.declared.flat.FlatOp.TheVariants.{Reg, Word, Null, Address, Poison}
use Rattle.ir_core.specs.declared.flat.FlatInstr.TheVariants.{Bin, Icmp, Select, Cast, Copy, Alloca, Load, Store, Gep, Call, Put, Get, Exit}
use Rattle.ir_core.specs.declared.flat.FlatBlock.{FlatBlock}
use Rattle.ir_core.specs.Formed.{written_by}
use Rattle.const_fold.specs.Operands.{end_with_operands}
use Rattle.local_passes.specs.declared.copy_table.Definition.{Definition}
use Rattle.local_passes.specs.declared.copy_table.Span.{Span}
use Rattle.local_passes.specs.declared.copy_table.CopyTable.{CopyTable}
use Rattle.local_passes.specs.declared.copies.Sweep.{Sweep}
use Rattle.local_passes.specs.LocalCopies.{Sources, no_copies, from_source, code_copied, end_sources, sources_from, phi_copied}

-- what is known of a register that is not defined yet
abbrev pub undefined : ℕ → Definition
undefined r = record { time = 0; source = record { 0 = r } }

abbrev pub definition : List (Option Definition) → ℕ → Definition
definition ds r = unwrap_or (slice_index_or ds r None) (undefined r)

-- a time after the start, up to the end
abbrev pub is_between : ℕ → ℕ → ℕ → Bool
is_between start end t = nat_lt start t && nat_le t end

abbrev pub source_if : Bool → ℕ → ℕ → ℕ
source_if t s r = if t then s else r

-- at the end of a span of time a register is a copy of the source that it got in the span, unless that one was defined after it
abbrev pub source_by : List (Option Definition) → ℕ → ℕ → Definition → Sources
source_by ds start end d r = source_if (is_between start end d.time && not (is_between d.time end (definition ds d.source.0).time)) d.source.0 r

abbrev pub source_in : List (Option Definition) → ℕ → ℕ → Sources
source_in ds start end r = source_by ds start end (definition ds r) r

-- the sources by the definitions since a time
abbrev pub sources_in : CopyTable → ℕ → Sources
sources_in t start = source_in t.definitions.items start t.time

-- no definition is later than now
pub record IsTimed (t : CopyTable) : Type 0 where
  pub each : (q : ℕ) → (definition t.definitions.items q).time ≤ t.time

-- some instructions were noted: each register is defined as before, or later and by one of them
pub record Extends (old new : CopyTable) (code : List FlatInstr) : Type 0 where
  pub time : old.time ≤ new.time
  pub each : (q : ℕ) → (definition new.definitions.items q ≡ definition old.definitions.items q) ⊎ ((old.time < (definition new.definitions.items q).time) × Contains (filter_map written_by code) q)

-- the sources at the end of a block, by its span; of what is no block none
abbrev pub sources_told : List (Option Definition) → Option Span → Sources
sources_told ds None = no_copies
sources_told ds (Some s) = source_in ds s.start s.end

-- the same of each block
abbrev pub ends_told : List (Option Definition) → List Span → ℕ → Sources
ends_told ds spans b = sources_told ds (slice_get spans b)

-- ---- blocks

-- a block with the sources of copies in the places of its code and its terminator
abbrev pub block_swept : FlatBlock → FlatBlock
block_swept k = record { phis = k.phis; code = code_copied k.code; end = end_with_operands (from_source (end_sources k)) k.end }

-- and then in the places of its phis
abbrev pub phis_copied : (ℕ → Sources) → FlatBlock → FlatBlock
phis_copied ends k = record k { phis = map (phi_copied ends) k.phis }

abbrev pub code_writes : FlatBlock → List ℕ
code_writes k = filter_map written_by k.code

-- some blocks were swept, and the table tells the sources at the end of each
pub record IsSwept (done : List FlatBlock) (s : Sweep) : Type 0 where
  pub blocks : s.blocks ≡ map block_swept done
  pub spans : length s.spans.items ≡ length done
  pub sources : (b : ℕ) → ends_told s.table.definitions.items s.spans.items b ≡ sources_from (slice_get done b)
  pub ended : (b : ℕ) (span : Span) → slice_get s.spans.items b ≡ Some span → span.end ≤ s.table.time
  pub written : (q : ℕ) → ((definition s.table.definitions.items q).time ≡ 0) ⊎ Contains (flat_map code_writes done) q

-- ---- blocks without copies

abbrev pub names_register : FlatOp → Bool
names_register (Reg r) = true
names_register (Word a) = false
names_register Null = false
names_register (Address g k) = false
names_register Poison = false

-- whether an instruction is a copy of a register
abbrev pub copies_register : FlatInstr → Bool
copies_register (Copy d a) = names_register a
copies_register (Bin d op w a b) = false
copies_register (Icmp d c s a b) = false
copies_register (Select d c a b) = false
copies_register (Cast d c from to a) = false
copies_register (Alloca d size align) = false
copies_register (Load d s align a) = false
copies_register (Store s align v a) = false
copies_register (Gep d a k ts) = false
copies_register (Call d f args) = false
copies_register (Put d a) = false
copies_register (Get d) = false
copies_register (Exit a) = false

abbrev pub block_copies : FlatBlock → Bool
block_copies k = list_any copies_register k.code
