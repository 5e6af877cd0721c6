-- Instructions, terminators and phis under other numbers of registers and blocks.
use Rattle.std.specs.Prelude.{ℕ}
use Rattle.oi_base.specs.declared.ids.RegId.{RegId}
use Rattle.oi_base.specs.declared.ids.BlockId.{BlockId}
use Rattle.ir_core.specs.declared.flat.FlatOp.{FlatOp}
use Rattle.ir_core.specs.declared.flat.Term.{Term}
use Rattle.ir_core.specs.declared.flat.Case.{Case}
use Rattle.ir_core.specs.declared.flat.FlatInstr.{FlatInstr}
use Rattle.ir_core.specs.declared.flat.FlatEnd.{FlatEnd}
use Rattle.ir_core.specs.Plain.{Numbers, other_reg, other_block, other_operand, other_term, other_instr, other_case, other_end}

-- other numbers of registers alone
abbrev pub for_regs : (ℕ → ℕ) → Numbers
for_regs g = record { reg = g; block = λ b. b }

abbrev pub reg_to : (ℕ → ℕ) → RegId → RegId
reg_to g r = other_reg (for_regs g) r

abbrev pub block_to : (ℕ → ℕ) → BlockId → BlockId
block_to g b = other_block (record { reg = λ r. r; block = g }) b

abbrev pub op_to : (ℕ → ℕ) → FlatOp → FlatOp
op_to g o = other_operand (for_regs g) o

abbrev pub term_to : (ℕ → ℕ) → Term → Term
term_to g t = other_term (for_regs g) t

abbrev pub instr_to : (ℕ → ℕ) → FlatInstr → FlatInstr
instr_to g i = other_instr (for_regs g) i

abbrev pub case_to : (ℕ → ℕ) → Case → Case
case_to h c = other_case (record { reg = λ r. r; block = h }) c

-- a terminator under other numbers of registers and of targets
abbrev pub end_to : (ℕ → ℕ) → (ℕ → ℕ) → FlatEnd → FlatEnd
end_to g h e = other_end (record { reg = g; block = h }) e
