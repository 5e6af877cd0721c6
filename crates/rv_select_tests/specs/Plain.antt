-- Bodies without registers, whose blocks put bytes and lead to other blocks by constant conditions.
use Rattle.std.specs.Prelude.{◌≡◌, ℕ, ◌<◌, All, Some, None, length}
use Rattle.ir_core.specs.declared.flat.FlatOp.TheVariants.{Word}
use Rattle.ir_core.specs.declared.flat.FlatInstr.{FlatInstr}
use Rattle.ir_core.specs.declared.flat.FlatInstr.TheVariants.{Put}
use Rattle.ir_core.specs.declared.flat.FlatEnd.{FlatEnd}
use Rattle.ir_core.specs.declared.flat.FlatEnd.TheVariants.{Ret, Br, Cond, Unreachable}
use Rattle.ir_core.specs.declared.flat.FlatBlock.{FlatBlock}
use Rattle.ir_core.specs.declared.flat.FlatBody.{FlatBody}

abbrev pub IsPlainInstr : FlatInstr → Type 0
IsPlainInstr (Put None (Word w)) = w < 256
IsPlainInstr i = ⊥

-- one of so many blocks, and not the entry
abbrev pub IsTarget : ℕ → ℕ → Type 0
IsTarget count to = (0 < to) × (to < count)

abbrev pub IsPlainEnd : ℕ → FlatEnd → Type 0
IsPlainEnd count (Ret (Some (Word w))) = w < 256
IsPlainEnd count (Br b) = IsTarget count b.0
IsPlainEnd count (Cond (Word c) t e) = (c < 2) × IsTarget count t.0 × IsTarget count e.0
IsPlainEnd count Unreachable = Unit {0}
IsPlainEnd count e = ⊥

pub record IsPlainBlock (count : ℕ) (k : FlatBlock) : Type 0 where
  pub phis : length k.phis ≡ 0
  pub code : All IsPlainInstr k.code
  pub end : IsPlainEnd count k.end

pub record IsPlain (b : FlatBody) : Type 0 where
  pub params : b.params ≡ 0
  pub regs : b.regs ≡ 0
  pub some : 0 < length b.blocks
  pub few : length b.blocks < 4294967296
  pub blocks : All (IsPlainBlock (length b.blocks)) b.blocks
