-- What tells that a body has no dead code.
use Rattle.std.specs.Prelude.{ℕ, Bool, false, not, ◌||◌, Option, Some, None}
use Rattle.std.specs.List.{list_any}
use Rattle.ir_core.specs.declared.flat.Phi.{Phi}
use Rattle.ir_core.specs.declared.flat.FlatInstr.{FlatInstr}
use Rattle.ir_core.specs.declared.flat.FlatBlock.{FlatBlock}
use Rattle.ir_core.specs.Formed.{written_by}

-- whether there is a register, and it is not kept
abbrev pub is_lost : (ℕ → Bool) → Option ℕ → Bool
is_lost keep None = false
is_lost keep (Some r) = not (keep r)

-- whether an instruction writes a register that is not kept
abbrev pub loses : (ℕ → Bool) → FlatInstr → Bool
loses keep i = is_lost keep (written_by i)

-- whether a phi or an instruction of a block does
abbrev pub block_loses : (ℕ → Bool) → FlatBlock → Bool
block_loses keep k = list_any (λ (f : Phi). not (keep f.reg.0)) k.phis || list_any (loses keep) k.code
