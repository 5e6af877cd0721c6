-- The weight of a flat body.
use Rattle.std.specs.Prelude.{ℕ, ◌+◌, length, sum_by}
use Rattle.ir_core.specs.declared.flat.Phi.{Phi}
use Rattle.ir_core.specs.declared.flat.FlatEnd.{FlatEnd}
use Rattle.ir_core.specs.declared.flat.FlatEnd.TheVariants.{Ret, Br, Cond, Switch, Unreachable}
use Rattle.ir_core.specs.declared.flat.FlatBlock.{FlatBlock}
use Rattle.ir_core.specs.declared.flat.FlatBody.{FlatBody}

-- the number of its entries
abbrev pub phi_weight : Phi → ℕ
phi_weight p = length p.entries

-- 1, and 1 more for each case
abbrev pub end_weight : FlatEnd → ℕ
end_weight (Ret v) = 1
end_weight (Br b) = 1
end_weight (Cond c t f) = 1
end_weight (Switch v w cases b) = length cases + 1
end_weight Unreachable = 1

-- each instruction weighs 1
abbrev pub block_weight : FlatBlock → ℕ
block_weight b = sum_by phi_weight b.phis + length b.code + end_weight b.end

abbrev pub weight : FlatBody → ℕ
weight b = sum_by block_weight b.blocks
