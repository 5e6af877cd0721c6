-- The weight of a function's body in which inlined calls give way to the bodies of their callees.
use Rattle.std.specs.Prelude.{◌≡◌, ℕ, ◌+◌, min, sum_by, slice_get, Some}
use Rattle.std.specs.Option.{option_map_or}
use Rattle.oi_base.specs.declared.ids.FuncId.{FuncId}
use Rattle.ir_core.specs.declared.flat.FlatEnd.{FlatEnd}
use Rattle.ir_core.specs.declared.flat.FlatEnd.TheVariants.{Ret}
use Rattle.ir_core.specs.declared.flat.FlatBlock.{FlatBlock}
use Rattle.ir_core.specs.declared.flat.FlatBody.{FlatBody}
use Rattle.ir_core.specs.declared.func.Func.{Func}
use Rattle.ir_core.specs.declared.module.Module.{Module}
use Rattle.ir_core.specs.Plain.{plain_body}
use Rattle.ir_core.specs.Weight as bodies
use Rattle.shapes.specs.declared.shape.TheConstants.{MOST_WEIGHT}
use Rattle.shapes.specs.Tree.{Tree, node, Callees, none, more, func}

-- 1 where the block returns a value
abbrev pub gives_value : FlatEnd → ℕ
gives_value (Ret (Some a)) = 1
gives_value _ = 0

-- how many blocks return a value
abbrev pub value_returns : FlatBody → ℕ
value_returns b = sum_by (λ (k : FlatBlock). gives_value k.end) b.blocks

-- the weight of a function's own body, with every call kept
abbrev pub own_weight : Module → FuncId → ℕ
own_weight m f = option_map_or (λ (d : Func). bodies.weight (plain_body m d)) (slice_get m.funcs f.0) 0

-- what weighs more than the body of a function where it takes the place of a call: a copy into each parameter, and in the
-- phi of the results an entry for each block that returns one; the branch to the body stands in for the call
abbrev pub call_weight : Module → FuncId → ℕ
call_weight m f = option_map_or (λ (d : Func). (plain_body m d).params + value_returns (plain_body m d)) (slice_get m.funcs f.0) 0

abbrev mutual
  pub full_weight : Module → Tree → ℕ
  full_weight m (node f w ks) = own_weight m f + callees_weight m ks

  pub callees_weight : Module → Callees → ℕ
  callees_weight m none = 0
  callees_weight m (more s t ks) = call_weight m (func t) + full_weight m t + callees_weight m ks

-- weights as they are kept
abbrev pub kept : ℕ → ℕ
kept w = min w MOST_WEIGHT

-- each function of a tree has the weight that is kept for it
abbrev mutual
  pub IsWeighed : Module → Tree → Type 0
  IsWeighed m (node f w ks) = (w ≡ kept (own_weight m f + callees_weight m ks)) × AreWeighed m ks

  pub AreWeighed : Module → Callees → Type 0
  AreWeighed m none = Unit {0}
  AreWeighed m (more s t ks) = IsWeighed m t × AreWeighed m ks
