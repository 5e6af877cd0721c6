-- What the rules of a module say of a run: its registers have numbers of their own, no register is written twice in a block,
-- allocas stand in the entry block, and nothing leads back there.
use Rattle.std.proofs.Common.{◌≡◌, ◌≢◌, ℕ, ◌<◌, List, length, drop, Some, slice_get}
use Rattle.std.specs.List.{filter_map, AllByRecursion as Each}
use Rattle.oi_base.specs.declared.ids.RegId.{RegId}
use Rattle.ir_core.specs.declared.flat.Phi.{Phi}
use Rattle.ir_core.specs.declared.flat.FlatInstr.{FlatInstr}
use Rattle.ir_core.specs.declared.flat.FlatInstr.TheVariants.{Alloca}
use Rattle.ir_core.specs.declared.flat.FlatBlock.{FlatBlock}
use Rattle.ir_core.specs.declared.func.Func.{Func}
use Rattle.ir_core.specs.declared.func.Param.{Param}
use Rattle.ir_core.specs.declared.module.Module.{Module}
use Rattle.ir_core.specs.Formed.{written_by, targets}
use Rattle.ir_core.specs.Source.{block_at, entry_label}
use Rattle.ir_core.specs.Plain.{numbers, registers}
use Rattle.ir_core.proofs.Lists.{Has, Apart}

-- the function with this position has a block with this label
pub record IsAt (m : Module) (f x : ℕ) (g : Func) (k : FlatBlock) : Type 0 where
  pub func : slice_get m.funcs f ≡ Some g
  pub block : block_at m f x ≡ Some k

-- the registers that a block writes from an instruction on
abbrev pub coming : FlatBlock → ℕ → List ℕ
coming k p = filter_map written_by (drop p k.code)

abbrev pub IsRegister : Func → ℕ → Type 0
IsRegister g d = (numbers g).reg d < length (registers g)

pub record Sound (m : Module) : Type 0 where
  pub labels : (f x : ℕ) (g : Func) (k : FlatBlock) → IsAt m f x g k → (numbers g).block x < length g.blocks
  pub results : (f x : ℕ) (g : Func) (k : FlatBlock) → IsAt m f x g k → (p d : ℕ) (i : FlatInstr) → slice_get k.code p ≡ Some i → written_by i ≡ Some d → IsRegister g d
  pub phis : (f x : ℕ) (g : Func) (k : FlatBlock) → IsAt m f x g k → Each (λ (q : Phi). IsRegister g q.reg.0) k.phis
  pub once : (f x : ℕ) (g : Func) (k : FlatBlock) → IsAt m f x g k → Apart (coming k 0)
  pub params : (f x : ℕ) (g : Func) (k : FlatBlock) → IsAt m f x g k → Each (λ (d : ℕ). Each (λ (q : Param). q.name.0 ≢ d) g.params) (coming k 0)
  pub allocas : (f x : ℕ) (g : Func) (k : FlatBlock) → IsAt m f x g k → (p size align : ℕ) (d : RegId) → slice_get k.code p ≡ Some (Alloca d size align) → x ≡ entry_label g
  pub no_way_back : (f x : ℕ) (g : Func) (k : FlatBlock) → IsAt m f x g k → (t : ℕ) → Has (targets k.end) t → t ≢ entry_label g
