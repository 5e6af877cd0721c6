-- Where tables lead each block and each instruction to itself, names differ.
use Rattle.std.proofs.Common.{◌≡◌, ℕ, List, Option, Some, sym, ap, ◌∙◌}
use Rattle.ir_core.specs.declared.op.LocalId.{LocalId}
use Rattle.ir_core.specs.declared.func.Block.{Block}
use Rattle.ir_core.specs.declared.func.Func.{Func}
use Rattle.ir_core.specs.ValidPaths.{IsBlockOf}
use Rattle.ir_assigned.specs.declared.names.Spot.{Spot}
use Rattle.ir_assigned.specs.Names.{found, LabelsDiffer, RegistersDiffer, IsWriter}

pub labels_told : (f : Func) (table : List (Option ℕ)) → ((b : ℕ) (k : Block) → IsBlockOf f b k → found table k.label.0 ≡ Some b) → LabelsDiffer f
labels_told f table told x a b (k, at, kx) (l, bt, lx) =
    let here : found table x.0 ≡ Some a = ap (λ (z : LocalId). found table z.0) (sym kx) ∙ told a k at in
    let there : found table x.0 ≡ Some b = ap (λ (z : LocalId). found table z.0) (sym lx) ∙ told b l bt in
    let both : Some a ≡ Some b = sym here ∙ there in
    cc

pub registers_told : (f : Func) (table : List (Option Spot)) → ((b : ℕ) (k : Block) (at : ℕ) (x : LocalId) → IsBlockOf f b k → IsWriter k at x → found table x.0 ≡ Some (record { block = b; at = at })) → RegistersDiffer f
registers_told f table told x s t (k, here, w) (l, there, v) =
    let both : Some s ≡ Some t = sym (told s.block k s.at x here w) ∙ told t.block l t.at x there v in
    let same : s ≡ t = cc in
    (ap Spot.block same, ap Spot.at same)
