use Rattle.std.proofs.Common.{List, [], ◌∷◌, ◌++◌, Some, sym, ap₂, ◌∙◌, subst}
use Rattle.ir_core.specs.declared.flat.FlatBlock.{FlatBlock}
use Rattle.ir_core.specs.declared.flat.FlatInstr.{FlatInstr}
use Rattle.ir_core.specs.declared.flat.Phi.{Phi}
use Rattle.ir_core.specs.declared.flat.FlatEnd.TheVariants.{Ret}
use Rattle.ir_core.specs.declared.flat.FlatOp.TheVariants.{Word}
use Rattle.ir_core.specs.WellFormed.{IsWellFormed}
use Rattle.image_tests.proofs.ZeroBody.{zero_is_well_formed}
use Rattle.image_tests.proofs.codes.returning.Goals as goal

pub returns : goal.returns
returns c =
    let block = ap₂ (λ (ps : List Phi) (is : List FlatInstr). record { phis = ps; code = is; end = Ret (Some (Word 0)) }) c.new.ensures c.new-2.ensures in
    let blocks = c.in_ok-push.ensures.ok ∙ ap₂ (λ (bs : List FlatBlock) (b : FlatBlock). bs ++ b ∷ []) c.new-blocks.ensures block in
    subst (λ (bs : List FlatBlock). IsWellFormed (record { params = 0; regs = 0; blocks = bs })) (sym blocks) zero_is_well_formed
