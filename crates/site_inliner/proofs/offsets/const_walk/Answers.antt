use Rattle.std.proofs.Common.{refl, sym, ap, ◌∙◌, subst}
use Rattle.std.specs.Prelude.{unwrap_or, IfSome}
use Rattle.std.specs.Option.{option_copied}
use Rattle.ir_core.specs.declared.ty.IrType.{Void}
use Rattle.ir_core.specs.Constants.{constant_index}
use Rattle.module_rules.proofs.Folds.{cut}
use Rattle.site_inliner.specs.Measured.{IsMeasured}
use Rattle.site_inliner.specs.Steps.{path_of}
use Rattle.site_inliner.proofs.PathLaws.{const_on, const_ends}
use Rattle.site_inliner.proofs.offsets.const_walk.Goals as goal

pub returns-in-None : goal.returns-in-None
returns-in-None c =
    let i = constant_index c.index-item.result in
    const_ends c.args.m.now.types.defs c.args.source.now c.loop-index.at.now c.index-item.result c.args.indices.now _ _ c.loop-index.bytes c.step_bytes-bytes.result _ (path_of c.step-step.result i) c.loop-index.invariant
    (cut _ _ _ _ refl c.loop-index-test.true c.index-item.is) (c.step-step.ensures.path i (sym c.index_word.ensures)) c.step_bytes-bytes.ensures refl
    (ap (λ o. unwrap_or (option_copied o) Void) (sym c.in-None.is) ∙ c.step_inside.ensures.same ∙ c.step-step.ensures.inside i (sym c.index_word.ensures))

pub loop-index-preserved : goal.loop-index-preserved
loop-index-preserved c =
    let defs = c.args.m.now.types.defs in
    let i = constant_index c.index-item.result in
    const_on defs c.args.source.now c.loop-index.at.now c.index-item.result c.args.indices.now _ _ c.loop-index.bytes c.step_bytes-bytes.result _ (path_of c.step-step.result i) c.loop-index.invariant
    (cut _ _ _ _ refl c.loop-index-test.true c.index-item.is) (c.step-step.ensures.path i (sym c.index_word.ensures)) c.step_bytes-bytes.ensures refl
    c.in-Some.inner.now
    (ap (λ o. unwrap_or (option_copied o) Void) (sym c.in-Some.is) ∙ c.step_inside.ensures.same ∙ c.step-step.ensures.inside i (sym c.index_word.ensures))
    (subst (λ o. IfSome (option_copied o) (IsMeasured defs)) c.in-Some.is (c.step_inside.ensures.measured defs c.step-step.ensures.measured))
