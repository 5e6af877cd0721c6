use Rattle.std.proofs.Common.{◌≡◌, refl, sym, ap, ◌∙◌, subst}
use Rattle.std.specs.Prelude.{unwrap_or}
use Rattle.std.specs.Option.{option_copied}
use Rattle.ir_core.specs.declared.ty.IrType.{Void}
use Rattle.ir_core.specs.declared.module.Module.{Module}
use Rattle.ir_core.specs.Constants.{field_number, into, inside, element_of}
use Rattle.ir_core.specs.Instructions.{typed, index}
use Rattle.ir_core.specs.Plain.{numbers}
use Rattle.module_rules.proofs.Folds.{cut}
use Rattle.site_inliner.specs.Steps.{path_of, type_of}
use Rattle.site_inliner.proofs.SameOperands.{same_number}
use Rattle.site_inliner.proofs.PathLaws.{ends_bytes, ends_terms}
use Rattle.site_inliner.proofs.locals.Locals.walk.Goals as goal

pub returns-in-None : goal.returns-in-None
returns-in-None c =
    let p = c.args.self.now in
    let i = index p.source c.index-item.result in
    let at = c.loop-index.at.now in
    let number : field_number i.operand ≡ c.field_number.result = sym (c.field_number.ensures ∙ ap field_number c.typed.ensures ∙ same_number (numbers p.func) (typed p.source c.index-item.result)) in
    let goes = subst (λ (m : Module). path_of c.step-step.result i ≡ into m.types.defs at (element_of m.types.defs at) i) c.source.ensures (c.step-step.ensures.path i number) in
    let leads = subst (λ (m : Module). type_of c.step-step.result ≡ inside m.types.defs at (element_of m.types.defs at) i) c.source.ensures (c.step-step.ensures.inside i number) in
    let nothing = ap (λ o. unwrap_or (option_copied o) Void) (sym c.in-None.is) ∙ c.step_inside.ensures.same ∙ leads in
    record {
      bytes =
          ends_bytes p c.args.source.now at c.index-item.result c.args.indices.now _ _ c.loop-index.bytes c.field_bytes-bytes.result _ c.args.terms.now c.loop-index.terms c.add_terms.new.terms (path_of c.step-step.result i) c.loop-index.invariant
          (cut _ _ _ _ refl c.loop-index-test.true c.index-item.is) goes (c.field_bytes-bytes.ensures i) refl c.in_ok-add_terms.ensures nothing;
      terms =
          ends_terms p c.args.source.now at c.index-item.result c.args.indices.now _ _ c.loop-index.bytes c.field_bytes-bytes.result _ c.args.terms.now c.loop-index.terms c.add_terms.new.terms (path_of c.step-step.result i) c.loop-index.invariant
          (cut _ _ _ _ refl c.loop-index-test.true c.index-item.is) goes (c.field_bytes-bytes.ensures i) refl c.in_ok-add_terms.ensures nothing;
    }
