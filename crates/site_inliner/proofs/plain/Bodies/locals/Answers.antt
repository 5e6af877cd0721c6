use Rattle.std.proofs.Common.{ap, ◌∙◌, map, sym, subst, slice_get}
use Rattle.ir_core.specs.declared.module.Module.{Module}
use Rattle.site_inliner.specs.Measured.{IsMeasuredFunc}
use Rattle.site_inliner.proofs.MeasuredFuncs.{measured}
use Rattle.module_rules.specs.Faults.{numbers_of}
use Rattle.site_inliner.specs.Parts.{Part, label_number}
use Rattle.site_inliner.proofs.NamesOnce.{found_registers, found_labels}
use Rattle.site_inliner.proofs.plain.Bodies.locals.Goals as goal

pub of-requires-clause-registers : goal.of-requires-clause-registers
of-requires-clause-registers c =
    c.in_ok-registers.ensures.same ∙ c.in_ok-register_numbers.ensures ∙ found_registers c.args.self.now c.self.inside.source.now c.self.view_is c.self.invariant.1 c.args.func.now c.requires

pub of-requires-clause-labels : goal.of-requires-clause-labels
of-requires-clause-labels c =
    c.in_ok-labels.ensures.same ∙ c.in_ok-label_numbers.ensures ∙ ap (λ bs. numbers_of (map label_number bs)) c.as_slice.ensures
    ∙ found_labels c.args.self.now c.self.inside.source.now c.self.view_is c.self.invariant.1 c.args.func.now c.requires

pub returns-clause-measured : goal.returns-clause-measured
returns-clause-measured c =
    let m = c.self.inside.source.now in
    let found = ap (λ (n : Module). slice_get n.funcs c.requires.0) c.self.view_is ∙ c.requires.1 in
    subst (λ (p : Part). IsMeasuredFunc p.source.types.defs p.func) (sym c.of.ensures) (measured m c.requires.0 c.args.func.now c.self.invariant.0 c.self.invariant.1 found)
