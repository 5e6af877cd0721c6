use Rattle.std.proofs.Common.{refl, sym, ap₂, ◌∙◌}
use Rattle.shapes.specs.Renewed.{tree_over}
use Rattle.shapes.proofs.Renewals.{callees_within, reaches_is, renewed_is, new_weighed}
use Rattle.shapes.proofs.renewal.Inlining.renewal.Goals as goal

pub reaches-requires : goal.reaches-requires
reaches-requires g c = callees_within c.args.m.now c.args.self.now c.args.shape.now c.requires.old c.args.renewals.now c.requires.known

pub callees-requires : goal.callees-requires
callees-requires g c = callees_within c.args.m.now c.args.self.now c.args.shape.now c.requires.old c.args.renewals.now c.requires.known

pub of-requires : goal.of-requires
of-requires g c = rw c.in_ok-callees.ensures (new_weighed c.args.m.now c.args.self.now c.args.shape.now c.requires.old c.args.renewals.now c.requires.known c.requires.seen c.requires.callee)

pub returns-then-not-reaches-clause-renewal : goal.returns-then-not-reaches-clause-renewal
returns-then-not-reaches-clause-renewal g c =
    let is = reaches_is c.args.m.now c.args.self.now c.args.shape.now c.requires.old c.args.renewals.now c.requires.known c.requires.seen in
    (c.args.shape.now, refl, sym is ∙ sym c.reaches.ensures ∙ c.if-not-reaches.true)

pub returns-clause-renewal : goal.returns-clause-renewal
returns-clause-renewal g c =
    let is = reaches_is c.args.m.now c.args.self.now c.args.shape.now c.requires.old c.args.renewals.now c.requires.known c.requires.seen in
    let new = renewed_is c.args.m.now c.args.self.now c.args.shape.now c.requires.old c.args.renewals.now c.requires.known c.requires.seen in
    (c.args.shape.now, refl, sym is ∙ sym c.reaches.ensures ∙ c.if-not-reaches.false, c.in_ok-new.ensures.shape ∙ ap₂ (λ f ks. tree_over c.args.m.now f ks) c.func.ensures c.in_ok-callees.ensures ∙ new)
