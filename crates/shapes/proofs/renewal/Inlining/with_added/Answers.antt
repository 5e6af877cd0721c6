use Rattle.std.proofs.Common.{nat_lt, ap, ◌∙◌}
use Rattle.std.specs.List.{prefix_len}
use Rattle.shapes.specs.Tree.{callees}
use Rattle.shapes.specs.Added.{Added}
use Rattle.shapes.proofs.Renewals.{inserted_here}
use Rattle.shapes.proofs.renewal.Inlining.with_added.Goals as goal

pub returns : goal.returns
returns c =
    let site = ap Added.site c.self.view_is in
    let callee = c.in_ok-callee.ensures.cases ∙ ap Added.callee c.self.view_is in
    let caller = c.if-f-self.false ∙ ap (λ (a : Added). a.caller.0) c.self.view_is in
    let place = c.before-at.ensures.count ∙ ap (λ vs. prefix_len (λ e. nat_lt e.0.0 c.self.inside.site.0) vs) c.deref.ensures.value in
    ap callees (c.from_vec-2.ensures ∙ c.in_ok-insert.ensures.items)
    ∙ inserted_here c.args.self.now c.args.f c.args.others.items c.self.inside.site c.in_ok-callee.callee c.before-at.result caller site callee place
