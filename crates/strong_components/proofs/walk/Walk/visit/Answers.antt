use Rattle.std.proofs.Common.{◌<◌, false, Some, length, sym, subst, refl, ap, ◌∙◌}
use Rattle.std.proofs.lemmas.Option.{slice_get-get_or}
use Rattle.strong_components.specs.Chains.{IsRootIn}
use Rattle.strong_components.specs.Walk.{state, Inv}
use Rattle.strong_components.proofs.Walked.{root_keeps, read_mark}
use Rattle.strong_components.proofs.walk.Walk.visit.Goals as goal

pub run-requires-clause-inv : goal.run-requires-clause-inv
run-requires-clause-inv c =
    let n = length c.args.graph.now.roots.now in
    let edges = c.args.graph.now.edges.now in
    let root = IsRootIn c.args.graph.now.roots.now in
    let s = state c.args.self.now in
    let lt = subst (λ x. c.args.f < x) (sym c.requires.inv.marks) c.requires.within in
    let is : IsRootIn c.args.graph.now.roots.now c.args.f = slice_get-get_or c.args.graph.now.roots.now c.args.f false c.requires.within ∙ ap Some c.if-not-graph-f.false in
    subst (Inv n edges root) (sym c.in_ok-enter-in-Unseen.ensures)
    (root_keeps n edges root s c.requires.inv c.requires.idle c.args.f c.requires.within (read_mark s c.args.f c.index.result.now lt c.index.ensures ∙ c.in-Unseen.is) is)
