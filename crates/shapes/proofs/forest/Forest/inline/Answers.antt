use Rattle.std.proofs.Common.{◌≡◌, List, map, Option, Some, None, refl, sym, ap, ap₂, ◌∙◌}
use Rattle.std.specs.Option.{option_map}
use Rattle.ir_core.specs.declared.module.Module.{Module}
use Rattle.shapes.specs.Tree.{Tree}
use Rattle.shapes.specs.Standing.{Trees, values, tree_of}
use Rattle.shapes.specs.Added.{Added}
use Rattle.shapes.specs.Renewed.{renewed}
use Rattle.shapes.proofs.Sites.{label_candidate}
use Rattle.shapes.proofs.Forests.{callee_tree, old_trees}
use Rattle.shapes.proofs.Inlines.{after}
use Rattle.shapes.proofs.forest.Forest.inline.Goals as goal

pub callee-requires : goal.callee-requires
callee-requires g c = (label_candidate c.args.g.now c.args.self.now.labels c.args.s None c.requires.forest.candidates c.requires.undecided).0

pub caller-requires : goal.caller-requires
caller-requires g c = (label_candidate c.args.g.now c.args.self.now.labels c.args.s None c.requires.forest.candidates c.requires.undecided).0

pub shape-callee-requires : goal.shape-callee-requires
shape-callee-requires g c =
    let candidate = label_candidate c.args.g.now c.args.self.now.labels c.args.s None c.requires.forest.candidates c.requires.undecided in
    let tree = callee_tree c.args.v.now c.args.g.now c.args.self.now c.requires.graph c.requires.forest c.args.s candidate in
    rw (c.callee.ensures candidate.1.0 candidate.1.1, tree.1) refl

pub shapes-requires-clause-old : goal.shapes-requires-clause-old
shapes-requires-clause-old g c =
    let trees = ap Added.trees c.new-inlining.ensures ∙ ap values c.deref-2.ensures.value ∙ ap (λ t. values t.items) c.deref.ensures ∙ ap Trees.trees c.self.view_is in
    rw c.module.ensures.same (old_trees c.args.v.now c.args.g.now c.args.self.now c.requires.graph c.requires.forest c.new-inlining.result trees)

pub shapes-requires-clause-callee : goal.shapes-requires-clause-callee
shapes-requires-clause-callee g c =
    let is = c.shape-callee.ensures ∙ ap (λ (a : Added). Some a.callee) (sym c.new-inlining.ensures) in
    rw c.module.ensures.same (c.requires.forest.stands c.callee.result c.new-inlining.result.callee is).weighed

pub returns-clause-forest : goal.returns-clause-forest
returns-clause-forest g c =
    let candidate = label_candidate c.args.g.now c.args.self.now.labels c.args.s None c.requires.forest.candidates c.requires.undecided in
    let a = c.new-inlining.result in
    let y = candidate.1.0 in
    let site : a.site ≡ c.args.s = ap Added.site c.new-inlining.ensures in
    let trees = ap Added.trees c.new-inlining.ensures ∙ ap values c.deref-2.ensures.value ∙ ap (λ t. values t.items) c.deref.ensures ∙ ap Trees.trees c.self.view_is in
    let caller = ap Added.caller c.new-inlining.ensures ∙ c.caller.ensures y candidate.1.1 in
    let callee = ap (tree_of c.args.self.now) (sym (c.callee.ensures y candidate.1.1)) ∙ c.shape-callee.ensures ∙ ap (λ (a : Added). Some a.callee) (sym c.new-inlining.ensures) in
    let forest = after c.args.v.now c.args.g.now c.args.self.now c.requires.graph c.requires.forest a (rw site c.requires.undecided) y (rw site candidate.1.1) trees caller callee c.in_ok-partial.partial (rw site c.in_ok-partial.ensures) in
    let table = ap (λ t. values t.items) c.in_ok-new.ensures.ok ∙ c.in_ok-table.ensures.shapes ∙ ap₂ (λ (m : Module) (os : List (Option Tree)). map (option_map (renewed m a)) os) c.module.ensures.same trees in
    rw table forest
