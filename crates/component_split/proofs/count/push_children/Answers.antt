use Rattle.std.proofs.Common.{◌≡◌, ◌++◌, List, [], false, map, length, sym, ap, subst, ◌∙◌, arith}
use Rattle.std.specs.List.{All}
use Rattle.std.proofs.lemmas.List.{append-nil}
use Rattle.component_split.specs.Graph.{has, inside}
use Rattle.component_split.specs.Split.{components}
use Rattle.component_split.specs.Chosen.{chosen}
use Rattle.component_split.specs.Tree.{is_decided}
use Rattle.component_split.specs.Over.{site_graph, labels, Set, HoldsInside}
use Rattle.component_split.specs.States.{SamePoints, Point, children, point}
use Rattle.component_split.proofs.Agreeing.{same_refl}
use Rattle.component_split.proofs.Held.{parts_hold, open_is_inside}
use Rattle.component_split.proofs.Trees.{leaf_children, one_connected, chosen_open, open_is_site, not_several, are_several, split_children, branch_children, parts_points}
use Rattle.component_split.proofs.count.push_children.Goals as goal

pub choose-site-requires-clause-connected : goal.choose-site-requires-clause-connected
choose-site-requires-clause-connected c =
    let g = site_graph c.args.g.now in
    let p = labels c.args.state.now.partial in
    let fs = c.args.state.now.set.0 in
    let ps = c.in_ok-parts.parts.items in
    let open_one : is_decided g p fs ≡ false = sym c.is_decided.ensures ∙ c.if-is_decided.false in
    let n : c.len.result ≡ length ps = c.len.ensures ∙ c.in_ok-parts.parts.ok.0 in
    let t = c.if-len-gt1.false in
    one_connected g p fs (not_several g p fs ps c.in_ok-parts.ensures.parts (omega (arith, n, t)))

pub push_branch-requires-clause-site : goal.push_branch-requires-clause-site
push_branch-requires-clause-site c =
    let g = site_graph c.args.g.now in
    let p = labels c.args.state.now.partial in
    let fs = c.args.state.now.set.0 in
    let ps = c.in_ok-parts.parts.items in
    let open_one : is_decided g p fs ≡ false = sym c.is_decided.ensures ∙ c.if-is_decided.false in
    let n : c.len.result ≡ length ps = c.len.ensures ∙ c.in_ok-parts.parts.ok.0 in
    ap (has g.sites) c.choose-site.ensures.chosen ∙ open_is_site g p fs (chosen g p fs) (chosen_open g p fs open_one)

pub push_branch-requires-clause-inside : goal.push_branch-requires-clause-inside
push_branch-requires-clause-inside c =
    let g = site_graph c.args.g.now in
    let p = labels c.args.state.now.partial in
    let fs = c.args.state.now.set.0 in
    let open_one : is_decided g p fs ≡ false = sym c.is_decided.ensures ∙ c.if-is_decided.false in
    ap (inside g fs) c.choose-site.ensures.chosen ∙ open_is_inside g p fs (chosen g p fs) (chosen_open g p fs open_one)

pub push_parts-requires-clause-maps : goal.push_parts-requires-clause-maps
push_parts-requires-clause-maps c =
    let all = parts_hold c.args.g.now (labels c.args.state.now.partial) c.args.state.now.set c.args.state.now.partial c.in_ok-parts.parts.items c.in_ok-parts.ensures.parts c.requires.state.1 in
    subst (λ (ps : List Set). All (λ s. HoldsInside c.args.g.now s c.args.state.now.partial) ps) (sym c.deref.ensures.value) all

pub returns-then-is_decided-clause-children : goal.returns-then-is_decided-clause-children
returns-then-is_decided-clause-children c =
    let g = site_graph c.args.g.now in
    let p = labels c.args.state.now.partial in
    let fs = c.args.state.now.set.0 in
    let old : List Point = map point c.args.todo.now.items in
    let e : children g (p, fs) ≡ [] = leaf_children g p fs (sym c.is_decided.ensures ∙ c.if-is_decided.true) in
    subst (SamePoints g old) (sym (ap (λ (xs : List Point). old ++ xs) e ∙ append-nil old)) (same_refl g old)

pub returns-then-len-gt1-clause-children : goal.returns-then-len-gt1-clause-children
returns-then-len-gt1-clause-children c =
    let g = site_graph c.args.g.now in
    let p = labels c.args.state.now.partial in
    let fs = c.args.state.now.set.0 in
    let ps = c.in_ok-parts.parts.items in
    let open_one : is_decided g p fs ≡ false = sym c.is_decided.ensures ∙ c.if-is_decided.false in
    let n : c.len.result ≡ length ps = c.len.ensures ∙ c.in_ok-parts.parts.ok.0 in
    let t = c.if-len-gt1.true in
    let several = are_several g p fs ps c.in_ok-parts.ensures.parts (omega (arith, n, t)) in
    let e = ap (λ (xs : List Point). map point c.args.todo.now.items ++ xs) (ap (λ (ss : List Set). map {B = Point} (λ (s : Set). (p, s.0)) ss) c.deref.ensures.value ∙ parts_points p ps (components g p fs) c.in_ok-parts.ensures.parts ∙ sym (split_children g p fs open_one several)) in
    subst (SamePoints g (map point c.push_parts.new.todo.items)) e c.in_ok-push_parts.ensures.points

pub returns-clause-children : goal.returns-clause-children
returns-clause-children c =
    let g = site_graph c.args.g.now in
    let p = labels c.args.state.now.partial in
    let fs = c.args.state.now.set.0 in
    let ps = c.in_ok-parts.parts.items in
    let open_one : is_decided g p fs ≡ false = sym c.is_decided.ensures ∙ c.if-is_decided.false in
    let n : c.len.result ≡ length ps = c.len.ensures ∙ c.in_ok-parts.parts.ok.0 in
    let t = c.if-len-gt1.false in
    let one = not_several g p fs ps c.in_ok-parts.ensures.parts (omega (arith, n, t)) in
    let new : List Point = map point c.push_branch.new.todo.items in
    let e : new ≡ map point c.args.todo.now.items ++ children g (p, fs) = c.in_ok-push_branch.ensures.points ∙ ap (λ (xs : List Point). map point c.args.todo.now.items ++ xs) (sym (branch_children g p fs c.choose-site.result.0 open_one one c.choose-site.ensures.chosen)) in
    subst (SamePoints g new) e (same_refl g new)
