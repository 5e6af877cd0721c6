use Rattle.std.proofs.Common.{◌≡◌, ◌++◌, List, [], ◌∷◌, map, sym, ap, subst, ◌∙◌, arith}
use Rattle.std.specs.List.{All}
use Rattle.std.proofs.lemmas.List.{map-append}
use Rattle.component_split.specs.declared.count.State.{State}
use Rattle.component_split.specs.Tree.{nodes}
use Rattle.component_split.specs.Over.{site_graph, reached_from}
use Rattle.component_split.specs.States.{IsStateOf, HaveTrees, Point, SamePoints, none_decided, children, point}
use Rattle.component_split.proofs.Agreeing.{same_trees}
use Rattle.component_split.proofs.Trees.{all_more, all_front, all_last, counted_step, one_left}
use Rattle.component_split.proofs.count.count_nodes.Goals as goal

pub loop-state-init : goal.loop-state-init
loop-state-init c =
    let P : State → Type 0 = λ s. IsStateOf c.args.g.now s in
    let one : c.push.new.self.items ≡ c.in_ok-start.field-0 ∷ [] = c.in_ok-push.ensures.items ∙ ap (λ (ss : List State). ss ++ c.in_ok-start.field-0 ∷ []) c.new-todo.ensures.items in
    let g = site_graph c.args.g.now in
    let first : List Point = (none_decided c.args.g.now, reached_from 0 c.args.g.now.funcs) ∷ [] in
    let points : SamePoints g (map point c.push.new.self.items) first = subst (λ (ss : List State). SamePoints g (map point ss) first) (sym one) (c.in_ok-start.ensures.point, tt) in
    record {
      states = subst (All P) (sym one) (all_more P [] c.in_ok-start.field-0 (λ k d l. absurd (omega (arith, l))) c.in_ok-start.ensures.state);
      trees = λ t h. (t ∷ [], same_trees g (map point c.push.new.self.items) first (t ∷ []) points (h, tt), omega arith);
      marks = c.in_ok-marks.ensures;
      few = omega arith;
    }

pub returns-then-count-limit : goal.returns-then-count-limit
returns-then-count-limit c = λ t h.
    let r = c.loop-state.invariant.trees t h in
    let items : map point c.loop-state.todo.items ≡ map point c.pop.new.self.items ++ point c.in-Some.state ∷ [] = ap (λ (ss : List State). map point ss) c.in-Some.ensures.items ∙ map-append point c.pop.new.self.items (c.in-Some.state ∷ []) in
    let a = one_left (site_graph c.args.g.now) (map point c.pop.new.self.items) (point c.in-Some.state) r.0 (subst (λ (xs : List Point). HaveTrees (site_graph c.args.g.now) xs r.0) items r.1) in
    let e = r.2 in let m = c.if-count-limit.true in
    omega (arith, a, e, m)

pub push_children-requires-clause-state : goal.push_children-requires-clause-state
push_children-requires-clause-state c = let P : State → Type 0 = λ s. IsStateOf c.args.g.now s in all_last P c.pop.new.self.items c.in-Some.state (subst (All P) c.in-Some.ensures.items c.loop-state.invariant.states)

pub push_children-requires-clause-others : goal.push_children-requires-clause-others
push_children-requires-clause-others c = let P : State → Type 0 = λ s. IsStateOf c.args.g.now s in all_front P c.pop.new.self.items c.in-Some.state (subst (All P) c.in-Some.ensures.items c.loop-state.invariant.states)

pub loop-state-preserved : goal.loop-state-preserved
loop-state-preserved c = record {
  states = c.in_ok-push_children.ensures.states;
  trees = λ t h.
      let r = c.loop-state.invariant.trees t h in
      let g = site_graph c.args.g.now in
      let items : map point c.loop-state.todo.items ≡ map point c.pop.new.self.items ++ point c.in-Some.state ∷ [] = ap (λ (ss : List State). map point ss) c.in-Some.ensures.items ∙ map-append point c.pop.new.self.items (c.in-Some.state ∷ []) in
      let s = counted_step g (map point c.pop.new.self.items) (point c.in-Some.state) r.0 c.loop-state.count (nodes t) (subst (λ (xs : List Point). HaveTrees g xs r.0) items r.1) r.2 in
      (s.0, same_trees g (map point c.push_children.new.todo.items) (map point c.pop.new.self.items ++ children g (point c.in-Some.state)) s.0 c.in_ok-push_children.ensures.children s.1, s.2);
  marks = c.push_children.ensures.marks ∙ c.loop-state.invariant.marks;
  few = let a = c.loop-state.invariant.few in let n = c.if-count-limit.false in omega (arith, a, n);
}
