use Rattle.std.proofs.Common.{◌≡◌, ◌++◌, ◌+◌, List, [], ◌∷◌, map, take, get_or, append_assoc, sym, ap, subst, ◌∙◌}
use Rattle.std.specs.List.{All}
use Rattle.std.proofs.lemmas.List.{append-nil, map-append, take_more}
use Rattle.component_split.specs.declared.count.State.{State}
use Rattle.component_split.specs.Over.{site_graph, labels, Set, IsSetOf, HoldsInside}
use Rattle.component_split.specs.States.{IsStateOf, AgreeInside, SamePoint, SamePoints, Point, point}
use Rattle.component_split.proofs.Trees.{all_more}
use Rattle.component_split.proofs.Agreeing.{same_refl, same_more}
use Rattle.component_split.proofs.count.push_parts.Goals as goal

pub labels_inside-requires-clause-set : goal.labels_inside-requires-clause-set
labels_inside-requires-clause-set c = subst (IsSetOf c.args.g.now) (sym c.set-item.is) (c.requires.sets c.loop-set.set-index c.set-item.result c.loop-set-test.true)

pub labels_inside-requires-clause-map : goal.labels_inside-requires-clause-map
labels_inside-requires-clause-map c = subst (λ (s : Set). HoldsInside c.args.g.now s c.args.partial.now) (sym c.set-item.is) (c.requires.maps c.loop-set.set-index c.set-item.result c.loop-set-test.true)

pub loop-set-init : goal.loop-set-init
loop-set-init c = record {
  states = c.requires.others;
  points = let xs : List Point = map point c.args.todo.now.items in subst (SamePoints (site_graph c.args.g.now) xs) (sym (append-nil xs)) (same_refl (site_graph c.args.g.now) xs);
}

pub loop-set-preserved : goal.loop-set-preserved
loop-set-preserved c =
    let G = c.args.g.now in
    let g = site_graph G in
    let x : State = record { partial = c.in_ok-labels_inside.field-0; set = c.in_ok-copy.field-0 } in
    let P : State → Type 0 = λ s. IsStateOf G s in
    let k = c.loop-set.set-index in
    let part : Set = get_or c.args.sets.now k c.set-item.result in
    let it : c.in_ok-copy.field-0 ≡ part = c.in_ok-copy.ensures ∙ c.set-item.is in
    let set : IsSetOf G c.in_ok-copy.field-0 = subst (IsSetOf G) (sym it) (c.requires.sets k c.set-item.result c.loop-set-test.true) in
    let held : HoldsInside G c.in_ok-copy.field-0 c.in_ok-labels_inside.field-0 = subst (λ (s : Set). HoldsInside G s c.in_ok-labels_inside.field-0) (sym c.in_ok-copy.ensures) c.in_ok-labels_inside.ensures.map in
    let p = labels c.args.partial.now in
    let F : Set → Point = λ s. (p, s.0) in
    let agree : AgreeInside g c.in_ok-copy.field-0.0 (labels c.in_ok-labels_inside.field-0) p = subst (λ (s : Set). AgreeInside g s.0 (labels c.in_ok-labels_inside.field-0) p) (sym c.in_ok-copy.ensures) c.in_ok-labels_inside.ensures.agree in
    let same : SamePoint g (point x) (F part) = (ap (λ (s : Set). s.0) it, agree) in
    let old : List Point = map point c.args.todo.now.items in
    let pushed : map point c.push.new.self.items ≡ map point c.loop-set.todo.items ++ point x ∷ [] = ap (λ (ss : List State). map point ss) c.in_ok-push.ensures.items ∙ map-append point c.loop-set.todo.items (x ∷ []) in
    let dealt : (old ++ map F (take k c.args.sets.now)) ++ F part ∷ [] ≡ old ++ map F (take (k + 1) c.args.sets.now) =
    append_assoc old (map F (take k c.args.sets.now)) (F part ∷ [])
    ∙ ap (λ (ys : List Point). old ++ ys) (sym (map-append F (take k c.args.sets.now) (part ∷ [])) ∙ ap (map F) (sym (take_more c.args.sets.now k c.set-item.result c.loop-set-test.true))) in
    record {
      states = subst (All P) (sym c.in_ok-push.ensures.items) (all_more P c.loop-set.todo.items x c.loop-set.invariant.states (set, held));
      points = subst (λ (xs : List Point). SamePoints g xs (old ++ map F (take (k + 1) c.args.sets.now))) (sym pushed) (subst (SamePoints g (map point c.loop-set.todo.items ++ point x ∷ [])) dealt (same_more g (map point c.loop-set.todo.items) (old ++ map F (take k c.args.sets.now)) (point x) (F part) c.loop-set.invariant.points same));
    }
