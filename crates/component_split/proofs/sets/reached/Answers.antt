use Rattle.std.proofs.Common.{◌+◌, ◌<◌, ◌++◌, [], ◌∷◌, List, true, false, sym, ap, ◌∙◌, ℕ, length, drop, arith, get_or}
use Rattle.std.proofs.lemmas.List.{map-append}
use Rattle.oi_base.specs.declared.ids.FuncId.{FuncId}
use Rattle.call_graph.specs.declared.facts.FuncFacts.{FuncFacts}
use Rattle.std.proofs.lemmas.Option.{slice_get-get_or}
use Rattle.component_split.specs.Over.{func_numbers, reached_from}
use Rattle.component_split.proofs.Reached.{reached_more}
use Rattle.component_split.proofs.sets.reached.Goals as goal
use Rattle.component_split.proofs.sets.reached.Goals.{then-reached+in_ok-push, else-reached}

pub loop-f-preserved : goal.loop-f-preserved
loop-f-preserved c =
    let gs = c.args.g.now.funcs in
    let f = c.loop-f.f in
    let t = c.loop-f-test.true in let n = c.funcs-f-end.ensures in
    let d : FuncFacts = record { external = true; reached = true } in
    let x = get_or gs f d in
    let l : f < length gs = omega (arith, t, n) in
    let is = slice_get-get_or gs f d l in
    let r = c.reached.ensures x is in
    elim c.if-reached.branch [
      | then-reached+in_ok-push w ↦
          let m = reached_more gs f (func_numbers c.loop-f.funcs.items) (reached_from 0 gs) x l is true (sym r ∙ w.if-reached.true) c.loop-f.invariant in
          ap (λ (ys : List ℕ). ys ++ reached_from (f + 1) (drop (f + 1) gs)) (ap (λ v. func_numbers v.items) w.funcs-is ∙ ap func_numbers w.in_ok-push.ensures.items ∙ map-append (λ (f : FuncId). f.0) c.loop-f.funcs.items (record { 0 = f } ∷ [])) ∙ m
      | else-reached w ↦
          let m = reached_more gs f (func_numbers c.loop-f.funcs.items) (reached_from 0 gs) x l is false (sym r ∙ w.if-reached.false) c.loop-f.invariant in
          ap (λ (ys : List ℕ). ys ++ reached_from (f + 1) (drop (f + 1) gs)) (ap (λ v. func_numbers v.items) w.funcs-is) ∙ m
    ]
