use Rattle.std.proofs.Common.{◌≡◌, ◌<◌, ◌-◌, ◌&&◌, ℕ, List, Bool, true, false, ◌∷◌, length, drop, refl, sym, ap, subst, ◌∙◌, arith}
use Rattle.std.specs.Prelude.{slice_index}
use Rattle.std.proofs.lemmas.Bool.{and_from}
use Rattle.std.proofs.lemmas.List.{length-map}
use Rattle.component_split.specs.Graph.{inside, joins}
use Rattle.component_split.specs.Split.{joins_inside, lowest_by}
use Rattle.component_split.specs.Classes.{AreClassesBy, JoinsEnds, kept_but}
use Rattle.component_split.specs.Over.{site_graph, labels, site_numbers, func_numbers, IsRising, IsCandidateNumber}
use Rattle.component_split.proofs.Known.{number_at, site_of_set}
use Rattle.component_split.proofs.Joining.{step_apart, step_joined, lowest_inside, none_joined, drop_all, drop_next}
use Rattle.component_split.proofs.unions.join_sites.Goals as goal

pub loop-i-init : goal.loop-i-init
loop-i-init c =
    let g = site_graph c.args.g.now in
    let p = kept_but (labels c.args.p.now) c.args.but in
    let e : site_numbers c.s.inside.sites.items ≡ c.args.s.now.1 = ap (λ (v : List ℕ × List ℕ). v.1) c.s.view_is in
    let m : length (site_numbers c.s.inside.sites.items) ≡ length c.s.inside.sites.items = simp length-map in
    let v : c.len-i.result ≡ length c.s.inside.sites.items = c.len-i.ensures ∙ c.s.inside.sites.ok.0 in
    let n : c.len-i.result ≡ length c.args.s.now.1 = v ∙ sym m ∙ ap length e in
    record {
      classes = subst (λ (ss : List ℕ). AreClassesBy g p c.args.s.now.0 ss c.args.parents.now.items) (sym (ap (λ k. drop k c.args.s.now.1) n ∙ drop_all c.args.s.now.1)) (none_joined g p c.args.s.now.0 c.args.parents.now.items c.requires.apart);
      parents = c.requires.apart.parents;
      count = refl;
      within = omega (arith, n);
    }

pub joins_but-requires : goal.joins_but-requires
joins_but-requires c =
    let e : site_numbers c.s.inside.sites.items ≡ c.args.s.now.1 = ap (λ (v : List ℕ × List ℕ). v.1) c.s.view_is in
    let z = c.loop-i-test.true in let w = c.loop-i.invariant.within in
    let l : c.loop-i.i - 1 < length c.args.s.now.1 = omega (arith, z, w) in
    let q = number_at c.s.inside.sites.items c.args.s.now.1 e (c.loop-i.i - 1) c.index-site.result.now l c.index-site.ensures in
    let at = site_of_set c.args.g.now c.args.s.now c.requires.set (c.loop-i.i - 1) l in
    c.requires.map c.index-site.result.now (subst (λ q. IsCandidateNumber c.args.g.now q) q at.0) (subst (λ q. inside (site_graph c.args.g.now) c.args.s.now.0 q ≡ true) q at.1)

pub join_ends-requires-clause-candidate : goal.join_ends-requires-clause-candidate
join_ends-requires-clause-candidate c =
    let e : site_numbers c.s.inside.sites.items ≡ c.args.s.now.1 = ap (λ (v : List ℕ × List ℕ). v.1) c.s.view_is in
    let z = c.loop-i-test.true in let w = c.loop-i.invariant.within in
    let l : c.loop-i.i - 1 < length c.args.s.now.1 = omega (arith, z, w) in
    subst (λ q. IsCandidateNumber c.args.g.now q) (number_at c.s.inside.sites.items c.args.s.now.1 e (c.loop-i.i - 1) c.index-site.result.now l c.index-site.ensures) (site_of_set c.args.g.now c.args.s.now c.requires.set (c.loop-i.i - 1) l).0

pub join_ends-requires-clause-inside : goal.join_ends-requires-clause-inside
join_ends-requires-clause-inside c =
    let e : site_numbers c.s.inside.sites.items ≡ c.args.s.now.1 = ap (λ (v : List ℕ × List ℕ). v.1) c.s.view_is in
    let f : func_numbers c.s.inside.funcs.items ≡ c.args.s.now.0 = ap (λ (v : List ℕ × List ℕ). v.0) c.s.view_is in
    let fs = ap func_numbers c.as_slice.ensures.value ∙ f in
    let z = c.loop-i-test.true in let w = c.loop-i.invariant.within in
    let l : c.loop-i.i - 1 < length c.args.s.now.1 = omega (arith, z, w) in
    let at = number_at c.s.inside.sites.items c.args.s.now.1 e (c.loop-i.i - 1) c.index-site.result.now l c.index-site.ensures in
    ap (λ (xs : List ℕ). inside (site_graph c.args.g.now) xs c.index-site.result.now.0) fs ∙ ap (inside (site_graph c.args.g.now) c.args.s.now.0) (sym at) ∙ (site_of_set c.args.g.now c.args.s.now c.requires.set (c.loop-i.i - 1) l).1

pub loop-i-preserved-then-joins_but : goal.loop-i-preserved-then-joins_but
loop-i-preserved-then-joins_but c =
    let g = site_graph c.args.g.now in
    let p = kept_but (labels c.args.p.now) c.args.but in
    let fs = c.args.s.now.0 in
    let q = c.index-site.result.now.0 in
    let e : site_numbers c.s.inside.sites.items ≡ c.args.s.now.1 = ap (λ (v : List ℕ × List ℕ). v.1) c.s.view_is in
    let f : func_numbers c.s.inside.funcs.items ≡ fs = ap (λ (v : List ℕ × List ℕ). v.0) c.s.view_is in
    let z = c.loop-i-test.true in let w = c.loop-i.invariant.within in
    let l : c.loop-i.i - 1 < length c.args.s.now.1 = omega (arith, z, w) in
    let at = number_at c.s.inside.sites.items c.args.s.now.1 e (c.loop-i.i - 1) c.index-site.result.now l c.index-site.ensures in
    let d = drop_next c.args.s.now.1 c.loop-i.i z w ∙ ap (λ x. x ∷ drop c.loop-i.i c.args.s.now.1) at in
    let is : inside g fs q ≡ true = ap (inside g fs) (sym at) ∙ (site_of_set c.args.g.now c.args.s.now c.requires.set (c.loop-i.i - 1) l).1 in
    let yes : joins_inside g p fs q ≡ true = and_from (inside g fs q) (joins (p q)) is (sym c.joins_but.ensures ∙ c.if-joins_but.true) in
    let r : IsRising fs = subst IsRising f c.s.invariant in
    let j : JoinsEnds fs (g.caller q) (g.callee q) c.loop-i.parents.items c.join_ends.new.parents.items = subst (λ (xs : List ℕ). JoinsEnds xs (g.caller q) (g.callee q) c.loop-i.parents.items c.join_ends.new.parents.items) (ap func_numbers c.as_slice.ensures.value ∙ f) c.join_ends.ensures in
    let step : AreClassesBy g p fs (q ∷ drop c.loop-i.i c.args.s.now.1) c.join_ends.new.parents.items = step_joined g p fs r q (drop c.loop-i.i c.args.s.now.1) c.loop-i.parents.items c.join_ends.new.parents.items yes c.loop-i.invariant.parents c.loop-i.invariant.classes j in
    record {
      classes = subst (λ (ss : List ℕ). AreClassesBy g p fs ss c.join_ends.new.parents.items) (sym d) step;
      parents = j.joins.parents;
      count = j.joins.count ∙ c.loop-i.invariant.count;
      within = omega (arith, w);
    }

pub loop-i-preserved : goal.loop-i-preserved
loop-i-preserved c =
    let g = site_graph c.args.g.now in
    let p = kept_but (labels c.args.p.now) c.args.but in
    let fs = c.args.s.now.0 in
    let q = c.index-site.result.now.0 in
    let e : site_numbers c.s.inside.sites.items ≡ c.args.s.now.1 = ap (λ (v : List ℕ × List ℕ). v.1) c.s.view_is in
    let z = c.loop-i-test.true in let w = c.loop-i.invariant.within in
    let l : c.loop-i.i - 1 < length c.args.s.now.1 = omega (arith, z, w) in
    let at = number_at c.s.inside.sites.items c.args.s.now.1 e (c.loop-i.i - 1) c.index-site.result.now l c.index-site.ensures in
    let d = drop_next c.args.s.now.1 c.loop-i.i z w ∙ ap (λ x. x ∷ drop c.loop-i.i c.args.s.now.1) at in
    let no : joins_inside g p fs q ≡ false = and_false (inside g fs q) (joins (p q)) (sym c.joins_but.ensures ∙ c.if-joins_but.false) in
    record {
      classes = subst (λ (ss : List ℕ). AreClassesBy g p fs ss c.loop-i.parents.items) (sym d) (step_apart g p fs q (drop c.loop-i.i c.args.s.now.1) c.loop-i.parents.items no c.loop-i.invariant.classes);
      parents = c.loop-i.invariant.parents;
      count = c.loop-i.invariant.count;
      within = omega (arith, w);
    }
  where
    and_false : (a b : Bool) → b ≡ false → (a && b) ≡ false
    and_false true b e = e
    and_false false b e = refl

pub returns-clause-classes : goal.returns-clause-classes
returns-clause-classes c = record {
  parents = c.loop-i.invariant.parents;
  room = let r = c.requires.apart.room in let n = c.loop-i.invariant.count in omega (arith, r, n);
  classes = λ i l.
      let z = c.loop-i-test.false in
      let zero : c.loop-i.i ≡ 0 = omega (arith, z) in
      let g = site_graph c.args.g.now in
      let p = kept_but (labels c.args.p.now) c.args.but in
      let fs = c.args.s.now.0 in
      c.loop-i.invariant.classes i l ∙ ap (λ k. lowest_by g p fs (drop k c.args.s.now.1) (slice_index fs i)) zero ∙ ap (λ (ss : List ℕ). lowest_by g p fs ss (slice_index fs i)) c.requires.set.sites ∙ lowest_inside g p fs g.sites (slice_index fs i);
}
