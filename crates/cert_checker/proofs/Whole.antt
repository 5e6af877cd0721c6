-- The state in which the search begins is closed: both functions of a candidate are reached.
use Rattle.std.proofs.Common.{◌≡◌, ◌≢◌, ℕ, zero, suc, ◌+◌, ◌-◌, ◌<◌, ◌≤◌, refl, sym, ap, ◌∙◌, subst, arith, Bool, true, false, ◌||◌, nat_eq, eq-eqb, if◌then◌else◌, List, [], ◌∷◌, length, Some, None, slice_get}
use Rattle.std.specs.Option.{option_map}
use Rattle.std.proofs.lemmas.Bool.{eqb-true, false≢true, true≢false}
use Rattle.std.proofs.lemmas.Option.{slice_get-map}
use Rattle.oi_base.specs.declared.ids.SiteId.{SiteId}
use Rattle.ir_core.specs.declared.module.Module.{Module}
use Rattle.call_graph.specs.declared.facts.FuncFacts.{FuncFacts}
use Rattle.call_graph.specs.declared.facts.SiteFacts.{SiteFacts}
use Rattle.call_graph.specs.declared.sites.Site.{Site}
use Rattle.call_graph.specs.Edges.{edge_of}
use Rattle.call_graph.specs.Sites.{all_sites}
use Rattle.call_graph.specs.Graph.{Graph, candidate_ids, IsCandidateOf}
use Rattle.call_graph.proofs.AllSites.{sites_are_edges}
use Rattle.call_graph.proofs.Nodes.{site_edge}
use Rattle.decisions.specs.declared.maps.Label.{Label}
use Rattle.decisions.specs.declared.maps.Label.TheVariants.{Keep}
use Rattle.decisions.specs.Maps.{label_of, undecided}
use Rattle.shapes.specs.Over.{IsGraphOf}
use Rattle.shapes.proofs.Forests.{func_at, is_candidate, callee_reached}
use Rattle.component_split.specs.Graph.{Closed, Distinct, has}
use Rattle.component_split.specs.Over.{site_graph, site_numbers, caller_of, callee_of, keep_unless, labels, reached_from}
use Rattle.component_split.specs.States.{none_decided}
use Rattle.component_split.proofs.Known.{known}
use Rattle.size_measure.proofs.Tests.{or_true}

-- ---- sites that are no candidates are kept

absent : (ids : List SiteId) (q : ℕ) → has (site_numbers ids) q ≡ false → label_of (undecided {L = Label} ids) (record { 0 = q }) ≡ None
absent [] q h = refl
absent (x ∷ xs) q h = by (nat_eq x.0 q) refl h (absent xs q)
  where
    by : (b : Bool) → nat_eq x.0 q ≡ b → (b || has (site_numbers xs) q) ≡ false → (has (site_numbers xs) q ≡ false → label_of (undecided {L = Label} xs) (record { 0 = q }) ≡ None) → label_of (undecided {L = Label} (x ∷ xs)) (record { 0 = q }) ≡ None
    by true e h rest = absurd (true≢false h)
    by false e h rest = rw e (rest h)

kept : (g : Graph) (s : ℕ) → has (site_graph g).sites s ≡ false → none_decided g s ≡ Some Keep
unfolding labels
kept g s h = ap keep_unless (absent (candidate_ids g) s h)

-- ---- reached functions

among : (n f : ℕ) (fs : List FuncFacts) (k : FuncFacts) → slice_get fs f ≡ Some k → k.reached ≡ true → has (reached_from n fs) (n + f) ≡ true
among n f [] k e r = absurd (nowhere e)
  where
    nowhere : None ≡ Some k → ⊥
    nowhere e = cc
among n zero (x ∷ fs) k e r =
    let flag : x.reached ≡ true = ap (λ (y : FuncFacts). y.reached) (same e) ∙ r in
    let self : nat_eq n (n + 0) ≡ true = eq-eqb n (n + 0) (omega arith) in
    rw flag (rw self refl)
  where
    same : Some x ≡ Some k → x ≡ k
    same e = cc
among n (suc f) (x ∷ fs) k e r =
    let rest : has (reached_from (n + 1) fs) ((n + 1) + f) ≡ true = among (n + 1) f fs k e r in
    let at : (n + 1) + f ≡ n + suc f = omega arith in
    by x.reached refl (subst (λ (i : ℕ). has (reached_from (n + 1) fs) i ≡ true) at rest)
  where
    by : (b : Bool) → x.reached ≡ b → has (reached_from (n + 1) fs) (n + suc f) ≡ true → has (reached_from n (x ∷ fs)) (n + suc f) ≡ true
    by true y rest = rw y (rw rest (or_true (nat_eq n (n + suc f))))
    by false y rest = rw y rest

below : (n f : ℕ) (fs : List FuncFacts) → has (reached_from n fs) f ≡ true → n ≤ f
below n f [] h = absurd (false≢true h)
below n f (x ∷ fs) h = by (λ i. let l = below (n + 1) f fs i in omega (arith, l)) x.reached refl h
  where
    by : (has (reached_from (n + 1) fs) f ≡ true → n ≤ f) → (b : Bool) → x.reached ≡ b → has (if b then n ∷ reached_from (n + 1) fs else reached_from (n + 1) fs) f ≡ true → n ≤ f
    by later true y h = first (nat_eq n f) refl h
      where
        first : (c : Bool) → nat_eq n f ≡ c → (c || has (reached_from (n + 1) fs) f) ≡ true → n ≤ f
        first true z h = let e = eqb-true n f z in omega (arith, e)
        first false z h = later h
    by later false y h = later h

distinct : (n : ℕ) (fs : List FuncFacts) → Distinct (reached_from n fs)
distinct n [] = tt
distinct n (x ∷ fs) = by x.reached (distinct (n + 1) fs)
  where
    fresh : (b : Bool) → has (reached_from (n + 1) fs) n ≡ b → has (reached_from (n + 1) fs) n ≡ false
    fresh false e = e
    fresh true e = absurd (let l = below (n + 1) n fs e in omega (arith, l))

    by : (b : Bool) → Distinct (reached_from (n + 1) fs) → Distinct (if b then n ∷ reached_from (n + 1) fs else reached_from (n + 1) fs)
    by true rest = (fresh (has (reached_from (n + 1) fs) n) refl, rest)
    by false rest = rest

module _ (m : Module) (g : Graph) (graph : IsGraphOf m g) where
  abbrev all : List ℕ
  all = reached_from 0 g.funcs

  at_zero : (f : ℕ) → has all (0 + f) ≡ true → has all f ≡ true
  at_zero f h = let e : 0 + f ≡ f = omega arith in subst (λ (k : ℕ). has all k ≡ true) e h

  module _ (s : SiteId) (h : IsCandidateOf g s) where
    callee_in : has all h.1.0.site.callee.0 ≡ true
    callee_in = let r = callee_reached m g graph s h in at_zero h.1.0.site.callee.0 (among 0 h.1.0.site.callee.0 g.funcs r.0 r.1 r.2)

    caller_in : has all h.1.0.site.caller.0 ≡ true
    caller_in =
        let count = graph.1.count in
        let at : slice_get (all_sites m.funcs) (s.0 - 1) ≡ Some h.1.0.site =
        ap (λ (xs : List Site). slice_get xs (s.0 - 1)) (sym graph.1.sites) ∙ slice_get-map (λ (x : SiteFacts). x.site) g.sites (s.0 - 1) ∙ ap (option_map (λ (x : SiteFacts). x.site)) h.1.1 in
        let low : h.1.0.site.caller.0 < length g.funcs = (sites_are_edges m.funcs (length g.funcs) count).tails (s.0 - 1) (edge_of h.1.0.site) (site_edge (all_sites m.funcs) (s.0 - 1) h.1.0.site at) in
        let k = func_at g.funcs h.1.0.site.caller.0 low in
        at_zero h.1.0.site.caller.0 (among 0 h.1.0.site.caller.0 g.funcs k.0 k.1 ((graph.1.reached h.1.0.site.caller.0 k.0 k.1).1 (is_candidate m g graph s h).reached))

    both_in : has all (caller_of g s.0) ≡ has all (callee_of g s.0)
    unfolding caller_of callee_of
    both_in =
        let x = h.1.0 in
        let e : slice_get g.sites (s.0 - 1) ≡ Some x = h.1.1 in
        rw e (caller_in ∙ sym callee_in)

  pub whole_closed : Closed (site_graph g) (none_decided g) all
  whole_closed = record {
    over = λ s other. over s (has (site_graph g).sites s) refl other;
    ends = λ s apart. ends s (has (site_graph g).sites s) refl apart;
    distinct = distinct 0 g.funcs;
  }
    where
      over : (s : ℕ) (b : Bool) → has (site_graph g).sites s ≡ b → none_decided g s ≢ Some Keep → has (site_graph g).sites s ≡ true
      over s true e other = e
      over s false e other = absurd (other (kept g s e))

      ends : (s : ℕ) (b : Bool) → has (site_graph g).sites s ≡ b → has all (caller_of g s) ≢ has all (callee_of g s) → none_decided g s ≡ Some Keep
      ends s false e apart = kept g s e
      ends s true e apart = absurd (apart (both_in (record { 0 = s }) (known g (record { 0 = s }) e)))
