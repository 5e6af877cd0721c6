-- The trees of a forest are those of its map, where undecided sites are kept.
use Rattle.std.proofs.Common.{◌≡◌, ◌≢◌, ⊎_elim, ℕ, zero, suc, ◌+◌, ◌<◌, ◌≤◌, refl, sym, ap, ap₂, ◌∙◌, subst, arith, Bool, true, false, ◌&&◌, ◌==◌, nat_eq, eqb, if◌then◌else◌, List, [], ◌∷◌, length, Option, Some, None, All, Contains}
use Rattle.std.specs.List.{filter, list_any, IsDistinct, AllByRecursion as Each}
use Rattle.std.proofs.lemmas.Bool.{or_cases, and_parts, eqb-true, eq-eqb, false≢true}
use Rattle.std.proofs.lemmas.Map.Keys.{IsDistinct-cons}
use Rattle.std.specs.Option.{option_map, option_map_or}
use Rattle.std.proofs.lemmas.List.Elements.{All-head, All-tail, All-weaker, All-contains_itself}
use Rattle.std.proofs.lemmas.Map.Steps.{length-le_from_distinct_below}
use Rattle.oi_base.specs.declared.ids.FuncId.{FuncId}
use Rattle.oi_base.specs.declared.ids.SiteId.{SiteId}
use Rattle.ir_core.specs.declared.func.Func.{Func}
use Rattle.ir_core.specs.declared.module.Module.{Module}
use Rattle.call_graph.specs.declared.facts.SiteFacts.{SiteFacts}
use Rattle.call_graph.specs.declared.sites.Site.{Site}
use Rattle.call_graph.specs.Sites.{all_sites, Leads, stays, goes, IsCandidate, CandidatesLead, by_one, by_more}
use Rattle.call_graph.proofs.Candidates.{exactly}
use Rattle.call_graph.specs.Graph.{Graph, candidate_ids, SiteIs, IsCandidateOf}
use Rattle.decisions.specs.declared.maps.Label.{Label}
use Rattle.decisions.specs.declared.maps.Label.TheVariants.{Keep, Inline}
use Rattle.decisions.specs.Maps as maps
use Rattle.shapes.specs.Tree.{Tree, node, Callees, none, more, func}
use Rattle.shapes.specs.Weight.{IsWeighed, AreWeighed}
use Rattle.shapes.specs.Over.{IsGraphOf, sites_of}
use Rattle.shapes.specs.Standing as standing
use Rattle.shapes.specs.Standing.{Labels, is_in, inline_sites, StandsFor, AllStandFor, IsTreeOf}
use Rattle.shapes.proofs.Sites.{all_candidates, all_inline}
use Rattle.shapes.proofs.Forests.{is_candidate, is_site, callee_reached}
use Rattle.std.proofs.lemmas.Option.{slice_get_within}
use Rattle.component_split.specs.Over.{site_graph, site_numbers, caller_of, callee_of, keep_unless, labels}
use Rattle.size_measure.specs.Maps.{Map, is_inline, label_or, filled}
use Rattle.size_measure.specs.Trees.{callees_of, tree_with, tree_by, tree}
use Rattle.size_measure.proofs.Tests.{or_true}

-- ---- sites

-- the map of a partial map in which undecided sites are kept
abbrev pub kept_map : Labels → Map
kept_map p = filled Keep (labels p)

same_label : (o : Option (Option Label)) → is_inline (label_or Keep (keep_unless o)) ≡ standing.is_inline o
same_label None = refl
same_label (Some None) = refl
same_label (Some (Some Keep)) = refl
same_label (Some (Some Inline)) = refl

pub inline_same : (p : Labels) (s : SiteId) → is_inline (kept_map p s.0) ≡ standing.is_inline (maps.label_of p s)
unfolding labels
inline_same p s = same_label (maps.label_of p s)

module _ (g : Graph) (s : SiteId) (x : SiteFacts) (is : SiteIs g s x) where
  caller_is : caller_of g s.0 ≡ x.site.caller.0
  unfolding caller_of
  caller_is = ap (λ (o : Option SiteFacts). option_map_or (λ (y : SiteFacts). y.site.caller.0) o 0) is

  callee_is : callee_of g s.0 ≡ x.site.callee.0
  unfolding callee_of
  callee_is = ap (λ (o : Option SiteFacts). option_map_or (λ (y : SiteFacts). y.site.callee.0) o 0) is

  pub in_is : (f : FuncId) → is_in g f s ≡ nat_eq (caller_of g s.0) f.0
  in_is f = ap (λ (o : Option SiteFacts). option_map_or (λ (y : SiteFacts). y.site.caller.0 == f.0) o false) is ∙ sym (ap (λ (n : ℕ). nat_eq n f.0) caller_is)

  pub callee_known : (h : FuncId) → standing.callee_of g s ≡ Some h → callee_of g s.0 ≡ h.0
  callee_known h e = callee_is ∙ ap (λ (k : FuncId). k.0) (one (sym (ap (λ (o : Option SiteFacts). option_map (λ (y : SiteFacts). y.site.callee) o) is) ∙ e))
    where
      one : Some x.site.callee ≡ Some h → x.site.callee ≡ h
      one e = cc

-- every candidate is one
every_candidate : (g : Graph) → All (IsCandidateOf g) (candidate_ids g)
every_candidate g = All-weaker (Contains (candidate_ids g)) (IsCandidateOf g) (λ s h. (exactly g s).0 h) (candidate_ids g) (All-contains_itself (candidate_ids g))

-- ---- the callees of a function by those of its tree

-- each site's callee has this tree
abbrev AllFit : Graph → (ℕ → Tree) → Callees → Type 0
AllFit g tree_of none = Unit {0}
AllFit g tree_of (more s t ks) = (tree_of (callee_of g s.0) ≡ t) × AllFit g tree_of ks

module _ (g : Graph) (p : Labels) (f : FuncId) (tree_of : ℕ → Tree) where
  abbrev passes : SiteId → Bool
  passes s = standing.is_inline (maps.label_of p s) && is_in g f s

  abbrev taken : SiteId → Bool
  taken s = nat_eq (caller_of g s.0) f.0 && is_inline (kept_map p s.0)

  same_test : (s : SiteId) → IsCandidateOf g s → taken s ≡ passes s
  same_test s c = ap₂ (λ (a b : Bool). a && b) (sym (in_is g s c.1.0 c.1.1 f)) (inline_same p s) ∙ swapped (is_in g f s) (standing.is_inline (maps.label_of p s))
    where
      swapped : (a b : Bool) → (a && b) ≡ (b && a)
      swapped true true = refl
      swapped true false = refl
      swapped false true = refl
      swapped false false = refl

  no_sites : (s : SiteId) (ss : List SiteId) → [] ≡ s ∷ ss → ⊥
  no_sites s ss e = cc

  callees_fit : (cs : List SiteId) → All (IsCandidateOf g) cs → (ks : Callees) → AllFit g tree_of ks → sites_of ks ≡ filter passes cs → callees_of (site_graph g) (kept_map p) f.0 tree_of (site_numbers cs) ≡ ks
  callees_fit [] all none fit e = refl
  callees_fit [] all (more s t ks) fit e = absurd (no_sites s (sites_of ks) (sym e))
  callees_fit (c ∷ cs) all ks fit e = by_test (passes c) (same_test c (All-head (IsCandidateOf g) c cs all)) (callees_fit cs (All-tail (IsCandidateOf g) c cs all)) ks fit e
    where
      by_test : (b : Bool) → taken c ≡ b → ((js : Callees) → AllFit g tree_of js → sites_of js ≡ filter passes cs → callees_of (site_graph g) (kept_map p) f.0 tree_of (site_numbers cs) ≡ js) → (ks : Callees) → AllFit g tree_of ks → sites_of ks ≡ (if b then c ∷ filter passes cs else filter passes cs) → callees_of (site_graph g) (kept_map p) f.0 tree_of (site_numbers (c ∷ cs)) ≡ ks
      by_test false x rest ks fit e = rw x (rest ks fit e)
      by_test true x rest none fit e = absurd (no_sites c (filter passes cs) e)
      by_test true x rest (more s t ks) fit e =
          let both = parts e in
          rw x (ap₂ (λ (u : Tree) (js : Callees). more (record { 0 = c.0 }) u js) (ap (λ (o : SiteId). tree_of (callee_of g o.0)) (sym both.0) ∙ fit.0) (rest ks fit.1 both.1) ∙ ap (λ (o : SiteId). more o t ks) (sym both.0))
        where
          parts : s ∷ sites_of ks ≡ c ∷ filter passes cs → (s ≡ c) × (sites_of ks ≡ filter passes cs)
          parts e = (cc, cc)

-- ---- chains of candidates

none_distinct : IsDistinct {K = ℕ} eqb []
unfolding IsDistinct
none_distinct = tt

module _ (funcs : List Func) (free : Bool) where
  leads : (a b : ℕ) → CandidatesLead funcs free a b → Leads (all_sites funcs) a b
  leads a b (by_one s has c) = goes s s.callee.0 has (stays s.callee.0)
  leads a b (by_more s f has c rest) = goes s f has (leads s.callee.0 f rest)

  no_circle : (a b : ℕ) → CandidatesLead funcs free a b → a ≢ b
  no_circle a b (by_one s has c) e = c.no_cycle (subst (λ (n : ℕ). Leads (all_sites funcs) s.callee.0 n) (sym e) (stays s.callee.0))
  no_circle a b (by_more s f has c rest) e = c.no_cycle (subst (λ (n : ℕ). Leads (all_sites funcs) s.callee.0 n) (sym e) (leads s.callee.0 f rest))

  longer : (a b : ℕ) → CandidatesLead funcs free a b → (s : Site) → Contains (all_sites funcs) s → IsCandidate funcs free s → s.caller.0 ≡ b → CandidatesLead funcs free a s.callee.0
  longer a b (by_one r has c) s within d e = by_more r s.callee.0 has c (subst (λ (n : ℕ). CandidatesLead funcs free n s.callee.0) e (by_one s within d))
  longer a b (by_more r f has c rest) s within d e = by_more r s.callee.0 has c (longer r.callee.0 b rest s within d e)

  -- functions in which one stands, one inside the other, from each of which a chain of candidates leads to it
  record Around (most : ℕ) (fs : List ℕ) (f : ℕ) : Type 0 where
    distinct : IsDistinct eqb fs
    below : (q : ℕ) → list_any (eqb q) fs ≡ true → q < most
    lead : (q : ℕ) → list_any (eqb q) fs ≡ true → CandidatesLead funcs free q f

  -- the function is none of them
  apart : (f : ℕ) (fs : List ℕ) → ((q : ℕ) → list_any (eqb q) fs ≡ true → CandidatesLead funcs free q f) → Each (λ (y : ℕ). eqb f y ≡ false) fs
  apart f [] lead = tt
  apart f (x ∷ fs) lead = (differs (eqb f x) refl, apart f fs (λ q h. lead q (rw h (or_true (eqb q x)))))
    where
      differs : (b : Bool) → eqb f x ≡ b → eqb f x ≡ false
      differs false e = e
      differs true e = absurd (no_circle x f (lead x (let self : eqb x x ≡ true = eq-eqb x x refl in rw self refl)) (sym (eqb-true f x e)))

  with_it : (most : ℕ) (fs : List ℕ) (f : ℕ) → Around most fs f → IsDistinct eqb (f ∷ fs)
  with_it most fs f around = IsDistinct-cons eqb f fs (apart f fs around.lead) around.distinct

  all_below : (most : ℕ) (fs : List ℕ) (f : ℕ) → Around most fs f → f < most → (q : ℕ) → list_any (eqb q) (f ∷ fs) ≡ true → q < most
  all_below most fs f around low q h = ⊎_elim (λ e. subst (λ (n : ℕ). n < most) (sym (eqb-true q f e)) low) (λ e. around.below q e) (or_cases (eqb q f) (list_any (eqb q) fs) h)

  few : (most : ℕ) (fs : List ℕ) (f : ℕ) → Around most fs f → f < most → suc (length fs) ≤ most
  few most fs f around low = length-le_from_distinct_below (f ∷ fs) most (with_it most fs f around) (all_below most fs f around low)

  inner : (most : ℕ) (fs : List ℕ) (f : ℕ) → Around most fs f → f < most → (s : Site) → Contains (all_sites funcs) s → IsCandidate funcs free s → s.caller.0 ≡ f → Around most (f ∷ fs) s.callee.0
  inner most fs f around low s has c e = record {
    distinct = with_it most fs f around;
    below = all_below most fs f around low;
    lead = λ q h. ⊎_elim (λ x. subst (λ (n : ℕ). CandidatesLead funcs free n s.callee.0) (e ∙ sym (eqb-true q f x)) (by_one s has c)) (λ x. longer q f (around.lead q x) s has c e) (or_cases (eqb q f) (list_any (eqb q) fs) h);
  }

-- ---- trees

module _ (m : Module) (g : Graph) (p : Labels) (graph : IsGraphOf m g) (all : maps.sites_of p ≡ candidate_ids g) where
  abbrev most : ℕ
  most = length g.funcs

  abbrev IsAround : List ℕ → ℕ → Type 0
  IsAround fs f = Around m.funcs graph.0 most fs f

  -- a candidate that the map labels inline in a function
  abbrev IsTaken : FuncId → SiteId → Type 0
  IsTaken f s = IsCandidateOf g s × (is_in g f s ≡ true)

  all_taken : (f : FuncId) → All (IsTaken f) (inline_sites g p f)
  all_taken f k d lt = (all_candidates g p f all k d lt, (and_parts (standing.is_inline (maps.label_of p _)) (is_in g f _) (all_inline g p f k d lt)).1)

  taken_by : (f : FuncId) (s : SiteId) → IsTaken f s → caller_of g s.0 ≡ f.0
  taken_by f s t = eqb-true (caller_of g s.0) f.0 (sym (in_is g s t.0.1.0 t.0.1.1 f) ∙ t.1)

  -- the callee of a candidate is a function of the graph
  callee_low : (s : SiteId) (h : IsCandidateOf g s) → h.1.0.site.callee.0 < most
  callee_low s h = let r = callee_reached m g graph s h in slice_get_within g.funcs h.1.0.site.callee.0 r.0 r.1

  mutual
    unfolding tree_by

    fit : (fs : List ℕ) (n : ℕ) (t : Tree) → n + length fs ≡ most → (func t).0 < most → IsAround fs (func t).0 → StandsFor g p t → IsWeighed m t → tree_by m (site_graph g) (kept_map p) n (func t).0 ≡ t
    fit fs zero (node f w ks) total low around stands weighed = absurd (let l = few m.funcs graph.0 most fs f.0 around low in omega (arith, l, total))
    fit fs (suc n) (node f w ks) total low around stands weighed =
        let inside : AllFit g (tree_by m (site_graph g) (kept_map p) n) ks = fits (f.0 ∷ fs) n f ks fs refl total low around (subst (All (IsTaken f)) (sym stands.0) (all_taken f)) stands.1 weighed.1 in
        let callees : callees_of (site_graph g) (kept_map p) f.0 (tree_by m (site_graph g) (kept_map p) n) (site_numbers (candidate_ids g)) ≡ ks =
        callees_fit g p f (tree_by m (site_graph g) (kept_map p) n) (candidate_ids g) (every_candidate g) ks inside (stands.0 ∙ ap (filter (passes g p f (tree_by m (site_graph g) (kept_map p) n))) all) in
        ap (tree_with m f.0) callees ∙ ap (λ (v : ℕ). node f v ks) (sym weighed.0)

    fits : (gs : List ℕ) (n : ℕ) (f : FuncId) (ks : Callees) (fs : List ℕ) → gs ≡ f.0 ∷ fs → suc n + length fs ≡ most → f.0 < most → IsAround fs f.0 → All (IsTaken f) (sites_of ks) → AllStandFor g p ks → AreWeighed m ks → AllFit g (tree_by m (site_graph g) (kept_map p) n) ks
    fits gs n f none fs e total low around sites stand weighed = tt
    fits gs n f (more s t ks) fs e total low around sites stand weighed =
        let own : IsTaken f s = All-head (IsTaken f) s (sites_of ks) sites in
        let callee : callee_of g s.0 ≡ (func t).0 = callee_known g s own.0.1.0 own.0.1.1 (func t) stand.0 in
        let site : Site = own.0.1.0.site in
        let called : site.callee.0 ≡ (func t).0 = sym (callee_is g s own.0.1.0 own.0.1.1) ∙ callee in
        let from : site.caller.0 ≡ f.0 = sym (caller_is g s own.0.1.0 own.0.1.1) ∙ taken_by f s own in
        let low_callee : (func t).0 < most = subst (λ (k : ℕ). k < most) called (callee_low s own.0) in
        let around_callee : IsAround (f.0 ∷ fs) (func t).0 = subst (λ (k : ℕ). IsAround (f.0 ∷ fs) k) called (inner m.funcs graph.0 most fs f.0 around low site (is_site m g graph s own.0) (is_candidate m g graph s own.0) from) in
        (ap (tree_by m (site_graph g) (kept_map p) n) callee ∙ fit (f.0 ∷ fs) n t (omega (arith, total)) low_callee around_callee stand.1.0 weighed.0, fits gs n f ks fs e total low around (All-tail (IsTaken f) s (sites_of ks) sites) stand.1.1 weighed.1)

  -- the tree of a reached function that stands for a partial map is that of the map in which undecided sites are kept
  pub forest_tree : (f : FuncId) (t : Tree) → f.0 < most → IsTreeOf m g p f t → t ≡ tree m g (kept_map p) f.0
  forest_tree f t low is = sym (subst (λ (k : FuncId). tree m g (kept_map p) k.0 ≡ t) is.function (fit [] most t (omega arith) (subst (λ (k : FuncId). k.0 < most) (sym is.function) low) nothing is.stands is.weighed))
    where
      nothing : IsAround [] (func t).0
      nothing = record { distinct = none_distinct; below = λ q h. absurd (false≢true h); lead = λ q h. absurd (false≢true h) }
