-- The trees of a forest: each is that of its function, and chains of sites lead to the functions in it.
use Rattle.std.proofs.Common.{◌≡◌, ℕ, zero, suc, ◌+◌, ◌-◌, ◌<◌, ◌==◌, true, false, List, [], ◌∷◌, length, Option, Some, None, slice_get, slice_index_or, Contains, All, refl, sym, ap, ap₂, subst, ◌∙◌, arith}
use Rattle.std.specs.Prelude.{is_some}
use Rattle.std.specs.Option.{option_map, option_map_or}
use Rattle.std.proofs.lemmas.Bool.{eqb-true, or_cases, and_parts, false≢true}
use Rattle.std.proofs.lemmas.Option.{slice_get-map, slice_get_within, get_or_from_slice_get}
use Rattle.std.proofs.lemmas.List.{ext_get_or}
use Rattle.std.proofs.lemmas.List.Elements.{All-head, All-tail}
use mathlib.Core.Logic.{◌⊎◌, inl, inr}
use Rattle.oi_base.specs.declared.ids.FuncId.{FuncId}
use Rattle.oi_base.specs.declared.ids.SiteId.{SiteId}
use Rattle.ir_core.specs.declared.module.Module.{Module}
use Rattle.call_graph.specs.declared.facts.FuncFacts.{FuncFacts}
use Rattle.call_graph.specs.declared.facts.SiteFacts.{SiteFacts}
use Rattle.call_graph.specs.declared.sites.Site.{Site}
use Rattle.call_graph.specs.Sites.{Leads, stays, goes, all_sites, IsCandidate}
use Rattle.call_graph.specs.Graph.{Graph, IsCandidateOf}
use Rattle.shapes.specs.Tree.{Tree, node, Callees, none, more, func}
use Rattle.shapes.specs.Weight.{own_weight, callees_weight, kept, IsWeighed, AreWeighed}
use Rattle.shapes.specs.Over.{IsGraphOf, sites_of}
use Rattle.shapes.specs.Standing.{Labels, is_inline, is_in, callee_of, inline_sites, StandsFor, AllStandFor, Trees, tree_of, IsForest}
use Rattle.decisions.specs.Maps as maps
use Rattle.shapes.specs.Added.{Added}
use Rattle.shapes.specs.Reaching.{has_func, have_func}
use Rattle.shapes.specs.Renewed.{IsOld, AreOld}
use Rattle.shapes.proofs.Sites.{IsInlineIn, all_candidates, all_inline}

-- ---- one tree a function

pub func_of_callee : (g : Graph) (s : SiteId) (f h : FuncId) → callee_of g s ≡ Some f → callee_of g s ≡ Some h → f ≡ h
func_of_callee g s f h a b = let both : Some f ≡ Some h = sym a ∙ b in cc

mutual
  pub one_tree : (m : Module) (g : Graph) (p : Labels) (t u : Tree) → StandsFor g p t → StandsFor g p u → IsWeighed m t → IsWeighed m u → func t ≡ func u → t ≡ u
  one_tree m g p (node f w ks) (node h v js) st su wt wu e =
      let rest = one_list m g p ks js (st.0 ∙ ap (inline_sites g p) e ∙ sym su.0) st.1 su.1 wt.1 wu.1 in
      let weights : w ≡ v = wt.0 ∙ ap₂ (λ (f : FuncId) (ks : Callees). kept (own_weight m f + callees_weight m ks)) e rest ∙ sym wu.0 in
      ap₂ (λ (f : FuncId) (w : ℕ). node f w ks) e weights ∙ ap (λ (ks : Callees). node h v ks) rest

  one_list : (m : Module) (g : Graph) (p : Labels) (ks js : Callees) → sites_of ks ≡ sites_of js → AllStandFor g p ks → AllStandFor g p js → AreWeighed m ks → AreWeighed m js → ks ≡ js
  one_list m g p none none e st su wt wu = refl
  one_list m g p none (more s t js) e st su wt wu = absurd (let clash : [] ≡ s ∷ sites_of js = e in cc)
  one_list m g p (more s t ks) none e st su wt wu = absurd (let clash : s ∷ sites_of ks ≡ [] = e in cc)
  one_list m g p (more s t ks) (more o u js) e st su wt wu =
      let both : s ∷ sites_of ks ≡ o ∷ sites_of js = e in
      let first : s ≡ o = cc in
      let others : sites_of ks ≡ sites_of js = cc in
      let same = func_of_callee g s (func t) (func u) st.0 (ap (callee_of g) first ∙ su.0) in
      let tree = one_tree m g p t u st.1.0 su.1.0 wt.0 wu.0 same in
      let rest = one_list m g p ks js others st.1.1 su.1.1 wt.1 wu.1 in
      ap₂ (λ (s : SiteId) (t : Tree). more s t ks) first tree ∙ ap (λ (ks : Callees). more o u ks) rest

-- ---- chains of sites

pub extend : {sites : List Site} {u v : ℕ} → Leads sites u v → (s : Site) → Contains sites s → s.caller.0 ≡ v → Leads sites u s.callee.0
extend {sites} (stays f) s has e = subst (λ (u : ℕ). Leads sites u s.callee.0) e (goes s s.callee.0 has (stays s.callee.0))
extend {sites} (goes t f at rest) s has e = goes t s.callee.0 at (extend rest s has e)

pub func_at : (xs : List FuncFacts) (i : ℕ) → i < length xs → (k : FuncFacts) × (slice_get xs i ≡ Some k)
func_at [] i lt = absurd (omega (arith, lt))
func_at (x ∷ xs) zero lt = (x, refl)
func_at (x ∷ xs) (suc i) lt = func_at xs i (omega (arith, lt))

-- a candidate of a graph in its module
module _ (m : Module) (g : Graph) (graph : IsGraphOf m g) (s : SiteId) (h : IsCandidateOf g s) where
  abbrev pub facts : SiteFacts
  facts = h.1.0

  pub is_candidate : IsCandidate m.funcs graph.0 facts.site
  is_candidate = (graph.1.candidate (s.0 - 1) facts h.1.1).0 h.1.2

  pub is_site : Contains (all_sites m.funcs) facts.site
  is_site =
      let at : slice_get (all_sites m.funcs) (s.0 - 1) ≡ Some facts.site =
      ap (λ (xs : List Site). slice_get xs (s.0 - 1)) (sym graph.1.sites)
      ∙ slice_get-map (λ (x : SiteFacts). x.site) g.sites (s.0 - 1)
      ∙ ap (option_map (λ (x : SiteFacts). x.site)) h.1.1 in
      (s.0 - 1, slice_get_within (all_sites m.funcs) (s.0 - 1) facts.site at, get_or_from_slice_get (all_sites m.funcs) (s.0 - 1) facts.site facts.site at)

  pub callee_is : callee_of g s ≡ Some facts.site.callee
  callee_is = ap (option_map (λ (x : SiteFacts). x.site.callee)) h.1.1

  pub callee_reached : (k : FuncFacts) × (slice_get g.funcs facts.site.callee.0 ≡ Some k) × (k.reached ≡ true)
  callee_reached =
      let may = is_candidate.may in
      let count = graph.1.count in
      let w = slice_get_within m.funcs facts.site.callee.0 may.0 may.1 in
      let at = func_at g.funcs facts.site.callee.0 (omega (arith, w, count)) in
      let r = is_candidate.reached in
      (at.0, at.1, (graph.1.reached facts.site.callee.0 at.0 at.1).1 (r.0, r.1, extend r.2 facts.site is_site refl))

pub some_of : (o : Option Tree) → is_some o ≡ true → (t : Tree) × (o ≡ Some t)
some_of None e = absurd (false≢true e)
some_of (Some t) e = (t, refl)

module _ (m : Module) (g : Graph) (x : Trees) (graph : IsGraphOf m g) (forest : IsForest m g x) where
  -- the callee of a candidate has a tree
  pub callee_tree : (s : SiteId) (h : IsCandidateOf g s) → (t : Tree) × (tree_of x h.1.0.site.callee ≡ Some t)
  callee_tree s h =
      let r = callee_reached m g graph s h in
      some_of (tree_of x h.1.0.site.callee) (forest.reached h.1.0.site.callee r.0 r.1 ∙ r.2)

  -- a tree of a callee that stands for the map is that which its function has
  pub callee_place : (s : SiteId) (t : Tree) → IsCandidateOf g s → callee_of g s ≡ Some (func t) → StandsFor g x.labels t → IsWeighed m t → tree_of x (func t) ≡ Some t
  callee_place s t h is st wt =
      let own = callee_tree s h in
      let same : h.1.0.site.callee ≡ func t = func_of_callee g s h.1.0.site.callee (func t) (callee_is m g graph s h) is in
      let u = forest.stands h.1.0.site.callee own.0 own.1 in
      let tree = one_tree m g x.labels own.0 t u.stands st u.weighed wt (u.function ∙ same) in
      ap (tree_of x) (sym same) ∙ own.1 ∙ ap (λ (t : Tree). Some t) tree

  sites_of_tree : (f : FuncId) (ks : Callees) → sites_of ks ≡ inline_sites g x.labels f → All (IsCandidateOf g) (sites_of ks)
  sites_of_tree f ks e = subst (λ (xs : List SiteId). All (IsCandidateOf g) xs) (sym e) (all_candidates g x.labels f forest.candidates)

  module _ (a : Added) (all : a.trees ≡ x.trees) where
    mutual
      pub old_tree : (t : Tree) → StandsFor g x.labels t → IsWeighed m t → tree_of x (func t) ≡ Some t → IsOld m a t
      old_tree (node f w ks) st wt place = (record { place = ap (λ (os : List (Option Tree)). slice_index_or os f.0 None) all ∙ place; weighed = wt }, old_callees ks (sites_of_tree f ks st.0) st.1 wt.1)

      old_callees : (ks : Callees) → All (IsCandidateOf g) (sites_of ks) → AllStandFor g x.labels ks → AreWeighed m ks → AreOld m a ks
      old_callees none h st wt = tt
      old_callees (more s t ks) h st wt = (
        old_tree t st.1.0 wt.0 (callee_place s t (All-head (IsCandidateOf g) s (sites_of ks) h) st.0 st.1.0 wt.0),
        old_callees ks (All-tail (IsCandidateOf g) s (sites_of ks) h) st.1.1 wt.1,
      )

    pub old_trees : (f : ℕ) (t : Tree) → slice_index_or a.trees f None ≡ Some t → ((func t).0 ≡ f) × IsOld m a t
    old_trees f t e =
        let at : tree_of x (record { 0 = f }) ≡ Some t = ap (λ (os : List (Option Tree)). slice_index_or os f None) (sym all) ∙ e in
        let is = forest.stands (record { 0 = f }) t at in
        (ap FuncId.0 is.function, old_tree t is.stands is.weighed (ap (tree_of x) is.function ∙ at))

  -- ---- chains of sites to the functions of a tree

  here : (c f : FuncId) (ks : Callees) → ((f.0 == c.0) ≡ true) ⊎ (have_func c ks ≡ true) → (have_func c ks ≡ true → Leads (all_sites m.funcs) f.0 c.0) → Leads (all_sites m.funcs) f.0 c.0
  here c f ks (inl e) rest = subst (λ (n : ℕ). Leads (all_sites m.funcs) f.0 n) (eqb-true f.0 c.0 e) (stays f.0)
  here c f ks (inr e) rest = rest e

  one_leads : (c f : FuncId) (s : SiteId) (t : Tree) (ks : Callees) → IsCandidateOf g s → IsInlineIn g x.labels f s → callee_of g s ≡ Some (func t) → (has_func c t ≡ true) ⊎ (have_func c ks ≡ true)
      → (has_func c t ≡ true → Leads (all_sites m.funcs) (func t).0 c.0) → (have_func c ks ≡ true → Leads (all_sites m.funcs) f.0 c.0) → Leads (all_sites m.funcs) f.0 c.0
  one_leads c f s t ks h is callee (inl e) first rest =
      let inside = (and_parts (is_inline (maps.label_of x.labels s)) (is_in g f s) is).1 in
      let caller = eqb-true h.1.0.site.caller.0 f.0 (sym (ap (λ (o : Option SiteFacts). option_map_or (λ (x : SiteFacts). x.site.caller.0 == f.0) o false) h.1.1) ∙ inside) in
      let same = ap FuncId.0 (func_of_callee g s (func t) h.1.0.site.callee callee (callee_is m g graph s h)) in
      subst (λ (n : ℕ). Leads (all_sites m.funcs) n c.0) caller (goes h.1.0.site c.0 (is_site m g graph s h) (subst (λ (n : ℕ). Leads (all_sites m.funcs) n c.0) same (first e)))
  one_leads c f s t ks h is callee (inr e) first rest = rest e

  mutual
    pub tree_leads : (c : FuncId) (t : Tree) → StandsFor g x.labels t → has_func c t ≡ true → Leads (all_sites m.funcs) (func t).0 c.0
    tree_leads c (node f w ks) st e = here c f ks (or_cases (f.0 == c.0) (have_func c ks) e) (λ e. callees_lead c f ks (sites_of_tree f ks st.0) (subst (λ (xs : List SiteId). All (IsInlineIn g x.labels f) xs) (sym st.0) (all_inline g x.labels f)) st.1 e)

    callees_lead : (c f : FuncId) (ks : Callees) → All (IsCandidateOf g) (sites_of ks) → All (IsInlineIn g x.labels f) (sites_of ks) → AllStandFor g x.labels ks → have_func c ks ≡ true → Leads (all_sites m.funcs) f.0 c.0
    callees_lead c f none h is st e = absurd (false≢true e)
    callees_lead c f (more s t ks) h is st e =
        one_leads c f s t ks (All-head (IsCandidateOf g) s (sites_of ks) h) (All-head (IsInlineIn g x.labels f) s (sites_of ks) is) st.0 (or_cases (has_func c t) (have_func c ks) e)
        (λ e. tree_leads c t st.1.0 e) (λ e. callees_lead c f ks (All-tail (IsCandidateOf g) s (sites_of ks) h) (All-tail (IsInlineIn g x.labels f) s (sites_of ks) is) st.1.1 e)

-- ---- one forest a map

pub one_forest : (m : Module) (g : Graph) (x y : Trees) → IsForest m g x → IsForest m g y → x.labels ≡ y.labels → x.trees ≡ y.trees
one_forest m g x y hx hy same = ext_get_or None x.trees y.trees (hx.one_each ∙ sym hy.one_each) each
  where
    by_tree : (f : FuncId) (a b : Option Tree) → tree_of x f ≡ a → tree_of y f ≡ b → is_some a ≡ is_some b → a ≡ b
    by_tree f None None ea eb e = refl
    by_tree f None (Some u) ea eb e = absurd (false≢true e)
    by_tree f (Some t) None ea eb e = absurd (false≢true (sym e))
    by_tree f (Some t) (Some u) ea eb e =
        let at = hx.stands f t ea in
        let bt = hy.stands f u eb in
        ap (λ (t : Tree). Some t) (one_tree m g x.labels t u at.stands (subst (λ (p : Labels). StandsFor g p u) (sym same) bt.stands) at.weighed bt.weighed (at.function ∙ sym bt.function))

    each : (i : ℕ) → i < length x.trees → slice_index_or x.trees i None ≡ slice_index_or y.trees i None
    each i lt =
        let many = hx.one_each in
        let h = func_at g.funcs i (omega (arith, lt, many)) in
        let f : FuncId = record { 0 = i } in
        by_tree f (tree_of x f) (tree_of y f) refl refl (hx.reached f h.0 h.1 ∙ sym (hy.reached f h.0 h.1))
