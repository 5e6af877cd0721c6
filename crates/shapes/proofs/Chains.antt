-- The trees of a forest in which a function stands are those of the functions from which chains of inline sites lead to it.
use Rattle.std.proofs.Common.{◌≡◌, ℕ, zero, suc, ◌+◌, ◌-◌, ◌<◌, ◌≤◌, ◌==◌, Bool, true, false, cond, if◌then◌else◌, List, [], ◌∷◌, length, filter, Option, Some, None, slice_get, slice_index_or, Contains, ◌↔◌, All, refl, sym, ap, subst, ◌∙◌, arith}
use Rattle.std.specs.Prelude.{is_some, ◌&&◌}
use Rattle.std.specs.Option.{option_map, option_map_or}
use Rattle.std.proofs.lemmas.Bool.{eqb-true, eq-eqb, or_cases, or_left, or_right, and_parts, and_from, false≢true}
use Rattle.std.proofs.lemmas.Option.{slice_get-map, slice_get_within, slice_get-get_or, slice_get_read, get_or_from_slice_get}
use Rattle.std.proofs.lemmas.List.Elements.{All-head, All-tail}
use mathlib.Core.Logic.{◌⊎◌, inl, inr}
use Rattle.oi_base.specs.declared.ids.FuncId.{FuncId}
use Rattle.oi_base.specs.declared.ids.SiteId.{SiteId}
use Rattle.ir_core.specs.declared.module.Module.{Module}
use Rattle.call_graph.specs.declared.facts.SiteFacts.{SiteFacts}
use Rattle.call_graph.specs.declared.sites.Site.{Site}
use Rattle.call_graph.specs.Sites.{all_sites}
use Rattle.call_graph.specs.Edges.{edge_of, edges_of}
use Rattle.call_graph.specs.Graph.{Graph, SiteIs, IsCandidateOf}
use Rattle.call_graph.proofs.AllSites.{sites_are_edges}
use Rattle.decisions.specs.declared.maps.Label.{Label}
use Rattle.decisions.specs.declared.maps.Label.TheVariants.{Keep, Inline}
use Rattle.decisions.specs.Maps as maps
use Rattle.shapes.specs.Tree.{Tree, node, Callees, none, more, func}
use Rattle.shapes.specs.Weight.{IsWeighed, AreWeighed}
use Rattle.shapes.specs.Over.{IsGraphOf, sites_of}
use Rattle.shapes.specs.Standing.{is_inline, is_in, callee_of, StandsFor, AllStandFor, Trees, tree_of, IsForest}
use Rattle.shapes.specs.Reaching.{InlinesLead, stays, goes, IsCount, has_func, have_func, reaching_count}
use Rattle.shapes.proofs.Sites.{IsInlineIn, has_label, label_candidate, all_candidates, all_inline}
use Rattle.shapes.proofs.Forests.{func_at, is_candidate, callee_is, callee_place, some_of, func_of_callee}

-- ---- places that pass a test

module _ (test : Option Tree → Bool) where
  abbrev positions : ℕ → List (Option Tree) → List ℕ
  positions i [] = []
  positions i (o ∷ os) = if test o then (i ∷ positions (i + 1) os) else positions (i + 1) os

  many : (i : ℕ) (os : List (Option Tree)) → length (positions i os) ≡ length (filter test os)
  many i [] = refl
  many i (o ∷ os) = by_flag (test o) (many (i + 1) os)
    where
      by_flag : (b : Bool) → length (positions (i + 1) os) ≡ length (filter test os) → length (if b then (i ∷ positions (i + 1) os) else positions (i + 1) os) ≡ length (cond b (o ∷ filter test os) (filter test os))
      by_flag true rest = ap suc rest
      by_flag false rest = rest

  low : (i : ℕ) (os : List (Option Tree)) (k n : ℕ) → slice_get (positions i os) k ≡ Some n → i ≤ n
  low i [] k n e = absurd (let clash : None ≡ Some n = e in cc)
  low i (o ∷ os) k n e = by_flag (test o) k e (low (i + 1) os)
    where
      by_flag : (b : Bool) (k : ℕ) → slice_get (if b then (i ∷ positions (i + 1) os) else positions (i + 1) os) k ≡ Some n → ((k n : ℕ) → slice_get (positions (i + 1) os) k ≡ Some n → i + 1 ≤ n) → i ≤ n
      by_flag true zero e rest = let same : i ≡ n = cc in omega (arith, same)
      by_flag true (suc k) e rest = let l = rest k n e in omega (arith, l)
      by_flag false k e rest = let l = rest k n e in omega (arith, l)

  abbrev Rises : List ℕ → Type 0
  Rises ns = (k j d : ℕ) → k < j → j < length ns → slice_index_or ns k d < slice_index_or ns j d

  rises : (i : ℕ) (os : List (Option Tree)) → Rises (positions i os)
  rises i [] k j d less lt = absurd (omega (arith, lt))
  rises i (o ∷ os) k j d less lt = by_flag (test o) k j less lt (low (i + 1) os) (rises (i + 1) os)
    where
      by_flag : (b : Bool) (k j : ℕ) → k < j → j < length (if b then (i ∷ positions (i + 1) os) else positions (i + 1) os) → ((k n : ℕ) → slice_get (positions (i + 1) os) k ≡ Some n → i + 1 ≤ n) → Rises (positions (i + 1) os)
          → slice_index_or (if b then (i ∷ positions (i + 1) os) else positions (i + 1) os) k d < slice_index_or (if b then (i ∷ positions (i + 1) os) else positions (i + 1) os) j d
      by_flag true k zero less lt above rest = absurd (omega (arith, less))
      by_flag true zero (suc j) less lt above rest = let l = above j (slice_index_or (positions (i + 1) os) j d) (slice_get-get_or (positions (i + 1) os) j d (omega (arith, lt))) in omega (arith, l)
      by_flag true (suc k) (suc j) less lt above rest = rest k j d (omega (arith, less)) (omega (arith, lt))
      by_flag false k j less lt above rest = rest k j d less lt

  abbrev Passes : ℕ → List (Option Tree) → ℕ → Type 0
  Passes i os n = (i ≤ n) × (test (slice_index_or os (n - i) None) ≡ true)

  one_on : (i : ℕ) (o : Option Tree) (os : List (Option Tree)) (n : ℕ) → Passes (i + 1) os n → Passes i (o ∷ os) n
  one_on i o os n h =
      let l = h.0 in
      let e : n - i ≡ suc (n - (i + 1)) = omega (arith, l) in
      (omega (arith, l), ap (λ (k : ℕ). test (slice_index_or (o ∷ os) k None)) e ∙ h.1)

  passes : (i : ℕ) (os : List (Option Tree)) (k n : ℕ) → slice_get (positions i os) k ≡ Some n → Passes i os n
  passes i [] k n e = absurd (let clash : None ≡ Some n = e in cc)
  passes i (o ∷ os) k n e = by_flag (test o) refl k e (passes (i + 1) os)
    where
      by_flag : (b : Bool) → test o ≡ b → (k : ℕ) → slice_get (if b then (i ∷ positions (i + 1) os) else positions (i + 1) os) k ≡ Some n → ((k n : ℕ) → slice_get (positions (i + 1) os) k ≡ Some n → Passes (i + 1) os n) → Passes i (o ∷ os) n
      by_flag true c zero e rest =
          let same : i ≡ n = cc in
          let z : n - i ≡ 0 = omega (arith, same) in
          (omega (arith, same), ap (λ (k : ℕ). test (slice_index_or (o ∷ os) k None)) z ∙ c)
      by_flag true c (suc k) e rest = one_on i o os n (rest k n e)
      by_flag false c k e rest = one_on i o os n (rest k n e)

  listed : test None ≡ false → (i : ℕ) (os : List (Option Tree)) (j : ℕ) → test (slice_index_or os j None) ≡ true → (k : ℕ) × (slice_get (positions i os) k ≡ Some (i + j))
  listed nothing i [] j e = absurd (false≢true (sym nothing ∙ e))
  listed nothing i (o ∷ os) zero e = let z : i ≡ i + 0 = omega arith in (0, rw e (ap (λ (n : ℕ). Some n) z))
  listed nothing i (o ∷ os) (suc j) e = by_flag (test o) (listed nothing (i + 1) os j e)
    where
      z : i + 1 + j ≡ i + suc j
      z = omega arith

      by_flag : (b : Bool) → ((k : ℕ) × (slice_get (positions (i + 1) os) k ≡ Some (i + 1 + j))) → (k : ℕ) × (slice_get (if b then (i ∷ positions (i + 1) os) else positions (i + 1) os) k ≡ Some (i + suc j))
      by_flag true r = (suc r.0, r.1 ∙ ap (λ (n : ℕ). Some n) z)
      by_flag false r = (r.0, r.1 ∙ ap (λ (n : ℕ). Some n) z)

  counted : test None ≡ false → (os : List (Option Tree)) (P : ℕ → Type 0) → ((f : ℕ) → (test (slice_index_or os f None) ≡ true) ↔ P f) → IsCount P (length (filter test os))
  counted nothing os P is = record { those = positions 0 os; ascending = rises 0 os; exactly = λ f. (to f, back f); many = many 0 os }
    where
      to : (f : ℕ) → Contains (positions 0 os) f → P f
      to f h =
          let r = passes 0 os h.0 f (slice_get_read (positions 0 os) (length (positions 0 os)) h.0 f refl h.1 (sym h.2)) in
          let z : f ≡ f - 0 = omega arith in
          (is f).0 (ap (λ (k : ℕ). test (slice_index_or os k None)) z ∙ r.1)

      back : (f : ℕ) → P f → Contains (positions 0 os) f
      back f p =
          let r = listed nothing 0 os f ((is f).1 p) in
          let z : 0 + f ≡ f = omega arith in
          let at : slice_get (positions 0 os) r.0 ≡ Some f = r.1 ∙ ap (λ (n : ℕ). Some n) z in
          (r.0, slice_get_within (positions 0 os) r.0 f at, get_or_from_slice_get (positions 0 os) r.0 f f at)

-- ---- labels and sites

inline_label : (o : Option (Option Label)) → is_inline o ≡ true → o ≡ Some (Some Inline)
inline_label None e = absurd (false≢true e)
inline_label (Some None) e = absurd (false≢true e)
inline_label (Some (Some Keep)) e = absurd (false≢true e)
inline_label (Some (Some Inline)) e = refl

in_filter : (test : SiteId → Bool) (xs : List SiteId) (k : ℕ) (s : SiteId) → slice_get xs k ≡ Some s → test s ≡ true → (j : ℕ) × (slice_get (filter test xs) j ≡ Some s)
in_filter test [] k s e passed = absurd (let clash : None ≡ Some s = e in cc)
in_filter test (x ∷ xs) zero s e passed = let same : x ≡ s = cc in (0, rw (ap test same ∙ passed) (ap (λ (s : SiteId). Some s) same))
in_filter test (x ∷ xs) (suc k) s e passed = by_flag (test x) (in_filter test xs k s e passed)
  where
    by_flag : (b : Bool) → ((j : ℕ) × (slice_get (filter test xs) j ≡ Some s)) → (j : ℕ) × (slice_get (cond b (x ∷ filter test xs) (filter test xs)) j ≡ Some s)
    by_flag true r = (suc r.0, r.1)
    by_flag false r = r

has_own : (c : FuncId) (t : Tree) → func t ≡ c → has_func c t ≡ true
has_own c (node f w ks) e = or_left (f.0 == c.0) (have_func c ks) (eq-eqb f.0 c.0 (ap FuncId.0 e))

-- ---- chains

module _ (m : Module) (g : Graph) (x : Trees) (graph : IsGraphOf m g) (forest : IsForest m g x) where
  caller_tree : (s : SiteId) (h : IsCandidateOf g s) → (t : Tree) × (tree_of x h.1.0.site.caller ≡ Some t)
  caller_tree s h =
      let site : Site = h.1.0.site in
      let count = graph.1.count in
      let at : slice_get (edges_of (all_sites m.funcs)) (s.0 - 1) ≡ Some (edge_of site) =
      slice_get-map edge_of (all_sites m.funcs) (s.0 - 1)
      ∙ ap (option_map edge_of) (ap (λ (xs : List Site). slice_get xs (s.0 - 1)) (sym graph.1.sites) ∙ slice_get-map (λ (x : SiteFacts). x.site) g.sites (s.0 - 1) ∙ ap (option_map (λ (x : SiteFacts). x.site)) h.1.1) in
      let lt : site.caller.0 < length g.funcs = (sites_are_edges m.funcs (length g.funcs) count).tails (s.0 - 1) (edge_of site) at in
      let f = func_at g.funcs site.caller.0 lt in
      some_of (tree_of x site.caller) (forest.reached site.caller f.0 f.1 ∙ (graph.1.reached site.caller.0 f.0 f.1).1 (is_candidate m g graph s h).reached)

  one_chain : (c f : FuncId) (s : SiteId) (t : Tree) (ks : Callees) → IsCandidateOf g s → IsInlineIn g x.labels f s → callee_of g s ≡ Some (func t) → (has_func c t ≡ true) ⊎ (have_func c ks ≡ true)
      → (has_func c t ≡ true → InlinesLead g x.labels (func t).0 c.0) → (have_func c ks ≡ true → InlinesLead g x.labels f.0 c.0) → InlinesLead g x.labels f.0 c.0
  one_chain c f s t ks h is callee (inl e) first rest =
      let both = and_parts (is_inline (maps.label_of x.labels s)) (is_in g f s) is in
      let caller = eqb-true h.1.0.site.caller.0 f.0 (sym (ap (λ (o : Option SiteFacts). option_map_or (λ (x : SiteFacts). x.site.caller.0 == f.0) o false) h.1.1) ∙ both.1) in
      let same = ap FuncId.0 (func_of_callee g s (func t) h.1.0.site.callee callee (callee_is m g graph s h)) in
      subst (λ (n : ℕ). InlinesLead g x.labels n c.0) caller (goes s h.1.0 c.0 h.1.1 both.0 (subst (λ (n : ℕ). InlinesLead g x.labels n c.0) same (first e)))
  one_chain c f s t ks h is callee (inr e) first rest = rest e

  here : (c f : FuncId) (ks : Callees) → ((f.0 == c.0) ≡ true) ⊎ (have_func c ks ≡ true) → (have_func c ks ≡ true → InlinesLead g x.labels f.0 c.0) → InlinesLead g x.labels f.0 c.0
  here c f ks (inl e) rest = subst (λ (n : ℕ). InlinesLead g x.labels f.0 n) (eqb-true f.0 c.0 e) (stays f.0)
  here c f ks (inr e) rest = rest e

  mutual
    tree_chain : (c : FuncId) (t : Tree) → StandsFor g x.labels t → has_func c t ≡ true → InlinesLead g x.labels (func t).0 c.0
    tree_chain c (node f w ks) st e =
        here c f ks (or_cases (f.0 == c.0) (have_func c ks) e)
        (λ e. callees_chain c f ks (subst (λ (xs : List SiteId). All (IsCandidateOf g) xs) (sym st.0) (all_candidates g x.labels f forest.candidates)) (subst (λ (xs : List SiteId). All (IsInlineIn g x.labels f) xs) (sym st.0) (all_inline g x.labels f)) st.1 e)

    callees_chain : (c f : FuncId) (ks : Callees) → All (IsCandidateOf g) (sites_of ks) → All (IsInlineIn g x.labels f) (sites_of ks) → AllStandFor g x.labels ks → have_func c ks ≡ true → InlinesLead g x.labels f.0 c.0
    callees_chain c f none h is st e = absurd (false≢true e)
    callees_chain c f (more s t ks) h is st e =
        one_chain c f s t ks (All-head (IsCandidateOf g) s (sites_of ks) h) (All-head (IsInlineIn g x.labels f) s (sites_of ks) is) st.0 (or_cases (has_func c t) (have_func c ks) e)
        (λ e. tree_chain c t st.1.0 e) (λ e. callees_chain c f ks (All-tail (IsCandidateOf g) s (sites_of ks) h) (All-tail (IsInlineIn g x.labels f) s (sites_of ks) is) st.1.1 e)

  module _ (c : FuncId) where
    abbrev test : Option Tree → Bool
    test o = option_map_or (has_func c) o false

    -- a callee that has the function
    callee_has : (s : SiteId) (h : IsCandidateOf g s) → test (tree_of x h.1.0.site.callee) ≡ true → (ks : Callees) (j : ℕ) → slice_get (sites_of ks) j ≡ Some s → AllStandFor g x.labels ks → AreWeighed m ks → have_func c ks ≡ true
    callee_has s h e none j at st wt = absurd (let clash : None ≡ Some s = at in cc)
    callee_has s h e (more o t ks) zero at st wt =
        let same : o ≡ s = cc in
        let is : callee_of g s ≡ Some (func t) = ap (callee_of g) (sym same) ∙ st.0 in
        let callee = func_of_callee g s h.1.0.site.callee (func t) (callee_is m g graph s h) is in
        let place = callee_place m g x graph forest s t h is st.1.0 wt.0 in
        or_left (has_func c t) (have_func c ks) (sym (ap test (ap (tree_of x) callee ∙ place)) ∙ e)
    callee_has s h e (more o t ks) (suc j) at st wt = or_right (has_func c t) (have_func c ks) (callee_has s h e ks j at st.1.1 wt.1)

    node_has : (s : SiteId) (h : IsCandidateOf g s) → is_inline (maps.label_of x.labels s) ≡ true → test (tree_of x h.1.0.site.callee) ≡ true → (t : Tree) → func t ≡ h.1.0.site.caller → StandsFor g x.labels t → IsWeighed m t → has_func c t ≡ true
    node_has s h inline e (node f w ks) own st wt =
        let inside : is_in g f s ≡ true = ap (λ (o : Option SiteFacts). option_map_or (λ (x : SiteFacts). x.site.caller.0 == f.0) o false) h.1.1 ∙ eq-eqb h.1.0.site.caller.0 f.0 (ap FuncId.0 (sym own)) in
        let place = has_label x.labels s (Some Inline) (inline_label (maps.label_of x.labels s) inline) in
        let at = in_filter (λ (o : SiteId). is_inline (maps.label_of x.labels o) && is_in g f o) (maps.sites_of x.labels) place.0 s place.1 (and_from (is_inline (maps.label_of x.labels s)) (is_in g f s) inline inside) in
        or_right (f.0 == c.0) (have_func c ks) (callee_has s h e ks at.0 (ap (λ (xs : List SiteId). slice_get xs at.0) st.0 ∙ at.1) st.1 wt.1)

    caller_has : (s : SiteId) (y : SiteFacts) → SiteIs g s y → is_inline (maps.label_of x.labels s) ≡ true → test (tree_of x y.site.callee) ≡ true → test (tree_of x y.site.caller) ≡ true
    caller_has s y is inline e =
        let h = label_candidate g x.labels s (Some Inline) forest.candidates (inline_label (maps.label_of x.labels s) inline) in
        let same : h.1.0 ≡ y = (let both : Some h.1.0 ≡ Some y = sym h.1.1 ∙ is in cc) in
        let t = caller_tree s h in
        let u = forest.stands h.1.0.site.caller t.0 t.1 in
        let callee = ap (λ (y : SiteFacts). test (tree_of x y.site.callee)) same ∙ e in
        sym (ap (λ (y : SiteFacts). test (tree_of x y.site.caller)) same) ∙ ap test t.1 ∙ node_has s h inline callee t.0 u.function u.stands u.weighed

    from_chain : (u : Tree) → tree_of x c ≡ Some u → {f d : ℕ} → InlinesLead g x.labels f d → d ≡ c.0 → test (slice_index_or x.trees f None) ≡ true
    from_chain u own (stays f) e = ap (λ (n : ℕ). test (slice_index_or x.trees n None)) e ∙ ap test own ∙ has_own c u (forest.stands c u own).function
    from_chain u own (goes s y f is inline rest) e = caller_has s y is inline (from_chain u own rest e)

    to_chain : (f : ℕ) (o : Option Tree) → slice_index_or x.trees f None ≡ o → test o ≡ true → InlinesLead g x.labels f c.0
    to_chain f None at e = absurd (false≢true e)
    to_chain f (Some t) at e =
        let is = forest.stands (record { 0 = f }) t at in
        subst (λ (n : ℕ). InlinesLead g x.labels n c.0) (ap FuncId.0 is.function) (tree_chain c t is.stands e)

    pub reaching_counted : is_some (tree_of x c) ≡ true → IsCount (λ (f : ℕ). InlinesLead g x.labels f c.0) (reaching_count c x.trees)
    reaching_counted own =
        let u = some_of (tree_of x c) own in
        counted test refl x.trees (λ (f : ℕ). InlinesLead g x.labels f c.0) (λ f. (λ e. to_chain f (slice_index_or x.trees f None) refl e, λ l. from_chain u.0 u.1 l refl))
