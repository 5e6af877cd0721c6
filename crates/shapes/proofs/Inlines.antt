-- The forest of a map that comes to label one more site inline.
use Rattle.std.proofs.Common.{◌≡◌, ℕ, zero, suc, ◌==◌, nat_lt, Bool, true, false, if◌then◌else◌, List, [], ◌∷◌, map, Option, Some, None, slice_index_or, refl, sym, ap, subst, ◌∙◌}
use Rattle.std.specs.Prelude.{is_some}
use Rattle.std.specs.Option.{option_map}
use Rattle.std.proofs.lemmas.Bool.{eqb-true, eqb-false, or_parts}
use Rattle.std.proofs.lemmas.List.{length-map}
use Rattle.oi_base.specs.declared.ids.FuncId.{FuncId}
use Rattle.oi_base.specs.declared.ids.SiteId.{SiteId}
use Rattle.ir_core.specs.declared.module.Module.{Module}
use Rattle.call_graph.specs.declared.facts.SiteFacts.{SiteFacts}
use Rattle.call_graph.specs.Sites.{Leads, all_sites}
use Rattle.call_graph.specs.Graph.{Graph, SiteIs, IsCandidateOf, candidate_ids}
use Rattle.decisions.specs.declared.maps.Label.TheVariants.{Inline}
use Rattle.decisions.specs.Maps as maps
use Rattle.shapes.specs.Tree.{Tree, node, Callees, none, more, func}
use Rattle.shapes.specs.Over.{IsGraphOf, sites_of}
use Rattle.shapes.specs.Standing.{Labels, callee_of, inline_sites, StandsFor, AllStandFor, Trees, tree_of, IsTreeOf, IsForest}
use Rattle.shapes.specs.Added.{Added}
use Rattle.shapes.specs.Reaching.{has_func, have_func}
use Rattle.shapes.specs.Renewed.{inserted, renewed, all_renewed, tree_over}
use Rattle.shapes.proofs.Renewals.{same_func, renewed_weighed}
use Rattle.shapes.proofs.Sites.{label_candidate, site_inserted, elsewhere, at_caller}
use Rattle.shapes.proofs.Forests.{is_candidate, tree_leads}

-- ---- trees

sites_same : (m : Module) (a : Added) (ks : Callees) → sites_of (all_renewed m a ks) ≡ sites_of ks
sites_same m a none = refl
sites_same m a (more s t ks) = ap (λ (xs : List SiteId). s ∷ xs) (sites_same m a ks)

sites_inserted : (s : SiteId) (t : Tree) (ks : Callees) → sites_of (inserted s t ks) ≡ site_inserted s (sites_of ks)
sites_inserted s t none = refl
sites_inserted s t (more o k ks) = by_test (nat_lt o.0 s.0) (sites_inserted s t ks)
  where
    by_test : (b : Bool) → sites_of (inserted s t ks) ≡ site_inserted s (sites_of ks) → sites_of (if b then more o k (inserted s t ks) else more s t (more o k ks)) ≡ (if b then o ∷ site_inserted s (sites_of ks) else s ∷ o ∷ sites_of ks)
    by_test true rest = ap (λ (xs : List SiteId). o ∷ xs) rest
    by_test false rest = refl

inserted_stand : (g : Graph) (p : Labels) (s : SiteId) (t : Tree) (ks : Callees) → callee_of g s ≡ Some (func t) → StandsFor g p t → AllStandFor g p ks → AllStandFor g p (inserted s t ks)
inserted_stand g p s t none e h hs = (e, (h, tt))
inserted_stand g p s t (more o k ks) e h hs = by_test (nat_lt o.0 s.0) (inserted_stand g p s t ks e h hs.1.1)
  where
    by_test : (b : Bool) → AllStandFor g p (inserted s t ks) → AllStandFor g p (if b then more o k (inserted s t ks) else more s t (more o k ks))
    by_test true rest = (hs.0, (hs.1.0, rest))
    by_test false rest = (e, (h, hs))

module _ (m : Module) (g : Graph) (a : Added) (old new : Labels) (y : SiteFacts) (caller : a.caller ≡ y.site.caller) (all : maps.sites_of old ≡ candidate_ids g) (is : SiteIs g a.site y) (was : maps.label_of old a.site ≡ Some None) (sets : maps.SetsOnly old new a.site (Some Inline)) where
  other_sites : (f : FuncId) → (f.0 == a.caller.0) ≡ false → inline_sites g new f ≡ inline_sites g old f
  other_sites f e = elsewhere g old new a.site y all is was sets f (λ same. eqb-false f.0 a.caller.0 e (sym same ∙ ap FuncId.0 (sym caller)))

  more_sites : (f : FuncId) → (f.0 == a.caller.0) ≡ true → inline_sites g new f ≡ site_inserted a.site (inline_sites g old f)
  more_sites f e = at_caller g old new a.site y all is was sets f (ap FuncId.0 (sym caller) ∙ sym (eqb-true f.0 a.caller.0 e))

  -- a tree without the caller stands for both maps
  mutual
    pub stands_still : (t : Tree) → has_func a.caller t ≡ false → StandsFor g old t → StandsFor g new t
    stands_still (node f w ks) e h =
        let parts = or_parts (f.0 == a.caller.0) (have_func a.caller ks) e in
        (h.0 ∙ sym (other_sites f parts.0), all_still ks parts.1 h.1)

    all_still : (ks : Callees) → have_func a.caller ks ≡ false → AllStandFor g old ks → AllStandFor g new ks
    all_still none e h = tt
    all_still (more s t ks) e h =
        let parts = or_parts (has_func a.caller t) (have_func a.caller ks) e in
        (h.0, (stands_still t parts.0 h.1.0, all_still ks parts.1 h.1.1))

  module _ (callee : callee_of g a.site ≡ Some (func a.callee)) (callee_stands : StandsFor g new a.callee) where
    node_stands : (f : FuncId) (w : ℕ) (ks : Callees) → sites_of ks ≡ inline_sites g old f → AllStandFor g new (all_renewed m a ks) → StandsFor g new (renewed m a (node f w ks))
    node_stands f w ks sites rest = by_test (f.0 == a.caller.0) refl
      where
        by_test : (b : Bool) → (f.0 == a.caller.0) ≡ b → StandsFor g new (tree_over m f (if b then inserted a.site a.callee (all_renewed m a ks) else all_renewed m a ks))
        by_test true e =
            (sites_inserted a.site a.callee (all_renewed m a ks) ∙ ap (site_inserted a.site) (sites_same m a ks ∙ sites) ∙ sym (more_sites f e), inserted_stand g new a.site a.callee (all_renewed m a ks) callee callee_stands rest)
        by_test false e = (sites_same m a ks ∙ sites ∙ sym (other_sites f e), rest)

    mutual
      pub stands_after : (t : Tree) → StandsFor g old t → StandsFor g new (renewed m a t)
      stands_after (node f w ks) h = node_stands f w ks h.0 (all_after ks h.1)

      all_after : (ks : Callees) → AllStandFor g old ks → AllStandFor g new (all_renewed m a ks)
      all_after none h = tt
      all_after (more s t ks) h = (h.0 ∙ ap (λ (f : FuncId). Some f) (sym (same_func m a t)), (stands_after t h.1.0, all_after ks h.1.1))

-- ---- the forest

at_after : (r : Tree → Tree) (os : List (Option Tree)) (f : ℕ) → slice_index_or (map (option_map r) os) f None ≡ option_map r (slice_index_or os f None)
at_after r [] f = refl
at_after r (o ∷ os) zero = refl
at_after r (o ∷ os) (suc f) = at_after r os f

some_after : (r : Tree → Tree) (o : Option Tree) → is_some (option_map r o) ≡ is_some o
some_after r None = refl
some_after r (Some t) = refl

from_some : (r : Tree → Tree) (o : Option Tree) (u : Tree) → option_map r o ≡ Some u → (t : Tree) × (o ≡ Some t) × (r t ≡ u)
from_some r None u e = absurd (let clash : None ≡ Some u = e in cc)
from_some r (Some t) u e = let both : Some (r t) ≡ Some u = e in (t, refl, (let same : r t ≡ u = cc in same))

module _ (m : Module) (g : Graph) (x : Trees) (graph : IsGraphOf m g) (forest : IsForest m g x) (a : Added) (was : maps.label_of x.labels a.site ≡ Some None) (y : SiteFacts) (is : SiteIs g a.site y)
    (trees : a.trees ≡ x.trees) (caller : a.caller ≡ y.site.caller) (callee : tree_of x y.site.callee ≡ Some a.callee) where
  own : IsTreeOf m g x.labels y.site.callee a.callee
  own = forest.stands y.site.callee a.callee callee

  candidate : IsCandidateOf g a.site
  candidate = label_candidate g x.labels a.site None forest.candidates was

  same_facts : candidate.1.0 ≡ y
  same_facts = let both : Some candidate.1.0 ≡ Some y = sym candidate.1.1 ∙ is in cc

  -- no chain of sites leads from the callee back to the caller
  callee_without : has_func a.caller a.callee ≡ false
  callee_without = by_test (has_func a.caller a.callee) refl
    where
      by_test : (b : Bool) → has_func a.caller a.callee ≡ b → b ≡ false
      by_test false e = refl
      by_test true e =
          let back = tree_leads m g x graph forest a.caller a.callee own.stands e in
          let from : (func a.callee).0 ≡ candidate.1.0.site.callee.0 = ap FuncId.0 own.function ∙ ap (λ (x : SiteFacts). x.site.callee.0) (sym same_facts) in
          let to : a.caller.0 ≡ candidate.1.0.site.caller.0 = ap FuncId.0 caller ∙ ap (λ (x : SiteFacts). x.site.caller.0) (sym same_facts) in
          absurd ((is_candidate m g graph a.site candidate).no_cycle (subst (λ (n : ℕ). Leads (all_sites m.funcs) candidate.1.0.site.callee.0 n) to (subst (λ (n : ℕ). Leads (all_sites m.funcs) n a.caller.0) from back)))

  pub after : (new : Labels) → maps.SetsOnly x.labels new a.site (Some Inline) → IsForest m g (record { trees = map (option_map (renewed m a)) x.trees; labels = new })
  after new sets = record {
    candidates = sets.same_sites ∙ forest.candidates;
    one_each = length-map x.trees (option_map (renewed m a)) ∙ forest.one_each;
    reached = λ f h e. ap is_some (at_after (renewed m a) x.trees f.0) ∙ some_after (renewed m a) (tree_of x f) ∙ forest.reached f h e;
    stands = λ f u e.
        let t = from_some (renewed m a) (tree_of x f) u (sym (at_after (renewed m a) x.trees f.0) ∙ e) in
        let is_tree = forest.stands f t.0 t.1 in
        subst (λ (u : Tree). IsTreeOf m g new f u) t.2 (record {
          function = same_func m a t.0 ∙ is_tree.function;
          stands = stands_after m g a x.labels new y caller forest.candidates is was sets called called_stands t.0 is_tree.stands;
          weighed = renewed_weighed m a t.0 own.weighed is_tree.weighed;
        });
  }
    where
      called : callee_of g a.site ≡ Some (func a.callee)
      called = ap (option_map (λ (x : SiteFacts). x.site.callee)) is ∙ ap (λ (f : FuncId). Some f) (sym own.function)

      called_stands : StandsFor g new a.callee
      called_stands = stands_still m g a x.labels new y caller forest.candidates is was sets a.callee callee_without own.stands
