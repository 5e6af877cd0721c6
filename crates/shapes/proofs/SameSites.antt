-- Maps under which functions have the same inlined sites.
use Rattle.std.proofs.Common.{◌≡◌, Bool, cond, List, [], ◌∷◌, filter, Option, Some, None, refl, sym, ap, ap₂, ◌∙◌}
use Rattle.std.specs.Prelude.{◌&&◌}
use Rattle.std.proofs.lemmas.Bool.{cases_eq}
use mathlib.Core.Logic.{◌⊎◌, inl, inr}
use Rattle.oi_base.specs.declared.ids.FuncId.{FuncId}
use Rattle.oi_base.specs.declared.ids.SiteId.{SiteId}
use Rattle.ir_core.specs.declared.module.Module.{Module}
use Rattle.call_graph.specs.Graph.{Graph}
use Rattle.decisions.specs.declared.maps.Label.{Label}
use Rattle.decisions.specs.declared.maps.Label.TheVariants.{Keep}
use Rattle.decisions.specs.Maps as maps
use Rattle.decisions.proofs.Lookups.{same_site}
use Rattle.shapes.specs.Tree.{Tree, node, Callees, none, more}
use Rattle.shapes.specs.Standing.{Labels, is_inline, is_in, inline_sites, StandsFor, AllStandFor, Trees, IsForest}

pub filter_alike : {X : Type 0} (p q : X → Bool) → ((x : X) → p x ≡ q x) → (xs : List X) → filter p xs ≡ filter q xs
filter_alike p q h [] = refl
filter_alike {X} p q h (x ∷ xs) = ap₂ (λ (b : Bool) (rest : List X). cond b (x ∷ rest) rest) (h x) (filter_alike p q h xs)

-- labels of which one is set, by whether they are inline
pub by_label : (old new : Labels) (s : SiteId) (l : Label) → maps.SetsOnly old new s (Some l) → (P : SiteId → Type 0) → P s → ((o : SiteId) → maps.label_of new o ≡ maps.label_of old o → P o) → (o : SiteId) → P o
by_label old new s l sets P here there o = by_site (cases_eq o.0 s.0)
  where
    by_site : (o.0 ≡ s.0) ⊎ (o.0 ≡ s.0 → ⊥) → P o
    by_site (inl e) = rw (same_site o s e) here
    by_site (inr n) = there o (sets.other_sites o (λ e. n (ap SiteId.0 e)))

-- a function has the same inlined sites where each site passes alike
pub same_sites : (g : Graph) (old new : Labels) (f : FuncId) → maps.sites_of new ≡ maps.sites_of old → ((o : SiteId) → (is_inline (maps.label_of new o) && is_in g f o) ≡ (is_inline (maps.label_of old o) && is_in g f o)) → inline_sites g new f ≡ inline_sites g old f
same_sites g old new f sites alike = rw sites (filter_alike _ _ alike (maps.sites_of old))

mutual
  pub stands_still : (g : Graph) (old new : Labels) → ((f : FuncId) → inline_sites g new f ≡ inline_sites g old f) → (t : Tree) → StandsFor g old t → StandsFor g new t
  stands_still g old new same (node f w ks) h = (h.0 ∙ sym (same f), all_stand_still g old new same ks h.1)

  all_stand_still : (g : Graph) (old new : Labels) → ((f : FuncId) → inline_sites g new f ≡ inline_sites g old f) → (ks : Callees) → AllStandFor g old ks → AllStandFor g new ks
  all_stand_still g old new same none h = tt
  all_stand_still g old new same (more s t ks) h = (h.0, (stands_still g old new same t h.1.0, all_stand_still g old new same ks h.1.1))

-- ---- a site that is kept

kept_sites : (g : Graph) (old new : Labels) (s : SiteId) → maps.label_of old s ≡ Some None → maps.SetsOnly old new s (Some Keep) → (f : FuncId) → inline_sites g new f ≡ inline_sites g old f
kept_sites g old new s was sets f =
    same_sites g old new f sets.same_sites
    (by_label old new s Keep sets (λ o. (is_inline (maps.label_of new o) && is_in g f o) ≡ (is_inline (maps.label_of old o) && is_in g f o)) (rw (was, sets.this_site) refl) (λ o e. ap (λ (l : Option (Option Label)). is_inline l && is_in g f o) e))

pub kept_forest : (m : Module) (g : Graph) (x : Trees) (new : Labels) (s : SiteId) → IsForest m g x → maps.label_of x.labels s ≡ Some None → maps.SetsOnly x.labels new s (Some Keep) → IsForest m g (record { trees = x.trees; labels = new })
kept_forest m g x new s h was sets = record {
  candidates = sets.same_sites ∙ h.candidates;
  one_each = h.one_each;
  reached = h.reached;
  stands = λ f t e. let is = h.stands f t e in record { function = is.function; stands = stands_still g x.labels new (kept_sites g x.labels new s was sets) t is.stands; weighed = is.weighed };
}
