-- The tree of the search is worth its value.
use Rattle.std.proofs.Common.{◌≡◌, ℕ, ◌<◌, refl, sym, ap, ◌∙◌, subst, Bool, true, false, List, [], ◌∷◌, length, Some, None}
use Rattle.std.proofs.lemmas.List.{length-map}
use Rattle.std.proofs.lemmas.Bool.{false≢true, ltb-true}
use Rattle.oi_base.specs.declared.ids.FuncId.{FuncId}
use Rattle.ir_core.specs.declared.module.Module.{Module}
use Rattle.call_graph.specs.Graph.{Graph}
use Rattle.decisions.specs.declared.maps.Label.TheVariants.{Keep, Inline}
use Rattle.component_split.specs.Graph.{Labels, Closed, with_label, has}
use Rattle.component_split.specs.Split.{roots, components, open_sites}
use Rattle.component_split.specs.Chosen.{chosen}
use Rattle.component_split.specs.Tree.{is_empty, is_decided}
use Rattle.component_split.specs.Over.{site_graph}
use Rattle.component_split.proofs.Trees.{chosen_open}
use Rattle.inline_certificate.specs.Trees.{Tree, leaf, branch, cut, split, Parts, done, more}
use Rattle.size_measure.specs.Maps.{filled}
use Rattle.size_measure.specs.Sizes.{Size, IsAtMost, part}
use Rattle.size_measure.specs.Low.{low}
use Rattle.cert_checker.specs.Worth.{Worth, Worths}
use Rattle.cert_checker.proofs.States.{label_closed, AllClosed, components_closed}
use Rattle.cert_checker.specs.Judged.{at_most}
use Rattle.cert_checker.proofs.Exact.{at_most_is}
use Rattle.tree_search.specs.Values.{value, values}
use Rattle.tree_search.specs.Search.{Rules, IsTree, AreTrees, bound_if, rules, rules_without_cuts}

empty_is : (xs : List ℕ) → is_empty xs ≡ true → xs ≡ []
empty_is [] h = refl
empty_is (x ∷ xs) h = absurd (false≢true h)

pub bound_is : (c d : Bool) (x b : Size) → bound_if c d x ≡ Some b → (b ≡ x) × (d ≡ true)
bound_is true d x b h = absurd cc
bound_is false true x b h = (cc, refl)
bound_is false false x b h = absurd cc

pub no_cut : (b : Size) → None ≡ Some b → ⊥
no_cut b e = cc

-- the rules state at leaves what completions have there, and cut by the lower bound where the keep child has no more
record AreSound (m : Module) (g : Graph) (r : Rules) : Type 0 where
  leaves : (p : Labels) (fs : List ℕ) → r.leaf_value p fs ≡ part m g (filled Keep p) fs
  cuts : (q : Labels) (fs : List ℕ) (a b : Size) → r.cut_by q fs a ≡ Some b → (b ≡ low m g q fs) × IsAtMost a b

module _ (m : Module) (g : Graph) (r : Rules) (sound : AreSound m g r) where
  open_chosen : (p : Labels) (fs : List ℕ) (s : ℕ) → is_decided (site_graph g) p fs ≡ false → s ≡ chosen (site_graph g) p fs → has (open_sites (site_graph g) p fs) s ≡ true
  open_chosen p fs s d e = ap (has (open_sites (site_graph g) p fs)) e ∙ chosen_open (site_graph g) p fs d

  mutual
    unfolding AllClosed

    sound_worth : (t : Tree) (p : Labels) (fs : List ℕ) → Closed (site_graph g) p fs → IsTree (site_graph g) r p fs t → Worth m g (low m g) p fs t (value t)
    sound_worth (leaf v) p fs c h = (empty_is (open_sites (site_graph g) p fs) h.0, refl, h.1 ∙ sound.leaves p fs)
    sound_worth (branch s k i) p fs c h =
        let o = open_chosen p fs s.0 h.0 h.2 in
        (value k, value i, o, sound_worth k (with_label p s.0 Keep) fs (label_closed (site_graph g) p fs s.0 Keep c o) h.3, sound_worth i (with_label p s.0 Inline) fs (label_closed (site_graph g) p fs s.0 Inline c o) h.5, refl)
    sound_worth (cut s k b) p fs c h =
        let o = open_chosen p fs s.0 h.0 h.2 in
        let e = sound.cuts (with_label p s.0 Inline) fs (value k) b h.4 in
        (o, sound_worth k (with_label p s.0 Keep) fs (label_closed (site_graph g) p fs s.0 Keep c o) h.3, e.0, e.1)
    sound_worth (split hs ts) p fs c h =
        let few = sym (length-map hs (λ (f : FuncId). f.0)) ∙ ap (λ (xs : List ℕ). length xs) h.2 in
        (h.2, subst (λ (n : ℕ). 1 < n) (sym few) (ltb-true 1 (length (roots (site_graph g) p fs)) h.1), trees_worth ts p (components (site_graph g) p fs) (components_closed (site_graph g) p fs c) h.3)

    trees_worth : (ts : Parts) (p : Labels) (cs : List (List ℕ)) → AllClosed (site_graph g) p cs → AreTrees (site_graph g) r p cs ts → Worths m g (low m g) p cs ts (values ts)
    trees_worth done p [] a h = refl
    trees_worth done p (c ∷ cs) a h = absurd h
    trees_worth (more t ts) p [] a h = absurd h
    trees_worth (more t ts) p (c ∷ cs) a h = (value t, values ts, sound_worth t p c a.0 h.0, trees_worth ts p cs a.1 h.1, refl)

module _ (m : Module) (g : Graph) where
  sound_rules : AreSound m g (rules m g)
  sound_rules = record {
    leaves = λ p fs. refl;
    cuts = λ q fs a b e.
        let x = bound_is (is_decided (site_graph g) q fs) (at_most a (low m g q fs)) (low m g q fs) b e in
        (x.0, subst (λ (y : Size). IsAtMost a y) (sym x.0) (at_most_is a (low m g q fs) x.1));
  }

  pub tree_worth : (t : Tree) (p : Labels) (fs : List ℕ) → Closed (site_graph g) p fs → IsTree (site_graph g) (rules m g) p fs t → Worth m g (low m g) p fs t (value t)
  tree_worth = sound_worth m g (rules m g) sound_rules

  -- the same of the tree without cuts
  pub whole_worth : (t : Tree) (p : Labels) (fs : List ℕ) → Closed (site_graph g) p fs → IsTree (site_graph g) (rules_without_cuts m g) p fs t → Worth m g (low m g) p fs t (value t)
  whole_worth = sound_worth m g (rules_without_cuts m g) (record { leaves = λ p fs. refl; cuts = λ q fs a b e. absurd (no_cut b e) })
