-- The tree of the search with its values and cuts.
use Rattle.std.specs.Prelude.{◌≡◌, ℕ, Bool, true, false, List, [], ◌∷◌, Option, Some, None}
use Rattle.ir_core.specs.declared.module.Module.{Module}
use Rattle.call_graph.specs.Graph.{Graph}
use Rattle.decisions.specs.declared.maps.Label.TheVariants.{Keep, Inline}
use Rattle.component_split.specs.Graph.{SiteGraph, Labels, with_label}
use Rattle.component_split.specs.Split.{roots, components}
use Rattle.component_split.specs.Chosen.{chosen}
use Rattle.component_split.specs.Tree.{is_decided, is_several}
use Rattle.component_split.specs.Over.{site_graph, func_numbers, reached_from}
use Rattle.component_split.specs.States.{none_decided}
use Rattle.inline_certificate.specs.Trees.{Tree, leaf, branch, cut, split, Parts, done, more}
use Rattle.size_measure.specs.Maps.{filled}
use Rattle.size_measure.specs.Sizes.{Size, part}
use Rattle.size_measure.specs.Low.{low}
use Rattle.cert_checker.specs.Judged.{at_most}
use Rattle.tree_search.specs.Values.{value}

-- what a leaf states, and by which bound an inline child is left out, given the keep child's value
pub record Rules : Type 0 where
  pub leaf_value : Labels → List ℕ → Size
  pub cut_by : Labels → List ℕ → Size → Option Size

-- the tree of a state: a leaf where nothing inside is undecided, else a split into several components, else a branch on the chosen
-- site, the keep child first, of which the inline child may be cut
abbrev mutual
  pub IsTree : SiteGraph → Rules → Labels → List ℕ → Tree → Type 0
  IsTree g r p fs (leaf v) = (is_decided g p fs ≡ true) × (v ≡ r.leaf_value p fs)
  IsTree g r p fs (branch s k i) =
      (is_decided g p fs ≡ false) × (is_several g p fs ≡ false) × (s.0 ≡ chosen g p fs) × IsTree g r (with_label p s.0 Keep) fs k
      × (r.cut_by (with_label p s.0 Inline) fs (value k) ≡ None) × IsTree g r (with_label p s.0 Inline) fs i
  IsTree g r p fs (cut s k b) =
      (is_decided g p fs ≡ false) × (is_several g p fs ≡ false) × (s.0 ≡ chosen g p fs) × IsTree g r (with_label p s.0 Keep) fs k
      × (r.cut_by (with_label p s.0 Inline) fs (value k) ≡ Some b)
  IsTree g r p fs (split hs ts) = (is_decided g p fs ≡ false) × (is_several g p fs ≡ true) × (func_numbers hs ≡ roots g p fs) × AreTrees g r p (components g p fs) ts

  pub AreTrees : SiteGraph → Rules → Labels → List (List ℕ) → Parts → Type 0
  AreTrees g r p [] done = Unit {0}
  AreTrees g r p [] (more t ts) = ⊥
  AreTrees g r p (c ∷ cs) done = ⊥
  AreTrees g r p (c ∷ cs) (more t ts) = IsTree g r p c t × AreTrees g r p cs ts

-- ---- the rules of the search

abbrev pub bound_if : Bool → Bool → Size → Option Size
bound_if true small b = None
bound_if false true b = Some b
bound_if false false b = None

-- a leaf has what completions have over its functions; the inline child is cut by its lower bound where it is no leaf and the keep
-- child's value is no more than that
abbrev pub rules : Module → Graph → Rules
rules m g = record {
  leaf_value = λ p fs. part m g (filled Keep p) fs;
  cut_by = λ q fs a. bound_if (is_decided (site_graph g) q fs) (at_most a (low m g q fs)) (low m g q fs);
}

-- the tree of a module's search: from the state of all reached functions in which nothing is decided
abbrev pub IsSearchTree : Module → Graph → Tree → Type 0
IsSearchTree m g t = IsTree (site_graph g) (rules m g) (none_decided g) (reached_from 0 g.funcs) t

-- the same without cuts
abbrev pub rules_without_cuts : Module → Graph → Rules
rules_without_cuts m g = record { leaf_value = (rules m g).leaf_value; cut_by = λ q fs a. None }
