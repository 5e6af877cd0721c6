-- What a certificate's tree is worth over a state of the search, and when a certificate passes.
use Rattle.std.specs.Prelude.{◌≡◌, ℕ, ◌+◌, ◌<◌, true, List, [], ◌∷◌, length, Some}
use Rattle.ir_core.specs.declared.module.Module.{Module}
use Rattle.call_graph.specs.Graph.{Graph}
use Rattle.decisions.specs.declared.maps.Label.TheVariants.{Keep, Inline}
use Rattle.component_split.specs.Graph.{Labels, with_label, has}
use Rattle.component_split.specs.Split.{open_sites, roots, components}
use Rattle.component_split.specs.Over.{site_graph, reached_from, func_numbers}
use Rattle.component_split.specs.States.{none_decided}
use Rattle.inline_certificate.specs.declared.certificates.Certificate.{Certificate}
use Rattle.inline_certificate.specs.Trees.{Tree, leaf, branch, cut, split, Parts, done, more, preorder}
use Rattle.size_measure.specs.Maps.{filled, map_of}
use Rattle.size_measure.specs.Sizes.{Size, plus, lesser, IsAtMost, part, size}
use Rattle.size_measure.specs.Low.{low}

-- a number for each state, which is to be no more than any completion has over its functions
abbrev pub BoundOf : Type 0
BoundOf = Labels → List ℕ → Size

-- A leaf states what the completions have where nothing is undecided; a branch has the lesser of its children's worths; a cut has
-- the keep child's, which is no more than the bound that it states of the other; a split into the components has their sum.
module _ (m : Module) (g : Graph) (bound : BoundOf) where
  abbrev mutual
    pub Worth : Labels → List ℕ → Tree → Size → Type 0
    Worth p fs (leaf v) x = (open_sites (site_graph g) p fs ≡ []) × (v ≡ x) × (x ≡ part m g (filled Keep p) fs)
    Worth p fs (branch s k i) x =
        (a b : Size) × (has (open_sites (site_graph g) p fs) s.0 ≡ true) × Worth (with_label p s.0 Keep) fs k a × Worth (with_label p s.0 Inline) fs i b × (x ≡ lesser a b)
    Worth p fs (cut s k b) x =
        (has (open_sites (site_graph g) p fs) s.0 ≡ true) × Worth (with_label p s.0 Keep) fs k x × (b ≡ bound (with_label p s.0 Inline) fs) × IsAtMost x b
    Worth p fs (split hs ts) x = (func_numbers hs ≡ roots (site_graph g) p fs) × (1 < length hs) × Worths p (components (site_graph g) p fs) ts x

    pub Worths : Labels → List (List ℕ) → Parts → Size → Type 0
    Worths p [] done x = x ≡ Some 0
    Worths p [] (more t ts) x = ⊥
    Worths p (c ∷ cs) done x = ⊥
    Worths p (c ∷ cs) (more t ts) x = (a b : Size) × Worth p c t a × Worths p cs ts b × (x ≡ plus a b)

-- The tree of a certificate has a worth over all reached functions where nothing is decided. With the stub's 16 bytes that is the
-- stated size of the text, and the stated map has this size.
pub record Passes (m : Module) (g : Graph) (c : Certificate) : Type 0 where
  pub tree : Tree
  pub nodes : c.tree ≡ preorder tree
  pub worth : ℕ
  pub has_worth : Worth m g (low m g) (none_decided g) (reached_from 0 g.funcs) tree (Some worth)
  pub root : worth + 16 ≡ c.text
  pub map_size : size m g (map_of c.map) ≡ Some c.text
