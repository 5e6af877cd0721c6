-- The tree of the search, and how many nodes it has.
use Rattle.std.specs.Prelude.{ℕ, ◌+◌, Bool, true, false, List, [], ◌∷◌, length, nat_lt, ◌≡◌}
use Rattle.decisions.specs.declared.maps.Label.TheVariants.{Keep, Inline}
use Rattle.component_split.specs.Graph.{SiteGraph, Labels, with_label}
use Rattle.component_split.specs.Split.{components, roots, open_sites}
use Rattle.component_split.specs.Chosen.{chosen}

mutual
  pub data Tree : Type 0 where
    leaf : Tree
    branch : (site : ℕ) → (keep inline : Tree) → Tree
    split : (parts : Parts) → Tree

  pub data Parts : Type 0 where
    done : Parts
    more : (first : Tree) → (rest : Parts) → Parts

abbrev mutual
  pub nodes : Tree → ℕ
  nodes leaf = 1
  nodes (branch s k i) = 1 + (nodes k + nodes i)
  nodes (split ts) = 1 + nodes_of ts

  pub nodes_of : Parts → ℕ
  nodes_of done = 0
  nodes_of (more t ts) = nodes t + nodes_of ts

abbrev pub is_empty : List ℕ → Bool
is_empty [] = true
is_empty (x ∷ xs) = false

-- whether no undecided site is inside the set
abbrev pub is_decided : SiteGraph → Labels → List ℕ → Bool
is_decided g p fs = is_empty (open_sites g p fs)

abbrev pub is_several : SiteGraph → Labels → List ℕ → Bool
is_several g p fs = nat_lt 1 (length (roots g p fs))

-- the tree of a state: a leaf where nothing inside is undecided, else a split into several components, else a branch on
-- the chosen site
abbrev mutual
  pub IsTree : SiteGraph → Labels → List ℕ → Tree → Type 0
  IsTree g p fs leaf = is_decided g p fs ≡ true
  IsTree g p fs (branch s k i) = (is_decided g p fs ≡ false) × (is_several g p fs ≡ false) × (s ≡ chosen g p fs) × IsTree g (with_label p s Keep) fs k × IsTree g (with_label p s Inline) fs i
  IsTree g p fs (split ts) = (is_decided g p fs ≡ false) × (is_several g p fs ≡ true) × AreTrees g p (components g p fs) ts

  pub AreTrees : SiteGraph → Labels → List (List ℕ) → Parts → Type 0
  AreTrees g p [] done = Unit {0}
  AreTrees g p [] (more t ts) = ⊥
  AreTrees g p (c ∷ cs) done = ⊥
  AreTrees g p (c ∷ cs) (more t ts) = IsTree g p c t × AreTrees g p cs ts
