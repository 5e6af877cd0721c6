-- States of the search that wait to be counted, and their trees.
use Rattle.std.specs.Prelude.{◌≡◌, ℕ, ◌+◌, Bool, true, false, List, [], ◌∷◌, map}
use Rattle.call_graph.specs.Graph.{Graph, candidate_ids}
use Rattle.decisions.specs.declared.maps.Label.{Label}
use Rattle.decisions.specs.declared.maps.Label.TheVariants.{Keep, Inline}
use Rattle.decisions.specs.Maps.{undecided}
use Rattle.component_split.specs.declared.count.State.{State}
use Rattle.component_split.specs.Graph.{SiteGraph, Labels, with_label, has, inside}
use Rattle.component_split.specs.Split.{components}
use Rattle.component_split.specs.Chosen.{chosen}
use Rattle.component_split.specs.Tree.{Tree, nodes, is_decided, is_several, IsTree}
use Rattle.component_split.specs.Over.{site_graph, labels, reached_from, IsSetOf, HoldsInside}

-- the labels of a call graph where each candidate is undecided
abbrev pub none_decided : Graph → Labels
none_decided g = labels (undecided {L = Label} (candidate_ids g))

-- the tree of a call graph, from the state of all reached functions where each candidate is undecided
abbrev pub IsTreeOf : Graph → Tree → Type 0
IsTreeOf g t = IsTree (site_graph g) (none_decided g) (reached_from 0 g.funcs) t

-- how many nodes these trees have
abbrev pub nodes_in : List Tree → ℕ
nodes_in [] = 0
nodes_in (t ∷ ts) = nodes t + nodes_in ts

-- labels and functions
abbrev pub Point : Type 0
Point = Labels × List ℕ

abbrev pub point : State → Point
point s = (labels s.partial, s.set.0)

-- each state's tree
abbrev pub HaveTrees : SiteGraph → List Point → List Tree → Type 0
HaveTrees g [] [] = Unit {0}
HaveTrees g [] (t ∷ ts) = ⊥
HaveTrees g (x ∷ xs) [] = ⊥
HaveTrees g (x ∷ xs) (t ∷ ts) = IsTree g x.0 x.1 t × HaveTrees g xs ts

abbrev pub children_by : Bool → Bool → List Point → List Point → List Point
children_by true b split branch = []
children_by false true split branch = split
children_by false false split branch = branch

-- the states below a state
abbrev pub children : SiteGraph → Point → List Point
children g x = children_by (is_decided g x.0 x.1) (is_several g x.0 x.1) (map (λ (c : List ℕ). (x.0, c)) (components g x.0 x.1)) ((with_label x.0 (chosen g x.0 x.1) Keep, x.1) ∷ (with_label x.0 (chosen g x.0 x.1) Inline, x.1) ∷ [])

-- labels agree at the sites inside a set
abbrev pub AgreeInside : SiteGraph → List ℕ → Labels → Labels → Type 0
AgreeInside g fs p q = (s : ℕ) → has g.sites s ≡ true → inside g fs s ≡ true → p s ≡ q s

-- one set, and labels that agree inside it
abbrev pub SamePoint : SiteGraph → Point → Point → Type 0
SamePoint g x y = (x.1 ≡ y.1) × AgreeInside g x.1 x.0 y.0

abbrev pub SamePoints : SiteGraph → List Point → List Point → Type 0
SamePoints g [] [] = Unit {0}
SamePoints g [] (y ∷ ys) = ⊥
SamePoints g (x ∷ xs) [] = ⊥
SamePoints g (x ∷ xs) (y ∷ ys) = SamePoint g x y × SamePoints g xs ys

-- a state over a call graph
abbrev pub IsStateOf : Graph → State → Type 0
IsStateOf g s = IsSetOf g s.set × HoldsInside g s.set s.partial
