-- Sites as arcs, their directions, and cycles.
use Rattle.std.specs.Prelude.{◌≡◌, ℕ, suc, zero, ◌<◌, Bool, true, false, if◌then◌else◌, List, [], ◌++◌, map, length, slice_index, slice_index_or}
use Rattle.std.specs.List.{filter, All}
use Rattle.decisions.specs.declared.maps.Label.TheVariants.{Keep}
use Rattle.strong_components.specs.declared.edge.Edge.{Edge}
use Rattle.strong_components.specs.declared.walk.Mark.{Mark}
use Rattle.strong_components.specs.Marks.{mark_at, are_joined}
use Rattle.component_split.specs.declared.arcs.Arc.{Arc}
use Rattle.component_split.specs.Graph.{SiteGraph, Labels, with_label, has, inside}
use Rattle.component_split.specs.Split.{joins_inside, Joined}
use Rattle.component_split.specs.Members.{put_at}

-- the function that a site leaves and the one to which it leads, from the caller to the callee or back
abbrev pub tail_of : SiteGraph → Bool → ℕ → ℕ
tail_of g forth s = if forth then g.caller s else g.callee s

abbrev pub head_of : SiteGraph → Bool → ℕ → ℕ
head_of g forth s = if forth then g.callee s else g.caller s

-- an arc that leaves the function at a position of a set: the site at a position joins both functions
pub record IsArc (g : SiteGraph) (p : Labels) (fs ss : List ℕ) (from : ℕ) (a : Arc) : Type 0 where
  pub within : a.site < length ss
  pub is_site : has g.sites (slice_index ss a.site) ≡ true
  pub joins : joins_inside g p fs (slice_index ss a.site) ≡ true
  pub to_in : a.to < length fs
  pub tail : slice_index fs from ≡ tail_of g a.forth (slice_index ss a.site)
  pub head : slice_index fs a.to ≡ head_of g a.forth (slice_index ss a.site)

-- what is listed at each position leaves it
abbrev pub AreArcs : SiteGraph → Labels → List ℕ → List ℕ → List (List Arc) → Type 0
AreArcs g p fs ss arcs = (from : ℕ) → All (IsArc g p fs ss from) (slice_index_or arcs from [])

-- arcs among n functions of so many sites
abbrev pub IsArcWithin : ℕ → ℕ → Arc → Type 0
IsArcWithin n sites a = (a.site < sites) × (a.to < n)

abbrev pub AreArcsWithin : ℕ → ℕ → List (List Arc) → Type 0
AreArcsWithin n sites arcs = (from : ℕ) → All (IsArcWithin n sites) (slice_index_or arcs from [])

-- both arcs of a site at a position are put
pub record PutsArcs (fs : List ℕ) (caller callee at : ℕ) (old new : List (List Arc)) : Type 0 where
  pub from : ℕ
  pub to : ℕ
  pub from_in : from < length fs
  pub to_in : to < length fs
  pub from_is : slice_index fs from ≡ caller
  pub to_is : slice_index fs to ≡ callee
  pub arcs : new ≡ put_at to (record { site = at; to = from; forth = false }) (put_at from (record { site = at; to = to; forth = true }) old)

-- ---- directions

abbrev pub same_direction : Bool → Bool → Bool
same_direction true b = b
same_direction false true = false
same_direction false false = true

-- the arcs in whose direction their site leads, as edges
abbrev pub is_directed : List Bool → Arc → Bool
is_directed forth a = same_direction (slice_index_or forth a.site false) a.forth

abbrev pub edge_along : ℕ → Arc → Edge
edge_along from a = record { from = from; to = a.to }

abbrev pub edges_at : List Bool → ℕ → List Arc → List Edge
edges_at forth from arcs = map (edge_along from) (filter (is_directed forth) arcs)

-- those that leave the first n positions
abbrev pub edges_of : List Bool → List (List Arc) → ℕ → List Edge
edges_of forth arcs zero = []
edges_of forth arcs (suc n) = edges_of forth arcs n ++ edges_at forth n (slice_index_or arcs n [])

-- ---- cycles

-- a site is on a cycle where a chain of others joins its functions
abbrev pub IsOnCycle : SiteGraph → Labels → List ℕ → ℕ → Type 0
IsOnCycle g p fs s = Joined g (with_label p s Keep) fs (g.caller s) (g.callee s)

-- a site inside the set whose functions have one mark is on a cycle
abbrev pub ShowCycles : SiteGraph → Labels → List ℕ → List Mark → Type 0
ShowCycles g p fs marks = (s i j : ℕ) → has g.sites s ≡ true → inside g fs s ≡ true → i < length fs → j < length fs → slice_index fs i ≡ g.caller s → slice_index fs j ≡ g.callee s → are_joined (mark_at marks i) (mark_at marks j) ≡ true → IsOnCycle g p fs s
