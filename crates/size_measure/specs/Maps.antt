-- Whole maps as functions from the numbers of sites to labels, and the whole maps that complete a partial one.
use Rattle.std.specs.Prelude.{◌≡◌, ℕ, Bool, true, false, List, Option, Some, None}
use Rattle.oi_base.specs.declared.ids.SiteId.{SiteId}
use Rattle.decisions.specs.declared.maps.Label.{Label}
use Rattle.decisions.specs.declared.maps.Label.TheVariants.{Keep, Inline}
use Rattle.decisions.specs.Maps.{label_of}
use Rattle.component_split.specs.Graph.{SiteGraph, Labels, has, inside}

-- the label of each site; one that may not be inlined is kept
abbrev pub Map : Type 0
Map = ℕ → Label

abbrev pub is_keep : Label → Bool
is_keep Keep = true
is_keep Inline = false

abbrev pub is_inline : Label → Bool
is_inline Keep = false
is_inline Inline = true

-- an undecided site gets this label
abbrev pub label_or : Label → Option Label → Label
label_or l None = l
label_or l (Some k) = k

-- the map that a list of candidates with their labels states
abbrev pub map_of : List (SiteId × Label) → Map
map_of d s = label_or Keep (label_of d (record { 0 = s }))

-- a partial map in which each undecided site gets this label
abbrev pub filled : Label → Labels → Map
filled l p s = label_or l (p s)

-- the map has the labels of the partial one
abbrev pub Completes : Map → Labels → Type 0
Completes d p = (s : ℕ) (l : Label) → p s ≡ Some l → d s ≡ l

-- two maps give the candidates inside a set of functions the same labels
abbrev pub AgreeInside : SiteGraph → List ℕ → Map → Map → Type 0
AgreeInside g fs d e = (s : ℕ) → has g.sites s ≡ true → inside g fs s ≡ true → d s ≡ e s
