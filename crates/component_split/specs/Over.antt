-- Call graphs, partial maps, sets and marks as the search sees them.
use Rattle.std.specs.Prelude.{◌≡◌, ℕ, ◌+◌, ◌-◌, ◌^◌, ◌<◌, true, List, [], ◌∷◌, if◌then◌else◌, length, map, Option, Some, None, slice_get, slice_index}
use Rattle.std.specs.List.{filter, All}
use Rattle.std.specs.Option.{IsSome, option_map_or}
use Rattle.oi_base.specs.declared.ids.SiteId.{SiteId}
use Rattle.oi_base.specs.declared.ids.FuncId.{FuncId}
use Rattle.call_graph.specs.declared.facts.FuncFacts.{FuncFacts}
use Rattle.call_graph.specs.declared.facts.SiteFacts.{SiteFacts}
use Rattle.call_graph.specs.Graph.{Graph, candidate_ids}
use Rattle.decisions.specs.declared.maps.Label.{Label}
use Rattle.decisions.specs.declared.maps.Label.TheVariants.{Keep}
use Rattle.decisions.specs.Maps.{label_of, sites_of}
use Rattle.component_split.specs.Graph.{SiteGraph, Labels, has, inside}

abbrev pub site_numbers : List SiteId → List ℕ
site_numbers sites = map (λ (s : SiteId). s.0) sites

abbrev pub func_numbers : List FuncId → List ℕ
func_numbers funcs = map (λ (f : FuncId). f.0) funcs

-- a fact of a site by its number
abbrev pub of_site : Graph → (SiteFacts → ℕ) → ℕ → ℕ
of_site g h s = option_map_or h (slice_get g.sites (s - 1)) 0

-- the candidates of a call graph, and the functions of each
unfoldable pub caller_of : Graph → ℕ → ℕ
caller_of g s = of_site g (λ (x : SiteFacts). x.site.caller.0) s

unfoldable pub callee_of : Graph → ℕ → ℕ
callee_of g s = of_site g (λ (x : SiteFacts). x.site.callee.0) s

abbrev pub site_graph : Graph → SiteGraph
site_graph g = record { sites = site_numbers (candidate_ids g); caller = caller_of g; callee = callee_of g }

-- a site that the map doesn't hold is kept
abbrev pub keep_unless : Option (Option Label) → Option Label
keep_unless None = Some Keep
keep_unless (Some l) = l

unfoldable pub labels : List (SiteId × Option Label) → Labels
labels p s = keep_unless (label_of p (record { 0 = s }))

-- a map over the candidates of a call graph
abbrev pub IsMapOver : Graph → List (SiteId × Option Label) → Type 0
IsMapOver g p = sites_of p ≡ candidate_ids g

-- a map that holds each candidate inside a set
abbrev pub HoldsInside : Graph → List ℕ × List ℕ → List (SiteId × Option Label) → Type 0
HoldsInside g s p = (x : SiteId) → has (site_graph g).sites x.0 ≡ true → inside (site_graph g) s.0 x.0 ≡ true → IsSome (label_of p x)

-- the reached functions of a call graph, from function n on
abbrev pub reached_from : ℕ → List FuncFacts → List ℕ
reached_from n [] = []
reached_from n (f ∷ fs) = if f.reached then n ∷ reached_from (n + 1) fs else reached_from (n + 1) fs

-- a set of functions, with the candidates inside it
abbrev pub Set : Type 0
Set = List ℕ × List ℕ

-- a set of functions of a call graph
pub record IsSetOf (g : Graph) (s : Set) : Type 0 where
  pub in_range : All (λ f. f < length g.funcs) s.0
  pub sites : s.1 ≡ filter (inside (site_graph g) s.0) (site_graph g).sites

-- numbers that rise
abbrev pub IsRising : List ℕ → Type 0
IsRising xs = (i j : ℕ) → i < j → j < length xs → slice_index xs i < slice_index xs j

-- the number of a candidate
abbrev pub IsCandidateNumber : Graph → ℕ → Type 0
IsCandidateNumber g s = has (site_graph g).sites s ≡ true

-- marks for the functions of a call graph, as their count
abbrev pub IsMarksOf : Graph → ℕ → Type 0
IsMarksOf g m = m ≡ length g.funcs

-- a candidate whose functions have degrees that can be counted
pub record IsCounted (g : Graph) (degrees : List ℕ) (s : ℕ) : Type 0 where
  pub candidate : IsCandidateNumber g s
  pub caller : caller_of g s < length degrees
  pub callee : callee_of g s < length degrees
  pub few_at_caller : slice_index degrees (caller_of g s) < 2 ^ 63
  pub few_at_callee : slice_index degrees (callee_of g s) < 2 ^ 63

-- candidates inside a set
abbrev pub AreSitesInside : Graph → List ℕ → List ℕ → Type 0
AreSitesInside g fs ss = All (λ s. IsCandidateNumber g s × (inside (site_graph g) fs s ≡ true)) ss
