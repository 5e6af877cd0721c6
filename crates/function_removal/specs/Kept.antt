-- Which functions of a graph are kept under a map: the reached ones that are external or that a kept site calls.
use Rattle.std.specs.Prelude.{◌≡◌, ◌≢◌, ◌⊎◌, IsTrue, List, Option, Some, slice_get}
use Rattle.oi_base.specs.declared.ids.FuncId.{FuncId}
use Rattle.oi_base.specs.declared.ids.SiteId.{SiteId}
use Rattle.call_graph.specs.declared.facts.FuncFacts.{FuncFacts}
use Rattle.call_graph.specs.declared.facts.SiteFacts.{SiteFacts}
use Rattle.call_graph.specs.Graph.{Graph, IsNumber, SiteIs}
use Rattle.decisions.specs.declared.maps.Label.{Label}
use Rattle.decisions.specs.declared.maps.Label.TheVariants.{Inline, Keep}
use Rattle.decisions.specs.Maps as maps

-- ---- functions and sites

pub record IsReached (g : Graph) (f : FuncId) : Type 0 where
  pub facts : FuncFacts
  pub here : slice_get g.funcs f.0 ≡ Some facts
  pub reached : IsTrue facts.reached

pub record IsExternal (g : Graph) (f : FuncId) : Type 0 where
  pub facts : FuncFacts
  pub here : slice_get g.funcs f.0 ≡ Some facts
  pub external : IsTrue facts.external

-- a site that the map does not label inline is kept, also where it is no candidate
abbrev pub HasKeep : List (SiteId × Label) → SiteId → Type 0
HasKeep d s = maps.label_of d s ≢ Some Inline

-- a kept site with a reached caller calls the function
pub record KeepsCall (g : Graph) (d : List (SiteId × Label)) (f : FuncId) (s : SiteId) : Type 0 where
  pub number : IsNumber g s
  pub facts : SiteFacts
  pub here : SiteIs g s facts
  pub callee : facts.site.callee ≡ f
  pub caller : IsReached g facts.site.caller
  pub keep : HasKeep d s

-- ---- who is kept

pub record IsKept (g : Graph) (d : List (SiteId × Label)) (f : FuncId) : Type 0 where
  pub reached : IsReached g f
  pub stays : IsExternal g f ⊎ ((s : SiteId) × KeepsCall g d f s)

-- ---- closed sets

-- the site has one end in a set of functions and the other outside, and both are reached
pub record Crosses (g : Graph) (P : FuncId → Type 0) (x : SiteFacts) : Type 0 where
  pub one_end : (P x.site.caller × (P x.site.callee → ⊥)) ⊎ ((P x.site.caller → ⊥) × P x.site.callee)
  pub caller : IsReached g x.site.caller
  pub callee : IsReached g x.site.callee

-- each such site is kept: it is no candidate, or the partial map labels it so
abbrev pub IsClosed : Graph → List (SiteId × Option Label) → (FuncId → Type 0) → Type 0
IsClosed g p P = (s : SiteId) (x : SiteFacts) → IsNumber g s → SiteIs g s x → Crosses g P x → (IsTrue x.candidate → ⊥) ⊎ (maps.label_of p s ≡ Some (Some Keep))
