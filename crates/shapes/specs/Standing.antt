-- Which partial map shapes and forests stand for.
use Rattle.std.specs.Prelude.{◌≡◌, refl, ℕ, ◌-◌, ◌==◌, Bool, true, false, ◌&&◌, List, map, filter, length, slice_get, slice_index_or, Option, Some, None, is_some}
use Rattle.std.specs.Option.{option_map, option_map_or}
use Rattle.std.specs.Coded.{Coded, code_by, coded×, coded_list, coded_option}
use Rattle.std.specs.declared.rc.Rc.{Rc}
use Rattle.std.specs.declared.alloc.Global.{Global}
use Rattle.oi_base.specs.declared.ids.FuncId.{FuncId}
use Rattle.oi_base.specs.declared.ids.SiteId.{SiteId}
use Rattle.oi_base.specs.contracts.ids.SiteId as of_site
use Rattle.ir_core.specs.declared.module.Module.{Module}
use Rattle.call_graph.specs.declared.facts.FuncFacts.{FuncFacts}
use Rattle.call_graph.specs.declared.facts.SiteFacts.{SiteFacts}
use Rattle.call_graph.specs.Graph.{Graph, candidate_ids}
use Rattle.decisions.specs.declared.maps.Label.{Label}
use Rattle.decisions.specs.contracts.maps.Label as of_label
use Rattle.decisions.specs.declared.maps.Label.TheVariants.{Inline}
use Rattle.decisions.specs.Maps as maps
use Rattle.shapes.specs.Tree.{Tree, node, Callees, none, more, func}
use Rattle.shapes.specs.TreeCode.{tree_code}
use Rattle.shapes.specs.Weight.{IsWeighed}
use Rattle.shapes.specs.Over.{sites_of}

-- candidates, ascending, each with the label that it may have
abbrev pub Labels : Type 0
Labels = List (SiteId × Option Label)

-- ---- sites

abbrev pub is_inline : Option (Option Label) → Bool
is_inline (Some (Some Inline)) = true
is_inline _ = false

-- the site is one of the function
abbrev pub is_in : Graph → FuncId → SiteId → Bool
is_in g f s = option_map_or (λ (x : SiteFacts). x.site.caller.0 == f.0) (slice_get g.sites (s.0 - 1)) false

-- the function that a site calls
abbrev pub callee_of : Graph → SiteId → Option FuncId
callee_of g s = option_map (λ (x : SiteFacts). x.site.callee) (slice_get g.sites (s.0 - 1))

-- the sites of a function that a map labels inline, in text order
abbrev pub inline_sites : Graph → Labels → FuncId → List SiteId
inline_sites g p f = filter (λ (s : SiteId). is_inline (maps.label_of p s) && is_in g f s) (maps.sites_of p)

-- ---- trees

-- a tree has exactly the sites of its function that the map labels inline, in text order, each with a tree of its callee
-- that stands for the map likewise
abbrev mutual
  pub StandsFor : Graph → Labels → Tree → Type 0
  StandsFor g p (node f w ks) = (sites_of ks ≡ inline_sites g p f) × AllStandFor g p ks

  pub AllStandFor : Graph → Labels → Callees → Type 0
  AllStandFor g p none = Unit {0}
  AllStandFor g p (more s t ks) = (callee_of g s ≡ Some (func t)) × (StandsFor g p t × AllStandFor g p ks)

-- ---- forests

-- for each function of a graph the tree that it may have, and a partial map
pub record Trees : Type 0 where
  pub trees : List (Option Tree)
  pub labels : Labels

abbrev pub trees_code : Coded Trees
trees_code =
    code_by (List (Option Tree) × Labels) (coded× (coded_list (coded_option tree_code)) (coded_list (coded× of_site.the_row.coded (coded_option of_label.the_row.coded)))) (λ x. (x.trees, x.labels)) (λ d. record { trees = d.0; labels = d.1 })
    (λ _. refl)

abbrev pub tree_of : Trees → FuncId → Option Tree
tree_of x f = slice_index_or x.trees f.0 None

-- shared trees as trees
abbrev pub values : List (Option (Rc Tree Global)) → List (Option Tree)
values os = map (λ (o : Option (Rc Tree Global)). option_map (λ (r : Rc Tree Global). r.value) o) os

-- the tree of a function that stands for the map, with the weights that the module gives
pub record IsTreeOf (m : Module) (g : Graph) (p : Labels) (f : FuncId) (t : Tree) : Type 0 where
  pub function : func t ≡ f
  pub stands : StandsFor g p t
  pub weighed : IsWeighed m t

-- a forest over a module and a graph of it: a partial map over the candidates, and for each reached function, and no other, a
-- tree that stands for it
pub record IsForest (m : Module) (g : Graph) (x : Trees) : Type 0 where
  pub candidates : maps.sites_of x.labels ≡ candidate_ids g
  pub one_each : length x.trees ≡ length g.funcs
  pub reached : (f : FuncId) (h : FuncFacts) → slice_get g.funcs f.0 ≡ Some h → is_some (tree_of x f) ≡ h.reached
  pub stands : (f : FuncId) (t : Tree) → tree_of x f ≡ Some t → IsTreeOf m g x.labels f t

-- how many functions are reached
abbrev pub reached_count : List FuncFacts → ℕ
reached_count fs = length (filter (λ (h : FuncFacts). h.reached) fs)
