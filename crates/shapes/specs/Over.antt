-- Shapes over a module and a graph of it.
use Rattle.std.specs.Prelude.{◌≡◌, ℕ, ◌+◌, ◌<◌, Bool, IsTrue, List, [], ◌∷◌, length}
use Rattle.oi_base.specs.declared.ids.FuncId.{FuncId}
use Rattle.oi_base.specs.declared.ids.SiteId.{SiteId}
use Rattle.oi_base.specs.Ascending.{IsAscending}
use Rattle.ir_core.specs.declared.module.Module.{Module}
use Rattle.call_graph.specs.declared.facts.SiteFacts.{SiteFacts}
use Rattle.call_graph.specs.Graph.{Graph, IsGraph, IsNumber, SiteIs}
use Rattle.shapes.specs.Tree.{Tree, node, Callees, none, more, func}
use Rattle.shapes.specs.Weight.{own_weight, callees_weight, kept}

-- the graph of the module, with `noinline` having an effect or not
abbrev pub IsGraphOf : Module → Graph → Type 0
IsGraphOf m g = (free : Bool) × IsGraph m.funcs free g

-- the sites of callees, in their order
abbrev pub sites_of : Callees → List SiteId
sites_of none = []
sites_of (more s t ks) = s ∷ sites_of ks

-- a candidate in a function, and a tree of the function that it calls
pub record IsInlined (g : Graph) (f : FuncId) (s : SiteId) (t : Tree) : Type 0 where
  pub site : SiteFacts
  pub number : IsNumber g s
  pub is : SiteIs g s site
  pub candidate : IsTrue site.candidate
  pub caller : site.site.caller ≡ f
  pub callee : site.site.callee ≡ func t

-- a function of the graph, whose inlined sites ascend, and the weight that the module gives it
pub record IsNode (m : Module) (g : Graph) (f : FuncId) (w : ℕ) (ks : Callees) : Type 0 where
  pub in_range : f.0 < length g.funcs
  pub weight : w ≡ kept (own_weight m f + callees_weight m ks)
  pub ascending : IsAscending (sites_of ks)

-- all functions of a tree are so, and in each stand candidates that it calls with trees of the functions that these call
abbrev mutual
  pub IsOver : Module → Graph → Tree → Type 0
  IsOver m g (node f w ks) = IsNode m g f w ks × AreOver m g f ks

  pub AreOver : Module → Graph → FuncId → Callees → Type 0
  AreOver m g f none = Unit {0}
  AreOver m g f (more s t ks) = IsInlined g f s t × (IsOver m g t × AreOver m g f ks)
