-- The tree of a function under a map: each candidate in it that is labelled inline, with the tree of its callee.
use Rattle.std.specs.Prelude.{Bool, false, ◌||◌, ℕ, zero, suc, ◌+◌, ◌&&◌, nat_eq, if◌then◌else◌, List, [], ◌∷◌, length, Option}
use Rattle.ir_core.specs.declared.flat.FlatBody.{FlatBody}
use Rattle.ir_core.specs.declared.module.Module.{Module}
use Rattle.call_graph.specs.Graph.{Graph}
use Rattle.shapes.specs.Tree.{Tree, node, Callees, none, more}
use Rattle.shapes.specs.Weight.{own_weight, callees_weight, kept}
use Rattle.site_inliner.specs.Flat.{flat}
use Rattle.component_split.specs.Graph.{SiteGraph}
use Rattle.component_split.specs.Over.{site_graph}
use Rattle.size_measure.specs.Maps.{Map, is_inline}

-- those of these sites that the function has and the map labels inline, each with a tree of its callee
abbrev pub callees_of : SiteGraph → Map → ℕ → (ℕ → Tree) → List ℕ → Callees
callees_of g d f tree_of [] = none
callees_of g d f tree_of (s ∷ ss) =
    if nat_eq (g.caller s) f && is_inline (d s) then more (record { 0 = s }) (tree_of (g.callee s)) (callees_of g d f tree_of ss) else callees_of g d f tree_of ss

-- a function with these sites inlined, and its weight
abbrev pub tree_with : Module → ℕ → Callees → Tree
tree_with m f ks = node (record { 0 = f }) (kept (own_weight m (record { 0 = f }) + callees_weight m ks)) ks

-- with so many levels of inlined calls at most
unfoldable pub tree_by : Module → SiteGraph → Map → ℕ → ℕ → Tree
tree_by m g d zero f = tree_with m f none
tree_by m g d (suc n) f = tree_with m f (callees_of g d f (tree_by m g d n) g.sites)

-- no chain of inlined candidates is longer than there are functions, since no candidate's callee leads back to its caller
abbrev pub tree : Module → Graph → Map → ℕ → Tree
tree m g d f = tree_by m (site_graph g) d (length g.funcs) f

-- the expanded body of a function under a map
abbrev pub body : Module → Graph → Map → ℕ → Option FlatBody
body m g d f = flat m (tree m g d f)

-- the site is inlined somewhere in the tree
abbrev mutual
  pub reaches : Tree → ℕ → Bool
  reaches (node f w ks) s = any_reaches ks s

  pub any_reaches : Callees → ℕ → Bool
  any_reaches none s = false
  any_reaches (more q t ks) s = (nat_eq q.0 s || reaches t s) || any_reaches ks s
