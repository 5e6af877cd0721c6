-- The trees of the map in which each candidate is undecided.
use Rattle.std.specs.Prelude.{ℕ, ◌+◌, List, [], ◌∷◌, Option, Some, None, if◌then◌else◌}
use Rattle.oi_base.specs.declared.ids.FuncId.{FuncId}
use Rattle.ir_core.specs.declared.module.Module.{Module}
use Rattle.call_graph.specs.declared.facts.FuncFacts.{FuncFacts}
use Rattle.shapes.specs.Tree.{Tree, node, none}
use Rattle.shapes.specs.Weight.{own_weight, kept}

-- the tree of a reached function without inlined sites
abbrev pub bare : Module → FuncFacts → FuncId → Option Tree
bare m h f = if h.reached then Some (node f (kept (own_weight m f + 0)) none) else None

-- those of functions from a position on
abbrev pub bare_from : Module → ℕ → List FuncFacts → List (Option Tree)
bare_from m n [] = []
bare_from m n (h ∷ hs) = bare m h (record { 0 = n }) ∷ bare_from m (n + 1) hs
