-- A module's call graph as nodes and edges.
use Rattle.std.specs.Prelude.{Bool, not, List, map}
use Rattle.ir_core.specs.declared.func.Func.{Func}
use Rattle.strong_components.specs.declared.edge.Edge.{Edge}
use Rattle.call_graph.specs.declared.sites.Site.{Site}

abbrev pub edge_of : Site → Edge
edge_of s = record { from = s.caller.0; to = s.callee.0 }

abbrev pub edges_of : List Site → List Edge
edges_of sites = map edge_of sites

-- of each function whether it is external
abbrev pub are_external : List Func → List Bool
are_external funcs = map (λ (f : Func). not f.internal) funcs
