-- The graph of type names, and what a search for a name that holds itself knows.
use Rattle.std.specs.Prelude.{◌≡◌, ◌⊎◌, ◌<◌, ℕ, zero, suc, Bool, true, List, [], ◌++◌, map, replicate, length, Option, Some, None, slice_get}
use Rattle.std.specs.List.{list_any}
use Rattle.oi_base.specs.declared.ids.Place.{Place}
use Rattle.ir_core.specs.declared.ty.TypeName.{TypeName}
use Rattle.ir_core.specs.declared.ty.TypeDef.{TypeDef}
use Rattle.ir_core.specs.declared.module.Module.{Module}
use Rattle.ir_core.specs.Parts.{names_in_type}
use Rattle.ir_core.specs.Sizes.{definition}
use Rattle.ir_core.specs.Acyclic.{HoldsItself}
use Rattle.strong_components.specs.declared.edge.Edge.{Edge}
use Rattle.strong_components.specs.declared.walk.Mark.{Mark}
use Rattle.strong_components.specs.Chains.{IsRootIn}
use Rattle.strong_components.specs.Walk.{AreComponents}
use Rattle.strong_components.specs.Marks.{mark_at, are_joined}
use Rattle.module_rules.specs.First.{earlier}

abbrev pub held_names : Option TypeDef → List TypeName
held_names None = []
held_names (Some d) = names_in_type d.ty

-- from a name an edge to each name in its definition
abbrev pub edge_to : TypeName → TypeName → Edge
edge_to x y = record { from = x.0; to = y.0 }

abbrev pub edges_from : List TypeDef → TypeName → List Edge
edges_from defs x = map (edge_to x) (held_names (definition defs x))

-- those of the first n names
abbrev pub edges_of : List TypeDef → ℕ → List Edge
edges_of defs zero = []
edges_of defs (suc n) = edges_of defs n ++ edges_from defs (record { 0 = n })

-- the components of the graph of a module's type names
abbrev pub AreOfNames : Module → List Mark → Type 0
AreOfNames m marks = AreComponents (length m.types.names) (edges_of m.types.defs (length m.types.names)) (IsRootIn (replicate (length m.types.names) true)) marks

-- some name among these is in the component of x
abbrev pub any_joined : List Mark → TypeName → List TypeName → Bool
any_joined marks x names = list_any (λ (y : TypeName). are_joined (mark_at marks y.0) (mark_at marks x.0)) names

-- a definition of a name that holds itself is among the first n
abbrev pub IsItselfAmong : List TypeDef → ℕ → Place → Type 0
IsItselfAmong defs n p = (k : ℕ) × (d : TypeDef) × (k < n) × (slice_get defs k ≡ Some d) × (d.place ≡ p) × HoldsItself defs d.name

-- the place of a definition counts where its name holds itself; where it makes no difference that needs not be known
abbrev pub IsWithItself : List TypeDef → Option Place → TypeDef → Option Place → Type 0
IsWithItself defs before d first =
    (HoldsItself defs d.name × (first ≡ earlier before d.place))
    ⊎ (((HoldsItself defs d.name → ⊥) ⊎ (earlier before d.place ≡ before)) × (first ≡ before))
