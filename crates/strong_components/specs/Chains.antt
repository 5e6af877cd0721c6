-- Chains of edges.
use Rattle.std.specs.Prelude.{◌≡◌, ℕ, Bool, true, List, Contains, Some, slice_get}
use Rattle.strong_components.specs.declared.edge.Edge.{Edge}

-- a chain of edges, of none or more, leads from one node to another
pub data Leads (edges : List Edge) : ℕ → ℕ → Type 0 where
  stays : (f : ℕ) → Leads edges f f
  goes : (e : Edge) (f : ℕ) → Contains edges e → Leads edges e.to f → Leads edges e.from f

-- a node from which the walk begins
abbrev pub IsRootIn : List Bool → ℕ → Type 0
IsRootIn roots f = slice_get roots f ≡ Some true
