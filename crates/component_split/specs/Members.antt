-- The functions of a set with the lowest of their components, and how they are dealt out.
use Rattle.std.specs.Prelude.{◌≡◌, ℕ, zero, suc, Bool, true, ◌&&◌, nat_eq, List, [], ◌∷◌, ◌++◌, map, Option, Some, None}
use Rattle.std.specs.List.{All}
use Rattle.oi_base.specs.declared.ids.FuncId.{FuncId}
use Rattle.component_split.specs.declared.parts.Member.{Member}
use Rattle.component_split.specs.Graph.{SiteGraph, has}

abbrev pub funcs_in : List Member → List ℕ
funcs_in ms = map (λ (m : Member). m.func.0) ms

abbrev pub is_head : Member → Bool
is_head m = nat_eq m.low.0 m.func.0

abbrev pub is_of : ℕ → Member → Bool
is_of r m = nat_eq m.low.0 r

-- each member has its lowest function
abbrev pub AreLows : (ℕ → ℕ) → List Member → Type 0
AreLows low ms = All (λ (m : Member). m.low.0 ≡ low m.func.0) ms

-- each member's lowest function is among these
abbrev pub HaveHeads : List ℕ → List Member → Type 0
HaveHeads heads ms = All (λ (m : Member). has heads m.low.0 ≡ true) ms

-- whether both functions of a site have this lowest function
abbrev pub joined_by : (ℕ → ℕ) → SiteGraph → ℕ → ℕ → Bool
joined_by low g r s = nat_eq (low (g.caller s)) r && nat_eq (low (g.callee s)) r

abbrev pub IsComponentOf : (ℕ → ℕ) → SiteGraph → ℕ → Option FuncId → Type 0
IsComponentOf low g s None = low (g.caller s) ≡ low (g.callee s) → ⊥
IsComponentOf low g s (Some r) = (low (g.caller s) ≡ r.0) × (low (g.callee s) ≡ r.0)

-- an element is put at the end of one of several lists
abbrev pub put_at : {A : Type 0} → ℕ → A → List (List A) → List (List A)
put_at k x [] = []
put_at zero x (ys ∷ yss) = (ys ++ x ∷ []) ∷ yss
put_at (suc k) x (ys ∷ yss) = ys ∷ put_at k x yss
