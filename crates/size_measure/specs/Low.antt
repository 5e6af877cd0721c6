-- The lower bound of the sizes of all completions of a partial map.
use Rattle.std.specs.Prelude.{◌≡◌, ℕ, zero, suc, not, Bool, true, false, ◌&&◌, ◌||◌, nat_eq, List, [], ◌∷◌, length, Option, Some, None}
use Rattle.ir_core.specs.declared.module.Module.{Module}
use Rattle.call_graph.specs.Graph.{Graph}
use Rattle.decisions.specs.declared.maps.Label.{Label}
use Rattle.decisions.specs.declared.maps.Label.TheVariants.{Keep, Inline}
use Rattle.component_split.specs.Graph.{SiteGraph, Labels}
use Rattle.component_split.specs.Over.{site_graph}
use Rattle.size_measure.specs.Maps.{Map, Completes, filled}
use Rattle.size_measure.specs.Kept.{is_kept}
use Rattle.size_measure.specs.Sizes.{Size, IsAtMost, total, body_size, held_if, part}

-- ---- settled functions

abbrev pub all_of : (ℕ → Bool) → List ℕ → Bool
all_of t [] = true
all_of t (s ∷ ss) = t s && all_of t ss

-- a site with this label leaves the function settled, where the callee is settled or not
abbrev pub settles : Option Label → Bool → Bool
settles None callee = false
settles (Some Keep) callee = true
settles (Some Inline) callee = callee

-- whether neither the function nor what it reaches by so many inline sites has an undecided site
unfoldable pub settled_by : SiteGraph → Labels → ℕ → ℕ → Bool
settled_by g p zero f = false
settled_by g p (suc n) f = all_of (λ s. not (nat_eq (g.caller s) f) || settles (p s) (settled_by g p n (g.callee s))) g.sites

-- no chain of inlined candidates is longer than there are functions
abbrev pub is_settled : Graph → Labels → ℕ → Bool
is_settled g p f = settled_by (site_graph g) p (suc (length g.funcs)) f

-- ---- the bound

-- no code is smaller than two instructions
abbrev pub least_code : ℕ
least_code = 8

abbrev pub size_if : Bool → Size → Size
size_if true v = v
size_if false v = Some least_code

-- what a function has at the least: nothing where a completion may drop it, its size where it is settled
abbrev pub low_held : Module → Graph → Labels → ℕ → Size
low_held m g p f = held_if (is_kept g (filled Inline p) f) (size_if (is_settled g p f) (body_size m g (filled Keep p) f))

abbrev pub low : Module → Graph → Labels → List ℕ → Size
low m g p fs = total (low_held m g p) fs

-- no completion has less over the set
abbrev pub IsBound : Module → Graph → Labels → List ℕ → Size → Type 0
IsBound m g p fs x = (e : Map) → Completes e p → IsAtMost x (part m g e fs)

-- the least size over the set among the completions, none where none has one
pub record IsLeastOf (m : Module) (g : Graph) (p : Labels) (fs : List ℕ) (x : Size) : Type 0 where
  pub bound : IsBound m g p fs x
  pub met : (e : Map) × Completes e p × (part m g e fs ≡ x)
