-- What a walk along arcs keeps.
use Rattle.std.specs.Prelude.{◌≡◌, ℕ, ◌+◌, Bool, if◌then◌else◌, List, [], ◌∷◌, length}
use Rattle.std.specs.List.{All}
use Rattle.component_split.specs.declared.arcs.Arc.{Arc}
use Rattle.component_split.specs.declared.orientation.Walk.{Walk}
use Rattle.component_split.specs.Arcs.{IsArcWithin}

-- a walk over so many functions and sites
pub record IsWalk (funcs sites : ℕ) (w : Walk) : Type 0 where
  pub seen : length w.seen.items ≡ funcs
  pub forth : length w.forth.items ≡ sites
  pub next : All (IsArcWithin funcs sites) w.next.items

-- how many arcs leave functions to which the walk has not come
abbrev pub left : List (List Arc) → List Bool → ℕ
left [] seen = 0
left (row ∷ arcs) [] = 0
left (row ∷ arcs) (s ∷ seen) = (if s then 0 else length row) + left arcs seen
