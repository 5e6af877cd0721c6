-- What the components of a graph say of nodes.
use Rattle.std.specs.Prelude.{ℕ, ◌==◌, Bool, false, List, slice_index_or}
use Rattle.strong_components.specs.declared.walk.Mark.{Mark}
use Rattle.strong_components.specs.declared.walk.Mark.TheVariants.{Unseen, Closed}

abbrev pub mark_at : List Mark → ℕ → Mark
mark_at marks f = slice_index_or marks f Unseen

-- both nodes are in components, and in one
abbrev pub are_joined : Mark → Mark → Bool
are_joined (Closed a) (Closed b) = a == b
are_joined _ _ = false
