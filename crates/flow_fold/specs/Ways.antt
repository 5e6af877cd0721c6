-- Paths along edges, by the nodes that they lead through.
use Rattle.std.specs.Prelude.{ℕ, zero, suc, Bool, ◌&&◌, ◌||◌, nat_eq}

-- from a to b by edges, through nodes below k alone
abbrev pub leads : (ℕ → ℕ → Bool) → ℕ → ℕ → ℕ → Bool
leads edge zero a b = nat_eq a b || edge a b
leads edge (suc k) a b = leads edge k a b || (leads edge k a k && leads edge k k b)
