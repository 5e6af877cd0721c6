-- The environment's streams.
use Rattle.std.specs.Prelude.{ℕ, List}

-- what can still be got, and what was put
pub record Streams : Type 0 where
  pub input : List ℕ
  pub output : List ℕ
