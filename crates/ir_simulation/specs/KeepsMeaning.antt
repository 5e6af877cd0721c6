-- What a pass over bodies has to keep.
use Rattle.std.specs.Prelude.{◌≡◌, ℕ, ◌<◌, List, Some, All}
use Rattle.oi_base.specs.Follows.{Follows}
use Rattle.ir_core.specs.declared.flat.Scalar.{Scalar}
use Rattle.ir_core.specs.declared.flat.FlatBody.{FlatBody}
use Rattle.ir_core.specs.Flat.{Program, flat_run}
use Rattle.ir_core.specs.Formed.{FuncType, IsFormed}
use Rattle.ir_simulation.specs.Replaced.{with_body}

-- on every input of bytes the run of the second program follows that of the first
abbrev pub FollowsOnBytes : Program → Program → Type 0
FollowsOnBytes p q = (input : List ℕ) → All (λ b. b < 256) input → Follows (flat_run p input) (flat_run q input)

-- of every formed program that holds a body, the program with the passed body in its place is formed, and follows it
abbrev pub KeepsMeaning : (FlatBody → FlatBody) → Type 0
KeepsMeaning pass = (p : Program) (types : ℕ → ℕ → Scalar) (funcs : ℕ → FuncType) → IsFormed p types funcs → (f : ℕ) (old : FlatBody) → p.body f ≡ Some old
    → IsFormed (with_body p f (pass old)) types funcs × FollowsOnBytes p (with_body p f (pass old))
