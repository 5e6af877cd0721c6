-- Bodies that are formed under some choice of types.
use Rattle.std.specs.Prelude.{ℕ}
use Rattle.ir_core.specs.declared.flat.Scalar.{Scalar}
use Rattle.ir_core.specs.declared.flat.FlatBody.{FlatBody}
use Rattle.ir_core.specs.Formed.{FuncType, IsFormedBody}

-- a type for each register, a type for each function that may be called, and a type of the body's own, under which it is formed
pub record IsWellFormed (body : FlatBody) : Type 0 where
  pub types : ℕ → Scalar
  pub funcs : ℕ → FuncType
  pub own : FuncType
  pub formed : IsFormedBody types funcs own body
