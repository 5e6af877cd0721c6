use Rattle.std.proofs.Common.{◌≡◌, ℕ, ◌<◌, Some, slice_get}
use Rattle.ir_core.specs.declared.func.Func.{Func}
use Rattle.ir_core.specs.Valid.{IsValidFunc}
use Rattle.ir_verifier.proofs.verdict.test_funcs.Given as goal

abbrev pub invariant-loop-func : goal.invariant-loop-func
invariant-loop-func l = (i : ℕ) (g : Func) → i < l.func-index → slice_get l.m.funcs i ≡ Some g → IsValidFunc l.m g
