use Rattle.std.proofs.Common.{◌≡◌, ◌≢◌, ◌<◌, ℕ, Some, slice_get}
use Rattle.ir_core.specs.declared.func.Param.{Param}
use Rattle.ir_assigned.proofs.tester.is_param.Given as goal

abbrev pub invariant-loop-param : goal.invariant-loop-param
invariant-loop-param l = (k : ℕ) (q : Param) → k < l.param-index → slice_get l.params k ≡ Some q → q.name ≢ l.local
