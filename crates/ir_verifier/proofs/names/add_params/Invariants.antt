use Rattle.std.proofs.Common.{◌≡◌, drop, map}
use Rattle.ir_verifier.specs.Faults.{with_locals, param_at}
use Rattle.ir_verifier.proofs.names.add_params.Given as goal

abbrev pub invariant-loop-param : goal.invariant-loop-param
invariant-loop-param l = with_locals l.to (map (param_at l.place) (drop l.param-index l.params)) ≡ with_locals l.fn.to (map (param_at l.place) l.params)
