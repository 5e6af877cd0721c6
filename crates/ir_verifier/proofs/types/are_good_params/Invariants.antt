use Rattle.std.proofs.Common.{◌≡◌, drop}
use Rattle.std.specs.List.{list_all}
use Rattle.ir_verifier.specs.TypeFaults.{is_good_param}
use Rattle.ir_verifier.proofs.types.are_good_params.Given as goal

abbrev pub invariant-loop-param : goal.invariant-loop-param
invariant-loop-param l = list_all is_good_param (drop l.param-index l.params) ≡ list_all is_good_param l.params
