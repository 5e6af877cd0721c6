use Rattle.std.proofs.Common.{◌≡◌, drop}
use Rattle.std.specs.List.{list_all}
use Rattle.ir_core.specs.declared.op.SwitchCase.{SwitchCase}
use Rattle.ir_verifier.specs.CallFaults.{same_kind}
use Rattle.ir_verifier.proofs.types.have_type.Given as goal

abbrev pub invariant-loop-case : goal.invariant-loop-case
invariant-loop-case l = list_all (λ (c : SwitchCase). same_kind c.value.ty l.fn.t) (drop l.case-index l.cases) ≡ list_all (λ (c : SwitchCase). same_kind c.value.ty l.fn.t) l.cases
