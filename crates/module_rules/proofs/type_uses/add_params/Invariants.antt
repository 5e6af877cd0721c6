use Rattle.std.proofs.Common.{◌≡◌, map, drop}
use Rattle.ir_core.specs.declared.func.Param.{Param}
use Rattle.ir_core.specs.ValidTypes.{value_uses}
use Rattle.module_rules.specs.TypeFaults.{state, with_uses}
use Rattle.module_rules.proofs.type_uses.add_params.Given as goal

abbrev pub invariant-loop-param : goal.invariant-loop-param
invariant-loop-param l =
    with_uses (state l.to) (value_uses l.place (map (λ (q : Param). q.ty) (drop l.param-index l.params)))
    ≡ with_uses (state l.fn.to) (value_uses l.place (map (λ (q : Param). q.ty) l.params))
