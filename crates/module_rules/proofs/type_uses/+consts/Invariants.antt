use Rattle.std.proofs.Common.{◌≡◌, drop}
use Rattle.std.specs.List.{flat_map}
use Rattle.ir_core.specs.ValidTypes.{value_uses}
use Rattle.module_rules.specs.TypeFaults.{state, with_uses, typed_const_types}
use Rattle.module_rules.proofs.type_uses.+consts.Given as goal

abbrev pub invariant-add_consts-loop-constant : goal.invariant-add_consts-loop-constant
invariant-add_consts-loop-constant l =
    with_uses (state l.to) (value_uses l.place (flat_map typed_const_types (drop l.constant-index l.constants)))
    ≡ with_uses (state l.fn.to) (value_uses l.place (flat_map typed_const_types l.constants))
