use Rattle.std.proofs.Common.{◌≡◌, drop}
use Rattle.std.specs.List.{flat_map}
use Rattle.module_rules.specs.TypeFaults.{state, with_uses, func_uses_by_block}
use Rattle.module_rules.proofs.type_uses.add_funcs.Given as goal

abbrev pub invariant-loop-func : goal.invariant-loop-func
invariant-loop-func l =
    with_uses (state l.to) (flat_map func_uses_by_block (drop l.func-index l.funcs))
    ≡ with_uses (state l.fn.to) (flat_map func_uses_by_block l.funcs)
