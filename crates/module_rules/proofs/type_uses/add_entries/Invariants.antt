use Rattle.std.proofs.Common.{◌≡◌, map, drop}
use Rattle.ir_core.specs.declared.op.Pair.{Pair}
use Rattle.ir_core.specs.ValidTypes.{value_uses, types_in_values}
use Rattle.module_rules.specs.TypeFaults.{state, with_uses}
use Rattle.module_rules.proofs.type_uses.add_entries.Given as goal

abbrev pub invariant-loop-entry : goal.invariant-loop-entry
invariant-loop-entry l =
    with_uses (state l.to) (value_uses l.place (types_in_values (map (λ (e : Pair). e.value) (drop l.entry-index l.entries))))
    ≡ with_uses (state l.fn.to) (value_uses l.place (types_in_values (map (λ (e : Pair). e.value) l.entries)))
