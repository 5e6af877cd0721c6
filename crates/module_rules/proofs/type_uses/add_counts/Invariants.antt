use Rattle.std.proofs.Common.{◌≡◌, map, drop}
use Rattle.ir_core.specs.declared.constant.TypedCount.{TypedCount}
use Rattle.ir_core.specs.ValidTypes.{value_uses}
use Rattle.module_rules.specs.TypeFaults.{state, with_uses}
use Rattle.module_rules.proofs.type_uses.add_counts.Given as goal

abbrev pub invariant-loop-count : goal.invariant-loop-count
invariant-loop-count l =
    with_uses (state l.to) (value_uses l.place (map (λ (n : TypedCount). n.ty) (drop l.count-index l.counts)))
    ≡ with_uses (state l.fn.to) (value_uses l.place (map (λ (n : TypedCount). n.ty) l.counts))
