use Rattle.std.proofs.Common.{◌≡◌, drop, map}
use Rattle.std.specs.List.{list_all}
use Rattle.ir_core.specs.declared.op.Pair.{Pair}
use Rattle.ir_core.specs.Operands.{typed}
use Rattle.ir_verifier.specs.TypeFaults.{operand_agrees}
use Rattle.ir_verifier.proofs.types.Typing.entries_agree.Given as goal

abbrev pub invariant-loop-entry : goal.invariant-loop-entry
invariant-loop-entry l =
    list_all (operand_agrees l.self) (map (λ (e : Pair). typed l.fn.t e.value) (drop l.entry-index l.entries)) ≡ list_all (operand_agrees l.self) (map (λ (e : Pair). typed l.fn.t e.value) l.entries)
