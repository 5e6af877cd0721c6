use Rattle.std.proofs.Common.{◌≡◌, drop, length}
use Rattle.module_rules.specs.SameTypes.{same_types}
use Rattle.module_rules.proofs.same_types.+types.Given as goal

abbrev pub invariant-same_types-loop-k : goal.invariant-same_types-loop-k
invariant-same_types-loop-k l = (length l.types ≡ length l.others) × (same_types (drop l.k l.types) (drop l.k l.others) ≡ same_types l.types l.others)
