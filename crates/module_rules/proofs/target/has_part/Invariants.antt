use Rattle.std.proofs.Common.{◌≡◌, length}
use Rattle.module_rules.specs.Target.{has_part_from, has_part}
use Rattle.module_rules.proofs.target.has_part.Given as goal

abbrev pub invariant-loop-rest : goal.invariant-loop-rest
invariant-loop-rest l = has_part_from l.part l.begins l.rest ≡ has_part l.part l.text

abbrev pub decreases-loop-rest : goal.decreases-loop-rest
decreases-loop-rest l = length l.rest
