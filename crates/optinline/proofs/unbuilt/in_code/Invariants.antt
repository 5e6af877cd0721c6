use Rattle.std.proofs.Common.{◌≡◌, drop}
use Rattle.std.specs.List.{flat_map}
use Rattle.module_rules.specs.First.{earliest}
use Rattle.optinline.specs.Unbuilt.{instr_unbuilt}
use Rattle.optinline.proofs.unbuilt.in_code.Given as goal

abbrev pub invariant-loop-instr : goal.invariant-loop-instr
invariant-loop-instr l =
    earliest l.first (flat_map instr_unbuilt (drop l.instr-index l.code))
    ≡ earliest l.fn.before (flat_map instr_unbuilt l.code)
