use Rattle.std.proofs.Common.{◌≡◌, drop}
use Rattle.std.specs.List.{flat_map}
use Rattle.module_rules.specs.First.{earliest}
use Rattle.optinline.specs.Unbuilt.{instr_places}
use Rattle.optinline.proofs.unbuilt.at_instrs.Given as goal

abbrev pub invariant-loop-instr : goal.invariant-loop-instr
invariant-loop-instr l =
    earliest l.first (flat_map instr_places (drop l.instr-index l.code))
    ≡ earliest l.fn.before (flat_map instr_places l.code)
