use Rattle.std.proofs.Common.{◌≡◌, drop}
use Rattle.std.specs.List.{flat_map}
use Rattle.module_rules.specs.First.{earliest}
use Rattle.module_rules.specs.AlignFaults.{global_align_fault}
use Rattle.module_rules.proofs.alignments.in_globals.Given as goal

abbrev pub invariant-loop-global : goal.invariant-loop-global
invariant-loop-global l =
    earliest l.first (flat_map (global_align_fault l.m.types.defs) (drop l.global-index l.globals))
    ≡ earliest l.fn.before (flat_map (global_align_fault l.m.types.defs) l.globals)
