use Rattle.std.proofs.Common.{◌≡◌, None, drop, not}
use Rattle.std.specs.List.{flat_map}
use Rattle.ir_core.specs.declared.module.GlobalVar.{GlobalVar}
use Rattle.module_rules.specs.First.{earliest}
use Rattle.module_rules.specs.Faults.{place_if}
use Rattle.module_rules.specs.InitFaults.{has_its_type, init_faults}
use Rattle.module_rules.proofs.initialisers.first_fault.Given as goal

abbrev pub invariant-loop-global : goal.invariant-loop-global
invariant-loop-global l =
    earliest l.first (flat_map (λ (g : GlobalVar). place_if (not (has_its_type l.m g)) g.place) (drop l.global-index l.m.globals))
    ≡ earliest None (init_faults l.m)
