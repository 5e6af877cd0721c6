use Rattle.std.proofs.Common.{◌≡◌, drop}
use Rattle.std.specs.List.{flat_map, list_all}
use Rattle.ir_core.specs.Parts.{names_in_type}
use Rattle.module_rules.specs.TypeFaults.{is_laid_name}
use Rattle.module_rules.proofs.sizes.+laid.Given as goal

abbrev pub invariant-all_names_laid-loop-t : goal.invariant-all_names_laid-loop-t
invariant-all_names_laid-loop-t l =
    list_all (is_laid_name l.small) (flat_map names_in_type (drop l.t-index l.types)) ≡ list_all (is_laid_name l.small) (flat_map names_in_type l.types)
