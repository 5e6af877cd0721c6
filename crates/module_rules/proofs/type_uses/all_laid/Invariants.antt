use Rattle.std.proofs.Common.{◌≡◌, drop}
use Rattle.std.specs.List.{list_all}
use Rattle.module_rules.specs.TypeFaults.{is_laid_name}
use Rattle.module_rules.proofs.type_uses.all_laid.Given as goal

abbrev pub invariant-loop-name : goal.invariant-loop-name
invariant-loop-name l = list_all (is_laid_name l.emptied) (drop l.name-index l.names) ≡ list_all (is_laid_name l.emptied) l.names
