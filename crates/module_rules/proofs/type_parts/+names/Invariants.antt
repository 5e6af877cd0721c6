use Rattle.std.proofs.Common.{◌≡◌, ◌++◌, drop}
use Rattle.std.specs.List.{flat_map}
use Rattle.ir_core.specs.Parts.{names_in_type}
use Rattle.module_rules.proofs.type_parts.+names.Given as goal

abbrev pub invariant-push_all_names-loop-t : goal.invariant-push_all_names-loop-t
invariant-push_all_names-loop-t l = l.to.items ++ flat_map names_in_type (drop l.t-index l.types) ≡ l.fn.to.items ++ flat_map names_in_type l.types
