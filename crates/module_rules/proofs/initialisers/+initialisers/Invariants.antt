use Rattle.std.proofs.Common.{◌≡◌, drop, length}
use Rattle.std.specs.List.{list_all}
use Rattle.module_rules.specs.InitFaults.{is_item, are_fields_of}
use Rattle.module_rules.proofs.initialisers.+initialisers.Given as goal

abbrev pub invariant-are_items-loop-item : goal.invariant-are_items-loop-item
invariant-are_items-loop-item l =
    list_all (is_item l.defs l.names l.wanted) (drop l.item-index l.items) ≡ list_all (is_item l.defs l.names l.wanted) l.items

abbrev pub invariant-are_fields-loop-k : goal.invariant-are_fields-loop-k
invariant-are_fields-loop-k l =
    (length l.values ≡ length l.types) × (are_fields_of l.defs l.names (drop l.k l.values) (drop l.k l.types) ≡ are_fields_of l.defs l.names l.values l.types)
