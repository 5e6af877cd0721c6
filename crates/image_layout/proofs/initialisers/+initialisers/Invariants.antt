use Rattle.std.proofs.Common.{◌≡◌, ◌≤◌, ◌+◌, ◌-◌, ◌*◌, ◌++◌, length, map, drop}
use Rattle.std.specs.List.{flat_map}
use Rattle.ir_core.specs.Parts.{const_types}
use Rattle.module_rules.specs.TypeFaults.{typed_const_types}
use Rattle.image_layout.specs.Addresses.{link_in}
use Rattle.image_layout.specs.DataBytes.{byte_in}
use Rattle.image_layout.specs.Initialisers.{fields_from}
use Rattle.image_layout.proofs.InitialParts.{part_bytes}
use Rattle.image_layout.proofs.initialisers.+initialisers.Given as goal

abbrev pub decreases-push_init : goal.decreases-push_init
decreases-push_init l = 1 + 2 * length (const_types l.init.now)

abbrev pub decreases-push_elements : goal.decreases-push_elements
decreases-push_elements l = 2 * length (flat_map typed_const_types l.items.now)

abbrev pub decreases-push_struct : goal.decreases-push_struct
decreases-push_struct l = 2 * length (flat_map typed_const_types l.fields.now)

abbrev pub invariant-push_elements-loop-item : goal.invariant-push_elements-loop-item
invariant-push_elements-loop-item l =
    l.bytes.items ++ map (byte_in (link_in l.addresses)) (flat_map (part_bytes l.m) (drop l.item-index l.items))
    ≡ l.fn.bytes.items ++ map (byte_in (link_in l.addresses)) (flat_map (part_bytes l.m) l.items)

abbrev pub invariant-push_struct-loop-field : goal.invariant-push_struct-loop-field
invariant-push_struct-loop-field l =
    (l.start ≡ length l.fn.bytes.items) × (l.start ≤ length l.bytes.items)
    × (l.bytes.items ++ map (byte_in (link_in l.addresses)) (fields_from l.m (length l.bytes.items - l.start) (drop l.field-index l.fields))
    ≡ l.fn.bytes.items ++ map (byte_in (link_in l.addresses)) (fields_from l.m 0 l.fields))
