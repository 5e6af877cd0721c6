use Rattle.std.proofs.Common.{◌≡◌, ◌++◌, length, map, drop}
use Rattle.ir_core.specs.Constants.{global_block, global_memory}
use Rattle.image_layout.specs.Addresses.{link_in}
use Rattle.image_layout.specs.DataBytes.{bytes_from}
use Rattle.image_layout.proofs.data.data_bytes.Given as goal

abbrev pub invariant-loop-global : goal.invariant-loop-global
invariant-loop-global l =
    l.bytes.items ++ bytes_from (link_in l.addresses) (length l.bytes.items) (map (global_block l.m) (drop l.global-index l.m.globals))
    ≡ bytes_from (link_in l.addresses) 0 (global_memory l.m)
