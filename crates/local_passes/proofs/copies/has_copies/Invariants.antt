use Rattle.std.proofs.Common.{◌≡◌, drop}
use Rattle.std.specs.List.{list_any}
use Rattle.local_passes.specs.CopyTables.{copies_register}
use Rattle.local_passes.proofs.copies.has_copies.Given as goal

abbrev pub invariant-loop-instr : goal.invariant-loop-instr
invariant-loop-instr l = list_any copies_register (drop l.instr-index l.code) ≡ list_any copies_register l.code
