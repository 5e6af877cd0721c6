use Rattle.std.proofs.Common.{◌≡◌, ◌++◌, drop}
use Rattle.std.specs.List.{filter_map}
use Rattle.frame_layout.specs.Parts.{slot_part}
use Rattle.frame_layout.proofs.parts.push_results.Given as goal

abbrev pub invariant-loop-instr : goal.invariant-loop-instr
invariant-loop-instr l = l.parts.items ++ filter_map slot_part (drop l.instr-index l.code) ≡ l.fn.parts.items ++ filter_map slot_part l.code
