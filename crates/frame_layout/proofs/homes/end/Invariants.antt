use Rattle.std.proofs.Common.{◌≡◌, drop}
use Rattle.frame_layout.specs.Parts.{end_of_all}
use Rattle.frame_layout.proofs.homes.end.Given as goal

abbrev pub invariant-loop-part : goal.invariant-loop-part
invariant-loop-part l = end_of_all l.end (drop l.part-index l.parts) ≡ end_of_all 4 l.parts
