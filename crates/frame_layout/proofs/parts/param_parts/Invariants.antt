use Rattle.std.proofs.Common.{◌≡◌}
use Rattle.frame_layout.specs.Parts.{param_parts}
use Rattle.frame_layout.proofs.parts.param_parts.Given as goal

abbrev pub invariant-loop-r : goal.invariant-loop-r
invariant-loop-r l = l.parts.items ≡ param_parts l.r
