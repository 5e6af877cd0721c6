use Rattle.std.proofs.Common.{◌≡◌, ◌++◌, drop, map}
use Rattle.frame_layout.specs.Parts.{phi_part}
use Rattle.frame_layout.proofs.parts.push_phis.Given as goal

abbrev pub invariant-loop-phi : goal.invariant-loop-phi
invariant-loop-phi l = l.parts.items ++ map phi_part (drop l.phi-index l.phis) ≡ l.fn.parts.items ++ map phi_part l.phis
