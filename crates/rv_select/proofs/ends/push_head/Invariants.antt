use Rattle.std.proofs.Common.{◌≡◌, ◌++◌, drop}
use Rattle.std.specs.List.{flat_map}
use Rattle.rv_select.specs.Lowered.{take_phi}
use Rattle.rv_select.proofs.ends.push_head.Given as goal

abbrev pub invariant-loop-phi : goal.invariant-loop-phi
invariant-loop-phi l = l.code ++ flat_map (take_phi l.f) (drop l.phi-index l.phis) ≡ l.fn.code ++ flat_map (take_phi l.f) l.phis
