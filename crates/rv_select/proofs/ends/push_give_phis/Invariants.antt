use Rattle.std.proofs.Common.{◌≡◌, ◌++◌, drop}
use Rattle.std.specs.List.{flat_map}
use Rattle.rv_select.specs.Lowered.{give_phi}
use Rattle.rv_select.proofs.ends.push_give_phis.Given as goal

abbrev pub invariant-loop-position : goal.invariant-loop-position
invariant-loop-position l = l.code ++ flat_map (give_phi l.f l.n) (drop l.position l.phis) ≡ l.fn.code ++ flat_map (give_phi l.f l.n) l.phis
