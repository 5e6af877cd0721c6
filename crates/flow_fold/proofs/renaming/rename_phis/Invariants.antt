use Rattle.std.proofs.Common.{◌≡◌, ◌++◌, map, take, drop}
use Rattle.flow_fold.specs.Blocks.{phi_renamed}
use Rattle.flow_fold.specs.Merges.{name_in}
use Rattle.flow_fold.proofs.renaming.rename_phis.Given as goal

abbrev pub invariant-loop-at : goal.invariant-loop-at
invariant-loop-at l = l.phis ≡ map (phi_renamed (name_in l.names)) (take l.at l.initial.phis) ++ drop l.at l.initial.phis
