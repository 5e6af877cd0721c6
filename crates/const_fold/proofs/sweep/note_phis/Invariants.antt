use Rattle.std.proofs.Common.{◌≡◌, take}
use Rattle.std.specs.List.{fold}
use Rattle.const_fold.specs.FoldConstants.{phi_noted}
use Rattle.const_fold.specs.FactTables.{facts_in}
use Rattle.const_fold.proofs.sweep.note_phis.Given as goal

abbrev pub invariant-loop-phi : goal.invariant-loop-phi
invariant-loop-phi l = facts_in l.facts ≡ fold phi_noted (facts_in l.initial.facts) (take l.phi-index l.phis)
