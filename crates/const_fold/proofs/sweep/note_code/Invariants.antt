use Rattle.std.proofs.Common.{◌≡◌, take}
use Rattle.std.specs.List.{fold}
use Rattle.const_fold.specs.FoldConstants.{instr_noted}
use Rattle.const_fold.specs.FactTables.{facts_in}
use Rattle.const_fold.proofs.sweep.note_code.Given as goal

abbrev pub invariant-loop-instr : goal.invariant-loop-instr
invariant-loop-instr l = facts_in l.facts ≡ fold instr_noted (facts_in l.initial.facts) (take l.instr-index l.code)
