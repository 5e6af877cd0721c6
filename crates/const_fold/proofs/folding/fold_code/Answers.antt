use Rattle.std.proofs.Common.{ap, sym, ◌∙◌}
use Rattle.std.specs.Option.{option_copied}
use Rattle.const_fold.specs.FoldConstants.{instr_with}
use Rattle.const_fold.specs.FactTables.{facts_in}
use Rattle.const_fold.proofs.InPlace.{replaced_next, has_next}
use Rattle.const_fold.proofs.folding.fold_code.Goals as goal
use Rattle.const_fold.proofs.folding.fold_code.Goals.{in-Some+in_ok-new, in_default}

pub loop-at-preserved : goal.loop-at-preserved
loop-at-preserved c =
    let f = instr_with (facts_in c.args.facts.now) in
    elim c.match-get.branch [
      | in-Some+in_ok-new w ↦ replaced_next f c.args.code.now c.loop-at.code c.match-get.code c.loop-at.at w.in-Some.instr.now w.in_ok-new.new c.loop-at.invariant w.in-Some.ensures.value w.in_ok-new.ensures (w.code-is ∙ w.set.ensures)
      | in_default w ↦ absurd (has_next f c.args.code.now c.loop-at.code c.loop-at.at c.len-at-end.result c.loop-at.invariant c.loop-at-test.true c.len-at-end.ensures (ap option_copied (sym w.in_default.is) ∙ c.get.ensures.value))
    ]
