use Rattle.std.proofs.Common.{sym, ◌∙◌, subst}
use Rattle.ir_core.specs.WellFormed.{IsWellFormed}
use Rattle.local_passes.proofs.Rounds.{six_fail}
use Rattle.local_passes.proofs.RoundsFormed.{constants_well, branches_well, unreached_well, merged_well, copies_well}
use Rattle.local_passes.proofs.pipeline.round.Goals as goal

pub dead_pass-requires : goal.dead_pass-requires
dead_pass-requires c =
    let folded = subst IsWellFormed (sym c.in_ok-folded.ensures.body) (constants_well c.args.b c.requires.formed) in
    let decided = subst IsWellFormed (sym c.in_ok-decided.ensures.body) (branches_well c.in_ok-folded.folded.body folded) in
    let reached = subst IsWellFormed (sym c.in_ok-reached.ensures.body) (unreached_well c.in_ok-decided.decided.body decided) in
    let merged = subst IsWellFormed (sym c.in_ok-merged.ensures.body) (merged_well c.in_ok-reached.reached.body reached) in
    record { formed = subst IsWellFormed (sym c.in_ok-replaced.ensures.body) (copies_well c.in_ok-merged.merged.body merged) }

pub returns-clause-same : goal.returns-clause-same
returns-clause-same c = λ none.
    let each = six_fail c.in_ok-folded.folded.changed c.in_ok-decided.decided.changed c.in_ok-reached.reached.changed c.in_ok-merged.merged.changed c.in_ok-replaced.replaced.changed c.in_ok-thinned.thinned.changed (sym c.any_changed-changed.ensures ∙ none) in
    c.in_ok-thinned.ensures.same each.5 ∙ c.in_ok-replaced.ensures.same each.4 ∙ c.in_ok-merged.ensures.same each.3 ∙ c.in_ok-reached.ensures.same each.2 ∙ c.in_ok-decided.ensures.same each.1 ∙ c.in_ok-folded.ensures.same each.0
