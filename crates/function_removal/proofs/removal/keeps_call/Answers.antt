use Rattle.std.proofs.Common.{sym, ◌∙◌}
use Rattle.std.proofs.lemmas.Bool.{eqb-true}
use Rattle.function_removal.proofs.Calls.{keeps}
use Rattle.function_removal.proofs.removal.keeps_call.Goals.{then-callee-f, else-callee-f}
use Rattle.function_removal.proofs.removal.keeps_call.Goals as goal

pub returns-then-is_reached : goal.returns-then-is_reached
returns-then-is_reached c = elim c.if-callee-f.branch [
  | then-callee-f w ↦ keeps c.args.g.now c.args.d.now c.args.f c.args.s c.requires c.callee.result w.caller.result c.callee.ensures w.caller.ensures w.if-callee-f.true (w.is_reached.ensures.0 (sym w.value-is ∙ c.if-is_reached.true)) c.is_kept.result c.is_kept.ensures
  | else-callee-f w ↦ absurd (w.if-callee-f.false (eqb-true c.callee.result.0 c.args.f.0 (sym w.value-is ∙ c.if-is_reached.true)))
]
