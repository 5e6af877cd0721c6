use Rattle.std.proofs.Common.{[], ◌∷◌}
use Rattle.std.specs.Prelude.{pos}
use Rattle.std.proofs.lemmas.Result.{on_ok_weaker}
use Rattle.rv_isa.specs.declared.rv.Rv.TheVariants.{Sw}
use Rattle.rv_select.specs.Parts.{ra, sp, frame_down}
use Rattle.rv_select.proofs.Instructions.{then_words}
use Rattle.rv_select.proofs.pieces.push_open_frame.Goals as goal

pub returns : goal.returns
returns c = on_ok_weaker c.push.result (λ e. then_words c.args.code.now c.push_frame_down.new.code c.push.new.self (frame_down c.args.frame) (Sw sp ra (pos 0) ∷ []) c.in_ok-push_frame_down.ensures e) c.push.ensures
