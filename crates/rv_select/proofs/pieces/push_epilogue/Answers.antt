use Rattle.std.proofs.Common.{[], ◌∷◌, ◌++◌}
use Rattle.std.specs.Prelude.{pos}
use Rattle.std.proofs.lemmas.Result.{on_ok_weaker}
use Rattle.rv_isa.specs.declared.rv.Rv.TheVariants.{Lw, Jalr}
use Rattle.rv_select.specs.Parts.{zero_register, ra, sp, frame_up}
use Rattle.rv_select.proofs.Instructions.{then_words}
use Rattle.rv_select.proofs.pieces.push_epilogue.Goals as goal

pub returns : goal.returns
returns c =
    let up = then_words c.args.code.now c.push.new.self c.push_frame_up.new.code (Lw ra sp (pos 0) ∷ []) (frame_up c.args.frame) c.in_ok-push.ensures c.in_ok-push_frame_up.ensures in
    on_ok_weaker c.push-2.result (λ e. then_words c.args.code.now c.push_frame_up.new.code c.push-2.new.self (Lw ra sp (pos 0) ∷ [] ++ frame_up c.args.frame) (Jalr zero_register ra (pos 0) ∷ []) up e) c.push-2.ensures
