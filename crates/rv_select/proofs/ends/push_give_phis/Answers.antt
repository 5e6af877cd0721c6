use Rattle.std.proofs.Common.{◌≡◌, ◌++◌, ap, ◌∙◌, refl, length, slice_get, Some, append_assoc}
use Rattle.std.proofs.lemmas.Option.{slice_get_read}
use Rattle.ir_core.specs.Flat.{entry_for}
use Rattle.frame_layout.specs.Offsets.{shadow_of}
use Rattle.rv_select.specs.Parts.{t0}
use Rattle.rv_select.specs.Incoming.{value_for}
use Rattle.rv_select.specs.Lowered.{give_phi, load_entry, store_to}
use Rattle.rv_select.proofs.PhiMoves.{one_more_code}
use Rattle.rv_select.proofs.ends.push_give_phis.Goals as goal

pub loop-position-preserved : goal.loop-position-preserved
loop-position-preserved c =
    let phis = c.args.phis.now in
    let i = c.loop-position.position in
    let phi = c.index-phis-position.result in
    let there : slice_get phis i ≡ Some phi = slice_get_read phis (length phis) i phi refl c.loop-position-test.true c.index-phis-position.is in
    let value : c.get.result ≡ entry_for c.args.n phi.entries = c.get.ensures ∙ c.requires i ∙ ap (value_for c.args.n) there in
    let stored = store_to t0 (shadow_of c.args.f.now phi.reg.0) in
    let pushed : c.push_give_phi.new.code ≡ c.loop-position.code ++ give_phi c.args.f.now c.args.n phi =
    c.in_ok-push_give_phi.ensures
    ∙ ap (λ v. c.loop-position.code ++ load_entry c.args.f.now v ++ stored) value
    ∙ append_assoc c.loop-position.code (load_entry c.args.f.now (entry_for c.args.n phi.entries)) stored in
    one_more_code (give_phi c.args.f.now c.args.n) c.loop-position.code c.push_give_phi.new.code _ phis i phi c.loop-position-test.true c.index-phis-position.is pushed c.loop-position.invariant
