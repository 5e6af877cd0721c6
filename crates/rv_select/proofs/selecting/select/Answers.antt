use Rattle.rv_select.specs.declared.selecting.TheConstants.{LARGEST_CODE}
use Rattle.frame_layout.specs.declared.laying.TheConstants.{LARGEST_FRAME}
use Rattle.std.proofs.Common.{◌≡◌, ◌*◌, ◌<◌, ◌≤◌, ℕ, List, All, length, min, sym, ap, ◌∙◌, subst}
use Rattle.std.proofs.lemmas.Result.{IfOk-weaker, IfErr-weaker}
use Rattle.ir_core.specs.declared.flat.FlatBody.{FlatBody}
use Rattle.frame_layout.specs.Offsets.{Offsets}
use Rattle.frame_layout.specs.Frame.{frame, frame_of}
use Rattle.rv_select.specs.declared.item.Item.{Item}
use Rattle.rv_select.specs.declared.faults.Cause.{Cause}
use Rattle.rv_select.specs.declared.faults.SelectFault.{SelectFault}
use Rattle.rv_select.specs.declared.faults.SelectFault.TheVariants.{NoSize, NoMemory}
use Rattle.rv_select.specs.Pending.{IsItem}
use Rattle.rv_select.specs.Heads.{IsTooLong}
use Rattle.rv_select.specs.Code.{code_with, code, code_bytes, IsTooMuch, IsRefused}
use Rattle.rv_select.proofs.HeadOffsets.{few_in_body}
use Rattle.rv_select.proofs.selecting.select.Goals as goal

pub with_frame-requires-clause-arguments : goal.with_frame-requires-clause-arguments
with_frame-requires-clause-arguments c = few_in_body c.args.b.now c.requires

framed : (b : FlatBody) (f : Offsets) → f ≡ frame_of b → code_with f b ≡ code b
unfolding code
framed b f e = ap (λ (g : Offsets). code_with g b) e

refused : (b : FlatBody) (f : Offsets) → f ≡ frame_of b → frame b ≤ LARGEST_FRAME → (e : SelectFault) → IsTooLong (4 * length (code_with f b)) e → IsRefused b e
refused b f same fits NoMemory h = tt
refused b f same fits (NoSize n) h =
    let bytes : 4 * length (code_with f b) ≡ code_bytes b = ap (λ (is : List Item). 4 * length is) (framed b f same) in
    subst (λ (x : Cause). IsTooMuch b n.number x) (sym h.0) (fits, subst (λ (m : ℕ). LARGEST_CODE < m) bytes h.1, h.2 ∙ ap (λ (m : ℕ). min m 18446744073709551615) bytes)

pub returns-in-Ok-clause-code : goal.returns-in-Ok-clause-code
returns-in-Ok-clause-code c = IfOk-weaker c.with_frame.result (λ is. is ≡ code_with c.in-Ok.frame c.args.b.now) (λ is. is ≡ code c.args.b.now) (λ is e. e ∙ framed c.args.b.now c.in-Ok.frame c.in-Ok.ensures.frame) c.with_frame.ensures.code

pub returns-in-Ok-clause-fits : goal.returns-in-Ok-clause-fits
returns-in-Ok-clause-fits c = IfOk-weaker c.with_frame.result (λ is. 4 * length (code_with c.in-Ok.frame c.args.b.now) ≤ LARGEST_CODE) (λ is. code_bytes c.args.b.now ≤ LARGEST_CODE) (λ is h. subst (λ (x : List Item). 4 * length x ≤ LARGEST_CODE) (framed c.args.b.now c.in-Ok.frame c.in-Ok.ensures.frame) h) c.with_frame.ensures.fits

pub returns-in-Ok-clause-refused : goal.returns-in-Ok-clause-refused
returns-in-Ok-clause-refused c = IfErr-weaker c.with_frame.result (IsTooLong (4 * length (code_with c.in-Ok.frame c.args.b.now))) (IsRefused c.args.b.now) (refused c.args.b.now c.in-Ok.frame c.in-Ok.ensures.frame c.in-Ok.ensures.fits) c.with_frame.ensures.refused

pub returns-in-Ok-clause-items : goal.returns-in-Ok-clause-items
returns-in-Ok-clause-items c = IfOk-weaker c.with_frame.result (λ is. All IsItem (code_with c.in-Ok.frame c.args.b.now)) (λ is. All IsItem (code c.args.b.now)) (λ is h. subst (λ (x : List Item). All IsItem x) (framed c.args.b.now c.in-Ok.frame c.in-Ok.ensures.frame) h) c.with_frame.ensures.items
