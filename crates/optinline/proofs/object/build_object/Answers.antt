use Rattle.std.proofs.Common.{◌≡◌, ℕ, ◌<◌, ◌≤◌, List, [], ◌∷◌, length, sym, ap, ap₂, ◌∙◌, subst}
use Rattle.ir_core.specs.declared.flat.FlatBody.{FlatBody}
use Rattle.ir_core.specs.declared.limits.TheConstants.{MOST_FUNCTIONS}
use Rattle.ir_core.specs.declared.module.Module.{Module}
use Rattle.ir_core.specs.Plain.{plain_program}
use Rattle.ir_core.specs.Source.{main_number}
use Rattle.ir_core.specs.WellFormed.{IsWellFormed}
use Rattle.frame_layout.specs.declared.laying.TheConstants.{LARGEST_FRAME}
use Rattle.frame_layout.specs.Frame.{frame}
use Rattle.rv_select.specs.declared.item.Item.{Item}
use Rattle.rv_select.specs.declared.selecting.TheConstants.{LARGEST_CODE}
use Rattle.rv_select.specs.Code.{code, code_bytes}
use Rattle.rv_select.specs.Stands.{body_in}
use Rattle.elf_object.specs.declared.image.TheConstants.{LARGEST_TEXT}
use Rattle.elf_object.specs.File.{elf}
use Rattle.elf_object.specs.Image.{Parts}
use Rattle.image_layout.specs.Addresses.{Codes}
use Rattle.image_layout.specs.Codes.{AreCodes}
use Rattle.image_layout.specs.Image.{image, text_size}
use Rattle.optinline.specs.Object.{main_body, main_codes}
use Rattle.optinline.proofs.Objects.{main_there, codes_given, text_fits, main_is_formed, code_is_small, frame_is_small, text_length}
use Rattle.optinline.proofs.object.build_object.Goals as goal

same_codes : (m : Module) (f : ℕ) (b : FlatBody) (is : List Item) → f ≡ main_number m → b ≡ main_body m → is ≡ code b → (record { 0 = f }, is) ∷ [] ≡ main_codes m
same_codes m f b is main body coded = ap₂ (λ (n : ℕ) (xs : List Item). (record { 0 = n }, xs) ∷ []) main (coded ∙ ap code body)

pub main_function-main-requires : goal.main_function-main-requires
main_function-main-requires c = record { few = subst (λ (x : Module). length x.funcs ≤ MOST_FUNCTIONS) (sym c.module.ensures.same) c.module.ensures.proper.funcs }

pub plain_body-requires : goal.plain_body-requires
plain_body-requires c =
    let m = c.args.v.now in
    let is = c.main_function-main.ensures ∙ ap main_number c.module.ensures.same in
    subst (λ (n : ℕ). n < length m.funcs) (sym is) (main_there m c.module.ensures.proper c.module.ensures.valid c.requires)

pub code_of-requires-clause-formed : goal.code_of-requires-clause-formed
code_of-requires-clause-formed c =
    let m = c.args.v.now in
    let body = c.in_ok-body.ensures ∙ ap (body_in (plain_program m)) (c.main_function-main.ensures ∙ ap main_number c.module.ensures.same) in
    subst IsWellFormed (sym body) (main_is_formed m c.module.ensures.proper c.module.ensures.valid c.requires)

pub code_of-requires-clause-frame : goal.code_of-requires-clause-frame
code_of-requires-clause-frame c =
    let m = c.args.v.now in
    let body = c.in_ok-body.ensures ∙ ap (body_in (plain_program m)) (c.main_function-main.ensures ∙ ap main_number c.module.ensures.same) in
    subst (λ (x : FlatBody). frame x ≤ LARGEST_FRAME) (sym body) (frame_is_small m c.module.ensures.proper c.module.ensures.valid c.requires)

pub code_of-requires-clause-fits : goal.code_of-requires-clause-fits
code_of-requires-clause-fits c =
    let m = c.args.v.now in
    let body = c.in_ok-body.ensures ∙ ap (body_in (plain_program m)) (c.main_function-main.ensures ∙ ap main_number c.module.ensures.same) in
    subst (λ (x : FlatBody). code_bytes x ≤ LARGEST_CODE) (sym body) (code_is_small m c.module.ensures.proper c.module.ensures.valid c.requires)

pub image_of-requires-clause-codes : goal.image_of-requires-clause-codes
image_of-requires-clause-codes c =
    let m = c.args.v.now in
    let is = c.main_function-main.ensures ∙ ap main_number c.module.ensures.same in
    let codes = same_codes m c.main_function-main.result.0 c.in_ok-body.body c.in_ok-code.code is (c.in_ok-body.ensures ∙ ap (body_in (plain_program m)) is) c.in_ok-code.ensures in
    subst (AreCodes m) (sym codes) (codes_given m c.module.ensures.proper c.module.ensures.valid c.requires)

pub image_of-requires-clause-fits : goal.image_of-requires-clause-fits
image_of-requires-clause-fits c =
    let m = c.args.v.now in
    let is = c.main_function-main.ensures ∙ ap main_number c.module.ensures.same in
    let codes = same_codes m c.main_function-main.result.0 c.in_ok-body.body c.in_ok-code.code is (c.in_ok-body.ensures ∙ ap (body_in (plain_program m)) is) c.in_ok-code.ensures in
    subst (λ (x : Codes). text_size m x ≤ LARGEST_TEXT) (sym codes) (text_fits m c.module.ensures.proper c.module.ensures.valid c.requires)

pub returns-clause-file : goal.returns-clause-file
returns-clause-file c =
    let m = c.args.v.now in
    let is = c.main_function-main.ensures ∙ ap main_number c.module.ensures.same in
    let codes = same_codes m c.main_function-main.result.0 c.in_ok-body.body c.in_ok-code.code is (c.in_ok-body.ensures ∙ ap (body_in (plain_program m)) is) c.in_ok-code.ensures in
    c.in_ok-write_elf.ensures ∙ ap elf (c.in_ok-image.ensures ∙ ap (image m) codes)

pub returns-clause-size : goal.returns-clause-size
returns-clause-size c =
    let m = c.args.v.now in
    let is = c.main_function-main.ensures ∙ ap main_number c.module.ensures.same in
    let codes = same_codes m c.main_function-main.result.0 c.in_ok-body.body c.in_ok-code.code is (c.in_ok-body.ensures ∙ ap (body_in (plain_program m)) is) c.in_ok-code.ensures in
    c.len-size.ensures ∙ ap (λ (x : Parts). length x.text) (c.image.view_is ∙ c.in_ok-image.ensures ∙ ap (image m) codes) ∙ text_length m (main_codes m)
