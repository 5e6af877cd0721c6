use Rattle.frame_layout.specs.declared.laying.TheConstants.{LARGEST_FRAME}
use Rattle.std.proofs.Common.{◌≡◌, ◌≤◌, ℕ, All, List, length, sym, ap, ◌∙◌, subst}
use Rattle.std.proofs.lemmas.Result.{IfOk-weaker, IfErr-weaker}
use Rattle.ir_core.specs.declared.flat.FlatBody.{FlatBody}
use Rattle.ir_core.specs.WellFormed.{IsWellFormed}
use Rattle.frame_layout.specs.declared.parts.Part.{Part}
use Rattle.frame_layout.specs.declared.homes.Home.{Home}
use Rattle.frame_layout.specs.Parts.{parts, IsPart}
use Rattle.frame_layout.specs.Homes.{slot_in, shadow_in, place_in}
use Rattle.frame_layout.specs.Offsets.{Offsets, home_of, slot_of, shadow_of, place_of}
use Rattle.frame_layout.specs.Frame.{size, frame, frame_of, offsets, home, slot, shadow, place, IsRefused}
use Rattle.frame_layout.proofs.Body.{parts_are_parts, parts_are_few, table_of_homes, home_in_table}
use Rattle.frame_layout.proofs.laying.layout.Goals as goal

pub framed-requires-clause-few : goal.framed-requires-clause-few
framed-requires-clause-few c =
    let f = c.requires in
    subst (λ ps. length ps ≤ c.args.b.now.regs) (sym (c.deref.ensures.value ∙ c.in_ok-parts.ensures)) (parts_are_few f.types f.funcs f.own c.args.b.now f.formed)

pub framed-requires-clause-parts : goal.framed-requires-clause-parts
framed-requires-clause-parts c =
    let f = c.requires in
    subst (λ ps. All (IsPart c.args.b.now.regs) ps) (sym (c.deref.ensures.value ∙ c.in_ok-parts.ensures)) (parts_are_parts f.types f.funcs f.own c.args.b.now f.formed)

-- what is framed is the frame
whole : (b : FlatBody) (ps : List Part) (f : Offsets) → IsWellFormed b → ps ≡ parts b → f ≡ offsets b.regs ps → f ≡ frame_of b
unfolding frame frame_of
whole b ps f w same e =
    e ∙ ap (offsets b.regs) same ∙ ap (λ (hs : List Home). let x : Offsets = record { bytes = frame b; homes = hs } in x) (table_of_homes w.types w.funcs w.own b w.formed)

sized : (b : FlatBody) (ps : List Part) → ps ≡ parts b → size ps ≡ frame b
unfolding frame
sized b ps same = ap size same

bytes_in : (b : FlatBody) (f : Offsets) → f ≡ frame_of b → f.bytes ≡ frame b
unfolding frame_of
bytes_in b f e = ap (λ (g : Offsets). g.bytes) e

home_in : (b : FlatBody) → IsWellFormed b → (f : Offsets) → f ≡ frame_of b → (r : ℕ) → home_of f r ≡ home b r
unfolding frame_of
home_in b w f e r = ap (λ (g : Offsets). home_of g r) e ∙ home_in_table w.types w.funcs w.own b w.formed r

pub returns-clause-frame : goal.returns-clause-frame
returns-clause-frame c =
    IfOk-weaker c.framed.result (λ f. f ≡ offsets c.args.b.now.regs c.deref.result.now) (λ f. f ≡ frame_of c.args.b.now)
    (λ f e. whole c.args.b.now c.deref.result.now f c.requires (c.deref.ensures.value ∙ c.in_ok-parts.ensures) e) c.framed.ensures.frame

pub returns-clause-fits : goal.returns-clause-fits
returns-clause-fits c =
    IfOk-weaker c.framed.result (λ f. size c.deref.result.now ≤ LARGEST_FRAME) (λ f. frame c.args.b.now ≤ LARGEST_FRAME)
    (λ f h. subst (λ (n : ℕ). n ≤ LARGEST_FRAME) (sized c.args.b.now c.deref.result.now (c.deref.ensures.value ∙ c.in_ok-parts.ensures)) h) c.framed.ensures.fits

pub returns-clause-bytes : goal.returns-clause-bytes
returns-clause-bytes c =
    IfOk-weaker c.framed.result (λ f. f ≡ frame_of c.args.b.now) (λ f. f.bytes ≡ frame c.args.b.now) (bytes_in c.args.b.now) (returns-clause-frame c)

pub returns-clause-slots : goal.returns-clause-slots
returns-clause-slots c =
    IfOk-weaker c.framed.result (λ f. f ≡ frame_of c.args.b.now) (λ f. (r : ℕ) → slot_of f r ≡ slot c.args.b.now r) (λ f e r. ap slot_in (home_in c.args.b.now c.requires f e r)) (returns-clause-frame c)

pub returns-clause-shadows : goal.returns-clause-shadows
returns-clause-shadows c =
    IfOk-weaker c.framed.result (λ f. f ≡ frame_of c.args.b.now) (λ f. (r : ℕ) → shadow_of f r ≡ shadow c.args.b.now r) (λ f e r. ap shadow_in (home_in c.args.b.now c.requires f e r)) (returns-clause-frame c)

pub returns-clause-places : goal.returns-clause-places
returns-clause-places c =
    IfOk-weaker c.framed.result (λ f. f ≡ frame_of c.args.b.now) (λ f. (r : ℕ) → place_of f r ≡ place c.args.b.now r) (λ f e r. ap place_in (home_in c.args.b.now c.requires f e r)) (returns-clause-frame c)

pub returns-clause-refused : goal.returns-clause-refused
returns-clause-refused c =
    IfErr-weaker c.framed.result (IsRefused (size c.deref.result.now)) (IsRefused (frame c.args.b.now))
    (λ e h. subst (λ (n : ℕ). IsRefused n e) (sized c.args.b.now c.deref.result.now (c.deref.ensures.value ∙ c.in_ok-parts.ensures)) h) c.framed.ensures.refused
