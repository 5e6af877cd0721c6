use Rattle.std.proofs.Common.{◌≡◌, ◌≤◌, ◌+◌, ◌<◌, ◌++◌, [], ◌∷◌, ℕ, List, drop, length, slice_index_or, sym, ap, ap₂, ◌∙◌, subst}
use Rattle.std.specs.Int.{next_multiple_of}
use Rattle.std.proofs.lemmas.List.{drop_more}
use Rattle.ir_core.specs.declared.limits.TheConstants.{MOST_DATA}
use Rattle.ir_core.specs.declared.module.GlobalVar.{GlobalVar}
use Rattle.ir_core.specs.Constants.{aligned_as}
use Rattle.ir_core.specs.Sizes.{size}
use Rattle.image_layout.specs.Initialisers.{IsPlaceable}
use Rattle.image_layout.proofs.GlobalBytes.{Placing, one_placed, next_low}
use Rattle.image_layout.proofs.data.places.Goals as goal

pub loop-global-preserved : goal.loop-global-preserved
loop-global-preserved c =
    let m = c.args.m.now in
    let i = c.loop-global.global-index in
    let g = c.global-item.result in
    let ps = c.loop-global.places.items in
    let rest = drop (i + 1) m.globals in
    let within = subst (λ (gs : List GlobalVar). i < length gs) c.as_slice-global-items.ensures c.loop-global-test.true in
    let is : g ≡ slice_index_or m.globals i g = subst (λ (gs : List GlobalVar). g ≡ slice_index_or gs i g) c.as_slice-global-items.ensures c.global-item.is in
    let placeable = subst (IsPlaceable m) (sym is) (c.requires.globals i g within) in
    let left : drop i m.globals ≡ g ∷ rest = drop_more m.globals i g within ∙ ap (λ (x : GlobalVar). x ∷ rest) (sym is) in
    let before = c.loop-global.invariant.1 in
    let low = next_low m g rest placeable c.requires.fits ps c.loop-global.end (drop i m.globals) before left in
    let placed = one_placed m g rest placeable c.requires.fits ps c.loop-global.end (drop i m.globals) before left in
    let next = sym (ap₂ (λ (a b : ℕ). a + b) c.place_after-place.ensures.place c.size_in.ensures.size) in
    let put = sym (c.in_ok-push.ensures.items ∙ ap (λ (p : ℕ). ps ++ p ∷ []) c.place_after-place.ensures.place) in (
      subst (λ (n : ℕ). n ≤ MOST_DATA) next low,
      subst (λ (n : ℕ). Placing m c.push.new.self.items n rest) next (subst (λ (xs : List ℕ). Placing m xs (next_multiple_of c.loop-global.end (aligned_as m.types.defs g.align g.ty) + size m.types.defs g.ty) rest) put placed),
    )
