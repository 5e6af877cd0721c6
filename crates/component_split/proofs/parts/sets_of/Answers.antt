use Rattle.std.proofs.Common.{◌≡◌, ◌++◌, ℕ, List, [], ◌∷◌, map, take, length, sym, ap, ap₂, ◌∙◌, arith}
use Rattle.std.specs.Prelude.{zip}
use Rattle.std.proofs.lemmas.List.{length-map}
use Rattle.std.proofs.lemmas.Slice.Zip.{length-zip}
use Rattle.oi_base.specs.declared.ids.FuncId.{FuncId}
use Rattle.oi_base.specs.declared.ids.SiteId.{SiteId}
use Rattle.component_split.specs.Over.{func_numbers, site_numbers}
use Rattle.component_split.proofs.Dealing.{take_whole, zip_next}
use Rattle.component_split.proofs.parts.sets_of.Goals as goal

pub loop-at-preserved : goal.loop-at-preserved
loop-at-preserved c =
    let fl = c.args.funcs.now in
    let sl = c.args.sites.now in
    let zs = zip (map func_numbers fl) (map site_numbers sl) in
    let a = c.in_ok-from_slice.ensures.items ∙ c.as_slice.ensures in
    let b = c.in_ok-from_slice-2.ensures.items ∙ c.as_slice-in-loop-at.ensures in
    c.in_ok-push.ensures.items
    ∙ ap (λ (ps : List (List ℕ × List ℕ)). ps ++ (func_numbers c.in_ok-from_slice.field-0.items, site_numbers c.in_ok-from_slice-2.field-0.items) ∷ []) c.loop-at.invariant
    ∙ ap₂ (λ (x : List FuncId) (y : List SiteId). take c.loop-at.at zs ++ (func_numbers x, site_numbers y) ∷ []) a b
    ∙ sym (zip_next fl sl c.loop-at.at c.index-funcs-at.result c.index-sites-at.result c.requires.lengths c.loop-at-test.true c.index-funcs-at.is c.index-sites-at.is)

pub returns : goal.returns
returns c =
    let ks = map func_numbers c.args.funcs.now in
    let vs = map site_numbers c.args.sites.now in
    let a : length ks ≡ length c.args.funcs.now = simp length-map in
    let b : length vs ≡ length c.args.sites.now = simp length-map in
    let z = length-zip ks vs in
    let n = c.requires.lengths in
    let s = c.loop-at-test.false in let t = c.loop-at.auto.at-end in
    let e : c.loop-at.at ≡ length (zip ks vs) = omega (arith, a, b, z, n, s, t) in
    c.loop-at.invariant ∙ ap (λ k. take k (zip ks vs)) e ∙ take_whole (zip ks vs)
