use Rattle.std.proofs.Common.{◌≡◌, ◌<◌, ℕ, length, set, sym, ap, subst, ◌∙◌, arith}
use Rattle.std.specs.Prelude.{slice_index}
use Rattle.std.proofs.lemmas.List.{length-set}
use Rattle.component_split.specs.Classes.{IsOnWay}
use Rattle.std.proofs.lemmas.Grind.{get_or_default_zero as read}
use Rattle.component_split.proofs.Rooted.{root_here, root_twice, halved}
use Rattle.component_split.proofs.classes.find.Goals as goal

pub loop-at-preserved : goal.loop-at-preserved
loop-at-preserved c =
    let ps = c.loop-at.parents.items in
    let at = c.loop-at.at in
    let i = c.loop-at.invariant in
    let len : at < length ps = let l = i.low in let n = i.count in let w = c.requires.within in omega (arith, l, n, w) in
    let one : c.index-in-loop-at.result.now ≡ slice_index ps at = c.index-in-loop-at.ensures ∙ read ps at c.index-in-loop-at.result.now len in
    let low1 = i.parents at in
    let two : c.index-above.result.now ≡ slice_index ps (slice_index ps at) = c.index-above.ensures ∙ read ps c.index-in-loop-at.result.now c.index-above.result.now (omega (arith, one, low1, len)) ∙ ap (slice_index ps) one in
    let low2 = i.parents (slice_index ps at) in
    let h = halved ps at i.parents len in
    let ne : slice_index ps at ≡ at → ⊥ = λ e. c.loop-at-test.true (c.index.ensures ∙ read ps at c.index.result.now len ∙ e) in
    let below : slice_index ps (slice_index ps at) < at = omega (arith, low1, low2, ne) in
    subst (λ (v : ℕ). IsOnWay c.args.parents.now.items c.args.of (set ps at v) v) (sym two) (record {
      at_root = h.1 (slice_index ps (slice_index ps at)) ∙ sym (root_twice ps at i.parents ne) ∙ i.at_root;
      low = let l = i.low in omega (arith, l, below);
      same = λ f. h.1 f ∙ i.same f;
      parents = h.0;
      count = let s = length-set ps at (slice_index ps (slice_index ps at)) in let n = i.count in omega (arith, s, n);
    })

pub loop-at-smaller : goal.loop-at-smaller
loop-at-smaller c =
    let ps = c.loop-at.parents.items in
    let at = c.loop-at.at in
    let i = c.loop-at.invariant in
    let len : at < length ps = let l = i.low in let n = i.count in let w = c.requires.within in omega (arith, l, n, w) in
    let one : c.index-in-loop-at.result.now ≡ slice_index ps at = c.index-in-loop-at.ensures ∙ read ps at c.index-in-loop-at.result.now len in
    let low1 = i.parents at in
    let two : c.index-above.result.now ≡ slice_index ps (slice_index ps at) = c.index-above.ensures ∙ read ps c.index-in-loop-at.result.now c.index-above.result.now (omega (arith, one, low1, len)) ∙ ap (slice_index ps) one in
    let low2 = i.parents (slice_index ps at) in
    let ne : slice_index ps at ≡ at → ⊥ = λ e. c.loop-at-test.true (c.index.ensures ∙ read ps at c.index.result.now len ∙ e) in
    omega (arith, two, low1, low2, ne)

pub returns-clause-root : goal.returns-clause-root
returns-clause-root c =
    let ps = c.loop-at.parents.items in
    let i = c.loop-at.invariant in
    let len : c.loop-at.at < length ps = let l = i.low in let n = i.count in let w = c.requires.within in omega (arith, l, n, w) in
    sym (root_here ps c.loop-at.at (sym (read ps c.loop-at.at c.index.result.now len) ∙ sym c.index.ensures ∙ c.loop-at-test.false)) ∙ i.at_root
