use Rattle.std.proofs.Common.{◌≡◌, ◌<◌, ◌+◌, length, set, ap, ap₂, ◌∙◌, arith, ◌||◌, nat_eq, if◌then◌else◌}
use Rattle.std.specs.Prelude.{slice_index}
use Rattle.std.proofs.lemmas.List.{length-set, get_or-set_other}
use Rattle.std.proofs.lemmas.Grind.{get_or_default_zero}
use Rattle.component_split.proofs.Choosing.{counted_one, counted_two}
use Rattle.component_split.proofs.choice.count_site.Goals as goal

pub index_mut-requires : goal.index_mut-requires
index_mut-requires c = let e = c.ends_of-ends.ensures.caller in let a = c.requires.caller in let v = c.args.degrees.now.ok.0 in omega (arith, e, a, v)

pub returns-then-ends-clause-degrees : goal.returns-then-ends-clause-degrees
returns-then-ends-clause-degrees c = λ f.
    let ds = c.args.degrees.now.items in
    let a = c.ends_of-ends.result.caller in
    let b = c.ends_of-ends.result.callee in
    let ea = c.ends_of-ends.ensures.caller in let eb = c.ends_of-ends.ensures.callee in
    let ra = c.requires.caller in let rb = c.requires.callee in
    let la : a < length ds = omega (arith, ea, ra) in
    let lb : b < length ds = omega (arith, eb, rb) in
    let x : c.index_mut.result.now ≡ slice_index ds a = c.index_mut.ensures.value ∙ get_or_default_zero ds a c.index_mut.result.now la in
    let n = length-set ds a (c.index_mut.result.now + 1) in
    let y : c.index_mut-then-ends.result.now ≡ slice_index ds b = c.index_mut-then-ends.ensures.value ∙ get_or_default_zero (set ds a (c.index_mut.result.now + 1)) b c.index_mut-then-ends.result.now (omega (arith, lb, n)) ∙ get_or-set_other ds a b (c.index_mut.result.now + 1) 0 c.if-ends.true in
    ap₂ (λ u v. slice_index (set (set ds a (u + 1)) b (v + 1)) f) x y ∙ counted_two ds a b f la lb c.if-ends.true ∙ ap₂ (λ u v. slice_index ds f + (if nat_eq u f || nat_eq v f then 1 else 0)) ea eb

pub returns-else-ends-clause-degrees : goal.returns-else-ends-clause-degrees
returns-else-ends-clause-degrees c = λ f.
    let ds = c.args.degrees.now.items in
    let a = c.ends_of-ends.result.caller in
    let b = c.ends_of-ends.result.callee in
    let ea = c.ends_of-ends.ensures.caller in let eb = c.ends_of-ends.ensures.callee in
    let ra = c.requires.caller in
    let la : a < length ds = omega (arith, ea, ra) in
    let x : c.index_mut.result.now ≡ slice_index ds a = c.index_mut.ensures.value ∙ get_or_default_zero ds a c.index_mut.result.now la in
    ap (λ u. slice_index (set ds a (u + 1)) f) x ∙ counted_one ds a b f la c.if-ends.false ∙ ap₂ (λ u v. slice_index ds f + (if nat_eq u f || nat_eq v f then 1 else 0)) ea eb
