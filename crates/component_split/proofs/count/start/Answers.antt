use Rattle.std.proofs.Common.{◌≡◌, ℕ, List, sym, ap, subst, ◌∙◌}
use Rattle.component_split.specs.Over.{site_numbers, IsRising}
use Rattle.component_split.proofs.ArcLists.{sites_rise}
use Rattle.component_split.proofs.Held.{sites_ascend, undecided_holds, undecided_agree}
use Rattle.component_split.proofs.count.start.Goals as goal

pub start-requires : goal.start-requires
start-requires c =
    let numbers : site_numbers c.deref.result.now ≡ c.in_ok-set.set.1 = ap site_numbers c.deref.ensures.value ∙ ap (λ (v : List ℕ × List ℕ). v.1) c.set.view_is in
    sites_ascend c.deref.result.now (subst IsRising (sym numbers) (sites_rise c.args.g.now c.in_ok-set.set c.in_ok-set.ensures.set))

pub returns-clause-state : goal.returns-clause-state
returns-clause-state c =
    let numbers : site_numbers c.deref.result.now ≡ c.in_ok-set.set.1 = ap site_numbers c.deref.ensures.value ∙ ap (λ (v : List ℕ × List ℕ). v.1) c.set.view_is in
    (c.in_ok-set.ensures.set, undecided_holds c.args.g.now c.in_ok-set.set c.in_ok-set.ensures.set c.deref.result.now numbers c.in_ok-partial.partial (c.in_ok-partial.ensures {u = tt}))

pub returns-clause-point : goal.returns-clause-point
returns-clause-point c =
    let numbers : site_numbers c.deref.result.now ≡ c.in_ok-set.set.1 = ap site_numbers c.deref.ensures.value ∙ ap (λ (v : List ℕ × List ℕ). v.1) c.set.view_is in
    (c.in_ok-set.ensures.funcs, undecided_agree c.args.g.now c.in_ok-set.set c.in_ok-set.ensures.set c.deref.result.now numbers c.in_ok-partial.partial (c.in_ok-partial.ensures {u = tt}))
