use Rattle.std.proofs.Common.{◌≡◌, ℕ, List, length, sym, ap, ap₂, subst, ◌∙◌, arith}
use Rattle.std.specs.Prelude.{slice_index}
use Rattle.strong_components.specs.Marks.{are_joined}
use Rattle.component_split.specs.Over.{func_numbers, site_graph, IsRising}
use Rattle.component_split.proofs.FuncSearch.{map_length}
use Rattle.component_split.proofs.OnCycles.{no_bridge}
use Rattle.component_split.proofs.cycles.is_on_cycle.Goals as goal

pub returns : goal.returns
returns c = λ p connected h e.
    let f : func_numbers c.deref.result.now ≡ c.args.s.now.0 = ap func_numbers c.deref.ensures.value ∙ ap (λ (v : List ℕ × List ℕ). v.0) c.s.view_is in
    let n = map_length c.deref.result.now in let m = ap length f in
    let i = c.ends_among-ends.result.caller in let j = c.ends_among-ends.result.callee in
    let li = c.ends_among-ends.ensures.caller_in in let lj = c.ends_among-ends.ensures.callee_in in
    let rising : IsRising c.args.s.now.0 = subst IsRising (ap (λ (v : List ℕ × List ℕ). v.0) c.s.view_is) c.s.invariant in
    no_bridge (site_graph c.args.g.now) p c.args.s.now.0 c.args.site.0 rising connected (h c.args.site.0 i j c.requires.candidate c.requires.inside (omega (arith, li, n, m)) (omega (arith, lj, n, m))
    (ap (λ (xs : List ℕ). slice_index xs i) (sym f) ∙ c.ends_among-ends.ensures.caller)
    (ap (λ (xs : List ℕ). slice_index xs j) (sym f) ∙ c.ends_among-ends.ensures.callee)
    (ap₂ are_joined (sym c.mark_at.ensures) (sym c.mark_at-2.ensures) ∙ sym c.are_joined.ensures ∙ e))
