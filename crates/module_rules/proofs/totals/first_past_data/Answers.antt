use Rattle.std.proofs.Common.{◌≡◌, ◌+◌, ◌<◌, ◌≤◌, sym, subst, length, take, slice_index_or, List}
use Rattle.std.proofs.lemmas.List.{take_all}
use Rattle.ir_core.specs.declared.module.GlobalVar.{GlobalVar}
use Rattle.module_rules.specs.First.{IsFound}
use Rattle.module_rules.specs.TotalFaults.{AreDataPast}
use Rattle.module_rules.proofs.TotalLaws.{end_more, first_more}
use Rattle.module_rules.proofs.totals.first_past_data.Goals as goal

pub loop-global-preserved : goal.loop-global-preserved
loop-global-preserved c =
    let defs = c.args.m.now.types.defs in
    let globals = c.args.m.now.globals in
    let i = c.loop-global.global-index in
    let g = c.global-item.result in
    let within = subst (λ (gs : List GlobalVar). i < length gs) c.as_slice-global-items.ensures c.loop-global-test.true in
    let is = subst (λ (gs : List GlobalVar). g ≡ slice_index_or gs i g) c.as_slice-global-items.ensures c.global-item.is in
    let end = end_more defs globals i g within is c.loop-global.end c.end_with-end.result c.end_with-end.ensures c.loop-global.invariant.0 in (
      end,
      subst (IsFound (AreDataPast defs (take (i + 1) globals))) (sym c.earlier_if-first.ensures) (first_more defs globals i g within is c.end_with-end.result c.loop-global.first end c.loop-global.invariant.1),
    )

pub returns : goal.returns
returns c =
    let globals = c.args.m.now.globals in
    let past = subst (λ (gs : List GlobalVar). length gs ≤ c.loop-global.global-index) c.as_slice-global-items.ensures c.loop-global-test.false in
    subst (λ (gs : List GlobalVar). IsFound (AreDataPast c.args.m.now.types.defs gs) c.loop-global.first) (take_all c.loop-global.global-index globals past) c.loop-global.invariant.1
