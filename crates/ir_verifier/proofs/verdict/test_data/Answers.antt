use Rattle.std.proofs.Common.{sym, ◌∙◌, arith}
use Rattle.std.proofs.lemmas.Result.{err_from_is_err_and, on_ok_weaker}
use Rattle.ir_core.specs.declared.rule.ModuleRule.TheVariants.{TypeNames, Sizes, Initialisers, Totals, Alignments, Target}
use Rattle.ir_core.specs.FirstBroken.{module_rule}
use Rattle.ir_verifier.specs.Verdict.{MeetsModuleRulesBelow}
use Rattle.ir_verifier.proofs.VerdictLaws.{module_rule_met, module_rule_broken, module_rule_ok, module_rule_err, all_module_rules}
use Rattle.ir_verifier.proofs.verdict.test_data.Goals as goal

pub first_break-requires : goal.first_break-requires
first_break-requires c = record { type_names = λ p b. c.requires.lower TypeNames p (omega arith) b }

pub returns-in_err-met-clause-fault : goal.returns-in_err-met-clause-fault
returns-in_err-met-clause-fault c =
    let p = err_from_is_err_and c.from_residual-in_err-met.result c.from_residual-in_err-met.ensures.1 in
    rw (p.1, p.2) (module_rule_broken c.args.m.now Sizes c.in_ok-first_break.field-0 c.in_err-met.field-0.0 c.requires.lower c.in_ok-first_break.ensures.found (sym c.met.ensures ∙ c.in_err-met.was))

pub returns-in_err-met-2-clause-fault : goal.returns-in_err-met-2-clause-fault
returns-in_err-met-2-clause-fault c =
    let below_initialisers : MeetsModuleRulesBelow (module_rule Initialisers) c.args.m.now = module_rule_met c.args.m.now Sizes c.in_ok-first_break.field-0 c.requires.lower c.in_ok-first_break.ensures.found (sym c.met.ensures ∙ c.in_ok-met.was) in
    let p = err_from_is_err_and c.from_residual-in_err-met-2.result c.from_residual-in_err-met-2.ensures.1 in
    rw (p.1, p.2) (module_rule_broken c.args.m.now Initialisers c.in_ok-first_break-2.field-0 c.in_err-met-2.field-0.0 below_initialisers c.in_ok-first_break-2.ensures.found (sym c.met-2.ensures ∙ c.in_err-met-2.was))

pub returns-in_err-met-3-clause-fault : goal.returns-in_err-met-3-clause-fault
returns-in_err-met-3-clause-fault c =
    let below_initialisers : MeetsModuleRulesBelow (module_rule Initialisers) c.args.m.now = module_rule_met c.args.m.now Sizes c.in_ok-first_break.field-0 c.requires.lower c.in_ok-first_break.ensures.found (sym c.met.ensures ∙ c.in_ok-met.was) in
    let below_totals : MeetsModuleRulesBelow (module_rule Totals) c.args.m.now = module_rule_met c.args.m.now Initialisers c.in_ok-first_break-2.field-0 below_initialisers c.in_ok-first_break-2.ensures.found (sym c.met-2.ensures ∙ c.in_ok-met-2.was) in
    let p = err_from_is_err_and c.from_residual-in_err-met-3.result c.from_residual-in_err-met-3.ensures.1 in
    rw (p.1, p.2) (module_rule_broken c.args.m.now Totals c.in_ok-first_break-3.field-0 c.in_err-met-3.field-0.0 below_totals c.in_ok-first_break-3.ensures.found (sym c.met-3.ensures ∙ c.in_err-met-3.was))

pub returns-in_err-met-4-clause-fault : goal.returns-in_err-met-4-clause-fault
returns-in_err-met-4-clause-fault c =
    let below_initialisers : MeetsModuleRulesBelow (module_rule Initialisers) c.args.m.now = module_rule_met c.args.m.now Sizes c.in_ok-first_break.field-0 c.requires.lower c.in_ok-first_break.ensures.found (sym c.met.ensures ∙ c.in_ok-met.was) in
    let below_totals : MeetsModuleRulesBelow (module_rule Totals) c.args.m.now = module_rule_met c.args.m.now Initialisers c.in_ok-first_break-2.field-0 below_initialisers c.in_ok-first_break-2.ensures.found (sym c.met-2.ensures ∙ c.in_ok-met-2.was) in
    let below_alignments : MeetsModuleRulesBelow (module_rule Alignments) c.args.m.now = module_rule_met c.args.m.now Totals c.in_ok-first_break-3.field-0 below_totals c.in_ok-first_break-3.ensures.found (sym c.met-3.ensures ∙ c.in_ok-met-3.was) in
    let p = err_from_is_err_and c.from_residual-in_err-met-4.result c.from_residual-in_err-met-4.ensures.1 in
    rw (p.1, p.2) (module_rule_broken c.args.m.now Alignments c.first_break-4.result c.in_err-met-4.field-0.0 below_alignments c.first_break-4.ensures.found (sym c.met-4.ensures ∙ c.in_err-met-4.was))

pub returns-clause-ok : goal.returns-clause-ok
returns-clause-ok c =
    let below_initialisers : MeetsModuleRulesBelow (module_rule Initialisers) c.args.m.now = module_rule_met c.args.m.now Sizes c.in_ok-first_break.field-0 c.requires.lower c.in_ok-first_break.ensures.found (sym c.met.ensures ∙ c.in_ok-met.was) in
    let below_totals : MeetsModuleRulesBelow (module_rule Totals) c.args.m.now = module_rule_met c.args.m.now Initialisers c.in_ok-first_break-2.field-0 below_initialisers c.in_ok-first_break-2.ensures.found (sym c.met-2.ensures ∙ c.in_ok-met-2.was) in
    let below_alignments : MeetsModuleRulesBelow (module_rule Alignments) c.args.m.now = module_rule_met c.args.m.now Totals c.in_ok-first_break-3.field-0 below_totals c.in_ok-first_break-3.ensures.found (sym c.met-3.ensures ∙ c.in_ok-met-3.was) in
    let below_target : MeetsModuleRulesBelow (module_rule Target) c.args.m.now = module_rule_met c.args.m.now Alignments c.first_break-4.result below_alignments c.first_break-4.ensures.found (sym c.met-4.ensures ∙ c.in_ok-met-4.was) in
    on_ok_weaker c.met-5.result (all_module_rules c.args.m.now) (module_rule_ok c.args.m.now Target c.first_break-5.result c.met-5.result below_target c.first_break-5.ensures.found c.met-5.ensures)

pub returns-clause-fault : goal.returns-clause-fault
returns-clause-fault c =
    let below_initialisers : MeetsModuleRulesBelow (module_rule Initialisers) c.args.m.now = module_rule_met c.args.m.now Sizes c.in_ok-first_break.field-0 c.requires.lower c.in_ok-first_break.ensures.found (sym c.met.ensures ∙ c.in_ok-met.was) in
    let below_totals : MeetsModuleRulesBelow (module_rule Totals) c.args.m.now = module_rule_met c.args.m.now Initialisers c.in_ok-first_break-2.field-0 below_initialisers c.in_ok-first_break-2.ensures.found (sym c.met-2.ensures ∙ c.in_ok-met-2.was) in
    let below_alignments : MeetsModuleRulesBelow (module_rule Alignments) c.args.m.now = module_rule_met c.args.m.now Totals c.in_ok-first_break-3.field-0 below_totals c.in_ok-first_break-3.ensures.found (sym c.met-3.ensures ∙ c.in_ok-met-3.was) in
    let below_target : MeetsModuleRulesBelow (module_rule Target) c.args.m.now = module_rule_met c.args.m.now Alignments c.first_break-4.result below_alignments c.first_break-4.ensures.found (sym c.met-4.ensures ∙ c.in_ok-met-4.was) in
    module_rule_err c.args.m.now Target c.first_break-5.result c.met-5.result below_target c.first_break-5.ensures.found c.met-5.ensures
