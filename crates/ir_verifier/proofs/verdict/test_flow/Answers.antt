use Rattle.std.proofs.Common.{sym, ◌∙◌, arith}
use Rattle.std.proofs.lemmas.Result.{err_from_is_err_and}
use Rattle.ir_core.specs.declared.rule.ModuleRule.TheVariants.{TypeNames, Sizes}
use Rattle.ir_core.specs.declared.rule.FuncRule.TheVariants.{Types, Constants, Phis, Cases, Assignment}
use Rattle.ir_core.specs.FirstBroken.{func_rule}
use Rattle.ir_verifier.specs.Verdict.{MeetsFuncRulesBelow}
use Rattle.ir_verifier.proofs.VerdictLaws.{func_rule_met, func_rule_broken, testable, unassigned, valid_func}
use Rattle.ir_verifier.proofs.verdict.test_flow.Goals as goal

pub first_break-requires-clause-type_names : goal.first_break-requires-clause-type_names
first_break-requires-clause-type_names c = λ p b. c.requires.own TypeNames p b

pub first_break-requires-clause-sizes : goal.first_break-requires-clause-sizes
first_break-requires-clause-sizes c = λ p b. c.requires.own Sizes p b

pub first_break-requires-clause-types : goal.first_break-requires-clause-types
first_break-requires-clause-types c = λ p b. c.requires.lower Types p (omega arith) b

pub first_break-requires-clause-constants : goal.first_break-requires-clause-constants
first_break-requires-clause-constants c = λ p b. c.requires.lower Constants p (omega arith) b

pub returns-in_err-met-clause-fault : goal.returns-in_err-met-clause-fault
returns-in_err-met-clause-fault c =
    let p = err_from_is_err_and c.from_residual-in_err-met.result c.from_residual-in_err-met.ensures.1 in
    rw (p.1, p.2) (func_rule_broken c.args.m.now c.args.f.now Phis c.in_ok-first_break.field-0 c.in_err-met.field-0.0 (λ e. cc) c.requires.lower c.in_ok-first_break.ensures.found (sym c.met.ensures ∙ c.in_err-met.was))

pub returns-in_err-met-2-clause-fault : goal.returns-in_err-met-2-clause-fault
returns-in_err-met-2-clause-fault c =
    let below_cases : MeetsFuncRulesBelow (func_rule Cases) c.args.m.now c.args.f.now = func_rule_met c.args.m.now c.args.f.now Phis c.in_ok-first_break.field-0 c.requires.lower c.in_ok-first_break.ensures.found (sym c.met.ensures ∙ c.in_ok-met.was) in
    let p = err_from_is_err_and c.from_residual-in_err-met-2.result c.from_residual-in_err-met-2.ensures.1 in
    rw (p.1, p.2) (func_rule_broken c.args.m.now c.args.f.now Cases c.in_ok-first_break-2.field-0 c.in_err-met-2.field-0.0 (λ e. cc) below_cases (c.in_ok-first_break-2.ensures.found c.args.m.now) (sym c.met-2.ensures ∙ c.in_err-met-2.was))

pub assigned-requires : goal.assigned-requires
assigned-requires c =
    let below_cases : MeetsFuncRulesBelow (func_rule Cases) c.args.m.now c.args.f.now = func_rule_met c.args.m.now c.args.f.now Phis c.in_ok-first_break.field-0 c.requires.lower c.in_ok-first_break.ensures.found (sym c.met.ensures ∙ c.in_ok-met.was) in
    let below_assignment : MeetsFuncRulesBelow (func_rule Assignment) c.args.m.now c.args.f.now = func_rule_met c.args.m.now c.args.f.now Cases c.in_ok-first_break-2.field-0 below_cases (c.in_ok-first_break-2.ensures.found c.args.m.now) (sym c.met-2.ensures ∙ c.in_ok-met-2.was) in
    record { testable = testable c.args.m.now c.args.f.now c.requires.proper c.requires.inside below_assignment }

pub returns-in_err-assigned-clause-fault : goal.returns-in_err-assigned-clause-fault
returns-in_err-assigned-clause-fault c =
    let below_cases : MeetsFuncRulesBelow (func_rule Cases) c.args.m.now c.args.f.now = func_rule_met c.args.m.now c.args.f.now Phis c.in_ok-first_break.field-0 c.requires.lower c.in_ok-first_break.ensures.found (sym c.met.ensures ∙ c.in_ok-met.was) in
    let below_assignment : MeetsFuncRulesBelow (func_rule Assignment) c.args.m.now c.args.f.now = func_rule_met c.args.m.now c.args.f.now Cases c.in_ok-first_break-2.field-0 below_cases (c.in_ok-first_break-2.ensures.found c.args.m.now) (sym c.met-2.ensures ∙ c.in_ok-met-2.was) in
    let p = err_from_is_err_and c.from_residual-in_err-assigned.result c.from_residual-in_err-assigned.ensures.1 in
    rw (p.1, p.2) (unassigned c.args.m.now c.args.f.now c.in_err-assigned.field-0.0 below_assignment c.in_err-assigned.ensures.first c.in_err-assigned.ensures.path)

pub returns-clause-ok : goal.returns-clause-ok
returns-clause-ok c =
    let below_cases : MeetsFuncRulesBelow (func_rule Cases) c.args.m.now c.args.f.now = func_rule_met c.args.m.now c.args.f.now Phis c.in_ok-first_break.field-0 c.requires.lower c.in_ok-first_break.ensures.found (sym c.met.ensures ∙ c.in_ok-met.was) in
    let below_assignment : MeetsFuncRulesBelow (func_rule Assignment) c.args.m.now c.args.f.now = func_rule_met c.args.m.now c.args.f.now Cases c.in_ok-first_break-2.field-0 below_cases (c.in_ok-first_break-2.ensures.found c.args.m.now) (sym c.met-2.ensures ∙ c.in_ok-met-2.was) in
    valid_func c.args.m.now c.args.f.now below_assignment c.in_ok-assigned.ensures.ok
