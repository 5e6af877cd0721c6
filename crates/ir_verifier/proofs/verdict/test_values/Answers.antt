use Rattle.std.proofs.Common.{sym, ◌∙◌, subst, arith}
use Rattle.std.proofs.lemmas.Result.{err_from_is_err_and}
use Rattle.ir_core.specs.declared.rule.ModuleRule.TheVariants.{SymbolTwice}
use Rattle.ir_core.specs.declared.rule.FuncRule.TheVariants.{Types, Constants, Calls}
use Rattle.ir_core.specs.declared.module.Module.{Module}
use Rattle.ir_core.specs.ValidModule.{BreaksSymbolTwice}
use Rattle.ir_core.specs.ValidOps.{BreaksTypes, BreaksCalls}
use Rattle.module_rules.specs.First.{IsFound}
use Rattle.ir_core.specs.FirstBroken.{func_rule}
use Rattle.ir_verifier.specs.Verdict.{MeetsFuncRulesBelow}
use Rattle.ir_verifier.proofs.VerdictLaws.{func_rule_met, func_rule_broken, func_rule_ok, func_rule_err}
use Rattle.ir_verifier.proofs.verdict.test_values.Goals as goal

pub first_break-requires-3-clause-once : goal.first_break-requires-3-clause-once
first_break-requires-3-clause-once c = λ p b. c.requires.own SymbolTwice p (subst (λ (x : Module). BreaksSymbolTwice x p) c.requires.callees b)

pub first_break-requires-3-clause-types : goal.first_break-requires-3-clause-types
first_break-requires-3-clause-types c =
    let below_constants : MeetsFuncRulesBelow (func_rule Constants) c.args.m.now c.args.f.now = func_rule_met c.args.m.now c.args.f.now Types c.in_ok-first_break.field-0 c.requires.lower c.in_ok-first_break.ensures.found (sym c.met.ensures ∙ c.in_ok-met.was) in
    let below_calls : MeetsFuncRulesBelow (func_rule Calls) c.args.m.now c.args.f.now = func_rule_met c.args.m.now c.args.f.now Constants c.first_break-2.result below_constants c.first_break-2.ensures.found (sym c.met-2.ensures ∙ c.in_ok-met-2.was) in
    λ p b. below_calls Types p (omega arith) (subst (λ (x : Module). BreaksTypes x c.args.f.now p) c.requires.callees b)

pub returns-in_err-met-clause-fault : goal.returns-in_err-met-clause-fault
returns-in_err-met-clause-fault c =
    let p = err_from_is_err_and c.from_residual-in_err-met.result c.from_residual-in_err-met.ensures.1 in
    rw (p.1, p.2) (func_rule_broken c.args.m.now c.args.f.now Types c.in_ok-first_break.field-0 c.in_err-met.field-0.0 (λ e. cc) c.requires.lower c.in_ok-first_break.ensures.found (sym c.met.ensures ∙ c.in_err-met.was))

pub returns-in_err-met-2-clause-fault : goal.returns-in_err-met-2-clause-fault
returns-in_err-met-2-clause-fault c =
    let below_constants : MeetsFuncRulesBelow (func_rule Constants) c.args.m.now c.args.f.now = func_rule_met c.args.m.now c.args.f.now Types c.in_ok-first_break.field-0 c.requires.lower c.in_ok-first_break.ensures.found (sym c.met.ensures ∙ c.in_ok-met.was) in
    let p = err_from_is_err_and c.from_residual-in_err-met-2.result c.from_residual-in_err-met-2.ensures.1 in
    rw (p.1, p.2) (func_rule_broken c.args.m.now c.args.f.now Constants c.first_break-2.result c.in_err-met-2.field-0.0 (λ e. cc) below_constants c.first_break-2.ensures.found (sym c.met-2.ensures ∙ c.in_err-met-2.was))

pub returns-clause-ok : goal.returns-clause-ok
returns-clause-ok c =
    let below_constants : MeetsFuncRulesBelow (func_rule Constants) c.args.m.now c.args.f.now = func_rule_met c.args.m.now c.args.f.now Types c.in_ok-first_break.field-0 c.requires.lower c.in_ok-first_break.ensures.found (sym c.met.ensures ∙ c.in_ok-met.was) in
    let below_calls : MeetsFuncRulesBelow (func_rule Calls) c.args.m.now c.args.f.now = func_rule_met c.args.m.now c.args.f.now Constants c.first_break-2.result below_constants c.first_break-2.ensures.found (sym c.met-2.ensures ∙ c.in_ok-met-2.was) in
    func_rule_ok c.args.m.now c.args.f.now Calls c.first_break-3.result c.met-3.result below_calls (subst (λ (x : Module). IsFound (BreaksCalls x c.args.f.now) c.first_break-3.result) c.requires.callees c.first_break-3.ensures.found) c.met-3.ensures

pub returns-clause-fault : goal.returns-clause-fault
returns-clause-fault c =
    let below_constants : MeetsFuncRulesBelow (func_rule Constants) c.args.m.now c.args.f.now = func_rule_met c.args.m.now c.args.f.now Types c.in_ok-first_break.field-0 c.requires.lower c.in_ok-first_break.ensures.found (sym c.met.ensures ∙ c.in_ok-met.was) in
    let below_calls : MeetsFuncRulesBelow (func_rule Calls) c.args.m.now c.args.f.now = func_rule_met c.args.m.now c.args.f.now Constants c.first_break-2.result below_constants c.first_break-2.ensures.found (sym c.met-2.ensures ∙ c.in_ok-met-2.was) in
    func_rule_err c.args.m.now c.args.f.now Calls c.first_break-3.result c.met-3.result (λ e. cc) below_calls (subst (λ (x : Module). IsFound (BreaksCalls x c.args.f.now) c.first_break-3.result) c.requires.callees c.first_break-3.ensures.found) c.met-3.ensures
