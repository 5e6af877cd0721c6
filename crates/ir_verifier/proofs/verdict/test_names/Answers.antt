use Rattle.std.proofs.Common.{sym, ◌∙◌}
use Rattle.std.proofs.lemmas.Result.{err_from_is_err_and}
use Rattle.ir_core.specs.declared.rule.FuncRule.TheVariants.{Names, References, Positions, Entry}
use Rattle.ir_core.specs.FirstBroken.{func_rule}
use Rattle.ir_verifier.specs.Verdict.{MeetsFuncRulesBelow}
use Rattle.ir_verifier.proofs.VerdictLaws.{no_func_rule, func_rule_met, func_rule_broken, func_rule_ok, func_rule_err}
use Rattle.ir_verifier.proofs.verdict.test_names.Goals as goal

pub returns-in_err-met-clause-fault : goal.returns-in_err-met-clause-fault
returns-in_err-met-clause-fault c =
    let p = err_from_is_err_and c.from_residual-in_err-met.result c.from_residual-in_err-met.ensures.1 in
    rw (p.1, p.2) (func_rule_broken c.args.m.now c.args.f.now Names c.in_ok-first_break.field-0 c.in_err-met.field-0.0 (λ e. cc) (no_func_rule c.args.m.now c.args.f.now) c.in_ok-first_break.ensures.found (sym c.met.ensures ∙ c.in_err-met.was))

pub returns-in_err-met-2-clause-fault : goal.returns-in_err-met-2-clause-fault
returns-in_err-met-2-clause-fault c =
    let below_references : MeetsFuncRulesBelow (func_rule References) c.args.m.now c.args.f.now = func_rule_met c.args.m.now c.args.f.now Names c.in_ok-first_break.field-0 (no_func_rule c.args.m.now c.args.f.now) c.in_ok-first_break.ensures.found (sym c.met.ensures ∙ c.in_ok-met.was) in
    let p = err_from_is_err_and c.from_residual-in_err-met-2.result c.from_residual-in_err-met-2.ensures.1 in
    rw (p.1, p.2) (func_rule_broken c.args.m.now c.args.f.now References c.in_ok-first_break-2.field-0 c.in_err-met-2.field-0.0 (λ e. cc) below_references (c.in_ok-first_break-2.ensures.found c.args.m.now c.requires.globals) (sym c.met-2.ensures ∙ c.in_err-met-2.was))

pub returns-in_err-met-3-clause-fault : goal.returns-in_err-met-3-clause-fault
returns-in_err-met-3-clause-fault c =
    let below_references : MeetsFuncRulesBelow (func_rule References) c.args.m.now c.args.f.now = func_rule_met c.args.m.now c.args.f.now Names c.in_ok-first_break.field-0 (no_func_rule c.args.m.now c.args.f.now) c.in_ok-first_break.ensures.found (sym c.met.ensures ∙ c.in_ok-met.was) in
    let below_positions : MeetsFuncRulesBelow (func_rule Positions) c.args.m.now c.args.f.now = func_rule_met c.args.m.now c.args.f.now References c.in_ok-first_break-2.field-0 below_references (c.in_ok-first_break-2.ensures.found c.args.m.now c.requires.globals) (sym c.met-2.ensures ∙ c.in_ok-met-2.was) in
    let p = err_from_is_err_and c.from_residual-in_err-met-3.result c.from_residual-in_err-met-3.ensures.1 in
    rw (p.1, p.2) (func_rule_broken c.args.m.now c.args.f.now Positions c.first_break-3.result c.in_err-met-3.field-0.0 (λ e. cc) below_positions c.first_break-3.ensures.found (sym c.met-3.ensures ∙ c.in_err-met-3.was))

pub returns-clause-ok : goal.returns-clause-ok
returns-clause-ok c =
    let below_references : MeetsFuncRulesBelow (func_rule References) c.args.m.now c.args.f.now = func_rule_met c.args.m.now c.args.f.now Names c.in_ok-first_break.field-0 (no_func_rule c.args.m.now c.args.f.now) c.in_ok-first_break.ensures.found (sym c.met.ensures ∙ c.in_ok-met.was) in
    let below_positions : MeetsFuncRulesBelow (func_rule Positions) c.args.m.now c.args.f.now = func_rule_met c.args.m.now c.args.f.now References c.in_ok-first_break-2.field-0 below_references (c.in_ok-first_break-2.ensures.found c.args.m.now c.requires.globals) (sym c.met-2.ensures ∙ c.in_ok-met-2.was) in
    let below_entry : MeetsFuncRulesBelow (func_rule Entry) c.args.m.now c.args.f.now = func_rule_met c.args.m.now c.args.f.now Positions c.first_break-3.result below_positions c.first_break-3.ensures.found (sym c.met-3.ensures ∙ c.in_ok-met-3.was) in
    func_rule_ok c.args.m.now c.args.f.now Entry c.first_break-4.result c.met-4.result below_entry c.first_break-4.ensures.found c.met-4.ensures

pub returns-clause-fault : goal.returns-clause-fault
returns-clause-fault c =
    let below_references : MeetsFuncRulesBelow (func_rule References) c.args.m.now c.args.f.now = func_rule_met c.args.m.now c.args.f.now Names c.in_ok-first_break.field-0 (no_func_rule c.args.m.now c.args.f.now) c.in_ok-first_break.ensures.found (sym c.met.ensures ∙ c.in_ok-met.was) in
    let below_positions : MeetsFuncRulesBelow (func_rule Positions) c.args.m.now c.args.f.now = func_rule_met c.args.m.now c.args.f.now References c.in_ok-first_break-2.field-0 below_references (c.in_ok-first_break-2.ensures.found c.args.m.now c.requires.globals) (sym c.met-2.ensures ∙ c.in_ok-met-2.was) in
    let below_entry : MeetsFuncRulesBelow (func_rule Entry) c.args.m.now c.args.f.now = func_rule_met c.args.m.now c.args.f.now Positions c.first_break-3.result below_positions c.first_break-3.ensures.found (sym c.met-3.ensures ∙ c.in_ok-met-3.was) in
    func_rule_err c.args.m.now c.args.f.now Entry c.first_break-4.result c.met-4.result (λ e. cc) below_entry c.first_break-4.ensures.found c.met-4.ensures
