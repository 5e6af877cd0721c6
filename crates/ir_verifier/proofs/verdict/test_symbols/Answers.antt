use Rattle.std.proofs.Common.{sym, ◌∙◌}
use Rattle.std.proofs.lemmas.Result.{err_from_is_err_and}
use Rattle.ir_core.specs.declared.rule.ModuleRule.TheVariants.{Main, SymbolTwice, TypeNames}
use Rattle.ir_core.specs.FirstBroken.{module_rule}
use Rattle.ir_verifier.specs.Verdict.{MeetsModuleRulesBelow}
use Rattle.ir_verifier.proofs.VerdictLaws.{no_module_rule, module_rule_met, module_rule_broken, module_rule_ok, module_rule_err}
use Rattle.ir_verifier.proofs.verdict.test_symbols.Goals as goal

pub returns-in_err-met-clause-fault : goal.returns-in_err-met-clause-fault
returns-in_err-met-clause-fault c =
    let p = err_from_is_err_and c.from_residual.result c.from_residual.ensures.1 in
    rw (p.1, p.2) (module_rule_broken c.args.m.now Main c.first_break.result c.in_err-met.field-0.0 (no_module_rule c.args.m.now) c.first_break.ensures (sym c.met.ensures ∙ c.in_err-met.was))

pub returns-in_err-met-2-clause-fault : goal.returns-in_err-met-2-clause-fault
returns-in_err-met-2-clause-fault c =
    let below_symbol_twice : MeetsModuleRulesBelow (module_rule SymbolTwice) c.args.m.now = module_rule_met c.args.m.now Main c.first_break.result (no_module_rule c.args.m.now) c.first_break.ensures (sym c.met.ensures ∙ c.in_ok-met.was) in
    let p = err_from_is_err_and c.from_residual-in_err-met-2.result c.from_residual-in_err-met-2.ensures.1 in
    rw (p.1, p.2) (module_rule_broken c.args.m.now SymbolTwice c.in_ok-first_break.field-0 c.in_err-met-2.field-0.0 below_symbol_twice c.in_ok-first_break.ensures.found (sym c.met-2.ensures ∙ c.in_err-met-2.was))

pub returns-clause-ok : goal.returns-clause-ok
returns-clause-ok c =
    let below_symbol_twice : MeetsModuleRulesBelow (module_rule SymbolTwice) c.args.m.now = module_rule_met c.args.m.now Main c.first_break.result (no_module_rule c.args.m.now) c.first_break.ensures (sym c.met.ensures ∙ c.in_ok-met.was) in
    let below_type_names : MeetsModuleRulesBelow (module_rule TypeNames) c.args.m.now = module_rule_met c.args.m.now SymbolTwice c.in_ok-first_break.field-0 below_symbol_twice c.in_ok-first_break.ensures.found (sym c.met-2.ensures ∙ c.in_ok-met-2.was) in
    module_rule_ok c.args.m.now TypeNames c.in_ok-first_break-2.field-0 c.met-3.result below_type_names c.in_ok-first_break-2.ensures.found c.met-3.ensures

pub returns-clause-fault : goal.returns-clause-fault
returns-clause-fault c =
    let below_symbol_twice : MeetsModuleRulesBelow (module_rule SymbolTwice) c.args.m.now = module_rule_met c.args.m.now Main c.first_break.result (no_module_rule c.args.m.now) c.first_break.ensures (sym c.met.ensures ∙ c.in_ok-met.was) in
    let below_type_names : MeetsModuleRulesBelow (module_rule TypeNames) c.args.m.now = module_rule_met c.args.m.now SymbolTwice c.in_ok-first_break.field-0 below_symbol_twice c.in_ok-first_break.ensures.found (sym c.met-2.ensures ∙ c.in_ok-met-2.was) in
    module_rule_err c.args.m.now TypeNames c.in_ok-first_break-2.field-0 c.met-3.result below_type_names c.in_ok-first_break-2.ensures.found c.met-3.ensures
