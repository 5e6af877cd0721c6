use Rattle.std.proofs.Common.{sym, ◌∙◌}
use Rattle.module_rules.proofs.MainLaws.{main_good, main_broken}
use Rattle.module_rules.proofs.has_main.first_break.Goals as goal

pub returns-then-has_main : goal.returns-then-has_main
returns-then-has_main c = main_good c.args.m.now (sym c.has_main.ensures ∙ c.if-has_main.true)

pub returns : goal.returns
returns c = main_broken c.args.m.now (sym c.has_main.ensures ∙ c.if-has_main.false)
