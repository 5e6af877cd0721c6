use Rattle.std.proofs.Common.{sym, ◌∙◌}
use Rattle.module_rules.proofs.TargetLaws.{target_good, target_broken}
use Rattle.module_rules.proofs.target.first_break.Goals as goal

pub returns-then-has_good_target : goal.returns-then-has_good_target
returns-then-has_good_target c = record { found = target_good c.args.m.now (sym c.has_good_target.ensures ∙ c.if-has_good_target.true) }

pub returns : goal.returns
returns c = record { found = target_broken c.args.m.now (sym c.has_good_target.ensures ∙ c.if-has_good_target.false) }
