use Rattle.std.proofs.Common.{◌≡◌, drop}
use Rattle.std.specs.List.{list_any}
use Rattle.module_rules.specs.HasMain.{is_good_main}
use Rattle.module_rules.proofs.has_main.has_main.Given as goal

abbrev pub invariant-loop-func : goal.invariant-loop-func
invariant-loop-func l = list_any (is_good_main l.m) (drop l.func-index l.m.funcs) ≡ list_any (is_good_main l.m) l.m.funcs
