use Rattle.std.proofs.Common.{◌≡◌, ◌++◌, drop}
use Rattle.site_inliner.specs.Placed.{counted}
use Rattle.site_inliner.proofs.tables.param_regs.Given as goal

abbrev pub invariant-loop-param : goal.invariant-loop-param
invariant-loop-param l = l.regs.items ++ counted l.reg (drop l.param-index l.params) ≡ counted l.first l.params
