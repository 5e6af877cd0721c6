use Rattle.std.proofs.Common.{◌≡◌, drop, map}
use Rattle.ir_core.specs.ValidConsts.{const_index}
use Rattle.module_rules.specs.Walks.{walks_into}
use Rattle.module_rules.proofs.walk.const_walks_into.Given as goal

abbrev pub invariant-loop-index : goal.invariant-loop-index
invariant-loop-index l = walks_into l.defs l.at (map const_index (drop l.index-index l.indices)) ≡ walks_into l.defs l.fn.source (map const_index l.indices)
