use Rattle.std.proofs.Common.{◌≡◌, drop, map}
use Rattle.ir_core.specs.ValidConsts.{index_of}
use Rattle.module_rules.specs.Walks.{walks_into}
use Rattle.module_rules.proofs.walk.walks_into.Given as goal

abbrev pub invariant-loop-index : goal.invariant-loop-index
invariant-loop-index l = walks_into l.defs l.at (map index_of (drop l.index-index l.indices)) ≡ walks_into l.defs l.fn.source (map index_of l.indices)
