use Rattle.std.proofs.Common.{◌≡◌, replicate, []}
use Rattle.component_split.proofs.parts.empty_lists.Given as goal

abbrev pub invariant-loop-head : goal.invariant-loop-head
invariant-loop-head g l = l.lists.items ≡ replicate l.head []
