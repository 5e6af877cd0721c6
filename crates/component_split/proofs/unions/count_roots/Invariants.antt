use Rattle.std.proofs.Common.{◌≡◌, ◌≤◌}
use Rattle.component_split.specs.Classes.{own_parents}
use Rattle.component_split.proofs.unions.count_roots.Given as goal

abbrev pub invariant-loop-at : goal.invariant-loop-at
invariant-loop-at l = (l.count ≡ own_parents l.parents l.at) × (l.count ≤ l.at)
