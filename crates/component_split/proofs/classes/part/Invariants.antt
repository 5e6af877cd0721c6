use Rattle.std.proofs.Common.{◌≡◌, length}
use Rattle.component_split.specs.Classes.{AreApart}
use Rattle.component_split.proofs.classes.part.Given as goal

abbrev pub invariant-loop-k : goal.invariant-loop-k
invariant-loop-k l = record {
  apart : AreApart l.k l.parents.items;
  count : length l.parents.items ≡ length l.fn.parents.items;
}
