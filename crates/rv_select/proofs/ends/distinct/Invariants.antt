use Rattle.std.proofs.Common.{◌≡◌, ◌++◌, ℕ, nat_eq, drop, []}
use Rattle.std.specs.HashSet.{contains}
use Rattle.rv_select.specs.Lowered.{numbers, is_in, distinct_from}
use Rattle.rv_select.proofs.ends.distinct.Given as goal

abbrev pub invariant-loop-block : goal.invariant-loop-block
invariant-loop-block l = record {
  blocks : numbers l.distinct.items ++ distinct_from (numbers l.distinct.items) (numbers (drop l.block-index l.blocks)) ≡ distinct_from [] (numbers l.blocks);
  seen : (x : ℕ) → contains nat_eq l.seen x ≡ is_in (numbers l.distinct.items) x;
}
