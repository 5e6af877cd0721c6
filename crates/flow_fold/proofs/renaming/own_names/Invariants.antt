use Rattle.std.proofs.Common.{◌≡◌, ℕ, length}
use Rattle.flow_fold.specs.Merges.{name_in}
use Rattle.flow_fold.proofs.renaming.own_names.Given as goal

abbrev pub invariant-loop-b : goal.invariant-loop-b
invariant-loop-b l = record {
  long : length l.names.items ≡ l.b;
  names : (b : ℕ) → name_in l.names.items b ≡ b;
}
