use Rattle.std.proofs.Common.{◌≡◌, ◌<◌, ℕ, length, get_or}
use Rattle.component_split.proofs.classes.numbers.Given as goal

abbrev pub invariant-loop-n : goal.invariant-loop-n
invariant-loop-n l = (length l.numbers.items ≡ l.n) × ((k : ℕ) → k < l.n → get_or l.numbers.items k 0 ≡ k)
