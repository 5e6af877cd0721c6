use Rattle.std.proofs.Common.{◌≡◌, ℕ, true, take, length}
use Rattle.std.specs.Prelude.{slice_index}
use Rattle.component_split.specs.Graph.{has}
use Rattle.component_split.specs.Over.{func_numbers}
use Rattle.component_split.proofs.choice.clear.Given as goal

abbrev pub invariant-loop-f : goal.invariant-loop-f
invariant-loop-f l = record {
  zero : (x : ℕ) → has (func_numbers (take l.f-index l.funcs)) x ≡ true → slice_index l.degrees.items x ≡ 0;
  room : length l.degrees.items ≡ length l.fn.degrees.items;
}
