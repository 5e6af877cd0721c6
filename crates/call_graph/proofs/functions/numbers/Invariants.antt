use Rattle.std.proofs.Common.{◌≡◌, ℕ, ◌≤◌, length, drop}
use Rattle.std.specs.List.{position_from}
use Rattle.std.specs.Option.{option_map}
use Rattle.ir_core.specs.declared.module.SymId.{SymId}
use Rattle.call_graph.specs.Sites.{is_named}
use Rattle.call_graph.specs.Table.{number_at}
use Rattle.call_graph.proofs.functions.numbers.Given as goal

abbrev pub invariant-loop-at : goal.invariant-loop-at
invariant-loop-at l = record {
  within : l.at ≤ length l.funcs;
  positions : (s : SymId) → number_at l.table.items s.0 ≡ option_map (λ (n : ℕ). record { 0 = n }) (position_from (is_named s) l.at (drop l.at l.funcs));
}

abbrev pub decreases-loop-at : goal.decreases-loop-at
decreases-loop-at l = l.at
