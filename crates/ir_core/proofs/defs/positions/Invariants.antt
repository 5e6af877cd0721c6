use Rattle.std.proofs.Common.{◌≡◌, ℕ, ◌≤◌, length, drop}
use Rattle.std.specs.List.{position_from}
use Rattle.ir_core.specs.Sizes.{is_named}
use Rattle.ir_core.specs.Known.{name_at, position_in, HasNoLayouts}
use Rattle.ir_core.proofs.defs.positions.Given as goal

abbrev pub invariant-loop-at : goal.invariant-loop-at
invariant-loop-at l = record {
  within : l.at ≤ length l.defs;
  positions : (x : ℕ) → position_in (name_at l.table.items x) ≡ position_from (is_named x) l.at (drop l.at l.defs);
  no_layouts : HasNoLayouts l.table.items;
}

abbrev pub decreases-loop-at : goal.decreases-loop-at
decreases-loop-at l = l.at
