use Rattle.std.proofs.Common.{◌≡◌, map, take, zip}
use Rattle.component_split.specs.Over.{func_numbers, site_numbers}
use Rattle.component_split.proofs.parts.sets_of.Given as goal

abbrev pub invariant-loop-at : goal.invariant-loop-at
invariant-loop-at l = l.parts.items ≡ take l.at (zip (map func_numbers l.funcs) (map site_numbers l.sites))
