use Rattle.std.proofs.Common.{◌≡◌, ◌++◌, drop}
use Rattle.std.specs.List.{flat_map}
use Rattle.rv_select.specs.Lowered.{numbers, give_phis}
use Rattle.rv_select.proofs.ends.push_before_end.Given as goal

abbrev pub invariant-loop-to : goal.invariant-loop-to
invariant-loop-to l = l.code ++ flat_map (give_phis l.f l.blocks l.n) (numbers (drop l.to-index l.to-items)) ≡ l.fn.code ++ flat_map (give_phis l.f l.blocks l.n) (numbers l.to-items)
