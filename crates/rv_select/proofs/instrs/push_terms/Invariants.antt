use Rattle.std.proofs.Common.{◌≡◌, ◌++◌, drop}
use Rattle.std.specs.List.{flat_map}
use Rattle.rv_select.specs.Lowered.{term}
use Rattle.rv_select.proofs.instrs.push_terms.Given as goal

abbrev pub invariant-loop-t : goal.invariant-loop-t
invariant-loop-t l = l.code ++ flat_map (term l.f) (drop l.t-index l.terms) ≡ l.fn.code ++ flat_map (term l.f) l.terms
