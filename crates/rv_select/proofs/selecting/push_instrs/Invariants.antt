use Rattle.std.proofs.Common.{◌≡◌, ◌++◌, drop}
use Rattle.std.specs.List.{flat_map}
use Rattle.rv_select.specs.Lowered.{instr}
use Rattle.rv_select.proofs.selecting.push_instrs.Given as goal

abbrev pub invariant-loop-i : goal.invariant-loop-i
invariant-loop-i l = l.code ++ flat_map (instr l.f) (drop l.i-index l.instrs) ≡ l.fn.code ++ flat_map (instr l.f) l.instrs
