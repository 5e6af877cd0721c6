use Rattle.std.proofs.Common.{◌≡◌, ◌++◌, drop}
use Rattle.std.specs.List.{filter_map}
use Rattle.site_inliner.specs.Parts.{instr_phi}
use Rattle.site_inliner.proofs.locals.Locals.phis.Given as goal

abbrev pub invariant-loop-instr : goal.invariant-loop-instr
invariant-loop-instr l = l.phis ++ filter_map (instr_phi l.self) (drop l.instr-index l.source) ≡ filter_map (instr_phi l.self) l.source
