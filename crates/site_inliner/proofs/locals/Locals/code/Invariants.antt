use Rattle.std.proofs.Common.{◌≡◌, ◌++◌, drop}
use Rattle.std.specs.List.{filter_map}
use Rattle.site_inliner.specs.Parts.{instr_row}
use Rattle.site_inliner.proofs.locals.Locals.code.Given as goal

abbrev pub invariant-loop-instr : goal.invariant-loop-instr
invariant-loop-instr l = l.code ++ filter_map (instr_row l.self) (drop l.instr-index l.source) ≡ filter_map (instr_row l.self) l.source
