use Rattle.std.proofs.Common.{◌≡◌, drop}
use Rattle.std.specs.List.{list_any}
use Rattle.const_fold.specs.Shortening.{shortens}
use Rattle.const_fold.proofs.shortening.code_shortens.Given as goal

abbrev pub invariant-loop-instr : goal.invariant-loop-instr
invariant-loop-instr l = list_any shortens (drop l.instr-index l.code) ≡ list_any shortens l.code
