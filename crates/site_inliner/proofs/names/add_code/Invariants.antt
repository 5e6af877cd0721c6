use Rattle.std.proofs.Common.{◌≡◌, drop}
use Rattle.std.specs.List.{flat_map}
use Rattle.module_rules.specs.Faults.{with_numbers}
use Rattle.site_inliner.specs.Parts.{result_numbers}
use Rattle.site_inliner.proofs.names.add_code.Given as goal

abbrev pub invariant-loop-instr : goal.invariant-loop-instr
invariant-loop-instr l = with_numbers l.numbers (flat_map result_numbers (drop l.instr-index l.code)) ≡ with_numbers l.fn.numbers (flat_map result_numbers l.code)
