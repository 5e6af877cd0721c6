use Rattle.std.proofs.Common.{◌≡◌, drop, map}
use Rattle.module_rules.specs.Faults.{numbers_of, with_numbers}
use Rattle.site_inliner.specs.Parts.{label_number}
use Rattle.site_inliner.proofs.names.label_numbers.Given as goal

abbrev pub invariant-loop-block : goal.invariant-loop-block
invariant-loop-block l = with_numbers l.numbers (map label_number (drop l.block-index l.blocks)) ≡ numbers_of (map label_number l.blocks)
