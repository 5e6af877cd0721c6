use Rattle.std.proofs.Common.{◌≡◌, take}
use Rattle.std.specs.List.{fold}
use Rattle.const_fold.specs.FoldConstants.{block_noted, no_facts}
use Rattle.const_fold.specs.FactTables.{facts_in}
use Rattle.const_fold.proofs.sweep.all_facts.Given as goal

abbrev pub invariant-loop-block : goal.invariant-loop-block
invariant-loop-block l = facts_in l.facts ≡ fold block_noted no_facts (take l.block-index l.blocks)
