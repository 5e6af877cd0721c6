use Rattle.std.proofs.Common.{◌≡◌, drop}
use Rattle.std.specs.List.{list_any}
use Rattle.flow_fold.specs.Settled.{is_decided}
use Rattle.flow_fold.proofs.branches.any_decided.Given as goal

abbrev pub invariant-loop-block : goal.invariant-loop-block
invariant-loop-block l = list_any is_decided (drop l.block-index l.blocks) ≡ list_any is_decided l.blocks
