use Rattle.std.proofs.Common.{◌≡◌, drop}
use Rattle.std.specs.List.{list_any}
use Rattle.local_passes.proofs.pipeline.any_changed.Given as goal

abbrev pub invariant-loop-flag : goal.invariant-loop-flag
invariant-loop-flag l = list_any (λ t. t) (drop l.flag-index l.flags) ≡ list_any (λ t. t) l.flags
