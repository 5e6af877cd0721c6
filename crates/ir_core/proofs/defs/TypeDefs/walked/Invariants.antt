use Rattle.std.proofs.Common.{◌≡◌, ◌-◌, length}
use Rattle.ir_core.specs.Sizes.{resolved}
use Rattle.ir_core.proofs.defs.TypeDefs.walked.Given as goal

abbrev pub invariant-loop : goal.invariant-loop
invariant-loop l = resolved (length l.self - l.counter) l.self l.stripped ≡ resolved (length l.self) l.self l.t
