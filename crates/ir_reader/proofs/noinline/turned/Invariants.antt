use Rattle.std.proofs.Common.{◌≡◌, ◌++◌, reverse, length}
use Rattle.ir_reader.proofs.noinline.turned.Given as goal

abbrev pub invariant-loop-func : goal.invariant-loop-func
invariant-loop-func l = l.turned ++ reverse l.left ≡ reverse l.initial.left

abbrev pub decreases-loop-func : goal.decreases-loop-func
decreases-loop-func l = length l.left
