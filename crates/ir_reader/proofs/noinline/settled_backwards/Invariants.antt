use Rattle.std.proofs.Common.{◌≡◌, ◌++◌, map, reverse, length}
use Rattle.ir_grammar.specs.Entities.{function_of}
use Rattle.ir_reader.proofs.noinline.settled_backwards.Given as goal

abbrev pub invariant-loop-definition : goal.invariant-loop-definition
invariant-loop-definition l = map (function_of l.noinline) l.left ++ reverse l.funcs ≡ map (function_of l.noinline) l.initial.left

abbrev pub decreases-loop-definition : goal.decreases-loop-definition
decreases-loop-definition l = length l.left
