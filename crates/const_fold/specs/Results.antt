-- The fact of what was folded.
use Rattle.std.specs.Prelude.{Option, Some, None}
use Rattle.ir_core.specs.declared.flat.FlatOp.{FlatOp}
use Rattle.ir_core.specs.declared.flat.FlatOp.TheVariants as operand
use Rattle.ir_meaning.specs.declared.fold.Folded.{Folded}
use Rattle.ir_meaning.specs.declared.fold.Folded.TheVariants.{Word, Unfolded}

abbrev pub folded_fact : Folded → Option FlatOp
folded_fact (Word a) = Some (operand.Word a)
folded_fact Unfolded = None
