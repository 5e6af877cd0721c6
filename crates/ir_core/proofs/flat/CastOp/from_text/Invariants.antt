use Rattle.std.proofs.Common.{◌≡◌, drop}
use Rattle.ir_core.specs.declared.opcodes.TheConstants.{CAST_OPS}
use Rattle.ir_core.specs.Opcodes.{cast_text, with_words, cast_words, named}
use Rattle.ir_core.proofs.flat.CastOp.from_text.Given as goal

abbrev pub invariant-loop-op : goal.invariant-loop-op
invariant-loop-op l = named cast_words l.word ≡ named (with_words cast_text (drop l.op-index CAST_OPS)) l.word
