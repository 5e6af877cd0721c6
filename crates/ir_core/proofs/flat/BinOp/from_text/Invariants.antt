use Rattle.std.proofs.Common.{◌≡◌, drop}
use Rattle.ir_core.specs.declared.opcodes.TheConstants.{BIN_OPS}
use Rattle.ir_core.specs.Opcodes.{bin_text, with_words, bin_words, named}
use Rattle.ir_core.proofs.flat.BinOp.from_text.Given as goal

abbrev pub invariant-loop-op : goal.invariant-loop-op
invariant-loop-op l = named bin_words l.word ≡ named (with_words bin_text (drop l.op-index BIN_OPS)) l.word
