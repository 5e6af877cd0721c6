use Rattle.std.proofs.Common.{◌≡◌, drop}
use Rattle.ir_core.specs.declared.opcodes.TheConstants.{CMPS}
use Rattle.ir_core.specs.Opcodes.{order_text, with_words, order_words, named}
use Rattle.ir_core.proofs.flat.Cmp.from_text.Given as goal

abbrev pub invariant-loop-cmp : goal.invariant-loop-cmp
invariant-loop-cmp l = named order_words l.word ≡ named (with_words order_text (drop l.cmp-index CMPS)) l.word
