use Rattle.std.proofs.Common.{◌∙◌, arith}
use Rattle.ir_core.specs.declared.opcodes.TheConstants.{BIN_OPS}
use Rattle.ir_core.specs.Opcodes.{bin_text}
use Rattle.ir_core.proofs.Searched.{named_next}
use Rattle.ir_core.proofs.flat.BinOp.from_text.Goals as goal

pub loop-op-preserved : goal.loop-op-preserved
loop-op-preserved c =
    c.loop-op.invariant
    ∙ named_next bin_text BIN_OPS c.loop-op.op-index _ c.args.word.now _ c.text.result.now c.as_bytes.result.now c.eq.result (omega arith) c.loop-op-test.true c.text.ensures c.as_bytes.ensures.value c.eq.ensures c.if-eq.false
