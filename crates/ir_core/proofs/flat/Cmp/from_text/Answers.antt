use Rattle.std.proofs.Common.{◌∙◌, arith}
use Rattle.ir_core.specs.declared.opcodes.TheConstants.{CMPS}
use Rattle.ir_core.specs.Opcodes.{order_text}
use Rattle.ir_core.proofs.Searched.{named_next}
use Rattle.ir_core.proofs.flat.Cmp.from_text.Goals as goal

pub loop-cmp-preserved : goal.loop-cmp-preserved
loop-cmp-preserved c =
    c.loop-cmp.invariant
    ∙ named_next order_text CMPS c.loop-cmp.cmp-index _ c.args.word.now _ c.text.result.now c.as_bytes.result.now c.eq.result (omega arith) c.loop-cmp-test.true c.text.ensures c.as_bytes.ensures.value c.eq.ensures c.if-eq.false
