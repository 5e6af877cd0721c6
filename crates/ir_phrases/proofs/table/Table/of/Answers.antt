use Rattle.ir_phrases.proofs.Numbered.{among_step}
use Rattle.ir_phrases.proofs.table.Table.of.Goals as goal

pub loop-name-preserved : goal.loop-name-preserved
loop-name-preserved c = among_step c.args.names.now c.loop-name.name-index c.name-item.result c.as_slice.result.now c.loop-name.table c.see.new.self c.loop-name-test.true c.name-item.is c.as_slice.ensures c.in_ok-see.ensures.names c.loop-name.invariant
