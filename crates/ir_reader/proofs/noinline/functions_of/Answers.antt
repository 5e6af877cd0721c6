use Rattle.ir_reader.proofs.Settled.{settled_as}
use Rattle.ir_reader.proofs.noinline.functions_of.Goals as goal

pub returns : goal.returns
returns c = rw (settled_as c.in_ok-groups.groups c.as_slice.result.now c.args.noinline c.in_ok-backwards.backwards c.args.definitions c.in_ok-groups.ensures c.as_slice.ensures c.in_ok-backwards.ensures) c.turned.ensures
