use Rattle.rv_machine.proofs.Places.{bytes-at_load}
use Rattle.rv_machine.proofs.memory.Memory.at_load.Goals as goal

pub returns-clause-bytes : goal.returns-clause-bytes
returns-clause-bytes c = bytes-at_load _ c.in_ok-stack.ensures.zeros
