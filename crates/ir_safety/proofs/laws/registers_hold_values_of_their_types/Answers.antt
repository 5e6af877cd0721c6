use Rattle.ir_safety.proofs.TypedRuns.{registers_hold, memory_holds}
use Rattle.ir_safety.proofs.laws.registers_hold_values_of_their_types.Goals as goal

pub returns-clause-registers : goal.returns-clause-registers
returns-clause-registers c p types funcs formed input small n = registers_hold p types funcs formed input small n

pub returns-clause-memory : goal.returns-clause-memory
returns-clause-memory c p types funcs formed input small n = memory_holds p types funcs formed input small n
