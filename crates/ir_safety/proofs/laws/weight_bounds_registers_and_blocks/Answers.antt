use Rattle.ir_safety.proofs.FewNumbers.{numbers_within}
use Rattle.ir_safety.proofs.laws.weight_bounds_registers_and_blocks.Goals as goal

pub returns-clause-registers : goal.returns-clause-registers
returns-clause-registers c m f proper = (numbers_within m f proper).0

pub returns-clause-blocks : goal.returns-clause-blocks
returns-clause-blocks c m f proper = (numbers_within m f proper).1
