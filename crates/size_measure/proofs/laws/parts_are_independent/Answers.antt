use Rattle.size_measure.proofs.Independent.{bodies_same, sizes_same, kept_same, part_same}
use Rattle.size_measure.proofs.laws.parts_are_independent.Goals as goal

pub returns-clause-bodies : goal.returns-clause-bodies
returns-clause-bodies c = bodies_same

pub returns-clause-sizes : goal.returns-clause-sizes
returns-clause-sizes c = sizes_same

pub returns-clause-kept : goal.returns-clause-kept
returns-clause-kept c = kept_same

pub returns-clause-parts : goal.returns-clause-parts
returns-clause-parts c = part_same
