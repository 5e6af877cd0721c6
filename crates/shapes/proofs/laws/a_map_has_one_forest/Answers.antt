use Rattle.shapes.proofs.Forests.{one_forest}
use Rattle.shapes.proofs.laws.a_map_has_one_forest.Goals as goal

pub returns : goal.returns
returns c = one_forest
