use Rattle.std.proofs.Common.{◌≡◌, ap}
use Rattle.shapes.specs.Standing.{Trees, values}
use Rattle.shapes.proofs.SameSites.{kept_forest}
use Rattle.shapes.proofs.forest.Forest.keep.Goals as goal

pub returns-clause-forest : goal.returns-clause-forest
returns-clause-forest c = λ m g h.
    let same : values c.in_ok-clone.field-0.value.items ≡ c.args.self.now.trees = rw c.in_ok-clone.ensures.cases (ap Trees.trees c.self.view_is) in
    rw same (kept_forest m g c.args.self.now c.in_ok-labelled.field-0 c.args.s h c.requires.undecided c.in_ok-labelled.ensures)
