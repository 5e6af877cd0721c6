use Rattle.std.proofs.Common.{◌≡◌, false, sym, ap, ◌∙◌}
use Rattle.std.specs.List.{list_any}
use Rattle.flow_fold.specs.Settled.{is_decided}
use Rattle.flow_fold.proofs.Settled.{branches_stay}
use Rattle.flow_fold.proofs.branches.branches_pass.Goals as goal

pub returns-else-any_decided-clause-body : goal.returns-else-any_decided-clause-body
returns-else-any_decided-clause-body c =
    let none : list_any is_decided c.args.b.blocks ≡ false = ap (list_any is_decided) (sym c.as_slice.ensures) ∙ sym c.any_decided.ensures ∙ c.if-any_decided.false in
    branches_stay c.args.b none
