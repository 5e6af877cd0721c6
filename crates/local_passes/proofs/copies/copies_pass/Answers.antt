use Rattle.std.proofs.Common.{◌≡◌, false, sym, ap, ◌∙◌}
use Rattle.std.specs.List.{list_any}
use Rattle.local_passes.specs.CopyTables.{block_copies}
use Rattle.local_passes.proofs.NoCopies.{body_same}
use Rattle.local_passes.proofs.copies.copies_pass.Goals as goal

pub returns-else-any_copies-clause-body : goal.returns-else-any_copies-clause-body
returns-else-any_copies-clause-body c =
    let none : list_any block_copies c.args.b.blocks ≡ false = ap (list_any block_copies) (sym c.as_slice.ensures) ∙ sym c.any_copies.ensures ∙ c.if-any_copies.false in
    body_same c.args.b none
