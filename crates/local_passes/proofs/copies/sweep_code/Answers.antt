use Rattle.std.proofs.Common.{◌≡◌, false, sym, ap, ◌∙◌}
use Rattle.std.specs.List.{list_any}
use Rattle.local_passes.specs.CopyTables.{copies_register}
use Rattle.local_passes.proofs.NoCopies.{code_same, idle_sources}
use Rattle.local_passes.proofs.copies.sweep_code.Goals as goal

pub returns-else-has_copies-clause-code : goal.returns-else-has_copies-clause-code
returns-else-has_copies-clause-code c =
    let none : list_any copies_register c.args.code.now ≡ false = ap (list_any copies_register) (sym c.as_slice.ensures) ∙ sym c.has_copies.ensures ∙ c.if-has_copies.false in
    code_same c.args.code.now none

pub returns-else-has_copies-clause-sources : goal.returns-else-has_copies-clause-sources
returns-else-has_copies-clause-sources c =
    let none : list_any copies_register c.args.code.now ≡ false = ap (list_any copies_register) (sym c.as_slice.ensures) ∙ sym c.has_copies.ensures ∙ c.if-has_copies.false in
    idle_sources c.args.code.now none c.args.table.now
