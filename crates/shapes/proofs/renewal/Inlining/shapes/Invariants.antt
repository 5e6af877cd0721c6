use Rattle.shapes.specs.Standing.{values}
use Rattle.shapes.proofs.Tables.{Tables}
use Rattle.shapes.proofs.renewal.Inlining.shapes.Given as goal

abbrev pub invariant-loop-old : goal.invariant-loop-old
invariant-loop-old g l = Tables l.m l.self l.old-index (values l.table.items) l.renewals.items l.fn.made l.made
