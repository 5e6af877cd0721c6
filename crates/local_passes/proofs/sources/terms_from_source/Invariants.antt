use Rattle.std.proofs.Common.{◌≡◌, map, take}
use Rattle.const_fold.specs.Operands.{with_operand}
use Rattle.local_passes.specs.CopyTables.{source_in}
use Rattle.local_passes.specs.LocalCopies.{from_source}
use Rattle.local_passes.proofs.sources.terms_from_source.Given as goal

abbrev pub invariant-loop-term : goal.invariant-loop-term
invariant-loop-term l = l.new ≡ map (with_operand (from_source (source_in l.table.definitions.items l.span.start l.span.end))) (take l.term-index l.terms)
