use Rattle.std.proofs.Common.{◌≡◌, map, take}
use Rattle.local_passes.specs.CopyTables.{source_in}
use Rattle.local_passes.specs.LocalCopies.{from_source}
use Rattle.local_passes.proofs.sources.args_from_source.Given as goal

abbrev pub invariant-loop-arg : goal.invariant-loop-arg
invariant-loop-arg l = l.new ≡ map (from_source (source_in l.table.definitions.items l.span.start l.span.end)) (take l.arg-index l.args)
