use Rattle.std.proofs.Common.{ℕ, List, length}
use Rattle.inline_certificate.proofs.MapReading.{InMap}
use Rattle.inline_certificate.proofs.map_lines.map_end.Given as goal

abbrev pub invariant-lines : goal.invariant-lines
invariant-lines l = (before : List (List ℕ)) × InMap l.bytes l.at l.lines l.rest before

abbrev pub decreases-lines : goal.decreases-lines
decreases-lines l = length l.rest
