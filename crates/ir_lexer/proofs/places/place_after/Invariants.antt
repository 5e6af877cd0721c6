use Rattle.std.proofs.Common.{◌≡◌, ◌+◌, ◌≤◌, take}
use Rattle.ir_lexer.specs.Places.{place_after}
use Rattle.ir_lexer.proofs.places.place_after.Given as goal

abbrev pub invariant-loop-b : goal.invariant-loop-b
invariant-loop-b l = (l.place ≡ place_after l.fn.place (take l.b-index l.bytes)) × (l.place.line ≤ l.fn.place.line + l.b-index) × (l.place.column ≤ l.fn.place.column + l.b-index)
