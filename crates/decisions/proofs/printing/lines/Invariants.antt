use Rattle.std.proofs.Common.{◌≡◌, take}
use Rattle.std.specs.Prelude.{zip}
use Rattle.decisions.specs.Text.{text_of}
use Rattle.decisions.proofs.printing.lines.Given as goal

abbrev pub invariant-loop-at : goal.invariant-loop-at
invariant-loop-at l = l.text.items ≡ text_of (take l.at (zip l.sites l.labels))
