use Rattle.std.proofs.Common.{arith}
use Rattle.inline_certificate.proofs.Runs.{is_none}
use Rattle.inline_certificate.proofs.places.Places.is_empty.Goals as goal

pub returns : goal.returns
returns c = rw (← c.self.view_is) (is_none c.self.inside.runs.items _ c.is_empty.result (omega arith) c.self.invariant c.is_empty.ensures)
