use Rattle.std.proofs.Common.{ℕ, sym, ◌∙◌}
use Rattle.std.specs.Prelude.{◌==◌}
use Rattle.decisions.proofs.LineSplits.{position_some, position_none}
use Rattle.decisions.proofs.text_lines.place_of_byte.Goals as goal

pub returns-in-Some-clause-place : goal.returns-in-Some-clause-place
returns-in-Some-clause-place c = position_some (λ (b : ℕ). b == c.args.byte) c.args.bytes.now _ (sym c.in-Some.is ∙ c.first_place.ensures.place)

pub returns-in-None-clause-place : goal.returns-in-None-clause-place
returns-in-None-clause-place c = position_none (λ (b : ℕ). b == c.args.byte) c.args.bytes.now (sym c.in-None.is ∙ c.first_place.ensures.place)
