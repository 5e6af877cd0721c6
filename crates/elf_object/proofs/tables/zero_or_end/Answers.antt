use Rattle.std.proofs.Common.{sym, ◌∙◌}
use Rattle.elf_object.proofs.TableSteps.{position_is, no_position}
use Rattle.elf_object.proofs.tables.zero_or_end.Goals as goal

pub returns-in-Some-clause-place : goal.returns-in-Some-clause-place
returns-in-Some-clause-place c = position_is _ c.args.bytes.now c.in-Some.place (sym c.zero_place.ensures ∙ c.in-Some.is)

pub returns-in-None-clause-place : goal.returns-in-None-clause-place
returns-in-None-clause-place c = no_position _ c.args.bytes.now (sym c.zero_place.ensures ∙ c.in-None.is)
