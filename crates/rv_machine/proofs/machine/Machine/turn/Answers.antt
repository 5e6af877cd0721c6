use Rattle.std.proofs.Common.{sym, ◌∙◌}
use Rattle.rv_machine.proofs.TurnLaws.{turn_ok, turn_err}
use Rattle.rv_machine.proofs.machine.Machine.turn.Goals as goal

pub returns-in-Ok-clause-turn : goal.returns-in-Ok-clause-turn
returns-in-Ok-clause-turn c = turn_ok c.args.self.now _ _ c.in-Ok.instruction c.self.view_is c.requires.running (sym c.in-Ok.is ∙ c.fetch.ensures.value) c.execute.ensures.turn

pub returns-in-Err-clause-turn : goal.returns-in-Err-clause-turn
returns-in-Err-clause-turn c = turn_err c.args.self.now _ _ c.in-Err.stop c.self.view_is c.requires.running (sym c.in-Err.is ∙ c.fetch.ensures.value) c.halt.ensures.turn
