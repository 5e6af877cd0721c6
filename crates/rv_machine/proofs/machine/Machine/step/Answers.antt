use Rattle.std.proofs.Common.{rules, ◌≡◌, ◌≢◌}
use Rattle.rv_machine.specs.declared.stop.Stop.TheVariants.{Running}
use Rattle.rv_machine.proofs.TurnLaws.{counts, stands_turned, stands_stopped}
use Rattle.rv_machine.proofs.machine.Machine.step.Goals as goal

pub returns-then-not-is_running-clause-turn : goal.returns-then-not-is_running-clause-turn
returns-then-not-is_running-clause-turn c = λ s b h.
    let stopped : c.args.self.now.stop ≢ Running = search rules in
    stands_stopped s c.args.self.now b stopped h

pub returns-clause-turn : goal.returns-clause-turn
returns-clause-turn c = λ s b h.
    let running : c.args.self.now.stop ≡ Running = search rules in
    stands_turned s c.args.self.now c.turn.new.self b running c.turn.ensures.keeps c.turn.ensures.turn h

pub returns-clause-steps : goal.returns-clause-steps
returns-clause-steps c = (counts c.args.self.now c.turn.new.self _ c.turn.ensures.turn).at_most
