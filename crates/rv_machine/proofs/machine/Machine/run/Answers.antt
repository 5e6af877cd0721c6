use Rattle.std.proofs.Common.{rules, ◌≡◌, ◌≢◌, ◌≤◌, ◌∙◌, ap, sym, subst, arith}
use Rattle.std.specs.Fn.{iterate}
use Rattle.rv_machine.specs.State.{Stands, turned}
use Rattle.rv_machine.specs.declared.stop.Stop.TheVariants.{Running}
use Rattle.rv_machine.proofs.TurnLaws.{Counts, counts, one_more, stands_turned, stays_stopped}
use Rattle.rv_machine.proofs.machine.Machine.run.Goals as goal

pub returns-then-not-is_running-clause-turns : goal.returns-then-not-is_running-clause-turns
returns-then-not-is_running-clause-turns c = λ s b h.
    let stopped : c.loop-turn.self.stop ≢ Running = search rules in
    let at_most : c.loop-turn._turn ≤ c.args.turns = omega arith in
    stays_stopped s c.loop-turn.self c.loop-turn._turn c.args.turns b at_most stopped (c.loop-turn.invariant.stands s b h)

pub loop-turn-preserved : goal.loop-turn-preserved
loop-turn-preserved c =
    let running : c.loop-turn.self.stop ≡ Running = search rules in
    let more : Counts c.loop-turn.self c.turn.new.self = counts _ _ _ c.turn.ensures.turn in
    let so_far = c.loop-turn.invariant.each running in
    record {
      stands = λ s b h. subst (Stands s c.turn.new.self) (one_more s c.loop-turn._turn b) (stands_turned s c.loop-turn.self c.turn.new.self _ running c.turn.ensures.keeps c.turn.ensures.turn (c.loop-turn.invariant.stands s b h));
      at_most = let most = more.at_most in omega arith;
      stays = λ stopped. let same = c.loop-turn.invariant.stays stopped in absurd (stopped (ap (λ st. st.stop) (sym same) ∙ running));
      each = λ is. let one = more.running is in omega arith;
    }

pub returns-clause-turns : goal.returns-clause-turns
returns-clause-turns c = λ s b h.
    let all : c.loop-turn._turn ≡ c.args.turns = omega arith in
    subst (λ n. Stands s c.loop-turn.self (iterate (turned s) n b)) all (c.loop-turn.invariant.stands s b h)
