use Rattle.std.proofs.Common.{◌≡◌, ◌≢◌, ◌+◌, ◌≤◌}
use Rattle.std.specs.Fn.{iterate}
use Rattle.rv_isa.specs.Memory.{Segments}
use Rattle.rv_machine.specs.State.{Bounded, Stands, turned}
use Rattle.rv_machine.specs.declared.stop.Stop.TheVariants.{Running}
use Rattle.rv_machine.proofs.machine.Machine.run.Given as goal

abbrev pub invariant-loop-turn : goal.invariant-loop-turn
invariant-loop-turn l = record {
  stands : (s : Segments) (b : Bounded) → Stands s l.fn.self b → Stands s l.self (iterate (turned s) l._turn b);
  at_most : l.self.steps ≤ l.fn.self.steps + l._turn;
  stays : l.fn.self.stop ≢ Running → l.self ≡ l.fn.self;
  each : l.self.stop ≡ Running → l.self.steps ≡ l.fn.self.steps + l._turn;
}
