use Rattle.oi_base.proofs.Simulation.{simulated}
use Rattle.oi_base.proofs.matching.a_simulation_shows_each_run_in_the_other.Goals as goal

pub returns : goal.returns
returns g c = let s = g.S.TurnByTurn in λ a b h. simulated s.go_source s.go_target s.stands s.meets s.broken s.stopped s.left s.is_undefined s.simulates a b h
