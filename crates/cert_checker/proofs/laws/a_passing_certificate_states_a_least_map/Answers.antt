use Rattle.cert_checker.proofs.LeastMaps.{passing_is_least}
use Rattle.cert_checker.proofs.laws.a_passing_certificate_states_a_least_map.Goals as goal

pub returns-clause-size : goal.returns-clause-size
returns-clause-size c m g cert passes = passes.map_size

pub returns-clause-least : goal.returns-clause-least
returns-clause-least c = passing_is_least
