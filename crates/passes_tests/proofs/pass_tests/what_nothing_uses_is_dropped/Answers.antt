use Rattle.passes_tests.proofs.SampleFormed.{well_formed}
use Rattle.passes_tests.proofs.pass_tests.what_nothing_uses_is_dropped.Goals as goal

pub drop_dead-requires : goal.drop_dead-requires
drop_dead-requires g c = record { formed = well_formed c.in_ok-sample.field-0 c.in_ok-sample.ensures }
