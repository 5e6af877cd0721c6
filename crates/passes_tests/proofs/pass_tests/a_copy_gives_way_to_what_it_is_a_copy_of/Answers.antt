use Rattle.passes_tests.proofs.SampleFormed.{well_formed}
use Rattle.passes_tests.proofs.pass_tests.a_copy_gives_way_to_what_it_is_a_copy_of.Goals as goal

pub local_copies-requires : goal.local_copies-requires
local_copies-requires g c = record { formed = well_formed c.in_ok-sample.field-0 c.in_ok-sample.ensures }
