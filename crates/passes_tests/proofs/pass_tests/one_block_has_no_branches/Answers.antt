use Rattle.passes_tests.proofs.SampleFormed.{well_formed}
use Rattle.passes_tests.proofs.pass_tests.one_block_has_no_branches.Goals as goal

pub fold_branches-requires : goal.fold_branches-requires
fold_branches-requires g c = record { formed = well_formed c.in_ok-sample.field-0 c.in_ok-sample.ensures }

pub drop_unreached-requires : goal.drop_unreached-requires
drop_unreached-requires g c = record { formed = well_formed c.in_ok-sample-2.field-0 c.in_ok-sample-2.ensures }

pub merge_blocks-requires : goal.merge_blocks-requires
merge_blocks-requires g c = record { formed = well_formed c.in_ok-sample-3.field-0 c.in_ok-sample-3.ensures }
