use Rattle.ir_proper.proofs.ReadIsProper.{read_with_few_sites}
use Rattle.ir_tests.proofs.verifier_tests.told.Goals as goal

pub verify-requires : goal.verify-requires
verify-requires c = record { proper = read_with_few_sites c.args.text.now c.in-Ok.m c.in-Ok.ensures.0 c.in-Ok.ensures.1 }
