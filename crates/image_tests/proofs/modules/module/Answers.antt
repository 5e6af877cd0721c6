use Rattle.ir_proper.proofs.ReadIsProper.{read_with_few_sites}
use Rattle.image_tests.proofs.modules.module.Goals as goal

pub verify-requires : goal.verify-requires
verify-requires c = record { proper = read_with_few_sites c.as_bytes.result.now c.in-Ok.m c.in-Ok.ensures.0 c.in-Ok.ensures.1 }
