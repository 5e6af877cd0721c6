use Rattle.std.proofs.Common.{◌<◌, arith}
use Rattle.std.proofs.lemmas.List.Elements.{All-from_get_or}
use Rattle.ir_tests.proofs.printer_tests.printed.Goals as goal

pub print_module-requires : goal.print_module-requires
print_module-requires c = record { readable = c.a_read_module_is_readable.ensures.readable c.args.text.now c.in-Ok.m (All-from_get_or (λ b. b < 256) c.args.text.now 0 (λ i lt. omega (arith, c.type_inv.text i))) c.in-Ok.ensures.0 }
