use Rattle.std.proofs.lemmas.Result.{IfOk-weaker}
use Rattle.ir_printer.proofs.ReadBack.{reads_back, within, stays_within}
use Rattle.ir_printer.proofs.printing.print_module.Goals as goal

pub returns-clause-reads_back : goal.returns-clause-reads_back
returns-clause-reads_back c = IfOk-weaker c.text_of.result _ _ (λ text e. reads_back c.args.m.now c.requires.readable text.items e) c.text_of.ensures

pub returns-clause-within : goal.returns-clause-within
returns-clause-within c = IfOk-weaker c.text_of.result _ _ (λ text e. within c.args.m.now c.requires.readable text.items e) c.text_of.ensures

pub returns-clause-stays_within : goal.returns-clause-stays_within
returns-clause-stays_within c = IfOk-weaker c.text_of.result _ _ (λ text e h. stays_within c.args.m.now h text.items e) c.text_of.ensures
