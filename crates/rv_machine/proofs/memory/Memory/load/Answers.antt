use Rattle.std.proofs.Common.{ap, ◌∙◌}
use Rattle.rv_isa.specs.Memory.{read}
use Rattle.rv_machine.specs.Bytes.{held, size_of}
use Rattle.rv_machine.proofs.Accesses.{load_text, load_data, load_stack}
use Rattle.rv_machine.proofs.memory.Memory.load.Goals as goal

pub returns-in-Text-clause-value : goal.returns-in-Text-clause-value
returns-in-Text-clause-value c = load_text c.args.self.now _ c.in_ok-at.field-0 c.args.address (size_of c.args.size) c.in-Text.at c.number_at.result c.self.view_is c.in-Text.is c.in_ok-at.ensures.ok (c.number_at.ensures.value ∙ ap (λ b. read (held b) (size_of c.args.size) c.in-Text.at) c.deref.ensures.value)

pub returns-in-Data-clause-value : goal.returns-in-Data-clause-value
returns-in-Data-clause-value c = load_data c.args.self.now _ c.in_ok-at.field-0 c.args.address (size_of c.args.size) c.in-Data.at c.number_at-in-Data.result c.self.invariant.mapped c.self.view_is c.in-Data.is c.in_ok-at.ensures.ok (c.number_at-in-Data.ensures.value ∙ ap (λ b. read (held b) (size_of c.args.size) c.in-Data.at) c.deref-in-Data.ensures.value)

pub returns-in-Stack-clause-value : goal.returns-in-Stack-clause-value
returns-in-Stack-clause-value c = load_stack c.args.self.now _ c.in_ok-at.field-0 c.args.address (size_of c.args.size) c.in-Stack.at c.number_at-in-Stack.result c.self.invariant.mapped c.self.view_is c.in-Stack.is c.in_ok-at.ensures.ok (c.number_at-in-Stack.ensures.value ∙ ap (λ b. read (held b) (size_of c.args.size) c.in-Stack.at) c.deref-in-Stack.ensures.value)
