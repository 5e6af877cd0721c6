use Rattle.std.proofs.Common.{length, ap, ◌∙◌}
use Rattle.std.proofs.lemmas.List.{with_items_is}
use Rattle.rv_isa.specs.Memory.{write}
use Rattle.rv_machine.specs.Bytes.{held, size_of}
use Rattle.rv_machine.proofs.Accesses.{store_data, store_stack}
use Rattle.rv_machine.proofs.memory.Memory.store.Goals as goal

pub returns-in-Data-clause-ok : goal.returns-in-Data-clause-ok
returns-in-Data-clause-ok c =
    let e = with_items_is c.self.inside.data_bytes c.put_number.new.bytes (c.put_number.ensures.len ∙ c.deref_mut.ensures.len) in
    store_data c.args.self.now _ _ c.in_ok-place.field-0 c.args.address (size_of c.args.size) c.in-Data.at c.args.number c.self.invariant.mapped c.self.view_is c.in-Data.is c.in_ok-place.ensures.ok (ap length e ∙ c.put_number.ensures.len ∙ ap length c.deref_mut.ensures.value) (ap held e ∙ c.put_number.ensures.bytes ∙ ap (λ b. write (held b) (size_of c.args.size) c.in-Data.at c.args.number) c.deref_mut.ensures.value)

pub returns-in-Stack-clause-ok : goal.returns-in-Stack-clause-ok
returns-in-Stack-clause-ok c =
    let e = with_items_is c.self.inside.stack c.put_number-in-Stack.new.bytes (c.put_number-in-Stack.ensures.len ∙ c.deref_mut-in-Stack.ensures.len) in
    store_stack c.args.self.now _ _ c.in_ok-place.field-0 c.args.address (size_of c.args.size) c.in-Stack.at c.args.number c.self.invariant.mapped c.self.view_is c.in-Stack.is c.in_ok-place.ensures.ok (ap length e ∙ c.put_number-in-Stack.ensures.len ∙ ap length c.deref_mut-in-Stack.ensures.value) (ap held e ∙ c.put_number-in-Stack.ensures.bytes ∙ ap (λ b. write (held b) (size_of c.args.size) c.in-Stack.at c.args.number) c.deref_mut-in-Stack.ensures.value)
