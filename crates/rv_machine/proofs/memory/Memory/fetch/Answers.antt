use Rattle.std.proofs.Common.{ap, ◌∙◌, sym}
use Rattle.rv_isa.specs.Memory.{read}
use Rattle.rv_machine.specs.Bytes.{held}
use Rattle.rv_machine.proofs.Accesses.{IsFetch, fetch_some, fetch_none}
use Rattle.rv_machine.proofs.memory.Memory.fetch.Goals as goal

pub returns-in-Some-clause-value : goal.returns-in-Some-clause-value
returns-in-Some-clause-value c =
    let f = c.in_ok-at.ensures.ok in
    let is : IsFetch c.args.self.now c.args.pc c.in_ok-at.at = record { place = f.0; within = f.1; aligned = f.2; permitted = f.3 } in
    fetch_some c.args.self.now _ c.self.inside.code.items c.args.pc c.in_ok-at.at c.index.result.now c.in-Some.instruction c.self.invariant.decoded c.self.view_is is (sym c.index.ensures ∙ c.in-Some.is)

pub returns-in-None-clause-value : goal.returns-in-None-clause-value
returns-in-None-clause-value c =
    let f = c.in_ok-at.ensures.ok in
    let is : IsFetch c.args.self.now c.args.pc c.in_ok-at.at = record { place = f.0; within = f.1; aligned = f.2; permitted = f.3 } in
    fetch_none c.args.self.now _ c.self.inside.code.items c.args.pc c.in_ok-at.at c.number_at.result c.index.result.now c.self.invariant.decoded c.self.view_is is (sym c.index.ensures ∙ c.in-None.is) (c.number_at.ensures.value ∙ ap (λ b. read (held b) 4 c.in_ok-at.at) c.deref.ensures.value)
