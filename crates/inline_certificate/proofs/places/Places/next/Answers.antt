use Rattle.std.proofs.Common.{refl, ◌-◌, arith}
use Rattle.inline_certificate.proofs.Runs.{front_open, last_open, set_open, last_place, next_place}
use Rattle.inline_certificate.proofs.places.Places.next.Goals as goal

pub invariant_of-self : goal.invariant_of-self
invariant_of-self c = rw c.truncate.ensures.items (front_open _ _ (omega arith) c.self.invariant)

pub overflow_sub-count : goal.overflow_sub-count
overflow_sub-count c = last_open _ _ _ _ (omega arith) c.self.invariant c.index.ensures

pub invariant_of-self-else-count-eq1 : goal.invariant_of-self-else-count-eq1
invariant_of-self-else-count-eq1 c =
    let some = last_open _ _ _ _ (omega arith) c.self.invariant c.index.ensures in
    set_open _ _ _ (omega arith) c.self.invariant (omega (arith, some, c.if-count-eq1.false))

pub returns-then-count-eq1 : goal.returns-then-count-eq1
returns-then-count-eq1 c = rw (← c.self.view_is, c.truncate.ensures.items) (last_place c.self.inside.runs.items (c.len-at.result - 1) c.index.result.now c.index.result.now (omega arith) c.index.ensures c.if-count-eq1.true)

pub returns-else-count-eq1 : goal.returns-else-count-eq1
returns-else-count-eq1 c =
    let some = last_open _ _ _ _ (omega arith) c.self.invariant c.index.ensures in
    rw (← c.self.view_is) (next_place c.self.inside.runs.items (c.len-at.result - 1) c.index.result.now (record { place = c.index.result.now.place; count = c.index.result.now.count - 1 }) c.index.result.now (omega arith) c.index.ensures some refl refl)
