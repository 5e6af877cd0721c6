use Rattle.std.proofs.Common.{◌≡◌, ◌+◌, ◌-◌, ◌*◌, ◌++◌, length, take, drop, replicate, append-nil, sym, ap, ◌∙◌, subst, arith}
use Rattle.std.proofs.lemmas.List.{drop_all}
use Rattle.image_layout.proofs.CodesLeft.{next_size}
use Rattle.image_layout.proofs.EntryTable.{table, Entering, one_entered, entries_right}
use Rattle.image_layout.proofs.entries.entries.Goals as goal

pub overflow_add-at-in-loop-f : goal.overflow_add-at-in-loop-f
overflow_add-at-in-loop-f c =
    let next = next_size c.args.codes.now c.loop-f.f-index c.loop-f-item.result (omega arith) c.loop-f-item.is in
    omega (arith, next, c.loop-f.invariant.place, c.requires.fits, c.len.ensures.count)

pub loop-f-preserved : goal.loop-f-preserved
loop-f-preserved c =
    let codes = c.args.codes.now in
    let f = c.loop-f-item.result in
    let next = next_size codes c.loop-f.f-index f (omega arith) c.loop-f-item.is in
    let es = c.loop-f.entries.items in
    let len : c.loop-f.entries.len ≡ length es = omega (arith, c.loop-f.entries.ok.0) in
    let padded = c.in_ok-resize.ensures.items ∙ ap (λ n. take f.0.0 es ++ replicate (f.0.0 - n) 0) len in
    let one = one_entered codes c.loop-f.f-index f c.loop-f.entries.items c.resize.new.self.items c.push.new.self.items c.loop-f.at c.requires.ascending (omega arith) c.loop-f-item.is padded c.in_ok-push.ensures.items c.loop-f.invariant.entering in
    record {
      entering = subst (λ n. Entering codes (drop (c.loop-f.f-index + 1) codes) c.push.new.self.items (c.loop-f.at + 4 * n)) (sym c.len.ensures.count) one;
      place = omega (arith, next, c.loop-f.invariant.place, c.len.ensures.count);
    }

pub returns : goal.returns
returns c =
    let codes = c.args.codes.now in
    let es = c.loop-f.entries.items in
    let none = drop_all c.loop-f.f-index codes (omega arith) in
    let whole = sym (append-nil es) ∙ ap (λ cs. es ++ table c.loop-f.at (length es) cs) (sym none) ∙ c.loop-f.invariant.entering.all in
    entries_right codes c.requires.ascending es whole
