use Rattle.std.proofs.Common.{◌<◌, ◌≤◌, length, slice_index_or, None, sym, ap, ◌∙◌, arith}
use Rattle.std.specs.Option.{option_map}
use Rattle.std.specs.declared.rc.Rc.{Rc}
use Rattle.std.specs.declared.alloc.Global.{Global}
use Rattle.shapes.specs.Tree.{Tree}
use Rattle.shapes.specs.Standing.{values}
use Rattle.shapes.specs.Added.{Added}
use Rattle.shapes.proofs.Renewals.{count_most}
use Rattle.shapes.proofs.Tables.{tables_start, tables_step, tables_most, tables_end, values_long, values_push, value_at}
use Rattle.shapes.proofs.renewal.Inlining.shapes.Goals as goal

pub loop-old-init : goal.loop-old-init
loop-old-init g c =
    let long = sym (values_long c.self.inside.table.now) ∙ ap (λ (a : Added). length a.trees) c.self.view_is in
    rw c.new-table.ensures.items (tables_start c.args.m.now c.args.self.now (length c.self.inside.table.now) c.args.made.now c.in_ok-renewals.renewals.items long c.in_ok-renewals.ensures)

pub entry-requires-clause-old : goal.entry-requires-clause-old
entry-requires-clause-old g c =
    let here = value_at c.self.inside.table.now c.loop-old.old-index c.old-item.result c.loop-old-test.true c.old-item.is ∙ ap (λ (a : Added). slice_index_or a.trees c.loop-old.old-index None) c.self.view_is in
    λ t e. (c.requires.old c.loop-old.old-index t (sym here ∙ e)).1

pub returns-in_err-entry-clause-no_more : goal.returns-in_err-entry-clause-no_more
returns-in_err-entry-clause-no_more g c =
    let most = count_most c.args.m.now c.args.self.now c.args.self.now.trees c.entry.new.renewals.items c.in_err-entry.ensures.known in
    let so_far = c.loop-old.invariant.ticks in
    let tick = c.in_err-entry.ensures.ticks in
    omega (arith, most, so_far, tick)

pub returns-in_err-push-clause-no_more : goal.returns-in_err-push-clause-no_more
returns-in_err-push-clause-no_more g c =
    let most = count_most c.args.m.now c.args.self.now c.args.self.now.trees c.entry.new.renewals.items c.in_ok-entry.ensures.known in
    let so_far = c.loop-old.invariant.ticks in
    let tick = c.in_ok-entry.ensures.ticks in
    omega (arith, most, so_far, tick)

pub loop-old-preserved : goal.loop-old-preserved
loop-old-preserved g c =
    let i = c.loop-old.old-index in
    let here = value_at c.self.inside.table.now i c.old-item.result c.loop-old-test.true c.old-item.is ∙ ap (λ (a : Added). slice_index_or a.trees i None) c.self.view_is in
    let long = sym (values_long c.self.inside.table.now) ∙ ap (λ (a : Added). length a.trees) c.self.view_is in
    let lt : i < length c.args.self.now.trees = omega (arith, long, c.loop-old-test.true) in
    let step = tables_step c.args.m.now c.args.self.now i (values c.loop-old.table.items) c.loop-old.renewals.items c.entry.new.renewals.items c.args.made.now c.loop-old.made c.entry.new.made (option_map (λ (r : Rc Tree Global). r.value) c.old-item.result) (option_map (λ (r : Rc Tree Global). r.value) c.in_ok-entry.field-0) c.loop-old.invariant lt here c.in_ok-entry.ensures.shape c.in_ok-entry.ensures.known c.in_ok-entry.ensures.onward c.in_ok-entry.ensures.seen (λ t e. (c.requires.old i t (sym here ∙ e)).0) c.in_ok-entry.ensures.ticks in
    rw c.in_ok-push.ensures.items (rw (values_push c.loop-old.table.items c.in_ok-entry.field-0) step)

pub returns-clause-shapes : goal.returns-clause-shapes
returns-clause-shapes g c =
    let long = sym (values_long c.self.inside.table.now) ∙ ap (λ (a : Added). length a.trees) c.self.view_is in
    let past : length c.args.self.now.trees ≤ c.loop-old.old-index = omega (arith, long, c.loop-old-test.false) in
    (tables_end c.args.m.now c.args.self.now c.loop-old.old-index (values c.loop-old.table.items) c.loop-old.renewals.items c.args.made.now c.loop-old.made c.loop-old.invariant past).0

pub returns-clause-ticks : goal.returns-clause-ticks
returns-clause-ticks g c =
    let long = sym (values_long c.self.inside.table.now) ∙ ap (λ (a : Added). length a.trees) c.self.view_is in
    let past : length c.args.self.now.trees ≤ c.loop-old.old-index = omega (arith, long, c.loop-old-test.false) in
    (tables_end c.args.m.now c.args.self.now c.loop-old.old-index (values c.loop-old.table.items) c.loop-old.renewals.items c.args.made.now c.loop-old.made c.loop-old.invariant past).1

pub returns-clause-no_more : goal.returns-clause-no_more
returns-clause-no_more g c = tables_most c.args.m.now c.args.self.now c.loop-old.old-index (values c.loop-old.table.items) c.loop-old.renewals.items c.args.made.now c.loop-old.made c.loop-old.invariant
