use Rattle.std.proofs.Common.{suc, ◌+◌, ◌<◌, drop, rules, sym, ap, ap₂, subst, ◌∙◌, arith}
use Rattle.std.proofs.lemmas.List.{drop_more, drop_all}
use Rattle.shapes.specs.Tree.{Tree, Callees, more, callees, nodes, nodes_of_callees}
use Rattle.std.specs.declared.rc.Rc.{Rc}
use Rattle.std.specs.declared.alloc.Global.{Global}
use Rattle.oi_base.specs.declared.ids.SiteId.{SiteId}
use Rattle.shapes.specs.Reaching.{has_func, have_func}
use Rattle.shapes.specs.Renewed.{is_seen, renewal_at, IsOld}
use Rattle.shapes.proofs.Renewals.{within_here, smaller, size_is}
use Rattle.shapes.proofs.Walks.{Walks, Goes, walk_goes, walk_steps, walk_ends, halts, closes, closes_seen}
use Rattle.shapes.proofs.renewal.Inlining.+renew.Goals as goal

pub is_known-requires : goal.is_known-requires
is_known-requires g t c = rw (c.func.ensures, c.deref.ensures.value) (within_here c.args.m.now c.args.self.now c.args.shape.now c.requires.old c.args.renewals.now.items c.requires.known)

pub renew-requires : goal.renew-requires
renew-requires g t c =
    let step = drop_more c.inlined-inlined.result.now c.loop-entry.entry-index c.entry-item.result (omega arith) in
    let inv = rw (step, ← c.entry-item.is) at c.loop-entry.invariant in
    let old : IsOld c.args.m.now c.args.self.now c.deref-callee.result.now = subst (λ (t : Tree). IsOld c.args.m.now c.args.self.now t) (sym c.deref-callee.ensures) inv.old.0 in
    let item = smaller c.inlined-inlined.result.now c.loop-entry.entry-index c.entry-item.result c.loop-entry-test.true in
    let same = ap nodes (c.deref-callee.ensures ∙ ap (λ (k : SiteId × Rc Tree Global). k.1.value) c.entry-item.is) in
    let whole = size_is c.args.shape.now ∙ ap (λ (ks : Callees). suc (nodes_of_callees ks)) (sym c.inlined-inlined.ensures) in
    let less : nodes c.deref-callee.result.now < nodes c.args.shape.now = omega (arith, item, same, whole) in
    λ κs le. (search (rules, less), (le, (old, (c.requires.callee, c.loop-entry.invariant.goes.known))))

pub loop-entry-preserved : goal.loop-entry-preserved
loop-entry-preserved g t c =
    let step = drop_more c.inlined-inlined.result.now c.loop-entry.entry-index c.entry-item.result (omega arith) in
    let inv = rw (step, ← c.entry-item.is) at c.loop-entry.invariant in
    let whole = callees c.inlined-inlined.result.now in
    let rest = callees (drop (c.loop-entry.entry-index + 1) c.inlined-inlined.result.now) in
    let start = c.args.renewals.now.items in
    let now = c.loop-entry.renewals.items in
    let here = subst (λ (t : Tree). Walks c.args.m.now c.args.self.now whole (more c.entry-item.result.0 t rest) start now c.args.made.now c.loop-entry.made) (sym c.deref-callee.ensures) inv in
    let goes : Goes c.args.m.now c.args.self.now (λ f. has_func f c.deref-callee.result.now) now c.renew.new.renewals.items c.loop-entry.made c.renew.new.made = record {
      known = c.in_ok-renew.ensures.known;
      onward = c.in_ok-renew.ensures.onward;
      others = c.in_ok-renew.ensures.others;
      ticks = c.in_ok-renew.ensures.ticks;
    } in
    walk_steps c.args.m.now c.args.self.now whole start c.args.made.now c.entry-item.result.0 c.deref-callee.result.now rest now c.renew.new.renewals.items c.loop-entry.made c.renew.new.made here goes c.in_ok-renew.ensures.seen

pub returns-in_err-renew : goal.returns-in_err-renew
returns-in_err-renew g t c =
    let step = drop_more c.inlined-inlined.result.now c.loop-entry.entry-index c.entry-item.result (omega arith) in
    let inv = rw (step, ← c.entry-item.is) at c.loop-entry.invariant in
    let whole = callees c.inlined-inlined.result.now in
    let rest = callees (drop (c.loop-entry.entry-index + 1) c.inlined-inlined.result.now) in
    let start = c.args.renewals.now.items in
    let now = c.loop-entry.renewals.items in
    let next = c.renew.new.renewals.items in
    let here = subst (λ (t : Tree). Walks c.args.m.now c.args.self.now whole (more c.entry-item.result.0 t rest) start now c.args.made.now c.loop-entry.made) (sym c.deref-callee.ensures) inv in
    let goes : Goes c.args.m.now c.args.self.now (λ f. has_func f c.deref-callee.result.now) now next c.loop-entry.made c.renew.new.made = record {
      known = c.in_err-renew.ensures.known;
      onward = c.in_err-renew.ensures.onward;
      others = c.in_err-renew.ensures.others;
      ticks = c.in_err-renew.ensures.ticks;
    } in
    let all = walk_goes c.args.m.now c.args.self.now whole start c.args.made.now c.entry-item.result.0 c.deref-callee.result.now rest now next c.loop-entry.made c.renew.new.made here goes in
    let end = halts c.args.m.now c.args.self.now c.args.shape.now start next c.args.made.now c.renew.new.made (subst (λ (ks : Callees). Goes c.args.m.now c.args.self.now (λ f. have_func f ks) start next c.args.made.now c.renew.new.made) c.inlined-inlined.ensures all) in
    record { known = end.known; seen = search rules; onward = end.onward; others = end.others; ticks = end.ticks }

pub renewal-requires-clause-seen : goal.renewal-requires-clause-seen
renewal-requires-clause-seen g t c =
    let end = drop_all c.loop-entry.entry-index c.inlined-inlined.result.now c.loop-entry-test.false in
    let inv = rw end at c.loop-entry.invariant in
    let seen = walk_ends c.args.m.now c.args.self.now (callees c.inlined-inlined.result.now) c.args.renewals.now.items c.args.made.now c.loop-entry.renewals.items c.loop-entry.made inv in
    rw (c.deref-2.ensures.value, ← c.inlined-inlined.ensures) seen

pub index_mut-requires : goal.index_mut-requires
index_mut-requires g t c =
    let lt = within_here c.args.m.now c.args.self.now c.args.shape.now c.requires.old c.loop-entry.renewals.items c.loop-entry.invariant.goes.known in
    rw c.func-2.ensures (search (rules, lt))

pub returns : goal.returns
returns g t c =
    let now = c.loop-entry.renewals.items in
    let start = c.args.renewals.now.items in
    let goes = subst (λ (ks : Callees). Goes c.args.m.now c.args.self.now (λ f. have_func f ks) start now c.args.made.now c.loop-entry.made) c.inlined-inlined.ensures c.loop-entry.invariant.goes in
    let unseen = sym (c.is_known.ensures ∙ ap₂ (λ rs f. is_seen (renewal_at rs f)) c.deref.ensures.value c.func.ensures) ∙ c.if-is_known.false in
    let end = closes c.args.m.now c.args.self.now c.args.shape.now c.requires.old start now c.args.made.now c.loop-entry.made c.renewal.new.made c.in_ok-renewal.renewal goes unseen c.in_ok-renewal.ensures.renewal c.in_ok-renewal.ensures.seen c.in_ok-renewal.ensures.ticks in
    let here = closes_seen c.args.m.now c.args.self.now c.args.shape.now c.requires.old start now c.args.made.now c.loop-entry.made c.renewal.new.made c.in_ok-renewal.renewal goes c.in_ok-renewal.ensures.seen in
    rw c.func-2.ensures (record { known = end.known; seen = here; onward = end.onward; others = end.others; ticks = end.ticks })
