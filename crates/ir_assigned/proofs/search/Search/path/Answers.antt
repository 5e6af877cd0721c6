use Rattle.std.proofs.Common.{◌≡◌, ◌<◌, length, slice_get, Some, refl, sym, ◌∙◌, subst, arith}
use Rattle.std.proofs.lemmas.Option.{slice_get_read}
use Rattle.ir_assigned.specs.Search.{IsLeading, IsAlong}
use Rattle.ir_assigned.proofs.Searching.{leads_more, along}
use Rattle.ir_assigned.proofs.search.Search.path.Goals as goal

pub loop-from-preserved : goal.loop-from-preserved
loop-from-preserved c =
    let queue = c.args.self.now.queue.items in
    let d : slice_get queue c.loop-from.from ≡ Some c.index.result.now = slice_get_read queue (length queue) c.loop-from.from c.index.result.now refl c.loop-from.invariant.within c.index.ensures in
    let e : slice_get queue c.loop-from.from ≡ Some c.index-in-loop-from.result.now = slice_get_read queue (length queue) c.loop-from.from c.index-in-loop-from.result.now refl c.loop-from.invariant.within c.index-in-loop-from.ensures in
    let more = leads_more c.args.graph.now c.args.aim queue c.args.at c.loop-from.from c.loop-from.path.items c.push.new.self.items c.index.result.now c.index-in-loop-from.result.now c.requires.steps c.loop-from-test.true d e c.in_ok-push.ensures.items c.loop-from.invariant.leading in
    record { within = more.0; leading = more.1 }

pub returns : goal.returns
returns c =
    let queue = c.args.self.now.queue.items in
    let zero : c.loop-from.from ≡ 0 = omega arith in
    let within : 0 < length queue = omega arith in
    let first : slice_get queue 0 ≡ Some c.index-2.result.now = slice_get_read queue (length queue) 0 c.index-2.result.now refl within c.index-2.ensures in
    let leading = subst (λ k. IsLeading c.args.graph.now c.args.aim queue c.args.at k c.loop-from.path.items) zero c.loop-from.invariant.leading in
    subst (IsAlong c.args.graph.now c.args.aim queue c.args.at) (sym (c.from_vec.ensures ∙ c.in_ok-push-2.ensures.items)) (along c.args.graph.now c.args.aim queue c.args.at c.loop-from.path.items c.index-2.result.now leading first)
