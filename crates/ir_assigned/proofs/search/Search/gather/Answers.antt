use Rattle.std.proofs.Common.{◌≡◌, length, slice_get, Some, ◌∙◌, subst, refl, arith}
use Rattle.std.proofs.lemmas.Option.{slice_get_read}
use Rattle.ir_core.specs.ValidPaths.{IsSuccessor}
use Rattle.ir_assigned.specs.declared.search.Step.{Step}
use Rattle.ir_assigned.specs.Search.{state}
use Rattle.ir_assigned.proofs.Tables.{one_at}
use Rattle.ir_assigned.proofs.Searching.{step_within, gathered, gathered_onward, gathered_within, clean_at_end}
use Rattle.ir_assigned.proofs.search.Search.gather.Goals as goal

pub before-requires : goal.before-requires
before-requires c =
    let queue = c.loop-at.self.queue.items in
    step_within c.args.graph.now c.args.aim c.requires.round c.loop-at.at c.loop-at.at c.index.result.now (state c.loop-at.self) c.loop-at.invariant.inv
    (slice_get_read queue (length queue) c.loop-at.at c.index.result.now refl (omega arith) c.index.ensures)

pub spread-requires-clause-before : goal.spread-requires-clause-before
spread-requires-clause-before c k u e he hs =
    let queue = c.loop-at.self.queue.items in
    let here : slice_get queue c.loop-at.at ≡ Some c.index.result.now = slice_get_read queue (length queue) c.loop-at.at c.index.result.now refl (omega arith) c.index.ensures in
    subst (λ (z : Step). IsSuccessor c.args.graph.now u z.block) (one_at queue c.loop-at.at c.index.result.now e here hs) (c.before-in-loop-at.ensures.only k u he)

pub loop-at-preserved : goal.loop-at-preserved
loop-at-preserved c =
    let queue = c.loop-at.self.queue.items in
    let here : slice_get queue c.loop-at.at ≡ Some c.index.result.now = slice_get_read queue (length queue) c.loop-at.at c.index.result.now refl (omega arith) c.index.ensures in
    record {
      inv = gathered c.args.graph.now c.args.aim c.requires.round c.loop-at.at c.index.result.now c.before-in-loop-at.result.now (state c.args.self.now) (state c.loop-at.self) (state c.spread.new.self) here c.if-block-eq0.false c.before-in-loop-at.ensures.each c.loop-at.invariant.onward c.in_ok-spread.ensures;
      onward = gathered_onward c.args.graph.now c.args.aim c.requires.round c.loop-at.at c.index.result.now c.before-in-loop-at.result.now (state c.args.self.now) (state c.loop-at.self) (state c.spread.new.self) here c.if-block-eq0.false c.before-in-loop-at.ensures.each c.loop-at.invariant.onward c.in_ok-spread.ensures;
      left = c.in_ok-spread.ensures.left ∙ c.loop-at.invariant.left;
      within = gathered_within c.args.graph.now c.args.aim c.requires.round c.loop-at.at c.index.result.now c.before-in-loop-at.result.now (state c.args.self.now) (state c.loop-at.self) (state c.spread.new.self) here c.if-block-eq0.false c.before-in-loop-at.ensures.each c.loop-at.invariant.onward c.in_ok-spread.ensures;
    }

pub returns-clause-over : goal.returns-clause-over
returns-clause-over c = clean_at_end c.args.graph.now c.args.aim c.requires.round c.loop-at.at (state c.loop-at.self) c.loop-at.invariant.inv (omega arith)
