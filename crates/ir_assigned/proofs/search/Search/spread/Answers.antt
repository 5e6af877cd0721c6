use Rattle.std.proofs.Common.{slice_index_or}
use Rattle.std.proofs.lemmas.Option.{slice_get-get_or}
use Rattle.ir_assigned.specs.Search.{state}
use Rattle.ir_assigned.proofs.Searching.{offer_within, spread_on}
use Rattle.ir_assigned.proofs.search.Search.spread.Goals as goal

pub offer-requires : goal.offer-requires
offer-requires c =
    let k = c.loop-block.block-index in
    let vs = c.args.before.now in
    offer_within c.args.graph.now c.args.aim c.requires.round c.args.at k (slice_index_or vs k 0) vs (state c.args.self.now) (state c.loop-block.self) c.requires.step c.requires.before (slice_get-get_or vs k 0 c.loop-block-test.true) c.loop-block.invariant

pub loop-block-preserved : goal.loop-block-preserved
loop-block-preserved c =
    let k = c.loop-block.block-index in
    let vs = c.args.before.now in
    spread_on c.args.graph.now c.args.aim c.requires.round c.args.at k (slice_index_or vs k 0) vs (state c.args.self.now) (state c.loop-block.self) c.requires.step c.requires.before (slice_get-get_or vs k 0 c.loop-block-test.true) c.loop-block.invariant
    (state c.offer.new.self) c.in_ok-offer.ensures
