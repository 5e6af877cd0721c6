use Rattle.std.proofs.Common.{length, sym, subst}
use Rattle.std.specs.List.{All}
use Rattle.component_split.specs.Arcs.{IsArcWithin}
use Rattle.component_split.proofs.ArcLists.{row_is}
use Rattle.component_split.proofs.orientation.edges_of.Goals as goal

pub push_edges-requires : goal.push_edges-requires
push_edges-requires c = λ k d l.
    let row = row_is c.args.arcs.now c.loop-from.from c.index-arcs-from.result c.as_slice.result.now c.loop-from-test.true c.index-arcs-from.is c.as_slice.ensures in
    let all : All (IsArcWithin (length c.args.arcs.now) (length c.args.forth.now)) c.as_slice.result.now = subst (All (IsArcWithin (length c.args.arcs.now) (length c.args.forth.now))) (sym row) (c.requires c.loop-from.from) in
    (all k d l).0
