use Rattle.std.proofs.Common.{[], ◌∷◌, false, length, slice_index_or, sym, ap, subst, ◌∙◌, arith}
use Rattle.std.specs.List.{All}
use Rattle.std.proofs.lemmas.List.{length-set, length-append}
use Rattle.component_split.specs.declared.orientation.Walk.{Walk}
use Rattle.component_split.specs.declared.arcs.Arc.{Arc}
use Rattle.component_split.specs.Arcs.{IsArcWithin}
use Rattle.component_split.specs.Walk.{left, IsWalk}
use Rattle.component_split.proofs.ArcLists.{left_seen, row_is}
use Rattle.component_split.proofs.Trees.{all_more}
use Rattle.component_split.proofs.orientation.Walk.visit.Goals as goal
use Rattle.component_split.proofs.orientation.Walk.visit.Goals.{then-ne+in_ok-push, else-ne}

pub index_mut-requires-then-ne : goal.index_mut-requires-then-ne
index_mut-requires-then-ne c =
    let row = row_is c.args.arcs.now c.args.at c.index-arcs-at.result c.as_slice-arc-items.result.now c.requires.within c.index-arcs-at.is c.as_slice-arc-items.ensures in
    let n = length c.args.arcs.now in let m = length c.args.self.now.forth.items in
    let all : All (IsArcWithin n m) c.as_slice-arc-items.result.now = subst (All (IsArcWithin n m)) (sym row) (c.requires.arcs c.args.at) in
    let a = (all c.loop-arc.arc-index (record { site = 0; to = 0; forth = false }) c.loop-arc-test.true).0 in
    let f = c.loop-arc.invariant.walk.forth in
    let v = c.loop-arc.self.forth.ok.0 in
    omega (arith, a, f, v)

pub loop-arc-preserved : goal.loop-arc-preserved
loop-arc-preserved c =
    let n = length c.args.arcs.now in let m = length c.args.self.now.forth.items in
    let inv = c.loop-arc.invariant in
    let arc : Arc = slice_index_or c.as_slice-arc-items.result.now c.loop-arc.arc-index (record { site = 0; to = 0; forth = false }) in
    let row = row_is c.args.arcs.now c.args.at c.index-arcs-at.result c.as_slice-arc-items.result.now c.requires.within c.index-arcs-at.is c.as_slice-arc-items.ensures in
    let all : All (IsArcWithin n m) c.as_slice-arc-items.result.now = subst (All (IsArcWithin n m)) (sym row) (c.requires.arcs c.args.at) in
    elim c.if-ne.branch [
      | then-ne+in_ok-push w ↦
          let items = w.in_ok-push.ensures.items in
          let next : All (IsArcWithin n m) w.push.new.self.items = subst (All (IsArcWithin n m)) (sym items) (all_more (IsArcWithin n m) c.loop-arc.self.next.items arc inv.walk.next (all c.loop-arc.arc-index (record { site = 0; to = 0; forth = false }) c.loop-arc-test.true)) in
          record {
            walk = subst (IsWalk n m) (sym w.self-is) (record { seen = inv.walk.seen; forth = length-set c.loop-arc.self.forth.items arc.site arc.forth ∙ inv.walk.forth; next = next });
            seen = ap (λ (v : Walk). v.seen.items) w.self-is ∙ inv.seen;
            next =
                let a = ap (λ (v : Walk). length v.next.items) w.self-is in
                let b = ap length items ∙ length-append c.loop-arc.self.next.items (arc ∷ []) in
                let l = inv.next in
                omega (arith, a, b, l);
          }
      | else-ne w ↦ record {
        walk = subst (IsWalk n m) (sym w.self-is) inv.walk;
        seen = ap (λ (v : Walk). v.seen.items) w.self-is ∙ inv.seen;
        next = let a = ap (λ (v : Walk). length v.next.items) w.self-is in let l = inv.next in omega (arith, a, l);
      }
    ]

pub returns-clause-fewer : goal.returns-clause-fewer
returns-clause-fewer c =
    let row = row_is c.args.arcs.now c.args.at c.index-arcs-at.result c.as_slice-arc-items.result.now c.requires.within c.index-arcs-at.is c.as_slice-arc-items.ensures in
    let e = left_seen c.args.arcs.now c.args.self.now.seen.items c.args.at c.requires.unseen in
    let s = ap (left c.args.arcs.now) c.loop-arc.invariant.seen in
    let n = c.loop-arc.invariant.next in
    let l = ap length row in
    let z = c.loop-arc.auto.arc-index-end in
    omega (arith, e, s, n, l, z)
