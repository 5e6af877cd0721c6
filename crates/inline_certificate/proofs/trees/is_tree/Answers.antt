use Rattle.std.proofs.Common.{sym, ◌∙◌, ◌+◌}
use Rattle.inline_certificate.proofs.Walking.{ends_early, stands_not, goes_on, grows_by_one, all_told}
use Rattle.inline_certificate.proofs.trees.is_tree.Goals as goal

pub returns-in_default : goal.returns-in_default
returns-in_default c = let e = c.in_default.ensures in ends_early c.args.nodes.now c.loop-node.node-index c.node-item.result c.loop-node.places c.loop-node.invariant.so_far c.loop-node-test.true c.node-item.is e.0

pub returns-then-not-fits : goal.returns-then-not-fits
returns-then-not-fits c = let e = c.in-Some.ensures in stands_not c.args.nodes.now c.loop-node.node-index c.node-item.result c.loop-node.places c.next.new.self c.in-Some.place c.any.result c.any.ensures c.loop-node.invariant.so_far c.loop-node-test.true c.node-item.is e (sym c.fits.ensures ∙ c.if-not-fits.true)

pub loop-node-preserved : goal.loop-node-preserved
loop-node-preserved c =
    let e = c.in-Some.ensures in
    let new = c.in_ok-open.ensures in record {
      so_far = goes_on c.args.nodes.now c.loop-node.node-index c.node-item.result c.loop-node.places c.next.new.self c.open.new.self c.in-Some.place c.any.result c.any.ensures c.loop-node.invariant.so_far c.loop-node-test.true c.node-item.is e (sym c.fits.ensures ∙ c.if-not-fits.false) new;
      deepest = grows_by_one c.loop-node.places c.next.new.self c.open.new.self c.in-Some.place c.node-item.result (c.loop-node.node-index + 1) e new c.loop-node.invariant.deepest;
    }

pub returns : goal.returns
returns c = all_told c.args.nodes.now c.loop-node.node-index c.loop-node.places c.is_empty.result c.loop-node.invariant.so_far c.loop-node-test.false c.is_empty.ensures
