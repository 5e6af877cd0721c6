use Rattle.std.proofs.Common.{refl, sym, ap, ◌∙◌}
use Rattle.std.specs.Option.{option_copied}
use Rattle.module_rules.proofs.Folds.{cut}
use Rattle.ir_verifier.proofs.OffsetLaws.{leads, first_fits, not_none, one_on}
use Rattle.ir_verifier.proofs.offsets.distance_into.Goals as goal

pub distance_by-distance-requires-clause-leads : goal.distance_by-distance-requires-clause-leads
distance_by-distance-requires-clause-leads c = leads _ _ _ _ _ c.loop-index.invariant.walk (cut _ _ _ _ refl c.loop-index-test.true c.index-item.is)

pub distance_by-distance-requires-clause-fits : goal.distance_by-distance-requires-clause-fits
distance_by-distance-requires-clause-fits c = first_fits c.args.m.now.types.defs _ _ _ c.loop-index.invariant.fit (cut _ _ _ _ refl c.loop-index-test.true c.index-item.is)

pub returns-in-None : goal.returns-in-None
returns-in-None c =
    absurd (not_none c.args.m.now.types.defs c.loop-index.at.now c.index-item.result _ _ c.loop-index.invariant.walk (cut _ _ _ _ refl c.loop-index-test.true c.index-item.is) (sym c.next_by.ensures ∙ ap option_copied c.in-None.is))

pub loop-index-preserved : goal.loop-index-preserved
loop-index-preserved c =
    one_on c.args.m.now.types.defs c.args.source.now c.loop-index.at.now c.in-Some.inner.now c.index-item.result c.args.indices.now _ _ _ _ _ c.loop-index.invariant
    (cut _ _ _ _ refl c.loop-index-test.true c.index-item.is) (sym c.next_by.ensures ∙ ap option_copied c.in-Some.is) c.distance_by-distance.ensures refl
