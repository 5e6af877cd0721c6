use Rattle.std.proofs.Common.{length, sym, ap, ◌∙◌, arith}
use Rattle.std.proofs.lemmas.Option.{slice_get-get_or}
use Rattle.ir_core.specs.declared.func.Func.{Func}
use Rattle.ir_assigned.proofs.First.{first_more}
use Rattle.ir_assigned.proofs.tester.first_unassigned.Goals as goal

pub loop-k-init : goal.loop-k-init
loop-k-init c = record {
  testing = c.in_ok-tester.ensures.testing c.args.graph.now c.args.definitions.now (sym (c.len.ensures ∙ ap (λ (z : Func). length z.blocks) c.func.ensures));
  round = let r = c.in_ok-tester.ensures.round in omega (arith, r);
  first = λ k u lt h before m. absurd (omega (arith, lt));
}

pub earlier-requires-clause-within : goal.earlier-requires-clause-within
earlier-requires-clause-within c = c.requires.within c.loop-k.k _ (slice_get-get_or c.args.uses.now c.loop-k.k _ c.loop-k-test.true)

pub loop-k-preserved : goal.loop-k-preserved
loop-k-preserved c = record {
  testing = c.in_ok-first.ensures.testing;
  round = c.in_ok-first.ensures.round;
  first = first_more c.args.graph.now c.args.uses.now c.loop-k.k _ (slice_get-get_or c.args.uses.now c.loop-k.k _ c.loop-k-test.true) c.loop-k.first c.in_ok-first.first c.loop-k.invariant.first c.in_ok-first.ensures.exact;
}
