use Rattle.std.proofs.Common.{◌<◌, sym, ap, ◌∙◌, subst, arith}
use Rattle.std.proofs.lemmas.Grind.{common_steps}
use Rattle.oi_base.specs.declared.ids.BlockId.{BlockId}
use Rattle.flow_fold.specs.Merges.{names, name_in}
use Rattle.flow_fold.proofs.Edges.{set_length}
use Rattle.flow_fold.proofs.Namings.{last_within, rest_within, name_next}
use Rattle.flow_fold.proofs.renaming.names.Goals as goal

pub index_mut-requires : goal.index_mut-requires
index_mut-requires c =
    let lt = last_within c.loop-merge.left c.pop.new.self c.in-Some.merge c.args.size c.in-Some.ensures c.loop-merge.invariant.within in
    let long = c.loop-merge.invariant.long in
    grind (arith, common_steps, lt, long)

pub loop-merge-preserved : goal.loop-merge-preserved
loop-merge-preserved c = record {
  long = set_length c.loop-merge.names.items c.in-Some.merge.from.0 c.name-into.result.0 ∙ c.loop-merge.invariant.long;
  within = rest_within c.loop-merge.left c.pop.new.self c.in-Some.merge c.args.size c.in-Some.ensures c.loop-merge.invariant.within;
  names = name_next c.loop-merge.names.items c.loop-merge.left c.pop.new.self c.in-Some.merge c.name-into.result.0 (names c.args.merges) c.in-Some.ensures
      (subst (λ n. c.in-Some.merge.from.0 < n) (sym c.loop-merge.invariant.long) (last_within c.loop-merge.left c.pop.new.self c.in-Some.merge c.args.size c.in-Some.ensures c.loop-merge.invariant.within))
      (ap (λ (b : BlockId). b.0) c.name-into.ensures ∙ ap (λ ns. name_in ns c.in-Some.merge.into.0) c.as_slice.ensures.value)
      c.loop-merge.invariant.names;
}
