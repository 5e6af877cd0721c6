use Rattle.std.proofs.Common.{◌<◌, length, slice_get, sym, ap, ◌∙◌, subst}
use Rattle.flow_fold.specs.Merges.{count_in, edge_count}
use Rattle.flow_fold.proofs.Settled.{blocks_stay}
use Rattle.flow_fold.proofs.merging.merging_pass.Goals as goal

pub edge_counts-requires : goal.edge_counts-requires
edge_counts-requires c = record {
  within = λ a t k e in_it. subst (λ ks. t < length ks) (sym c.as_slice.ensures) (c.requires.formed.formed.in_range a t (k, ap (λ ks. slice_get ks a) (sym c.as_slice.ensures) ∙ e, in_it));
}

pub returns-clause-body : goal.returns-clause-body
returns-clause-body c =
    blocks_stay c.args.b c.as_slice-2.result.now
    (λ t. ap (λ xs. count_in xs t) c.as_slice-2.ensures ∙ c.in_ok-counts.ensures.counts t ∙ ap (edge_count t) c.as_slice.ensures)
    (λ n k at. c.any_merge.ensures.none c.if-any_merge.false n k (ap (λ ks. slice_get ks n) c.as_slice-3.ensures ∙ at))
    c.requires.formed
