use Rattle.std.proofs.Common.{◌<◌, true, slice_get, length, replicate, sym, ap, ◌∙◌, subst}
use Rattle.flow_fold.specs.Merges.{edge_count}
use Rattle.flow_fold.proofs.Namings.{begins_sound, begins_shown}
use Rattle.flow_fold.proofs.merging.unmerged.Goals as goal

pub edge_counts-requires : goal.edge_counts-requires
edge_counts-requires c = record {
  within = λ a t k e in_it. subst (λ ks. t < length ks) (sym c.as_slice.ensures) (c.requires.within a t k (ap (λ ks. slice_get ks a) (sym c.as_slice.ensures) ∙ e) in_it);
}

pub returns-clause-sound : goal.returns-clause-sound
returns-clause-sound c = begins_sound c.args.blocks (record { blocks = c.in_ok-blocks.blocks; left = c.in_ok-left.left; counts = c.in_ok-counts.counts; merges = c.new.result }) c.in_ok-blocks.ensures (c.in_ok-left.ensures ∙ ap (λ n. replicate n true) c.len.ensures) c.new.ensures (c.in_ok-counts.ensures.long ∙ ap length c.as_slice.ensures) (λ t. c.in_ok-counts.ensures.counts t ∙ ap (edge_count t) c.as_slice.ensures) c.requires.within

pub returns-clause-shows : goal.returns-clause-shows
returns-clause-shows c = begins_shown c.args.blocks (record { blocks = c.in_ok-blocks.blocks; left = c.in_ok-left.left; counts = c.in_ok-counts.counts; merges = c.new.result }) c.in_ok-blocks.ensures (c.in_ok-left.ensures ∙ ap (λ n. replicate n true) c.len.ensures) c.new.ensures
