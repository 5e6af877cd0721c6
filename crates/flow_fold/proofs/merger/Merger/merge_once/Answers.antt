use Rattle.std.proofs.Common.{sym, subst}
use Rattle.flow_fold.specs.Merges.{Shows}
use Rattle.flow_fold.proofs.OneMerge.{none_so, merge_sound, merge_shows}
use Rattle.flow_fold.proofs.merger.Merger.merge_once.Goals as goal

pub returns-in_ok-merge-in-Some-clause-sound : goal.returns-in_ok-merge-in-Some-clause-sound
returns-in_ok-merge-in-Some-clause-sound c =
    merge_sound c.args.self.now c.requires.sound c.args.n c.requires.within c.index.result.now c.index.ensures c.as_slice.result.now c.as_slice.ensures c.in-Some.m c.in-Some.ensures c.merge.new.self
    c.in_ok-merge-in-Some.ensures.blocks c.in_ok-merge-in-Some.ensures.left c.in_ok-merge-in-Some.ensures.counts c.in_ok-merge-in-Some.ensures.merges

pub returns-in_ok-merge-in-Some-clause-shows : goal.returns-in_ok-merge-in-Some-clause-shows
returns-in_ok-merge-in-Some-clause-shows c = λ s shows.
    merge_shows c.args.self.now c.requires.sound c.args.n c.requires.within c.index.result.now c.index.ensures c.as_slice.result.now c.as_slice.ensures c.in-Some.m c.in-Some.ensures c.merge.new.self
    c.in_ok-merge-in-Some.ensures.blocks c.in_ok-merge-in-Some.ensures.left c.in_ok-merge-in-Some.ensures.counts c.in_ok-merge-in-Some.ensures.merges s shows

pub returns-in-None-clause-fixed : goal.returns-in-None-clause-fixed
returns-in-None-clause-fixed c = λ _ s shows. none_so c.args.self.now c.requires.sound c.args.n c.requires.within c.index.result.now c.index.ensures c.as_slice.result.now c.as_slice.ensures c.in-None.ensures s shows

pub returns-in-None-clause-shows : goal.returns-in-None-clause-shows
returns-in-None-clause-shows c = λ s shows.
    subst (λ z. Shows z c.args.self.now) (sym (none_so c.args.self.now c.requires.sound c.args.n c.requires.within c.index.result.now c.index.ensures c.as_slice.result.now c.as_slice.ensures c.in-None.ensures s shows)) shows
