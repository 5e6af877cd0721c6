use Rattle.std.proofs.Common.{◌≡◌, ◌≤◌, false, length, sym, subst, arith, rules}
use Rattle.std.specs.Fn.{iterate}
use Rattle.flow_fold.specs.MergeBlocks.{merged_once}
use Rattle.flow_fold.specs.Merges.{IsSound, Shows}
use Rattle.flow_fold.proofs.OneMerge.{turn_more, turns_end, same_size}
use Rattle.flow_fold.proofs.merger.Merger.merge_behind.Goals as goal

pub returns-then-not-branch-clause-shows : goal.returns-then-not-branch-clause-shows
returns-then-not-branch-clause-shows c = λ s shows.
    let x = iterate (merged_once c.args.n.0) c.loop-turn._turn s in
    let here = c.loop-turn.invariant.shows s shows in
    let none : c.in_ok-merge_once.field-0 ≡ false = search rules in
    let size = same_size s c.args.self.now shows in
    let lt = c.loop-turn-test.true in
    let le : c.loop-turn._turn ≤ length s.blocks = omega (arith, size, lt) in
    subst (λ z. Shows z c.merge_once.new.self) (sym (turns_end c.args.n.0 c.loop-turn._turn (length s.blocks) s le (c.in_ok-merge_once.ensures.fixed none (iterate (merged_once c.args.n.0) c.loop-turn._turn s) here)))
    (c.in_ok-merge_once.ensures.shows (iterate (merged_once c.args.n.0) c.loop-turn._turn s) here)

pub loop-turn-preserved : goal.loop-turn-preserved
loop-turn-preserved c = record {
  sound = subst (λ k. IsSound k c.merge_once.new.self) c.loop-turn.invariant.sound.long c.in_ok-merge_once.ensures.sound;
  shows = λ s shows. subst (λ z. Shows z c.merge_once.new.self) (turn_more c.args.n.0 c.loop-turn._turn s) (c.in_ok-merge_once.ensures.shows (iterate (merged_once c.args.n.0) c.loop-turn._turn s) (c.loop-turn.invariant.shows s shows));
}
