use Rattle.std.proofs.Common.{◌≡◌, length, take, drop, sym, ap, ◌∙◌, subst}
use Rattle.std.specs.Prelude.{reverse}
use Rattle.std.proofs.lemmas.List.{reverse-reverse}
use Rattle.local_passes.specs.CopyTables.{IsSwept}
use Rattle.local_passes.proofs.Popped.{none_popped}
use Rattle.local_passes.proofs.CopySweeps.{next_swept}
use Rattle.local_passes.proofs.copies.sweep_blocks.Goals as goal

pub loop-block-init : goal.loop-block-init
loop-block-init c =
    let none : length c.new-sweep.result.blocks ≡ 0 = ap length c.new-sweep.ensures.swept.blocks in
    record {
      left = ap reverse c.in_ok-left.ensures ∙ reverse-reverse c.args.blocks ∙ ap (λ n. drop n c.args.blocks) (sym none);
      timed = c.new-sweep.ensures.timed;
      swept = subst (λ n. IsSwept (take n c.args.blocks) c.new-sweep.result) (sym none) c.new-sweep.ensures.swept;
    }

pub loop-block-preserved : goal.loop-block-preserved
loop-block-preserved c =
    let inv = c.loop-block.invariant in
    let next = next_swept c.args.blocks c.loop-block.sweep c.add.new.self c.loop-block.left c.pop.new.self c.in-Some.block c.requires.once inv.left c.in-Some.ensures inv.swept c.in_ok-add.ensures.swept in
    record { left = next.0; timed = c.in_ok-add.ensures.timed; swept = next.1 }

pub returns-clause-swept : goal.returns-clause-swept
returns-clause-swept c =
    let inv = c.loop-block.invariant in
    subst (λ ks. IsSwept ks c.loop-block.sweep) (none_popped c.args.blocks (length c.loop-block.sweep.blocks) c.loop-block.left inv.left c.in_default.ensures.0) inv.swept
