use Rattle.std.proofs.Common.{◌≡◌, ◌+◌, ◌++◌, ℕ, nat_eq, List, [], get_or, drop, sym, ap, ◌∙◌, subst}
use Rattle.std.specs.HashSet.{contains}
use Rattle.oi_base.specs.declared.ids.BlockId.{BlockId}
use Rattle.rv_select.specs.Lowered.{numbers, is_in, distinct_from}
use Rattle.rv_select.proofs.DistinctBlocks.{was_new, was_known, has_new, has_known, new_block, known_block}
use Rattle.rv_select.proofs.ends.distinct.Goals.{then-branch+in_ok-push, else-branch}
use Rattle.rv_select.proofs.ends.distinct.Goals as goal

pub loop-block-preserved : goal.loop-block-preserved
loop-block-preserved c =
    let blocks : List BlockId = c.args.blocks.now in
    let i : ℕ = c.loop-block.block-index in
    let block : BlockId = get_or blocks i (record { 0 = 0 }) in
    let items : List BlockId = c.loop-block.distinct.items in
    let whole : List ℕ = distinct_from [] (numbers blocks) in
    let before = c.loop-block.invariant in
    let insert = c.in_ok-insert.ensures in
    elim c.if-branch.branch [
      | then-branch+in_ok-push w ↦
          let pushed = ap (λ v. v.items) w.distinct-is ∙ w.in_ok-push.ensures.items in
          let new = was_new c.in_ok-insert.field-0 (contains nat_eq c.loop-block.seen block.0) (is_in (numbers items) block.0) insert.added (before.seen block.0) w.if-branch.true in
          record {
            blocks = new_block items c.if-branch.distinct.items blocks i (record { 0 = 0 }) whole c.loop-block-test.true new pushed before.blocks;
            seen = λ q. has_new items c.if-branch.distinct.items block q (contains nat_eq c.loop-block.seen q) (contains nat_eq c.insert.new.self q) pushed (before.seen q) (insert.updates.0 q);
          }
      | else-branch w ↦
          let same : items ≡ c.if-branch.distinct.items = ap (λ v. v.items) (sym w.distinct-is) in
          let known = was_known c.in_ok-insert.field-0 (contains nat_eq c.loop-block.seen block.0) (is_in (numbers items) block.0) insert.added (before.seen block.0) w.if-branch.false in
          record {
            blocks = subst (λ (ks : List BlockId). numbers ks ++ distinct_from (numbers ks) (numbers (drop (i + 1) blocks)) ≡ whole) same (known_block items blocks i (record { 0 = 0 }) whole c.loop-block-test.true known before.blocks);
            seen = λ q. subst (λ (ks : List BlockId). contains nat_eq c.insert.new.self q ≡ is_in (numbers ks) q) same (has_known items block q (contains nat_eq c.loop-block.seen q) (contains nat_eq c.insert.new.self q) known (before.seen q) (insert.updates.0 q));
          }
    ]
