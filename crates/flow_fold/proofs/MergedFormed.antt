-- Merging keeps bodies formed: with an empty block in the place of each one that was merged the body is formed, and no edge
-- leads to these, so that they can be dropped.
use Rattle.std.proofs.Common.{◌≡◌, ◌≢◌, ◌⊎◌, inl, inr, ℕ, zero, suc, ◌+◌, ◌<◌, Bool, true, false, not, ◌&&◌, ◌||◌, nat_eq, nat_lt, List, [], ◌∷◌, length, Option, Some, None, slice_get, refl, sym, ap, ◌∙◌, subst, arith}
use Rattle.std.proofs.lemmas.Bool.Decides.{nat_tests}
use Rattle.std.proofs.lemmas.Option.{slice_get_within}
use Rattle.std.proofs.lemmas.List.Elements.{All-contains}
use Rattle.ir_core.specs.declared.flat.Scalar.{Scalar}
use Rattle.ir_core.specs.declared.flat.FlatOp.{FlatOp}
use Rattle.ir_core.specs.declared.flat.FlatOp.TheVariants.{Reg, Word, Null, Address, Poison}
use Rattle.ir_core.specs.declared.flat.FlatBlock.{FlatBlock}
use Rattle.ir_core.specs.declared.flat.FlatBody.{FlatBody}
use Rattle.ir_core.specs.Formed.{FuncType, IsEdge, IsFormedBody, IsParamOrWritten, targets, uses, all_uses, writes, all_writes}
use Rattle.ir_core.proofs.Lists.{Has, contains, has_in, has_at, at_has, has_part}
use Rattle.ir_safety.proofs.Elements.{in_part}
use Rattle.flow_fold.specs.Targets.{goes_to}
use Rattle.flow_fold.specs.Blocks.{only_blocks}
use Rattle.flow_fold.specs.MergeBlocks.{Merging, comes_only, empty_block, merged, unmerged, all_merged, blocks_merged}
use Rattle.flow_fold.proofs.BranchesFormed.{goes_has, has_goes}
use Rattle.flow_fold.proofs.DroppedFormed.{source, old_use, still_written, dropped_formed}
use Rattle.flow_fold.proofs.MergeTurns.{blocks_hold}
use Rattle.flow_fold.proofs.MergeFormed.{merge_formed, edges_now, empty_now}
use Rattle.flow_fold.proofs.OneMerge.{plain_targets}
use Rattle.flow_fold.proofs.Reaching.{IsClosed}

-- a block that goes to m is n, where m has no other predecessor and the blocks' first number is a
pub only_from : (n m a : ℕ) (ks : List FlatBlock) (j : ℕ) (k : FlatBlock) → comes_only n m a ks ≡ true → slice_get ks j ≡ Some k → goes_to m k.end ≡ true → a + j ≡ n
only_from n m a [] j k only e goes = absurd cc
only_from n m a (x ∷ xs) j k only e goes = by_place (nat_eq a n) (goes_to m x.end) refl refl only j e (λ i rest f. only_from n m (suc a) xs i k rest f goes)
  where
    by_place : (s t : Bool) → nat_eq a n ≡ s → goes_to m x.end ≡ t → ((s || not t) && comes_only n m (suc a) xs) ≡ true → (j : ℕ) → slice_get (x ∷ xs) j ≡ Some k
        → ((i : ℕ) → comes_only n m (suc a) xs ≡ true → slice_get xs i ≡ Some k → suc a + i ≡ n) → a + j ≡ n
    by_place true t es et only zero e rest = let same : a ≡ n = grind (arith, nat_tests) in omega (arith, same)
    by_place true t es et only (suc j) e rest = let later = rest j only e in omega (arith, later)
    by_place false true es et only j e rest = absurd cc
    by_place false false es et only zero e rest = let same : x ≡ k = cc in let both : false ≡ true = sym et ∙ ap (λ (z : FlatBlock). goes_to m z.end) same ∙ goes in absurd cc
    by_place false false es et only (suc j) e rest = let later = rest j only e in omega (arith, later)

module _ (types : ℕ → Scalar) (funcs : ℕ → FuncType) (own : FuncType) (body : FlatBody) where
  -- the blocks are formed, those that are not left are empty, and no edge leads to them
  record Holds (s : Merging) : Type 0 where
    formed : IsFormedBody types funcs own (record body { blocks = s.blocks })
    entry : s.left 0 ≡ true
    gone : (b : ℕ) (k : FlatBlock) → slice_get s.blocks b ≡ Some k → s.left b ≡ false → k ≡ empty_block
    edges : (a b : ℕ) → IsEdge (record body { blocks = s.blocks }) a b → s.left b ≡ true

  -- ---- one merge more

  merge_holds : (s : Merging) → Holds s → (n m : ℕ) (k l : FlatBlock) → slice_get s.blocks n ≡ Some k → slice_get s.blocks m ≡ Some l → targets k.end ≡ m ∷ [] → m ≢ 0 → m ≢ n → comes_only n m 0 s.blocks ≡ true → Holds (merged s n m k l)
  merge_holds s h n m k l at_n at_m plain not_entry apart only = record {
    formed = merge_formed types funcs own (record body { blocks = s.blocks }) h.formed n m k l at_n at_m plain not_entry apart alone;
    entry = let other : nat_eq 0 m ≡ false = grind (arith, nat_tests) in ap (λ t. not t && s.left 0) other ∙ h.entry;
    gone = empty_now types funcs own (record body { blocks = s.blocks }) h.formed n m k l at_n at_m plain not_entry apart alone s.left h.gone;
    edges = λ a b e.
        let was = edges_now types funcs own (record body { blocks = s.blocks }) h.formed n m k l at_n at_m plain not_entry apart alone a b e in
        let differ = was.0 in
        let other : nat_eq b m ≡ false = grind (arith, nat_tests) in
        ap (λ t. not t && s.left b) other ∙ h.edges was.1.0 b was.1.1;
  }
    where
      alone : (a : ℕ) → IsEdge (record body { blocks = s.blocks }) a m → a ≡ n
      alone a e = let same = only_from n m 0 s.blocks a e.0 only e.1 (has_goes (targets e.0.end) m (has_in (targets e.0.end) m e.2)) in omega (arith, same)

  begin_holds : IsFormedBody types funcs own body → Holds (unmerged body)
  begin_holds h = record {
    formed = h;
    entry = let k = h.entry in let less = slice_get_within body.blocks 0 k.0 k.1 in grind (arith, nat_tests);
    gone = λ b k e left. let less = slice_get_within body.blocks b k e in let here : nat_lt b (length body.blocks) ≡ true = grind (arith, nat_tests) in absurd cc;
    edges = λ a b e. let less = h.in_range a b e in grind (arith, nat_tests);
  }

  -- ---- the blocks that are left

  module _ (s : Merging) (h : Holds s) where
    abbrev old : FlatBody
    old = record body { blocks = s.blocks }

    abbrev new : FlatBody
    new = only_blocks s.left old

    closed : IsClosed s.left old
    closed = record { entry = h.entry; on = λ a b k e left goes. h.edges a b (k, e, contains (targets k.end) b (goes_has (targets k.end) b goes)) }

    still : (o : FlatOp) → IsParamOrWritten old o → IsParamOrWritten new o
    still (Reg r) (inl p) = inl p
    still (Reg r) (inr w) =
        let part = in_part writes s.blocks r.0 (has_in (all_writes old) r.0 w) in
        let place = at_has s.blocks part.0 part.1 in
        by_left place.0 part.0 place.1 part.2 (s.left place.0) refl
      where
        by_left : (b : ℕ) (k : FlatBlock) → slice_get s.blocks b ≡ Some k → Has (writes k) r.0 → (t : Bool) → s.left b ≡ t → IsParamOrWritten new (Reg r)
        by_left b k e has true left = inr (still_written types funcs own old h.formed s.left closed b k r.0 e left has)
        by_left b k e has false left = absurd (subst (λ (z : FlatBlock). Has (writes z) r.0) (h.gone b k e left) has)
    still (Word a) c = tt
    still Null c = tt
    still (Address g q) c = tt
    still Poison c = tt

    used : (o : FlatOp) → Has (all_uses new) o → IsParamOrWritten new o
    used o has =
        let part = in_part uses new.blocks o has in
        let place = at_has new.blocks part.0 part.1 in
        let from = source types funcs own old h.formed s.left closed place.0 part.0 place.1 in
        let was = old_use types funcs own old h.formed s.left closed from.number from.block o (subst (λ (u : FlatBlock). Has (uses u) o) from.same part.2) in
        still o (All-contains (IsParamOrWritten old) (all_uses old) o h.formed.used (contains (all_uses old) o (has_part uses s.blocks from.block o (has_at s.blocks from.number from.block from.is_block) was)))

    left_formed : IsFormedBody types funcs own new
    left_formed = dropped_formed types funcs own old h.formed s.left closed used

  pub all_merged_formed : IsFormedBody types funcs own body → IsFormedBody types funcs own (only_blocks (all_merged body).left (record body { blocks = (all_merged body).blocks }))
  all_merged_formed h = left_formed (all_merged body) (blocks_hold Holds (λ t g n m k l at_n at_m plain. merge_holds t g n m k l at_n at_m (plain_targets k.end m plain)) (length body.blocks) (unmerged body) (begin_holds h))
