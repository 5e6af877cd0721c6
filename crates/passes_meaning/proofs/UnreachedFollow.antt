-- A program follows itself once blocks of one function to which no edge leads from those that are left are dropped.
use Rattle.std.proofs.Common.{◌≡◌, ◌≢◌, inr, ℕ, Bool, true, List, Some, None, slice_get, refl, sym, ◌∙◌, subst}
use Rattle.oi_base.specs.Follows.{Stuck, Follows}
use Rattle.ir_core.specs.declared.flat.FlatBlock.{FlatBlock}
use Rattle.ir_core.specs.declared.flat.FlatBody.{FlatBody}
use Rattle.ir_core.specs.Flat.{Program, Run, Regs, Effect, Sets, Allocates, Stores, Puts, Takes, Enters, Goes, Returns, Stops, NoMeaning, NoValue, end_effect, flat_run}
use Rattle.ir_simulation.specs.Replaced.{with_body}
use Rattle.flow_fold.specs.Blocks.{kept_from, number_of, left_in, only_blocks, end_renamed}
use Rattle.flow_fold.specs.DropUnreached.{is_reached, unreached_dropped}
use Rattle.ir_simulation.proofs.Writes.{Ends, end_ends}
use Rattle.ir_simulation.proofs.Named.{EndsSo, SameBlocks, Keeps, same_blocks_follow}
use Rattle.ir_simulation.proofs.Reached.{Reached, reached_on, reached_not_stuck}
use Rattle.flow_fold.proofs.Listed.{map_at}
use Rattle.flow_fold.proofs.Reaching.{IsClosed, reached_closed}
use Rattle.flow_fold.proofs.Kept.{kept_at}
use Rattle.passes_meaning.proofs.NamedBlocks.{named, end_named, phis_kept}

module _ (p : Program) (f : ℕ) (old : FlatBody) (keep : ℕ → Bool) where
  abbrev new : FlatBody
  new = only_blocks keep old

  abbrev Left : ℕ → ℕ → Regs → Type 0
  Left b n regs = keep b ≡ true

  block_at : (b : ℕ) (k : FlatBlock) → slice_get old.blocks b ≡ Some k → keep b ≡ true → slice_get new.blocks (number_of keep b) ≡ Some (left_in keep k)
  block_at b k e left = map_at (left_in keep) (kept_from keep 0 old.blocks) (number_of keep b) k (kept_at keep old.blocks b k e left)

  same_block : (b : ℕ) (k l : FlatBlock) → slice_get old.blocks b ≡ Some k → keep b ≡ true → slice_get new.blocks (number_of keep b) ≡ Some l → l ≡ left_in keep k
  same_block b k l e left g = let both : Some l ≡ Some (left_in keep k) = sym g ∙ block_at b k e left in cc

  left_kept : (r : Run) → keep r.top.block ≡ true → (e : Effect) → Keeps p f old new (number_of keep) Left r e
  left_kept r left (Sets d v) = left
  left_kept r left (Allocates d size align) = λ v. left
  left_kept r left (Stores m) = left
  left_kept r left (Puts None b) = left
  left_kept r left (Puts (Some d) b) = λ v. left
  left_kept r left (Takes None) = left
  left_kept r left (Takes (Some d)) = λ v. left
  left_kept r left (Enters None g args) = left
  left_kept r left (Enters (Some d) g args) = λ v. left
  left_kept r left (Goes c) = tt
  left_kept r left (Returns v) = tt
  left_kept r left (Stops w) = tt
  left_kept r left NoMeaning = tt
  left_kept r left NoValue = tt

  module _ (closed : IsClosed keep old) where
    ends_so : (r : Run) (k : FlatBlock) → slice_get old.blocks r.top.block ≡ Some k → keep r.top.block ≡ true → (e : Effect) → Ends k.end e → end_effect r.top.regs (end_renamed (number_of keep) k.end) ≡ named (number_of keep) e
        → EndsSo p f old new (number_of keep) Left r (left_in keep k) e
    ends_so r k found left (Goes c) a same = (
      same,
      λ l regs at' phis.
          let on = closed.on r.top.block c k found left a in (
            left_in keep l,
            block_at c l at' on,
            phis_kept keep r.top.block left r.top.regs l.phis ∙ phis,
            on,
          ),
    )
    ends_so r k found left (Returns v) a same = same
    ends_so r k found left NoMeaning a same = tt
    ends_so r k found left NoValue a same = tt
    ends_so r k found left (Sets d v) a same = absurd a
    ends_so r k found left (Allocates d size align) a same = absurd a
    ends_so r k found left (Stores m) a same = absurd a
    ends_so r k found left (Puts d b) a same = absurd a
    ends_so r k found left (Takes d) a same = absurd a
    ends_so r k found left (Enters d g args) a same = absurd a
    ends_so r k found left (Stops w) a same = absurd a

    module _ (is_old : p.body f ≡ Some old) (input : List ℕ) (never : (n : ℕ) → (flat_run p input n).status ≢ Stuck) where
      same_blocks : SameBlocks p f old new (number_of keep) Left (Reached p input)
      same_blocks = record {
        is_old = is_old;
        same_params = refl;
        fine_on = reached_on p input;
        not_stuck = reached_not_stuck p input never;
        entry = refl;
        starts = λ regs none. closed.entry;
        blocks = λ b n regs k left found. (left_in keep k, block_at b k found left);
        code = λ r fine going is left k l found found_new i at'.
            inr (i, subst (λ (z : FlatBlock). slice_get z.code r.top.place ≡ Some i) (sym (same_block r.top.block k l found left found_new)) at', refl, left_kept r left _);
        ends = λ r fine going is left k l found found_new past.
            subst (λ (z : FlatBlock). (slice_get z.code r.top.place ≡ None) × EndsSo p f old new (number_of keep) Left r z (end_effect r.top.regs k.end)) (sym (same_block r.top.block k l found left found_new))
            (past, ends_so r k found left (end_effect r.top.regs k.end) (end_ends r.top.regs k.end) (end_named (number_of keep) r.top.regs k.end));
      }

      pub left_follow : Follows (flat_run p input) (flat_run (with_body p f (only_blocks keep old)) input)
      left_follow = same_blocks_follow p f old new (number_of keep) Left (Reached p input) same_blocks input (0, refl)

pub unreached_follow : (p : Program) (f : ℕ) (old : FlatBody) → p.body f ≡ Some old → (input : List ℕ) → ((n : ℕ) → (flat_run p input n).status ≢ Stuck) → Follows (flat_run p input) (flat_run (with_body p f (unreached_dropped old)) input)
unfolding unreached_dropped
unreached_follow p f old is_old input never = left_follow p f old (is_reached old) (reached_closed old) is_old input never
