-- With the blocks of one function merged a formed program is formed, and follows.
use Rattle.std.proofs.Common.{◌≡◌, ◌≢◌, ℕ, zero, suc, ◌<◌, Bool, true, false, not, ◌&&◌, nat_eq, if◌then◌else◌, List, ◌∷◌, length, Option, Some, None, slice_get, All, refl, sym, ap, ◌∙◌, subst, arith}
use Rattle.std.proofs.lemmas.Bool.Decides.{nat_tests}
use Rattle.std.proofs.lemmas.Option.{slice_get_within}
use Rattle.std.proofs.lemmas.List.Elements.{All-contains}
use Rattle.oi_base.specs.declared.ids.FuncId.{FuncId}
use Rattle.oi_base.specs.Follows.{Going, Follows}
use Rattle.oi_base.proofs.Chain.{follows_trans}
use Rattle.ir_core.specs.declared.flat.Scalar.{Scalar}
use Rattle.ir_core.specs.declared.flat.FlatOp.{FlatOp}
use Rattle.ir_core.specs.declared.flat.FlatInstr.TheVariants.{Call}
use Rattle.ir_core.specs.declared.flat.FlatBlock.{FlatBlock}
use Rattle.ir_core.specs.declared.flat.FlatBody.{FlatBody}
use Rattle.ir_core.specs.Flat.{Program, Run, flat_run}
use Rattle.ir_core.specs.Formed.{FuncType, IsEdge, IsPath, IsFormedBody, IsFormed, NamesGlobal, targets, uses, all_uses}
use Rattle.ir_core.proofs.Lists.{Has, contains, has_in, has_at, at_has, has_part}
use Rattle.ir_safety.proofs.Elements.{in_part}
use Rattle.ir_safety.proofs.Safe.{NotFalse}
use Rattle.ir_safety.proofs.Standing.{Runs}
use Rattle.ir_safety.proofs.FormedSafe.{formed_safe}
use Rattle.ir_safety.proofs.NeverStuck.{never_stuck, runs_on}
use Rattle.flow_fold.specs.Blocks.{only_blocks}
use Rattle.flow_fold.specs.MergeBlocks.{Merging, comes_only, plain_target, one_name, merged, unmerged, all_merged, blocks_merged}
use Rattle.flow_fold.proofs.BranchesFormed.{goes_has, has_goes}
use Rattle.flow_fold.proofs.DroppedFormed.{source, old_use}
use Rattle.flow_fold.proofs.MergeFormed.{merge_formed, edges_now}
use Rattle.flow_fold.proofs.MergeTurns.{blocks_hold}
use Rattle.flow_fold.proofs.MergedFormed.{only_from, all_merged_formed}
use Rattle.flow_fold.proofs.OneMerge.{plain_targets}
use Rattle.flow_fold.proofs.Reaching.{IsClosed}
use Rattle.ir_simulation.specs.KeepsMeaning.{FollowsOnBytes, KeepsMeaning}
use Rattle.ir_simulation.specs.Replaced.{with_body}
use Rattle.ir_simulation.proofs.Composed.{twice, there, follows_itself}
use Rattle.ir_simulation.proofs.Reached.{Reached}
use Rattle.ir_simulation.proofs.ReplacedFormed.{IsCalled, each_all, replaced_formed}
use Rattle.passes_meaning.proofs.Merges.{merge_follows}
use Rattle.passes_meaning.proofs.MergePremises.{may_merge}
use Rattle.passes_meaning.proofs.MergedParts.{call_before, names_before}
use Rattle.passes_meaning.proofs.UnreachedFollow.{left_follow}

-- a run of a formed program stands on a path of the body in which it is
on_path : (p : Program) (types : ℕ → ℕ → Scalar) (funcs : ℕ → FuncType) → IsFormed p types funcs → (f : ℕ) (body : FlatBody) → p.body f ≡ Some body → (input : List ℕ) → All (λ b. b < 256) input
    → (r : Run) → Reached p input r → r.status ≡ Going → r.top.func ≡ f → (((older : List ℕ) × IsPath body (r.top.block ∷ older)) → ⊥) → ⊥
on_path p types funcs formed f body is_body input small r reached going is none = stands (λ runs.
    let both : Some runs.top.body ≡ Some body = sym runs.top.is_body ∙ ap p.body is ∙ is_body in
    let one : runs.top.body ≡ body = cc in
    none (runs.top.older, subst (λ (b : FlatBody). IsPath b (r.top.block ∷ runs.top.older)) one runs.top.path))
  where
    stands : NotFalse (Runs p types funcs r)
    stands = subst (λ (x : Run). NotFalse (Runs p types funcs x)) (sym reached.1) (runs_on p types funcs (formed_safe p types funcs formed) input small reached.0 (ap (λ (x : Run). x.status) (sym reached.1) ∙ going))

module _ (p : Program) (types : ℕ → ℕ → Scalar) (funcs : ℕ → FuncType) (formed : IsFormed p types funcs) (f : ℕ) (body : FlatBody) (is_body : p.body f ≡ Some body) where
  abbrev with_blocks : List FlatBlock → FlatBody
  with_blocks bs = record body { blocks = bs }

  -- after some merges the body is formed, no edge leads to a block that isn't left, and the program with it follows
  record Holds (s : Merging) : Type 0 where
    formed_body : IsFormedBody (types f) funcs (funcs f) (with_blocks s.blocks)
    entry : s.left 0 ≡ true
    edges : (a b : ℕ) → IsEdge (with_blocks s.blocks) a b → s.left b ≡ true
    calls : (g : FuncId) → IsCalled (with_blocks s.blocks) g → IsCalled body g
    names : (o : FlatOp) → Has (all_uses (with_blocks s.blocks)) o → NamesGlobal (length p.globals) o
    follows : FollowsOnBytes p (with_body p f (with_blocks s.blocks))

  program_formed : (s : Merging) → Holds s → IsFormed (with_body p f (with_blocks s.blocks)) types funcs
  program_formed s h = replaced_formed p types funcs formed f body (with_blocks s.blocks) is_body h.formed_body h.calls (each_all (NamesGlobal (length p.globals)) (all_uses (with_blocks s.blocks)) h.names)

  -- ---- one merge more

  merge_holds : (s : Merging) → Holds s → (n m : ℕ) (k l : FlatBlock) → slice_get s.blocks n ≡ Some k → slice_get s.blocks m ≡ Some l → plain_target k.end ≡ Some m → m ≢ 0 → m ≢ n → comes_only n m 0 s.blocks ≡ true → Holds (merged s n m k l)
  merge_holds s h n m k l at_n at_m plain inner apart only = record {
    formed_body = merge_formed (types f) funcs (funcs f) old h.formed_body n m k l at_n at_m (plain_targets k.end m plain) inner apart alone;
    entry = let other : nat_eq 0 m ≡ false = grind (arith, nat_tests) in ap (λ t. not t && s.left 0) other ∙ h.entry;
    edges = λ a b e.
        let was = edges_now (types f) funcs (funcs f) old h.formed_body n m k l at_n at_m (plain_targets k.end m plain) inner apart alone a b e in
        let differ = was.0 in
        let other : nat_eq b m ≡ false = grind (arith, nat_tests) in
        ap (λ t. not t && s.left b) other ∙ h.edges was.1.0 b was.1.1;
    calls = λ g call. h.calls g (call_before old n m k l (one_name n m) (has_at s.blocks n k at_n) (has_at s.blocks m l at_m) g call);
    names = names_before old n m k l (one_name n m) (has_at s.blocks n k at_n) (has_at s.blocks m l at_m) (length p.globals) h.names;
    follows = λ input small. follows_trans (flat_run p input) (flat_run q input) (flat_run (with_body p f new) input) (h.follows input small) (one_more input small);
  }
    where
      old : FlatBody
      old = with_blocks s.blocks

      new : FlatBody
      new = with_blocks (merged s n m k l).blocks

      q : Program
      q = with_body p f old

      alone : (a : ℕ) → IsEdge old a m → a ≡ n
      alone a e = let same = only_from n m 0 s.blocks a e.0 only e.1 (has_goes (targets e.0.end) m (has_in (targets e.0.end) m e.2)) in omega (arith, same)

      one_more : (input : List ℕ) → All (λ b. b < 256) input → Follows (flat_run q input) (flat_run (with_body p f new) input)
      one_more input small = subst (λ (x : Program). Follows (flat_run q input) (flat_run x input)) (twice p f old new)
          (merge_follows q f old n m k l (may_merge (types f) funcs (funcs f) q f old h.formed_body n m k l at_n at_m plain inner apart only) (there p f old) input
          (never_stuck q types funcs (formed_safe q types funcs (program_formed s h)) input small) (on_path q types funcs (program_formed s h) f old (there p f old) input small))

  same_program : with_body p f body ≡ p
  same_program = λ i. record p { body = λ g. at g (nat_eq g f) refl i }
    where
      at : (g : ℕ) (t : Bool) → nat_eq g f ≡ t → (if t then Some body else p.body g) ≡ p.body g
      at g true e = let same : f ≡ g = grind (arith, nat_tests) in sym is_body ∙ ap p.body same
      at g false e = refl

  begin_holds : Holds (unmerged body)
  begin_holds =
      let h = formed.bodies f body is_body in record {
        formed_body = h;
        entry = let k = h.entry in let less = slice_get_within body.blocks 0 k.0 k.1 in grind (arith, nat_tests);
        edges = λ a b e. let less = h.in_range a b e in grind (arith, nat_tests);
        calls = λ g call. call;
        names = λ o has. All-contains (NamesGlobal (length p.globals)) (all_uses body) o (formed.addresses f body is_body) (contains (all_uses body) o has);
        follows = λ input small. subst (λ (x : Program). Follows (flat_run p input) (flat_run x input)) (sym same_program) (follows_itself p input (never_stuck p types funcs (formed_safe p types funcs formed) input small));
      }

  -- ---- the blocks that are left

  module _ (s : Merging) (h : Holds s) (left_formed : IsFormedBody (types f) funcs (funcs f) (only_blocks s.left (with_blocks s.blocks))) where
    abbrev old : FlatBody
    old = with_blocks s.blocks

    abbrev new : FlatBody
    new = only_blocks s.left old

    closed : IsClosed s.left old
    closed = record { entry = h.entry; on = λ a b k e left goes. h.edges a b (k, e, contains (targets k.end) b (goes_has (targets k.end) b goes)) }

    left_call : (g : FuncId) → IsCalled new g → IsCalled body g
    left_call g call =
        let from = source (types f) funcs (funcs f) old h.formed_body s.left closed call.block call.code call.is_block in
        h.calls g (record { block = from.number; place = call.place; code = from.block; result = call.result; args = call.args; is_block = from.is_block; is_call = subst (λ (l : FlatBlock). slice_get l.code call.place ≡ Some (Call call.result g call.args)) from.same call.is_call })

    left_names : (o : FlatOp) → Has (all_uses new) o → NamesGlobal (length p.globals) o
    left_names o has =
        let part = in_part uses new.blocks o has in
        let place = at_has new.blocks part.0 part.1 in
        let from = source (types f) funcs (funcs f) old h.formed_body s.left closed place.0 part.0 place.1 in
        h.names o (has_part uses old.blocks from.block o (has_at old.blocks from.number from.block from.is_block) (old_use (types f) funcs (funcs f) old h.formed_body s.left closed from.number from.block o (subst (λ (u : FlatBlock). Has (uses u) o) from.same part.2)))

    left_kept : IsFormed (with_body p f new) types funcs × FollowsOnBytes p (with_body p f new)
    left_kept = (
      replaced_formed p types funcs formed f body new is_body left_formed left_call (each_all (NamesGlobal (length p.globals)) (all_uses new) left_names),
      λ input small.
          let q = with_body p f old in
          follows_trans (flat_run p input) (flat_run q input) (flat_run (with_body p f new) input) (h.follows input small)
          (subst (λ (x : Program). Follows (flat_run q input) (flat_run x input)) (twice p f old new)
          (left_follow q f old s.left closed (there p f old) input (never_stuck q types funcs (formed_safe q types funcs (program_formed s h)) input small))),
    )

  all_merged_kept : IsFormed (with_body p f (only_blocks (all_merged body).left (with_blocks (all_merged body).blocks))) types funcs × FollowsOnBytes p (with_body p f (only_blocks (all_merged body).left (with_blocks (all_merged body).blocks)))
  all_merged_kept = left_kept (all_merged body) (blocks_hold Holds merge_holds (length body.blocks) (unmerged body) begin_holds) (all_merged_formed (types f) funcs (funcs f) body (formed.bodies f body is_body))

pub merging_keeps_meaning : KeepsMeaning blocks_merged
unfolding blocks_merged
merging_keeps_meaning p types funcs h f old is_old = all_merged_kept p types funcs h f old is_old
