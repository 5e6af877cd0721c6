-- The blocks to which paths lead from the entry.
use Rattle.std.proofs.Common.{◌≡◌, ℕ, Bool, true, List, [], ◌∷◌, length, Option, Some, None, slice_get, Contains, refl, sym, ap, ◌∙◌, subst}
use Rattle.std.proofs.lemmas.Option.{slice_get_within}
use Rattle.ir_core.specs.declared.flat.FlatBlock.{FlatBlock}
use Rattle.ir_core.specs.declared.flat.FlatBody.{FlatBody}
use Rattle.ir_core.specs.Formed.{IsEdge, IsPath, targets}
use Rattle.ir_core.proofs.Lists.{contains, has_in}
use Rattle.flow_fold.specs.Targets.{goes_to}
use Rattle.flow_fold.specs.DropUnreached.{has_edge, block_goes_to, is_reached}
use Rattle.flow_fold.proofs.BranchesFormed.{goes_has, has_goes}
use Rattle.flow_fold.proofs.Ways.{by_edge, to_itself, joins, least}

-- the entry is left, and so is each block to which one that is left goes
pub record IsClosed (keep : ℕ → Bool) (body : FlatBody) : Type 0 where
  pub entry : keep 0 ≡ true
  pub on : (a b : ℕ) (k : FlatBlock) → slice_get body.blocks a ≡ Some k → keep a ≡ true → goes_to b k.end ≡ true → keep b ≡ true

pub edge_of : (body : FlatBody) (a b : ℕ) (k : FlatBlock) → slice_get body.blocks a ≡ Some k → goes_to b k.end ≡ true → has_edge body a b ≡ true
edge_of body a b k found goes = ap (block_goes_to b) found ∙ goes

-- an edge that a test tells
pub told_edge : (body : FlatBody) (a b : ℕ) → has_edge body a b ≡ true → IsEdge body a b
told_edge body a b e = by_block (slice_get body.blocks a) refl e
  where
    by_block : (o : Option FlatBlock) → slice_get body.blocks a ≡ o → block_goes_to b o ≡ true → IsEdge body a b
    by_block None is e = absurd cc
    by_block (Some k) is e = (k, is, contains (targets k.end) b (goes_has (targets k.end) b e))

pub reached_closed : (body : FlatBody) → IsClosed (is_reached body) body
reached_closed body = record {
  entry = to_itself (has_edge body) (length body.blocks) 0;
  on = λ a b k found left goes. joins (has_edge body) (length body.blocks) 0 a b (slice_get_within body.blocks a k found) left (by_edge (has_edge body) (length body.blocks) a b (edge_of body a b k found goes));
}

module _ (body : FlatBody) where
  abbrev HasPath : ℕ → Type 0
  HasPath b = (older : List ℕ) × IsPath body (b ∷ older)

  on_edge : (a b : ℕ) → HasPath a → has_edge body a b ≡ true → HasPath b
  on_edge a b path e = (a ∷ path.0, (told_edge body a b e, path.1))

  -- a path leads to each block that is reached
  pub reached_path : (b : ℕ) → is_reached body b ≡ true → HasPath b
  reached_path b e = least (has_edge body) HasPath on_edge (length body.blocks) 0 b ([], refl) e

  -- and each block to which a path leads is reached
  pub path_reached : (older : List ℕ) (b : ℕ) → IsPath body (b ∷ older) → is_reached body b ≡ true
  path_reached [] b start = subst (λ n. is_reached body n ≡ true) (sym start) (reached_closed body).entry
  path_reached (a ∷ older) b path =
      let edge = path.0 in
      (reached_closed body).on a b edge.0 edge.1 (path_reached older a path.1) (has_goes (targets edge.0.end) b (has_in (targets edge.0.end) b edge.2))
