-- Bodies in which no branch is decided, of which all blocks are left, or in which none is to be merged: they stay as they are.
use Rattle.std.proofs.Common.{◌≡◌, inl, inr, ℕ, zero, suc, ◌+◌, ◌<◌, Bool, true, false, not, ◌&&◌, nat_eq, nat_lt, is_some, if◌then◌else◌, List, [], ◌∷◌, ◌++◌, map, length, Option, Some, None, slice_get, Contains, refl, sym, ap, ap₂, ◌∙◌, subst, arith}
use Rattle.std.specs.List.{filter, list_any, list_all}
use Rattle.std.specs.Fn.{iterate}
use Rattle.std.proofs.lemmas.Bool.Decides.{nat_tests}
use Rattle.std.proofs.lemmas.Option.{slice_get_within}
use Rattle.oi_base.specs.declared.ids.BlockId.{BlockId}
use Rattle.ir_core.specs.declared.flat.Case.{Case}
use Rattle.ir_core.specs.declared.flat.Entry.{Entry}
use Rattle.ir_core.specs.declared.flat.Phi.{Phi}
use Rattle.ir_core.specs.declared.flat.FlatEnd.{FlatEnd}
use Rattle.ir_core.specs.declared.flat.FlatEnd.TheVariants.{Ret, Br, Cond, Switch, Unreachable}
use Rattle.ir_core.specs.declared.flat.FlatBlock.{FlatBlock}
use Rattle.ir_core.specs.declared.flat.FlatBody.{FlatBody}
use Rattle.ir_core.specs.Formed.{targets}
use Rattle.ir_core.specs.WellFormed.{IsWellFormed}
use Rattle.ir_core.proofs.Lists.{Has, has_at, at_has, has_left, has_right, has_mapped, contains, element}
use Rattle.const_fold.proofs.Unchanged.{map_same_at, none_passes}
use Rattle.flow_fold.specs.Targets.{goes_to}
use Rattle.flow_fold.specs.Blocks.{by_number, kept_from, one_if, number_of, with_entries, entry_renamed, phi_renamed, block_named, case_renamed, end_renamed, left_in, only_blocks}
use Rattle.flow_fold.specs.FoldBranches.{decided, leaves, still_comes, block_decided, branches_folded}
use Rattle.flow_fold.specs.Changes.{change, with_change}
use Rattle.flow_fold.specs.DropUnreached.{is_reached, unreached_dropped}
use Rattle.flow_fold.specs.MergeBlocks.{Merging, comes_only, plain_target, merged_where, merged_to, merged_once_at, merged_once, merged_through, unmerged, all_merged, blocks_merged}
use Rattle.flow_fold.specs.Merges.{count_in, edge_count, next_where, next_merge}
use Rattle.flow_fold.specs.Walks.{marked_in}
use Rattle.flow_fold.specs.Settled.{is_decided}
use Rattle.flow_fold.proofs.Changing.{decided_is}
use Rattle.flow_fold.proofs.Edges.{one_edge}
use Rattle.flow_fold.proofs.OneMerge.{plain_targets}

-- ---- lists

map_same_in : {A : Type 0} (f : A → A) (xs : List A) → ((x : A) → Has xs x → f x ≡ x) → map f xs ≡ xs
map_same_in f xs same = map_same_at f xs (λ n x at. same x (has_at xs n x at))

filter_all : {A : Type 0} (p : A → Bool) (xs : List A) → ((x : A) → Has xs x → p x ≡ true) → filter p xs ≡ xs
filter_all p [] h = refl
filter_all p (x ∷ xs) h =
    ap (λ (t : Bool). if t then x ∷ filter p xs else filter p xs) (h x (inl refl)) ∙ ap (λ ys. x ∷ ys) (filter_all p xs (λ y in_xs. h y (inr in_xs)))

by_number_at : {A : Type 0} (f : ℕ → A → A) (m : ℕ) (xs : List A) → ((k n : ℕ) (x : A) → slice_get xs n ≡ Some x → f k x ≡ x) → by_number f m xs ≡ xs
by_number_at f m [] same = refl
by_number_at f m (x ∷ xs) same = ap₂ (λ y ys. y ∷ ys) (same m 0 x refl) (by_number_at f (suc m) xs (λ k n y at. same k (suc n) y at))

-- ---- no branch is decided

no_change : (o : Option BlockId) → is_some o ≡ false → o ≡ None
no_change None e = refl
no_change (Some b) e = absurd (let none : true ≡ false = e in cc)

module _ (body : FlatBody) (none : list_any is_decided body.blocks ≡ false) where
  end_same : (n : ℕ) (k : FlatBlock) → slice_get body.blocks n ≡ Some k → decided k.end ≡ k.end
  end_same n k at = decided_is k.end ∙ ap (with_change k.end) (no_change (change k.end) (none_passes is_decided body.blocks n k none at))

  no_edge_goes : (b n : ℕ) (o : Option FlatBlock) → slice_get body.blocks n ≡ o → leaves b o ≡ false
  no_edge_goes b n None at = refl
  no_edge_goes b n (Some k) at = ap (λ e. goes_to b k.end && not (goes_to b e)) (end_same n k at) ∙ both (goes_to b k.end)
    where
      both : (t : Bool) → (t && not t) ≡ false
      both true = refl
      both false = refl

  comes : (b : ℕ) (e : Entry) → still_comes body b e ≡ true
  comes b e = ap not (no_edge_goes b e.from.0 (slice_get body.blocks e.from.0) refl)

  block_same : (b n : ℕ) (k : FlatBlock) → slice_get body.blocks n ≡ Some k → block_decided body b k ≡ k
  block_same b n k at =
      ap₂ (λ fs e. record { phis = fs; code = k.code; end = e })
      (map_same_in (with_entries (still_comes body b)) k.phis (λ f in_k. ap (λ es. record f { entries = es }) (filter_all (still_comes body b) f.entries (λ e in_f. comes b e))))
      (end_same n k at)

  pub branches_stay : body ≡ branches_folded body
  unfolding branches_folded
  branches_stay = sym (ap (λ ks. record body { blocks = ks }) (by_number_at (block_decided body) 0 body.blocks (λ b n k at. block_same b n k at)))

-- ---- all blocks are left

number_same : (keep : ℕ → Bool) (size b : ℕ) → ((n : ℕ) → n < size → keep n ≡ true) → b < suc size → number_of keep b ≡ b
number_same keep size zero all lt = refl
number_same keep size (suc b) all lt =
    let before = number_same keep size b all (omega (arith, lt)) in
    let one : one_if (keep b) ≡ 1 = ap one_if (all b (omega (arith, lt))) in
    omega (arith, before, one)

kept_all : {A : Type 0} (keep : ℕ → Bool) (m : ℕ) (xs : List A) → ((n : ℕ) → n < length xs → keep (m + n) ≡ true) → kept_from keep m xs ≡ xs
kept_all keep m [] all = refl
kept_all keep m (x ∷ xs) all =
    let here : m + 0 ≡ m = omega arith in
    let first : keep m ≡ true = ap keep (sym here) ∙ all 0 (omega arith) in
    ap (λ (t : Bool). if t then x ∷ kept_from keep (suc m) xs else kept_from keep (suc m) xs) first
    ∙ ap (λ ys. x ∷ ys) (kept_all keep (suc m) xs (λ n lt. let next : suc m + n ≡ m + suc n = omega arith in ap keep next ∙ all (suc n) (omega (arith, lt))))

module _ (body : FlatBody) (h : IsWellFormed body) (keep : ℕ → Bool) (all : (n : ℕ) → n < length body.blocks → keep n ≡ true) where
  own_number : (b : ℕ) → b < length body.blocks → number_of keep b ≡ b
  own_number b lt = number_same keep (length body.blocks) b all (omega (arith, lt))

  named_same : (b : BlockId) → b.0 < length body.blocks → block_named (number_of keep) b ≡ b
  named_same b lt = ap (λ n. record { 0 = n }) (own_number b.0 lt)

  renamed_end : (e : FlatEnd) → ((t : ℕ) → Has (targets e) t → t < length body.blocks) → end_renamed (number_of keep) e ≡ e
  renamed_end (Ret a) within = refl
  renamed_end (Br b) within = ap Br (named_same b (within b.0 (inl refl)))
  renamed_end (Cond c t f) within = ap₂ (Cond c) (named_same t (within t.0 (inl refl))) (named_same f (within f.0 (inr (inl refl))))
  renamed_end (Switch a w cases other) within =
      ap₂ (Switch a w)
      (map_same_in (case_renamed (number_of keep)) cases (λ c in_cases.
      ap (λ b. record c { to = b }) (named_same c.to (within c.to.0 (has_left (map (λ (x : Case). x.to.0) cases) (other.0 ∷ []) c.to.0 (has_mapped (λ (x : Case). x.to.0) cases c in_cases))))))
      (named_same other (within other.0 (has_right (map (λ (x : Case). x.to.0) cases) (other.0 ∷ []) other.0 (inl refl))))
  renamed_end Unreachable within = refl

  from_within : (b : ℕ) (k : FlatBlock) → slice_get body.blocks b ≡ Some k → (f : Phi) → Has k.phis f → (e : Entry) → Has f.entries e → e.from.0 < length body.blocks
  from_within b k at f in_k e in_f =
      let edge = (h.formed.phis b k f at (contains k.phis f in_k)).0.only e (contains f.entries e in_f) in
      slice_get_within body.blocks e.from.0 edge.0 edge.1

  phi_same : (b : ℕ) (k : FlatBlock) → slice_get body.blocks b ≡ Some k → (f : Phi) → Has k.phis f → phi_renamed (number_of keep) (with_entries (λ e. keep e.from.0) f) ≡ f
  phi_same b k at f in_k =
      ap (λ es. record f { entries = es })
      (ap (map (entry_renamed (number_of keep))) (filter_all (λ (e : Entry). keep e.from.0) f.entries (λ e in_f. all e.from.0 (from_within b k at f in_k e in_f)))
      ∙ map_same_in (entry_renamed (number_of keep)) f.entries (λ e in_f. ap (λ n. record e { from = record { 0 = n } }) (own_number e.from.0 (from_within b k at f in_k e in_f))))

  left_same : (b : ℕ) (k : FlatBlock) → slice_get body.blocks b ≡ Some k → left_in keep k ≡ k
  left_same b k at =
      ap₂ (λ fs e. record { phis = fs; code = k.code; end = e })
      (map_same_in (λ (f : Phi). phi_renamed (number_of keep) (with_entries (λ e. keep e.from.0) f)) k.phis (λ f in_k. phi_same b k at f in_k))
      (renamed_end k.end (λ t goes. h.formed.in_range b t (k, at, contains (targets k.end) t goes)))

  pub all_stay : body ≡ only_blocks keep body
  all_stay = sym (ap (λ ks. record body { blocks = ks })
      (ap (map (left_in keep)) (kept_all keep 0 body.blocks (λ n lt. let z : 0 + n ≡ n = omega arith in ap keep z ∙ all n lt)) ∙ map_same_at (left_in keep) body.blocks (λ n k at. left_same n k at)))

marked_all : (marks : List Bool) → list_all (λ t. t) marks ≡ true → (n : ℕ) → n < length marks → marked_in marks n ≡ true
marked_all [] e n lt = absurd (omega (arith, lt))
marked_all (true ∷ ms) e zero lt = refl
marked_all (true ∷ ms) e (suc n) lt = marked_all ms e n (omega (arith, lt))
marked_all (false ∷ ms) e n lt = absurd (let none : false ≡ true = e in cc)

-- where each block is reached
pub reached_stay : (body : FlatBody) → IsWellFormed body → (marks : List Bool) → marked_in marks ≡ is_reached body → length marks ≡ length body.blocks → list_all (λ t. t) marks ≡ true → body ≡ unreached_dropped body
unfolding unreached_dropped
reached_stay body h marks is long e =
    all_stay body h (is_reached body) (λ n lt. ap (λ (keep : ℕ → Bool). keep n) (sym is) ∙ marked_all marks e n (omega (arith, lt, long)))

-- ---- no block is to be merged

still : {S : Type 0} (step : S → S) (n : ℕ) (x : S) → step x ≡ x → iterate step n x ≡ x
still step zero x e = refl
still step (suc n) x e = ap (iterate step n) e ∙ still step n x e

module _ (body : FlatBody) (counts : List ℕ) (counted : (t : ℕ) → count_in counts t ≡ edge_count t body.blocks) (none : (n : ℕ) (k : FlatBlock) → slice_get body.blocks n ≡ Some k → next_merge n counts k ≡ None) where
  once_same : (n : ℕ) → merged_once n (unmerged body) ≡ unmerged body
  once_same n = by_block (slice_get body.blocks n) refl
    where
      by_test : (k : FlatBlock) (m : ℕ) (t : Bool) → (if t then Some m else None) ≡ None → merged_where (unmerged body) n m k t (slice_get body.blocks m) ≡ unmerged body
      by_test k m false e = refl
      by_test k m true e = absurd cc

      by_target : (k : FlatBlock) → slice_get body.blocks n ≡ Some k → (o : Option ℕ) → plain_target k.end ≡ o → next_where n counts o ≡ None → merged_to (unmerged body) n k o ≡ unmerged body
      by_target k at None plain e = refl
      by_target k at (Some m) plain e =
          let z : 0 + n ≡ n = omega arith in
          ap (λ t. merged_where (unmerged body) n m k (not (nat_eq m 0) && not (nat_eq m n) && t) (slice_get body.blocks m))
          (one_edge n m 0 body.blocks n k z at (plain_targets k.end m plain) ∙ ap (λ x. nat_eq x 1) (sym (counted m)))
          ∙ by_test k m (not (nat_eq m 0) && not (nat_eq m n) && nat_eq (count_in counts m) 1) e

      by_block : (o : Option FlatBlock) → slice_get body.blocks n ≡ o → merged_once_at (unmerged body) n o ≡ unmerged body
      by_block None at = refl
      by_block (Some k) at = by_target k at (plain_target k.end) refl (none n k at)

  through_same : (n : ℕ) → merged_through n (unmerged body) ≡ unmerged body
  through_same zero = refl
  through_same (suc n) = ap (λ s. iterate (merged_once n) (length s.blocks) s) (through_same n) ∙ still (merged_once n) (length body.blocks) (unmerged body) (once_same n)

  pub blocks_stay : IsWellFormed body → body ≡ blocks_merged body
  unfolding blocks_merged
  blocks_stay h =
      all_stay body h (λ b. nat_lt b (length body.blocks)) (λ n lt. grind (arith, nat_tests))
      ∙ ap (λ (s : Merging). only_blocks s.left (record body { blocks = s.blocks })) (sym (through_same (length body.blocks)))
