-- Edges that are counted one after another.
use Rattle.std.proofs.Common.{◌≡◌, ℕ, zero, suc, ◌+◌, ◌<◌, Bool, nat_eq, List, [], ◌∷◌, ◌++◌, length, take, Some, slice_get, slice_index_or, All, Contains, refl, sym, ap, ◌∙◌, subst, arith}
use Rattle.std.proofs.lemmas.Option.{slice_get-get_or}
use Rattle.std.proofs.lemmas.List.Elements.{All-contains_itself}
use Rattle.ir_core.specs.declared.flat.FlatBlock.{FlatBlock}
use Rattle.ir_core.specs.Formed.{targets}
use Rattle.ir_core.proofs.ByPosition.{take_next}
use Rattle.flow_fold.specs.Blocks.{one_if}
use Rattle.flow_fold.specs.Merges.{count, count_in, edge_count}

count_more : (t : ℕ) (xs : List ℕ) (y : ℕ) → count t (xs ++ y ∷ []) ≡ count t xs + one_if (nat_eq y t)
count_more t [] y = omega arith
count_more t (x ∷ xs) y = let rest = count_more t xs y in omega (arith, rest)

edges_more : (t : ℕ) (ks : List FlatBlock) (k : FlatBlock) → edge_count t (ks ++ k ∷ []) ≡ edge_count t ks + count t (targets k.end)
edges_more t [] k = omega arith
edges_more t (x ∷ xs) k = let rest = edges_more t xs k in omega (arith, rest)

pub counted_next : (old mid new : List ℕ) (ts : List ℕ) (at' b : ℕ) → slice_get ts at' ≡ Some b
    → ((t : ℕ) → count_in mid t ≡ count_in old t + count t (take at' ts)) → ((t : ℕ) → count_in new t ≡ count_in mid t + one_if (nat_eq b t)) → (t : ℕ) → count_in new t ≡ count_in old t + count t (take (at' + 1) ts)
counted_next old mid new ts at' b e so_far one t =
    let a = so_far t in
    let c = one t in
    let more : count t (take (at' + 1) ts) ≡ count t (take at' ts) + one_if (nat_eq b t) = ap (count t) (take_next ts at' (at' + 1) b refl e) ∙ count_more t (take at' ts) b in
    omega (arith, a, c, more)

pub edges_next : (old new : List ℕ) (ks : List FlatBlock) (at' : ℕ) (r : FlatBlock) → at' < length ks
    → ((t : ℕ) → count_in old t ≡ edge_count t (take at' ks)) → ((t : ℕ) → count_in new t ≡ count_in old t + count t (targets (slice_index_or ks at' r).end)) → (t : ℕ) → count_in new t ≡ edge_count t (take (at' + 1) ks)
edges_next old new ks at' r lt so_far one t =
    let a = so_far t in
    let c = one t in
    let more : edge_count t (take (at' + 1) ks) ≡ edge_count t (take at' ks) + count t (targets (slice_index_or ks at' r).end) =
    ap (edge_count t) (take_next ks at' (at' + 1) (slice_index_or ks at' r) refl (slice_get-get_or ks at' r lt)) ∙ edges_more t (take at' ks) (slice_index_or ks at' r) in
    omega (arith, a, c, more)

pub all_within : (ks : List FlatBlock) (n at' : ℕ) (r : FlatBlock) → ((a t : ℕ) (k : FlatBlock) → slice_get ks a ≡ Some k → Contains (targets k.end) t → t < length ks) → at' < length ks → n ≡ length ks → All (λ t. t < n) (targets (slice_index_or ks at' r).end)
all_within ks n at' r h lt e = subst (λ m. All (λ t. t < m) (targets (slice_index_or ks at' r).end)) (sym e) (λ i d less. h at' _ (slice_index_or ks at' r) (slice_get-get_or ks at' r lt) (All-contains_itself (targets (slice_index_or ks at' r).end) i d less))
