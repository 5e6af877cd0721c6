-- How many edges lead to a block, and lists in which elements are replaced.
use Rattle.std.proofs.Common.{◌≡◌, ◌≢◌, ◌⊎◌, inl, inr, ℕ, zero, suc, ◌+◌, ◌<◌, Bool, true, false, not, ◌&&◌, ◌||◌, nat_eq, if◌then◌else◌, List, [], ◌∷◌, map, length, Option, Some, None, slice_get, slice_set, slice_index_or, refl, sym, ap, ap₂, ◌∙◌, subst, arith}
use Rattle.std.specs.List.{list_any}
use Rattle.std.proofs.lemmas.Bool.Decides.{nat_tests}
use Rattle.ir_core.specs.declared.flat.FlatBlock.{FlatBlock}
use Rattle.ir_core.specs.declared.flat.FlatEnd.{FlatEnd}
use Rattle.ir_core.specs.Formed.{targets}
use Rattle.flow_fold.specs.Targets.{goes_to}
use Rattle.flow_fold.specs.Blocks.{one_if}
use Rattle.flow_fold.specs.MergeBlocks.{comes_only}
use Rattle.flow_fold.specs.Merges.{count, edge_count}

-- ---- replaced elements

pub set_apart : {A : Type 0} (xs : List A) (n m : ℕ) (a b : A) → m ≢ n → slice_set (slice_set xs m b) n a ≡ slice_set (slice_set xs n a) m b
set_apart [] n m a b apart = refl
set_apart (x ∷ xs) zero zero a b apart = absurd (apart refl)
set_apart (x ∷ xs) zero (suc m) a b apart = refl
set_apart (x ∷ xs) (suc n) zero a b apart = refl
set_apart (x ∷ xs) (suc n) (suc m) a b apart = ap (λ ys. x ∷ ys) (set_apart xs n m a b (λ e. apart (ap suc e)))

pub set_twice : {A : Type 0} (xs : List A) (n : ℕ) (a b : A) → slice_set (slice_set xs n a) n b ≡ slice_set xs n b
set_twice [] n a b = refl
set_twice (x ∷ xs) zero a b = refl
set_twice (x ∷ xs) (suc n) a b = ap (λ ys. x ∷ ys) (set_twice xs n a b)

pub set_length : {A : Type 0} (xs : List A) (n : ℕ) (a : A) → length (slice_set xs n a) ≡ length xs
set_length [] n a = refl
set_length (x ∷ xs) zero a = refl
set_length (x ∷ xs) (suc n) a = ap suc (set_length xs n a)

pub get_other : {A : Type 0} (xs : List A) (n k : ℕ) (a : A) → k ≢ n → slice_get (slice_set xs n a) k ≡ slice_get xs k
get_other [] n k a apart = refl
get_other (x ∷ xs) zero zero a apart = absurd (apart refl)
get_other (x ∷ xs) zero (suc k) a apart = refl
get_other (x ∷ xs) (suc n) zero a apart = refl
get_other (x ∷ xs) (suc n) (suc k) a apart = get_other xs n k a (λ e. apart (ap suc e))

pub get_own : {A : Type 0} (xs : List A) (n : ℕ) (a x : A) → slice_get (slice_set xs n a) n ≡ Some x → x ≡ a
get_own [] n a x e = absurd cc
get_own (y ∷ ys) zero a x e = cc
get_own (y ∷ ys) (suc n) a x e = get_own ys n a x e

pub index_own : (xs : List ℕ) (n a d : ℕ) → n < length xs → slice_index_or (slice_set xs n a) n d ≡ a
index_own [] n a d lt = absurd (omega (arith, lt))
index_own (x ∷ xs) zero a d lt = refl
index_own (x ∷ xs) (suc n) a d lt = index_own xs n a d (omega (arith, lt))

pub index_other : {A : Type 0} (xs : List A) (n k : ℕ) (a d : A) → k ≢ n → slice_index_or (slice_set xs n a) k d ≡ slice_index_or xs k d
index_other [] n k a d apart = refl
index_other (x ∷ xs) zero zero a d apart = absurd (apart refl)
index_other (x ∷ xs) zero (suc k) a d apart = refl
index_other (x ∷ xs) (suc n) zero a d apart = refl
index_other (x ∷ xs) (suc n) (suc k) a d apart = index_other xs n k a d (λ e. apart (ap suc e))

-- ---- counts

pub edges_set : (t : ℕ) (ks : List FlatBlock) (i : ℕ) (k y : FlatBlock) → slice_get ks i ≡ Some k → edge_count t (slice_set ks i y) + count t (targets k.end) ≡ edge_count t ks + count t (targets y.end)
edges_set t [] i k y e = absurd cc
edges_set t (x ∷ xs) zero k y e = let same : x ≡ k = cc in let eq : count t (targets x.end) ≡ count t (targets k.end) = ap (λ (z : FlatBlock). count t (targets z.end)) same in omega (arith, eq)
edges_set t (x ∷ xs) (suc i) k y e = let rest = edges_set t xs i k y e in omega (arith, rest)

goes_count : (t : ℕ) (ts : List ℕ) → not (list_any (λ x. nat_eq x t) ts) ≡ nat_eq (count t ts) 0
goes_count t [] = refl
goes_count t (x ∷ xs) = by_test (nat_eq x t) (goes_count t xs)
  where
    by_test : (b : Bool) → not (list_any (λ x. nat_eq x t) xs) ≡ nat_eq (count t xs) 0 → not (b || list_any (λ x. nat_eq x t) xs) ≡ nat_eq (one_if b + count t xs) 0
    by_test true h = let some : nat_eq (1 + count t xs) 0 ≡ false = grind (arith, nat_tests) in sym some
    by_test false h = let same : 0 + count t xs ≡ count t xs = omega arith in h ∙ ap (λ n. nat_eq n 0) (sym same)

sum_none : (a b : ℕ) → (nat_eq a 0 && nat_eq b 0) ≡ nat_eq (a + b) 0
sum_none a b = by_tests (nat_eq a 0) (nat_eq b 0) refl refl
  where
    by_tests : (s t : Bool) → nat_eq a 0 ≡ s → nat_eq b 0 ≡ t → (s && t) ≡ nat_eq (a + b) 0
    by_tests true true e f = let x : a ≡ 0 = grind (arith, nat_tests) in let y : b ≡ 0 = grind (arith, nat_tests) in let z : a + b ≡ 0 = omega (arith, x, y) in let r : nat_eq (a + b) 0 ≡ true = grind (arith, nat_tests) in sym r
    by_tests true false e f = let y : b ≢ 0 = λ is. absurd (grind (arith, nat_tests)) in let z : a + b ≢ 0 = λ is. y (omega (arith, is)) in let r : nat_eq (a + b) 0 ≡ false = grind (arith, nat_tests) in sym r
    by_tests false t e f = let x : a ≢ 0 = λ is. absurd (grind (arith, nat_tests)) in let z : a + b ≢ 0 = λ is. x (omega (arith, is)) in let r : nat_eq (a + b) 0 ≡ false = grind (arith, nat_tests) in sym r

-- no block but n has an edge to m: here none of the blocks is n
no_edge : (n m a : ℕ) (ks : List FlatBlock) → n < a → comes_only n m a ks ≡ nat_eq (edge_count m ks) 0
no_edge n m a [] lt = refl
no_edge n m a (k ∷ ks) lt =
    let apart : nat_eq a n ≡ false = grind (arith, nat_tests) in
    ap (λ t. (t || not (goes_to m k.end)) && comes_only n m (suc a) ks) apart
    ∙ ap₂ (λ s t. s && t) (goes_count m (targets k.end)) (no_edge n m (suc a) ks (omega (arith, lt)))
    ∙ sum_none (count m (targets k.end)) (edge_count m ks)

-- and here block n is one of them, and has one edge to m
pub one_edge : (n m a : ℕ) (ks : List FlatBlock) (j : ℕ) (k : FlatBlock) → a + j ≡ n → slice_get ks j ≡ Some k → targets k.end ≡ m ∷ [] → comes_only n m a ks ≡ nat_eq (edge_count m ks) 1
one_edge n m a [] j k at' e goes = absurd cc
one_edge n m a (x ∷ xs) zero k at' e goes =
    let same : x ≡ k = cc in
    let here : nat_eq a n ≡ true = grind (arith, nat_tests) in
    let own : nat_eq m m ≡ true = grind (arith, nat_tests) in
    let one : count m (targets x.end) ≡ 1 = ap (λ (z : FlatBlock). count m (targets z.end)) same ∙ ap (count m) goes ∙ ap (λ t. one_if t + 0) own in
    ap (λ t. (t || not (goes_to m x.end)) && comes_only n m (suc a) xs) here
    ∙ no_edge n m (suc a) xs (omega (arith, at'))
    ∙ sym (ap (λ c. nat_eq (c + edge_count m xs) 1) one ∙ by_rest (edge_count m xs))
  where
    by_rest : (c : ℕ) → nat_eq (1 + c) 1 ≡ nat_eq c 0
    by_rest c = by_test (nat_eq c 0) refl
      where
        by_test : (t : Bool) → nat_eq c 0 ≡ t → nat_eq (1 + c) 1 ≡ t
        by_test true e = let z : c ≡ 0 = grind (arith, nat_tests) in let o : 1 + c ≡ 1 = omega (arith, z) in grind (arith, nat_tests)
        by_test false e = let z : c ≢ 0 = λ is. absurd (grind (arith, nat_tests)) in let o : 1 + c ≢ 1 = λ is. z (omega (arith, is)) in grind (arith, nat_tests)
one_edge n m a (x ∷ xs) (suc j) k at' e goes =
    let apart : nat_eq a n ≡ false = grind (arith, nat_tests) in
    let next : suc a + j ≡ n = omega (arith, at') in
    ap (λ t. (t || not (goes_to m x.end)) && comes_only n m (suc a) xs) apart
    ∙ ap₂ (λ s t. s && t) (goes_count m (targets x.end)) (one_edge n m (suc a) xs j k next e goes)
    ∙ by_counts (count m (targets x.end)) (edge_count m xs) (some_edge xs j k e goes)
  where
    some_edge : (ys : List FlatBlock) (j : ℕ) (k : FlatBlock) → slice_get ys j ≡ Some k → targets k.end ≡ m ∷ [] → 0 < edge_count m ys
    some_edge [] j k e goes = absurd cc
    some_edge (y ∷ ys) zero k e goes =
        let same : y ≡ k = cc in
        let own : nat_eq m m ≡ true = grind (arith, nat_tests) in
        let one : count m (targets y.end) ≡ 1 = ap (λ (z : FlatBlock). count m (targets z.end)) same ∙ ap (count m) goes ∙ ap (λ t. one_if t + 0) own in
        omega (arith, one)
    some_edge (y ∷ ys) (suc j) k e goes = let rest = some_edge ys j k e goes in omega (arith, rest)

    by_counts : (c d : ℕ) → 0 < d → (nat_eq c 0 && nat_eq d 1) ≡ nat_eq (c + d) 1
    by_counts c d some = by_tests (nat_eq c 0) (nat_eq d 1) refl refl
      where
        by_tests : (s t : Bool) → nat_eq c 0 ≡ s → nat_eq d 1 ≡ t → (s && t) ≡ nat_eq (c + d) 1
        by_tests true true p q = let x : c ≡ 0 = grind (arith, nat_tests) in let y : d ≡ 1 = grind (arith, nat_tests) in let z : c + d ≡ 1 = omega (arith, x, y) in let r : nat_eq (c + d) 1 ≡ true = grind (arith, nat_tests) in sym r
        by_tests true false p q = let x : c ≡ 0 = grind (arith, nat_tests) in let y : d ≢ 1 = λ is. absurd (grind (arith, nat_tests)) in let z : c + d ≢ 1 = λ is. y (omega (arith, is, x)) in let r : nat_eq (c + d) 1 ≡ false = grind (arith, nat_tests) in sym r
        by_tests false t p q = let x : c ≢ 0 = λ is. absurd (grind (arith, nat_tests)) in let z : c + d ≢ 1 = λ is. x (omega (arith, is, some)) in let r : nat_eq (c + d) 1 ≡ false = grind (arith, nat_tests) in sym r
