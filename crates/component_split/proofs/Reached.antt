-- The reached functions of a call graph rise and are in range.
use Rattle.std.proofs.Common.{◌≡◌, ℕ, zero, suc, ◌+◌, ◌<◌, ◌≤◌, sym, ap, ◌∙◌, arith, Bool, true, false, cond, if◌then◌else◌, List, [], ◌∷◌, ◌++◌, append_assoc, length, drop, drop-cons, Some, slice_get}
use Rattle.std.specs.Prelude.{slice_index}
use Rattle.std.specs.List.{All}
use Rattle.std.proofs.lemmas.Option.{get_or_from_slice_get}
use Rattle.std.proofs.lemmas.List.{get_or_default}
use Rattle.call_graph.specs.declared.facts.FuncFacts.{FuncFacts}
use Rattle.component_split.specs.Over.{reached_from, IsRising}
use Rattle.component_split.proofs.Lists.{rising_cons}

bounds : (n : ℕ) (fs : List FuncFacts) (i : ℕ) → i < length (reached_from n fs) → (n ≤ slice_index (reached_from n fs) i) × (slice_index (reached_from n fs) i < n + length fs)
bounds n [] i l = absurd (omega (arith, l))
bounds n (f ∷ fs) i l = one f.reached i l (bounds (n + 1) fs)
  where
    one : (b : Bool) (i : ℕ) → i < length (cond b (n ∷ reached_from (n + 1) fs) (reached_from (n + 1) fs)) → ((i : ℕ) → i < length (reached_from (n + 1) fs) → (n + 1 ≤ slice_index (reached_from (n + 1) fs) i) × (slice_index (reached_from (n + 1) fs) i < n + 1 + length fs))
        → (n ≤ slice_index (cond b (n ∷ reached_from (n + 1) fs) (reached_from (n + 1) fs)) i) × (slice_index (cond b (n ∷ reached_from (n + 1) fs) (reached_from (n + 1) fs)) i < n + length (f ∷ fs))
    one true zero l h = (omega arith, omega arith)
    one true (suc i) l h = let r = h i (omega (arith, l)) in let a = r.0 in let b = r.1 in (omega (arith, a), omega (arith, b))
    one false i l h = let r = h i l in let a = r.0 in let b = r.1 in (omega (arith, a), omega (arith, b))

pub reached_rising : (n : ℕ) (fs : List FuncFacts) → IsRising (reached_from n fs)
reached_rising n [] = λ i j l m. absurd (omega (arith, m))
reached_rising n (f ∷ fs) = one f.reached (reached_rising (n + 1) fs) (bounds (n + 1) fs)
  where
    one : (b : Bool) → IsRising (reached_from (n + 1) fs) → ((i : ℕ) → i < length (reached_from (n + 1) fs) → (n + 1 ≤ slice_index (reached_from (n + 1) fs) i) × (slice_index (reached_from (n + 1) fs) i < n + 1 + length fs)) → IsRising (cond b (n ∷ reached_from (n + 1) fs) (reached_from (n + 1) fs))
    one true r h = rising_cons n (reached_from (n + 1) fs) r (λ i l. let a = (h i l).0 in omega (arith, a))
    one false r h = r

all_below : (xs : List ℕ) (n : ℕ) → ((i : ℕ) → i < length xs → slice_index xs i < n) → All (λ f. f < n) xs
all_below xs n h = λ i d l. let e = get_or_default xs i d 0 l in let a = h i l in omega (arith, e, a)

pub reached_in_range : (fs : List FuncFacts) → All (λ f. f < length fs) (reached_from 0 fs)
reached_in_range fs = all_below (reached_from 0 fs) (length fs) (λ i l. let b = (bounds 0 fs i l).1 in omega (arith, b))

-- one more function
pub reached_more : (gs : List FuncFacts) (f : ℕ) (xs rs : List ℕ) (x : FuncFacts) → f < length gs → slice_get gs f ≡ Some x → (b : Bool) → x.reached ≡ b → xs ++ reached_from f (drop f gs) ≡ rs → (if b then (xs ++ f ∷ []) else xs) ++ reached_from (f + 1) (drop (f + 1) gs) ≡ rs
reached_more gs f xs rs x l e b t h =
    let s : suc f ≡ f + 1 = omega arith in
    let d : drop f gs ≡ x ∷ drop (f + 1) gs = drop-cons gs f x l ∙ ap (λ y. y ∷ drop (suc f) gs) (get_or_from_slice_get gs f x x e) ∙ ap (λ n. x ∷ drop n gs) s in
    let h2 : xs ++ reached_from f (x ∷ drop (f + 1) gs) ≡ rs = ap (λ (ys : List FuncFacts). xs ++ reached_from f ys) (sym d) ∙ h in
    one b t h2
  where
    one : (b : Bool) → x.reached ≡ b → xs ++ cond x.reached (f ∷ reached_from (f + 1) (drop (f + 1) gs)) (reached_from (f + 1) (drop (f + 1) gs)) ≡ rs → (if b then (xs ++ f ∷ []) else xs) ++ reached_from (f + 1) (drop (f + 1) gs) ≡ rs
    one true t h = append_assoc xs (f ∷ []) (reached_from (f + 1) (drop (f + 1) gs)) ∙ (rw t at h)
    one false t h = rw t at h
