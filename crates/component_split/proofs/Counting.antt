-- How many components a set has, counted by the parents of its positions.
use Rattle.std.proofs.Common.{◌≡◌, ℕ, zero, suc, ◌+◌, ◌<◌, ◌≤◌, refl, sym, ap, ◌∙◌, arith, Bool, true, false, nat_eq, cond, List, [], ◌∷◌, length, take, eq-eqb}
use Rattle.std.specs.Prelude.{slice_index}
use Rattle.std.specs.List.{filter}
use Rattle.std.proofs.lemmas.Bool.{eqb-true, eqb-false, ne_eqb}
use Rattle.std.proofs.lemmas.List.{length-map}
use Rattle.std.proofs.lemmas.List.Filters.{length-filter_more}
use Rattle.component_split.specs.Graph.{SiteGraph, Labels}
use Rattle.component_split.specs.Split.{lowest, components, roots}
use Rattle.component_split.specs.Classes.{root, AreComponentsOf, own_parents, roots_of}
use Rattle.component_split.specs.Over.{IsRising}
use Rattle.component_split.proofs.Lists.{rising_same}
use Rattle.component_split.proofs.Rooted.{root_low, root_here, own_root}

-- a position is its own parent exactly where its function is the lowest of its component
pub own_is : (g : SiteGraph) (p : Labels) (fs ps : List ℕ) → IsRising fs → AreComponentsOf g p fs ps → (i : ℕ) → i < length fs → nat_eq (slice_index ps i) i ≡ nat_eq (lowest g p fs (slice_index fs i)) (slice_index fs i)
own_is g p fs ps r c i l = one (nat_eq (slice_index ps i) i) refl
  where
    low : root ps i < length fs
    low = let w = root_low ps i c.parents in omega (arith, w, l)

    one : (b : Bool) → nat_eq (slice_index ps i) i ≡ b → b ≡ nat_eq (lowest g p fs (slice_index fs i)) (slice_index fs i)
    one true e = sym (eq-eqb (lowest g p fs (slice_index fs i)) (slice_index fs i) (sym (c.classes i l) ∙ ap (slice_index fs) (root_here ps i (eqb-true (slice_index ps i) i e))))
    one false e = sym (ne_eqb (lowest g p fs (slice_index fs i)) (slice_index fs i) (λ s. eqb-false (slice_index ps i) i e (own_root ps i c.parents (rising_same fs r (root ps i) i low l (c.classes i l ∙ s)))))

own_upto : (g : SiteGraph) (p : Labels) (fs ps : List ℕ) → IsRising fs → AreComponentsOf g p fs ps → (n : ℕ) → n ≤ length fs → own_parents ps n ≡ length (roots_of g p fs n)
own_upto g p fs ps r c zero l = refl
own_upto g p fs ps r c (suc n) l =
    let h = own_upto g p fs ps r c n (omega arith) in
    let o = own_is g p fs ps r c n (omega arith) in
    let m = length-filter_more (λ f. nat_eq (lowest g p fs f) f) fs n 0 (omega arith) in
    let s : suc n ≡ n + 1 = omega arith in
    ap (λ b. own_parents ps n + cond b 1 0) o ∙ ap (λ k. k + cond (nat_eq (lowest g p fs (slice_index fs n)) (slice_index fs n)) 1 0) h ∙ sym m ∙ ap (λ k. length (roots_of g p fs k)) (sym s)

take_whole : (xs : List ℕ) → take (length xs) xs ≡ xs
take_whole [] = refl
take_whole (x ∷ xs) = ap (λ (ys : List ℕ). x ∷ ys) (take_whole xs)

pub roots_whole : (g : SiteGraph) (p : Labels) (fs : List ℕ) → roots_of g p fs (length fs) ≡ roots g p fs
roots_whole g p fs = ap (λ (ys : List ℕ). filter (λ f. nat_eq (lowest g p fs f) f) ys) (take_whole fs)

pub own_count : (g : SiteGraph) (p : Labels) (fs ps : List ℕ) → IsRising fs → AreComponentsOf g p fs ps → own_parents ps (length fs) ≡ length (roots g p fs)
own_count g p fs ps r c = own_upto g p fs ps r c (length fs) (omega arith) ∙ ap length (roots_whole g p fs)

pub components_count : (g : SiteGraph) (p : Labels) (fs : List ℕ) → length (components g p fs) ≡ length (roots g p fs)
unfolding components
components_count g p fs = simp length-map
