-- Roots by parents, and what a union does to them.
use Rattle.std.proofs.Common.{◌≡◌, ◌≢◌, ◌⊎◌, ℕ, zero, suc, ◌<◌, ◌≤◌, refl, sym, ap, ◌∙◌, subst, ⊎_elim, arith, Bool, true, false, nat_eq, List, length, set, get_or-set_same, get_or-set_other, eq-eqb, if◌then◌else◌}
use Rattle.std.specs.Prelude.{slice_index}
use Rattle.std.proofs.lemmas.Bool.{eqb-false, ne_eqb, cases_eq, cases_lt}
use Rattle.std.proofs.lemmas.List.{get_or_past}
use Rattle.std.proofs.lemmas.Bool.Decides.{nat_tests}
use Rattle.component_split.specs.Split.{merged}
use Rattle.component_split.specs.Classes.{up, root, AreParents}

-- more steps change nothing
up_more : (n m : ℕ) (ps : List ℕ) (x : ℕ) → AreParents ps → x ≤ n → x ≤ m → up n ps x ≡ up m ps x
unfolding up
up_more zero zero ps x h i j = refl
up_more zero (suc m) ps x h i j = one (nat_eq (slice_index ps x) x) refl
  where
    one : (b : Bool) → nat_eq (slice_index ps x) x ≡ b → x ≡ (if b then x else up m ps (slice_index ps x))
    one true e = refl
    one false e = let l = h x in let n = eqb-false (slice_index ps x) x e in absurd (n (omega (arith, l, i)))
up_more (suc n) zero ps x h i j = one (nat_eq (slice_index ps x) x) refl
  where
    one : (b : Bool) → nat_eq (slice_index ps x) x ≡ b → (if b then x else up n ps (slice_index ps x)) ≡ x
    one true e = refl
    one false e = let l = h x in let n = eqb-false (slice_index ps x) x e in absurd (n (omega (arith, l, j)))
up_more (suc n) (suc m) ps x h i j = at (nat_eq (slice_index ps x) x) refl (λ l. up_more n m ps (slice_index ps x) h (omega (arith, l, i)) (omega (arith, l, j)))
  where
    at : (b : Bool) → nat_eq (slice_index ps x) x ≡ b → (slice_index ps x < x → up n ps (slice_index ps x) ≡ up m ps (slice_index ps x)) → (if b then x else up n ps (slice_index ps x)) ≡ (if b then x else up m ps (slice_index ps x))
    at true e r = refl
    at false e r = let l = h x in let n = eqb-false (slice_index ps x) x e in r (omega (arith, l, n))

-- the root of a root, and of another
here_by : (ps : List ℕ) (x : ℕ) → slice_index ps x ≡ x → (n : ℕ) → up n ps x ≡ x
unfolding up
here_by ps x e zero = refl
here_by ps x e (suc n) = let b = eq-eqb (slice_index ps x) x e in rw b refl

pub root_here : (ps : List ℕ) (x : ℕ) → slice_index ps x ≡ x → root ps x ≡ x
root_here ps x e = here_by ps x e x

up_once : (ps : List ℕ) (n x : ℕ) → nat_eq (slice_index ps x) x ≡ false → up (suc n) ps x ≡ up n ps (slice_index ps x)
unfolding up
up_once ps n x b = rw b refl

pub root_up : (ps : List ℕ) (x : ℕ) → AreParents ps → slice_index ps x ≢ x → root ps x ≡ root ps (slice_index ps x)
root_up ps zero h n = let l = h 0 in absurd (n (omega (arith, l)))
root_up ps (suc x) h n =
    let l = h (suc x) in
    let b = ne_eqb (slice_index ps (suc x)) (suc x) n in
    let m : slice_index ps (suc x) ≤ x = omega (arith, l, n) in
    up_once ps x (suc x) b ∙ up_more x (slice_index ps (suc x)) ps (slice_index ps (suc x)) h m (omega arith)

root_case : (ps : List ℕ) (x : ℕ) → slice_index ps x ≡ x → slice_index ps (root ps x) ≡ root ps x
root_case ps x e = let r = root_here ps x e in ap (slice_index ps) r ∙ e ∙ sym r

-- a root's parent is itself
pub is_root : (ps : List ℕ) → AreParents ps → (n x : ℕ) → x ≤ n → slice_index ps (root ps x) ≡ root ps x
is_root ps h zero x i = let l = h x in root_case ps x (omega (arith, l, i))
is_root ps h (suc n) x i = ⊎_elim (λ e. root_case ps x e) (λ ne. let l = h x in let e = root_up ps x h ne in let m : slice_index ps x ≤ n = omega (arith, l, ne, i) in ap (slice_index ps) e ∙ is_root ps h n (slice_index ps x) m ∙ sym e) (cases_eq (slice_index ps x) x)

-- two lists of parents that differ at a root alone, whose parent is now a lower root
module _ (ps qs : List ℕ) (a b : ℕ) (h : AreParents ps) (i : AreParents qs) (ra : slice_index ps a ≡ a) (rb : slice_index ps b ≡ b) (l : a < b) (eb : slice_index qs b ≡ a) (other : (k : ℕ) → k ≢ b → slice_index qs k ≡ slice_index ps k) where
  root_a : root qs a ≡ a
  root_a = root_here qs a (other a (λ e. omega (arith, l, e)) ∙ ra)

  merged_b : merged a b b ≡ a
  merged_b = grind (arith, nat_tests)

  at_b : (x : ℕ) → x ≡ b → root qs x ≡ merged a b (root ps x)
  at_b x e =
      let r : root qs b ≡ root qs a = root_up qs b i (λ q. let w : a ≡ b = sym eb ∙ q in omega (arith, w, l)) ∙ ap (root qs) eb in
      ap (root qs) e ∙ r ∙ root_a ∙ sym merged_b ∙ ap (merged a b) (sym (root_here ps b rb)) ∙ ap (λ y. merged a b (root ps y)) (sym e)

  merged_other : (x : ℕ) → x ≢ b → merged a b x ≡ x
  merged_other x ne = grind (arith, nat_tests)

  at_root : (x : ℕ) → x ≢ b → slice_index ps x ≡ x → root qs x ≡ merged a b (root ps x)
  at_root x ne e = root_here qs x (other x ne ∙ e) ∙ sym (merged_other x ne) ∙ ap (merged a b) (sym (root_here ps x e))

  -- the root of each is as after a merge of the two classes
  pub merged_root : (n x : ℕ) → x ≤ n → root qs x ≡ merged a b (root ps x)
  merged_root zero x j = ⊎_elim (λ e. at_b x e) (λ ne. let z = h x in at_root x ne (omega (arith, z, j))) (cases_eq x b)
  merged_root (suc n) x j = ⊎_elim (λ e. at_b x e)
      (λ ne. ⊎_elim (λ e. at_root x ne e)
      (λ up'. let z = h x in let o = other x ne in let m : slice_index ps x ≤ n = omega (arith, z, up', j) in
      root_up qs x i (λ q. up' (sym o ∙ q)) ∙ ap (root qs) o ∙ merged_root n (slice_index ps x) m ∙ ap (merged a b) (sym (root_up ps x h up')))
      (cases_eq (slice_index ps x) x))
      (cases_eq x b)

pub merged_back : (a b x : ℕ) → merged a b x ≡ merged b a x
merged_back a b x = grind (arith, nat_tests)

-- a root is written below another
pub written : (ps : List ℕ) (a b : ℕ) → AreParents ps → slice_index ps a ≡ a → slice_index ps b ≡ b → a < b → b < length ps → (f : ℕ) → root (set ps b a) f ≡ merged a b (root ps f)
written ps a b h ra rb l w f = merged_root ps (set ps b a) a b h (λ k. low k (cases_eq k b)) ra rb l (get_or-set_same ps b a 0 w) (λ k ne. get_or-set_other ps b k a 0 ne) f f (omega arith)
  where
    low : (k : ℕ) → (k ≡ b) ⊎ (k ≡ b → ⊥) → slice_index (set ps b a) k ≤ k
    low k o = ⊎_elim (λ e. let s = get_or-set_same ps b a 0 w in subst (λ y. slice_index (set ps b a) y ≤ y) (sym e) (omega (arith, s, l))) (λ ne. let s = get_or-set_other ps b k a 0 ne in let z = h k in omega (arith, s, z)) o

-- numbers that are their own parents
pub parents_of_all : (ps : List ℕ) (n : ℕ) → length ps ≡ n → ((k : ℕ) → k < n → slice_index ps k ≡ k) → AreParents ps
parents_of_all ps n l h k = ⊎_elim (λ i. let e = h k i in omega (arith, e)) (λ i. let e = get_or_past ps k 0 (omega (arith, l, i)) in omega (arith, e)) (cases_lt k n)

-- a root is no higher
up_low : (n : ℕ) (ps : List ℕ) (x : ℕ) → AreParents ps → up n ps x ≤ x
unfolding up
up_low zero ps x h = omega arith
up_low (suc n) ps x h = one (nat_eq (slice_index ps x) x) (up_low n ps (slice_index ps x) h)
  where
    one : (b : Bool) → up n ps (slice_index ps x) ≤ slice_index ps x → (if b then x else up n ps (slice_index ps x)) ≤ x
    one true l = omega arith
    one false l = let p = h x in omega (arith, l, p)

pub root_low : (ps : List ℕ) (x : ℕ) → AreParents ps → root ps x ≤ x
root_low ps x h = up_low x ps x h

-- what is its own root is its own parent
pub own_root : (ps : List ℕ) (x : ℕ) → AreParents ps → root ps x ≡ x → slice_index ps x ≡ x
own_root ps x h e = subst (λ y. slice_index ps y ≡ y) e (is_root ps h x x (omega arith))

-- ---- a shorter way up

-- the root of a parent's parent
pub root_twice : (ps : List ℕ) (a : ℕ) → AreParents ps → slice_index ps a ≢ a → root ps a ≡ root ps (slice_index ps (slice_index ps a))
root_twice ps a h ne = root_up ps a h ne ∙ ⊎_elim (λ e. ap (root ps) (sym e)) (λ n. root_up ps (slice_index ps a) h n) (cases_eq (slice_index ps (slice_index ps a)) (slice_index ps a))

module _ (ps qs : List ℕ) (a : ℕ) (h : AreParents ps) (i : AreParents qs) (above : slice_index qs a ≡ slice_index ps (slice_index ps a)) (other : (k : ℕ) → k ≢ a → slice_index qs k ≡ slice_index ps k) where
  here_at : (f : ℕ) → slice_index qs f ≡ f → slice_index ps f ≡ f → root qs f ≡ root ps f
  here_at f q p = root_here qs f q ∙ sym (root_here ps f p)

  own_at : slice_index ps a ≡ a → slice_index qs a ≡ a
  own_at e = above ∙ ap (slice_index ps) e ∙ e

  pub halved_root : (n f : ℕ) → f ≤ n → root qs f ≡ root ps f
  halved_root zero f l = let p = h f in let q = i f in here_at f (omega (arith, q, l)) (omega (arith, p, l))
  halved_root (suc n) f l = ⊎_elim
      (λ e. subst (λ y. root qs y ≡ root ps y) (sym e) (⊎_elim
      (λ o. here_at a (own_at o) o)
      (λ ne. let b = h a in let c = h (slice_index ps a) in
      let low : slice_index ps (slice_index ps a) ≤ n = omega (arith, b, c, ne, e, l) in
      let d : slice_index qs a ≢ a = λ w. omega (arith, above, w, b, c, ne) in
      root_up qs a i d ∙ ap (root qs) above ∙ halved_root n (slice_index ps (slice_index ps a)) low ∙ sym (root_twice ps a h ne))
      (cases_eq (slice_index ps a) a)))
      (λ ne. let o = other f ne in ⊎_elim
      (λ e. here_at f (o ∙ e) e)
      (λ up'. let b = h f in let low : slice_index ps f ≤ n = omega (arith, b, up', l) in
      root_up qs f i (λ w. up' (sym o ∙ w)) ∙ ap (root qs) o ∙ halved_root n (slice_index ps f) low ∙ sym (root_up ps f h up'))
      (cases_eq (slice_index ps f) f))
      (cases_eq f a)

-- a number's parent becomes that of its parent
pub halved : (ps : List ℕ) (a : ℕ) → AreParents ps → a < length ps → (AreParents (set ps a (slice_index ps (slice_index ps a)))) × ((f : ℕ) → root (set ps a (slice_index ps (slice_index ps a))) f ≡ root ps f)
halved ps a h w =
    let u = slice_index ps (slice_index ps a) in
    let same = get_or-set_same ps a u 0 w in
    let other : (k : ℕ) → k ≢ a → slice_index (set ps a u) k ≡ slice_index ps k = λ k ne. get_or-set_other ps a k u 0 ne in
    let low : AreParents (set ps a u) = λ k. ⊎_elim (λ e. let b = h a in let c = h (slice_index ps a) in subst (λ y. slice_index (set ps a u) y ≤ y) (sym e) (omega (arith, same, b, c))) (λ ne. let o = other k ne in let b = h k in omega (arith, o, b)) (cases_eq k a) in
    (low, λ f. halved_root ps (set ps a u) a h low same other f f (omega arith))
