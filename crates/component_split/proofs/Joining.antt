-- Joining the functions of a set, site by site.
use Rattle.std.proofs.Common.{◌≡◌, ℕ, suc, ◌-◌, ◌<◌, ◌≤◌, min, refl, sym, ap, ◌∙◌, ⊎_elim, arith, Bool, true, false, ◌&&◌, nat_eq, List, [], ◌∷◌, length, drop, drop-cons, cond, eq-eqb}
use Rattle.std.specs.Prelude.{slice_index}
use Rattle.std.specs.List.{filter}
use Rattle.std.proofs.lemmas.Bool.{eqb-true, eqb-false, ne_eqb, false≢true, cases_lt}
use Rattle.component_split.specs.Graph.{SiteGraph, Labels, inside, joins}
use Rattle.component_split.specs.Split.{merged, joined_at, joins_inside, lowest_by}
use Rattle.component_split.specs.Classes.{root, AreParents, AreClassesBy, AreApart, JoinsEnds}
use Rattle.component_split.specs.Over.{IsRising}
use Rattle.component_split.proofs.Lists.{rising_same}
use Rattle.component_split.proofs.Rooted.{root_low, root_here}

-- ---- names of positions

module _ (fs : List ℕ) (r : IsRising fs) where
  named_min : (a b : ℕ) → a < length fs → b < length fs → slice_index fs (min a b) ≡ min (slice_index fs a) (slice_index fs b)
  named_min a b la lb = ⊎_elim
      (λ l. let h = r a b l lb in let e : min a b ≡ a = omega arith in ap (slice_index fs) e ∙ omega (arith, h))
      (λ l. ⊎_elim (λ k. let h = r b a k la in let e : min a b ≡ b = omega arith in ap (slice_index fs) e ∙ omega (arith, h))
      (λ k. let same : a ≡ b = omega (arith, l, k) in let s = ap (slice_index fs) same in let e : min a b ≡ a = omega arith in ap (slice_index fs) e ∙ omega (arith, s))
      (cases_lt b a))
      (cases_lt a b)

  named_ne : (a x : ℕ) → a < length fs → x < length fs → nat_eq x a ≡ false → nat_eq (slice_index fs x) (slice_index fs a) ≡ false
  named_ne a x la lx e = ne_eqb (slice_index fs x) (slice_index fs a) (λ s. eqb-false x a e (rising_same fs r x a lx la s))

  named_eq : (a x : ℕ) → nat_eq x a ≡ true → nat_eq (slice_index fs x) (slice_index fs a) ≡ true
  named_eq a x e = eq-eqb (slice_index fs x) (slice_index fs a) (ap (slice_index fs) (eqb-true x a e))

  -- the function at a merge of positions is the merge of the functions
  pub named_merged : (a b x : ℕ) → a < length fs → b < length fs → x < length fs → slice_index fs (merged a b x) ≡ merged (slice_index fs a) (slice_index fs b) (slice_index fs x)
  named_merged a b x la lb lx = one (nat_eq x a) (nat_eq x b) refl refl
    where
      one : (u v : Bool) → nat_eq x a ≡ u → nat_eq x b ≡ v → slice_index fs (merged a b x) ≡ merged (slice_index fs a) (slice_index fs b) (slice_index fs x)
      one true v i j = let n = named_eq a x i in rw (i, n) (named_min a b la lb)
      one false true i j = let n = named_ne a x la lx i in let m = named_eq b x j in rw (i, j, n, m) (named_min a b la lb)
      one false false i j = let n = named_ne a x la lx i in let m = named_ne b x lb lx j in rw (i, j, n, m) refl

-- ---- one site

skipped : (b : Bool) (a c x : ℕ) → b ≡ false → joined_at b a c x ≡ x
skipped true a c x e = absurd (false≢true (sym e))
skipped false a c x e = refl

taken : (b : Bool) (a c x : ℕ) → b ≡ true → joined_at b a c x ≡ merged a c x
taken true a c x e = refl
taken false a c x e = absurd (false≢true e)

pub step_apart : (g : SiteGraph) (p : Labels) (fs : List ℕ) (s : ℕ) (ss ps : List ℕ) → joins_inside g p fs s ≡ false → AreClassesBy g p fs ss ps → AreClassesBy g p fs (s ∷ ss) ps
unfolding lowest_by
step_apart g p fs s ss ps e h i l = h i l ∙ sym (skipped (joins_inside g p fs s) (lowest_by g p fs ss (g.caller s)) (lowest_by g p fs ss (g.callee s)) (lowest_by g p fs ss (slice_index fs i)) e)

pub step_joined : (g : SiteGraph) (p : Labels) (fs : List ℕ) → IsRising fs → (s : ℕ) (ss ps qs : List ℕ) → joins_inside g p fs s ≡ true → AreParents ps → AreClassesBy g p fs ss ps → JoinsEnds fs (g.caller s) (g.callee s) ps qs → AreClassesBy g p fs (s ∷ ss) qs
unfolding lowest_by
step_joined g p fs r s ss ps qs e h c j i l =
    let at : (x : ℕ) → x < length fs → root ps x < length fs = λ x lx. let w = root_low ps x h in omega (arith, w, lx) in
    let from : slice_index fs (root ps j.from) ≡ lowest_by g p fs ss (g.caller s) = c j.from j.from_in ∙ ap (lowest_by g p fs ss) j.from_is in
    let to : slice_index fs (root ps j.to) ≡ lowest_by g p fs ss (g.callee s) = c j.to j.to_in ∙ ap (lowest_by g p fs ss) j.to_is in
    ap (slice_index fs) (j.joins.roots i)
    ∙ named_merged fs r (root ps j.from) (root ps j.to) (root ps i) (at j.from j.from_in) (at j.to j.to_in) (at i l)
    ∙ ap (λ u. merged u (slice_index fs (root ps j.to)) (slice_index fs (root ps i))) from
    ∙ ap (λ u. merged (lowest_by g p fs ss (g.caller s)) u (slice_index fs (root ps i))) to
    ∙ ap (merged (lowest_by g p fs ss (g.caller s)) (lowest_by g p fs ss (g.callee s))) (c i l)
    ∙ sym (taken (joins_inside g p fs s) (lowest_by g p fs ss (g.caller s)) (lowest_by g p fs ss (g.callee s)) (lowest_by g p fs ss (slice_index fs i)) e)

-- ---- all sites

-- sites that aren't inside join nothing
pub lowest_inside : (g : SiteGraph) (p : Labels) (fs ss : List ℕ) (f : ℕ) → lowest_by g p fs (filter (inside g fs) ss) f ≡ lowest_by g p fs ss f
unfolding lowest_by
lowest_inside g p fs [] f = refl
lowest_inside g p fs (s ∷ ss) f = one (inside g fs s) refl (λ x. lowest_inside g p fs ss x)
  where
    one : (b : Bool) → inside g fs s ≡ b → ((x : ℕ) → lowest_by g p fs (filter (inside g fs) ss) x ≡ lowest_by g p fs ss x)
        → lowest_by g p fs (cond b (s ∷ filter (inside g fs) ss) (filter (inside g fs) ss)) f ≡ joined_at (joins_inside g p fs s) (lowest_by g p fs ss (g.caller s)) (lowest_by g p fs ss (g.callee s)) (lowest_by g p fs ss f)
    one true e h = ap (λ u. joined_at (joins_inside g p fs s) u (lowest_by g p fs (filter (inside g fs) ss) (g.callee s)) (lowest_by g p fs (filter (inside g fs) ss) f)) (h (g.caller s))
        ∙ ap (λ u. joined_at (joins_inside g p fs s) (lowest_by g p fs ss (g.caller s)) u (lowest_by g p fs (filter (inside g fs) ss) f)) (h (g.callee s))
        ∙ ap (λ u. joined_at (joins_inside g p fs s) (lowest_by g p fs ss (g.caller s)) (lowest_by g p fs ss (g.callee s)) u) (h f)
    one false e h = h f ∙ sym (skipped (joins_inside g p fs s) (lowest_by g p fs ss (g.caller s)) (lowest_by g p fs ss (g.callee s)) (lowest_by g p fs ss f) (ap (λ b. b && joins (p s)) e))

-- nothing is joined yet
pub none_joined : (g : SiteGraph) (p : Labels) (fs ps : List ℕ) → AreApart (length fs) ps → AreClassesBy g p fs [] ps
unfolding lowest_by
none_joined g p fs ps a i l = ap (slice_index fs) (root_here ps i (a.own i l))

pub drop_all : (xs : List ℕ) → drop (length xs) xs ≡ []
drop_all [] = refl
drop_all (x ∷ xs) = drop_all xs

-- the site before a place comes first in what is left from there on
pub drop_next : (xs : List ℕ) (i : ℕ) → 0 < i → i ≤ length xs → drop (i - 1) xs ≡ slice_index xs (i - 1) ∷ drop i xs
drop_next xs i z l = let j : suc (i - 1) ≡ i = omega arith in drop-cons xs (i - 1) 0 (omega arith) ∙ ap (λ m. slice_index xs (i - 1) ∷ drop m xs) j
