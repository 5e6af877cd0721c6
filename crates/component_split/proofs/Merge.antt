-- Merges of classes, and the lowest function of each.
use Rattle.std.proofs.Common.{◌≡◌, ◌⊎◌, ℕ, ◌≤◌, refl, sym, ap, ◌∙◌, subst, ⊎_elim, arith, Bool, true, false, ◌&&◌, ◌||◌, nat_eq, List, [], ◌∷◌, le_trans, eq-eqb}
use Rattle.std.specs.List.{filter}
use Rattle.std.proofs.lemmas.Bool.{or_cases, and_parts, and_from, eqb-true, false≢true}
use Rattle.std.proofs.lemmas.Bool.Decides.{nat_tests}
use Rattle.component_split.specs.Graph.{SiteGraph, Labels, Distinct, has, inside, joins}
use Rattle.component_split.specs.Split.{merged, joined_at, lowest_by, lowest, component, roots}

-- ---- one merge

pub merged_is : (a b z : ℕ) → (merged a b z ≡ a) ⊎ ((merged a b z ≡ b) ⊎ (merged a b z ≡ z))
merged_is a b z = grind (arith, nat_tests)

pub merged_any : (P : ℕ → Type 0) (a b z : ℕ) → P a → P b → P z → P (merged a b z)
merged_any P a b z x y w = ⊎_elim (λ e. subst P (sym e) x) (λ h. ⊎_elim (λ e. subst P (sym e) y) (λ e. subst P (sym e) w) h) (merged_is a b z)

pub merged_low : (a b z : ℕ) → merged a b z ≤ z
merged_low a b z = grind (arith, nat_tests)

merged_again : (a b z : ℕ) → merged a b (merged a b z) ≡ merged a b z
merged_again a b z = grind (arith, nat_tests)

merged_both : (a b : ℕ) → merged a b a ≡ merged a b b
merged_both a b = grind (arith, nat_tests)

-- ---- all merges

joined_low : (t : Bool) (a b x : ℕ) → joined_at t a b x ≤ x
joined_low true a b x = merged_low a b x
joined_low false a b x = omega arith

pub lowest_low : (g : SiteGraph) (p : Labels) (fs ss : List ℕ) (f : ℕ) → lowest_by g p fs ss f ≤ f
unfolding lowest_by
lowest_low g p fs [] f = omega arith
lowest_low g p fs (s ∷ ss) f = le_trans (joined_low (inside g fs s && joins (p s)) (lowest_by g p fs ss (g.caller s)) (lowest_by g p fs ss (g.callee s)) (lowest_by g p fs ss f)) (lowest_low g p fs ss f)

-- a map of functions that is idempotent stays so after a merge
joined_again : (t : Bool) (r : ℕ → ℕ) (c d : ℕ) → ((x : ℕ) → r (r x) ≡ r x) → (x : ℕ) → joined_at t (r c) (r d) (r (joined_at t (r c) (r d) (r x))) ≡ joined_at t (r c) (r d) (r x)
joined_again false r c d h x = h x
joined_again true r c d h x =
    let e : r (merged (r c) (r d) (r x)) ≡ merged (r c) (r d) (r x) = merged_any (λ y. r y ≡ y) (r c) (r d) (r x) (h c) (h d) (h x) in
    ap (λ y. merged (r c) (r d) y) e ∙ merged_again (r c) (r d) (r x)

pub lowest_again : (g : SiteGraph) (p : Labels) (fs ss : List ℕ) (f : ℕ) → lowest_by g p fs ss (lowest_by g p fs ss f) ≡ lowest_by g p fs ss f
unfolding lowest_by
lowest_again g p fs [] f = refl
lowest_again g p fs (s ∷ ss) f = joined_again (inside g fs s && joins (p s)) (λ x. lowest_by g p fs ss x) (g.caller s) (g.callee s) (λ x. lowest_again g p fs ss x) f

joined_has : (t : Bool) (fs : List ℕ) (a b x : ℕ) → (t ≡ true → (has fs a ≡ true) × (has fs b ≡ true)) → has fs x ≡ true → has fs (joined_at t a b x) ≡ true
joined_has false fs a b x h e = e
joined_has true fs a b x h e = merged_any (λ y. has fs y ≡ true) a b x (h refl).0 (h refl).1 e

-- the lowest function is one of the set
pub lowest_has : (g : SiteGraph) (p : Labels) (fs ss : List ℕ) (f : ℕ) → has fs f ≡ true → has fs (lowest_by g p fs ss f) ≡ true
unfolding lowest_by
lowest_has g p fs [] f e = e
lowest_has g p fs (s ∷ ss) f e = joined_has (inside g fs s && joins (p s)) fs (lowest_by g p fs ss (g.caller s)) (lowest_by g p fs ss (g.callee s)) (lowest_by g p fs ss f)
    (λ t. let i = (and_parts (inside g fs s) (joins (p s)) t).0 in let ends = and_parts (has fs (g.caller s)) (has fs (g.callee s)) i in (lowest_has g p fs ss (g.caller s) ends.0, lowest_has g p fs ss (g.callee s) ends.1))
    (lowest_has g p fs ss f e)

joined_both : (t : Bool) (a b : ℕ) → t ≡ true → joined_at t a b a ≡ joined_at t a b b
joined_both true a b e = merged_both a b
joined_both false a b e = absurd (false≢true e)

-- a site inside that isn't kept has ends with one lowest function
pub lowest_joins : (g : SiteGraph) (p : Labels) (fs ss : List ℕ) (s : ℕ) → has ss s ≡ true → (inside g fs s && joins (p s)) ≡ true → lowest_by g p fs ss (g.caller s) ≡ lowest_by g p fs ss (g.callee s)
unfolding lowest_by
lowest_joins g p fs [] s h t = absurd (false≢true h)
lowest_joins g p fs (q ∷ ss) s h t = ⊎_elim
    (λ e. let same : q ≡ s = eqb-true q s e in subst (λ u. joined_at (inside g fs u && joins (p u)) (lowest_by g p fs ss (g.caller u)) (lowest_by g p fs ss (g.callee u)) (lowest_by g p fs ss (g.caller s)) ≡ joined_at (inside g fs u && joins (p u)) (lowest_by g p fs ss (g.caller u)) (lowest_by g p fs ss (g.callee u)) (lowest_by g p fs ss (g.callee s))) (sym same) (joined_both (inside g fs s && joins (p s)) (lowest_by g p fs ss (g.caller s)) (lowest_by g p fs ss (g.callee s)) t))
    (λ e. ap (λ y. joined_at (inside g fs q && joins (p q)) (lowest_by g p fs ss (g.caller q)) (lowest_by g p fs ss (g.callee q)) y) (lowest_joins g p fs ss s e t))
    (or_cases (nat_eq q s) (has ss s) h)

-- ---- lists of functions

filter_at : (t u : Bool) (P : ℕ → Bool) (x f : ℕ) (xs : List ℕ) → P x ≡ t → nat_eq x f ≡ u → has (filter P xs) f ≡ (P f && has xs f) → has (filter P (x ∷ xs)) f ≡ (P f && (u || has xs f))
filter_at true true P x f xs e i h = let same : x ≡ f = eqb-true x f i in let pf : P f ≡ true = ap P (sym same) ∙ e in rw (e, pf) (rw i refl)
filter_at true false P x f xs e i h = rw e (rw i h)
filter_at false true P x f xs e i h = let same : x ≡ f = eqb-true x f i in let pf : P f ≡ false = ap P (sym same) ∙ e in rw (e, h, pf) refl
filter_at false false P x f xs e i h = rw e h

pub has_filter : (P : ℕ → Bool) (xs : List ℕ) (f : ℕ) → has (filter P xs) f ≡ (P f && has xs f)
has_filter P [] f = let l : (b : Bool) → false ≡ (b && false) = elim [ true ↦ refl | false ↦ refl ] in l (P f)
has_filter P (x ∷ xs) f = filter_at (P x) (nat_eq x f) P x f xs refl refl (has_filter P xs f)

distinct_at : (t : Bool) (P : ℕ → Bool) (x : ℕ) (xs : List ℕ) → P x ≡ t → has xs x ≡ false → Distinct (filter P xs) → Distinct (filter P (x ∷ xs))
distinct_at true P x xs e h d = rw e (rw (has_filter P xs x, h) (let l : (b : Bool) → (b && false) ≡ false = elim [ true ↦ refl | false ↦ refl ] in l (P x)), d)
distinct_at false P x xs e h d = rw e d

pub distinct_filter : (P : ℕ → Bool) (xs : List ℕ) → Distinct xs → Distinct (filter P xs)
distinct_filter P [] d = d
distinct_filter P (x ∷ xs) d = distinct_at (P x) P x xs refl d.0 (distinct_filter P xs d.1)

-- ---- components of a closed set

pub has_component : (g : SiteGraph) (p : Labels) (fs : List ℕ) (r f : ℕ) → has (component g p fs r) f ≡ (nat_eq (lowest g p fs f) r && has fs f)
has_component g p fs r f = has_filter (λ x. nat_eq (lowest g p fs x) r) fs f

-- each function's class is among the lowest functions
pub has_roots : (g : SiteGraph) (p : Labels) (fs : List ℕ) (f : ℕ) → has fs f ≡ true → has (roots g p fs) (lowest g p fs f) ≡ true
has_roots g p fs f h = has_filter (λ x. nat_eq (lowest g p fs x) x) fs (lowest g p fs f) ∙ and_from (nat_eq (lowest g p fs (lowest g p fs f)) (lowest g p fs f)) (has fs (lowest g p fs f)) (eq-eqb (lowest g p fs (lowest g p fs f)) (lowest g p fs f) (lowest_again g p fs g.sites f)) (lowest_has g p fs g.sites f h)

pub distinct_roots : (g : SiteGraph) (p : Labels) (fs : List ℕ) → Distinct fs → Distinct (roots g p fs)
distinct_roots g p fs d = distinct_filter (λ x. nat_eq (lowest g p fs x) x) fs d
