-- The lowest function names the class: classes are those of chains.
use Rattle.std.proofs.Common.{◌≡◌, ◌↔◌, ℕ, ◌≤◌, min, refl, sym, ◌∙◌, subst, ⊎_elim, arith, Bool, true, false, ◌&&◌, nat_eq, List, [], ◌∷◌}
use Rattle.std.proofs.lemmas.Bool.{eqb-true, cases_lt}
use Rattle.component_split.specs.Graph.{SiteGraph, Labels, has, inside, joins}
use Rattle.component_split.specs.Split.{merged, joined_at, lowest_by, lowest, Joined, here, forth, back}
use Rattle.component_split.proofs.Merge.{lowest_low, lowest_joins}
use Rattle.component_split.proofs.Lists.{has_head, has_tail}

-- ---- chains

pub joined_on : (g : SiteGraph) (p : Labels) (fs : List ℕ) (a b c : ℕ) → Joined g p fs a b → Joined g p fs b c → Joined g p fs a c
joined_on g p fs a b c x here = x
joined_on g p fs a b c x (forth s h i y) = forth s h i (joined_on g p fs a b (g.caller s) x y)
joined_on g p fs a b c x (back s h i y) = back s h i (joined_on g p fs a b (g.callee s) x y)

pub joined_back : (g : SiteGraph) (p : Labels) (fs : List ℕ) (a b : ℕ) → Joined g p fs a b → Joined g p fs b a
joined_back g p fs a b here = here
joined_back g p fs a b (forth s h i y) = joined_on g p fs b (g.caller s) a (back s h i here) (joined_back g p fs a (g.caller s) y)
joined_back g p fs a b (back s h i y) = joined_on g p fs b (g.callee s) a (forth s h i here) (joined_back g p fs a (g.callee s) y)

-- what is the same at both ends of each joining site is the same along a chain
pub joined_same : (g : SiteGraph) (p : Labels) (fs : List ℕ) (m : ℕ → ℕ) → ((s : ℕ) → has g.sites s ≡ true → (inside g fs s && joins (p s)) ≡ true → m (g.caller s) ≡ m (g.callee s)) → (a b : ℕ) → Joined g p fs a b → m a ≡ m b
joined_same g p fs m h a b here = refl
joined_same g p fs m h a b (forth s i j y) = joined_same g p fs m h a (g.caller s) y ∙ h s i j
joined_same g p fs m h a b (back s i j y) = joined_same g p fs m h a (g.callee s) y ∙ sym (h s i j)

-- a merge keeps that each function is joined with its lowest
joined_step : (t : Bool) (R : ℕ → ℕ → Type 0) (c d a b x y : ℕ) → ((u v w : ℕ) → R u v → R v w → R u w) → ((u v : ℕ) → R u v → R v u) → (t ≡ true → R c d) → R c a → R d b → R x y → R x (joined_at t a b y)
joined_step false R c d a b x y tr sy e ca db xy = xy
joined_step true R c d a b x y tr sy e ca db xy = one (nat_eq y a) (nat_eq y b) refl refl
  where
    ab : R a b
    ab = tr a c b (sy c a ca) (tr c d b (e refl) db)

    low : R x a → R x b → R x (min a b)
    low xa xb = ⊎_elim (λ h. subst (R x) (let i : a ≡ min a b = omega arith in i) xa) (λ h. subst (R x) (let i : b ≡ min a b = omega arith in i) xb) (cases_lt a b)

    one : (u v : Bool) → nat_eq y a ≡ u → nat_eq y b ≡ v → R x (merged a b y)
    one true v i j = let s : y ≡ a = eqb-true y a i in let xa = subst (R x) s xy in rw i (low xa (tr x a b xa ab))
    one false true i j = let s : y ≡ b = eqb-true y b j in let xb = subst (R x) s xy in rw (i, j) (low (tr x b a xb (sy a b ab)) xb)
    one false false i j = rw (i, j) xy

pub lowest_joined : (g : SiteGraph) (p : Labels) (fs ss : List ℕ) → ((s : ℕ) → has ss s ≡ true → has g.sites s ≡ true) → (f : ℕ) → Joined g p fs f (lowest_by g p fs ss f)
unfolding lowest_by
lowest_joined g p fs [] h f = here
lowest_joined g p fs (s ∷ ss) h f = joined_step (inside g fs s && joins (p s)) (λ a b. Joined g p fs a b) (g.caller s) (g.callee s) (lowest_by g p fs ss (g.caller s)) (lowest_by g p fs ss (g.callee s)) f (lowest_by g p fs ss f)
    (λ u v w x y. joined_on g p fs u v w x y) (λ u v x. joined_back g p fs u v x)
    (λ t. forth s (h s (has_head s ss)) t here)
    (lowest_joined g p fs ss (λ q i. h q (has_tail s q ss i)) (g.caller s)) (lowest_joined g p fs ss (λ q i. h q (has_tail s q ss i)) (g.callee s)) (lowest_joined g p fs ss (λ q i. h q (has_tail s q ss i)) f)

-- two functions have one lowest exactly where a chain joins them
pub same_class : (g : SiteGraph) (p : Labels) (fs : List ℕ) (a b : ℕ) → (lowest g p fs a ≡ lowest g p fs b) ↔ Joined g p fs a b
same_class g p fs a b = (
  λ e. joined_on g p fs a (lowest g p fs a) b (lowest_joined g p fs g.sites (λ s h. h) a) (joined_back g p fs b (lowest g p fs a) (subst (λ x. Joined g p fs b x) (sym e) (lowest_joined g p fs g.sites (λ s h. h) b))),
  λ j. joined_same g p fs (lowest g p fs) (λ s h i. lowest_joins g p fs g.sites s h i) a b j,
)

-- marks that agree along joining sites, are no higher and lie in the class are the lowest functions: what a walk has to show
pub marks_are : (g : SiteGraph) (p : Labels) (fs : List ℕ) (m : ℕ → ℕ) → ((s : ℕ) → has g.sites s ≡ true → (inside g fs s && joins (p s)) ≡ true → m (g.caller s) ≡ m (g.callee s)) → ((f : ℕ) → m f ≤ f) → ((f : ℕ) → Joined g p fs f (m f)) → (f : ℕ) → m f ≡ lowest g p fs f
marks_are g p fs m same low chain f =
    let a : m f ≡ m (lowest g p fs f) = joined_same g p fs m same f (lowest g p fs f) (lowest_joined g p fs g.sites (λ s h. h) f) in
    let b = low (lowest g p fs f) in
    let c : lowest g p fs f ≡ lowest g p fs (m f) = joined_same g p fs (lowest g p fs) (λ s h i. lowest_joins g p fs g.sites s h i) f (m f) (chain f) in
    let d = lowest_low g p fs g.sites (m f) in
    omega (arith, a, b, c, d)
