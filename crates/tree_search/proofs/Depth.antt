-- A tree is no deeper than twice its open sites and two, so the tree of a search is that of a certificate.
use Rattle.std.proofs.Common.{◌≡◌, ℕ, suc, ◌+◌, ◌*◌, ◌<◌, ◌≤◌, refl, sym, ap, ◌∙◌, arith, Bool, true, false, ◌||◌, nat_eq, nat_le, eq-eqb, List, [], ◌∷◌, length, map}
use Rattle.std.proofs.lemmas.List.{length-map}
use Rattle.std.proofs.lemmas.Bool.{and_parts, and_from, eqb-true, eqb-false, true≢false, ltb-true, le-ltb}
use Rattle.std.proofs.lemmas.Bool.Decides.{nat_tests}
use Rattle.oi_base.specs.declared.ids.FuncId.{FuncId}
use Rattle.decisions.specs.declared.maps.Label.{Label}
use Rattle.decisions.specs.declared.maps.Label.TheVariants.{Keep, Inline}
use Rattle.component_split.specs.Graph.{SiteGraph, Labels, Closed, Distinct, has, inside, joins, with_label}
use Rattle.component_split.specs.Split.{lowest, component, roots, components, open_sites, Joined, here, forth, back}
use Rattle.component_split.specs.Chosen.{chosen}
use Rattle.component_split.specs.Tree.{is_decided, is_several}
use Rattle.component_split.proofs.Merge.{has_filter, has_component, distinct_roots, lowest_joins, distinct_filter}
use Rattle.component_split.proofs.Chains.{same_class}
use Rattle.component_split.proofs.Trees.{chosen_open}
use Rattle.component_split.proofs.Grown.{label_smaller, component_open}
use Rattle.inline_certificate.specs.Trees.{Tree, leaf, branch, cut, split, Parts, done, more, count_of, IsIn, AreIn, form_of}
use Rattle.size_measure.proofs.Sums.{has_head, has_tail}
use Rattle.cert_checker.proofs.States.{label_closed, AllClosed, components_closed}
use Rattle.tree_search.specs.Values.{depth, depth_of}
use Rattle.tree_search.specs.Search.{Rules, IsTree, AreTrees}

module _ (g : SiteGraph) (p : Labels) (fs : List ℕ) (r : ℕ) where
  abbrev part : List ℕ
  part = component g p fs r

  in_part : (f : ℕ) → lowest g p fs f ≡ r → has fs f ≡ true → has part f ≡ true
  in_part f e h = has_component g p fs r f ∙ and_from (nat_eq (lowest g p fs f) r) (has fs f) (eq-eqb (lowest g p fs f) r e) h

  -- a chain from a function of a component stays in it
  within : (a f : ℕ) → lowest g p fs a ≡ r → Joined g p fs a f → (Joined g p part a f) × (lowest g p fs f ≡ r)
  within a f e here = (here, e)
  within a f e (forth s h i j) =
      let rest = within a (g.caller s) e j in
      let both = and_parts (inside g fs s) (joins (p s)) i in
      let ends = and_parts (has fs (g.caller s)) (has fs (g.callee s)) both.0 in
      let same : lowest g p fs (g.callee s) ≡ r = sym (lowest_joins g p fs g.sites s h i) ∙ rest.1 in
      (forth s h (and_from (inside g part s) (joins (p s)) (and_from (has part (g.caller s)) (has part (g.callee s)) (in_part (g.caller s) rest.1 ends.0) (in_part (g.callee s) same ends.1)) both.1) rest.0, same)
  within a f e (back s h i j) =
      let rest = within a (g.callee s) e j in
      let both = and_parts (inside g fs s) (joins (p s)) i in
      let ends = and_parts (has fs (g.caller s)) (has fs (g.callee s)) both.0 in
      let same : lowest g p fs (g.caller s) ≡ r = lowest_joins g p fs g.sites s h i ∙ rest.1 in
      (back s h (and_from (inside g part s) (joins (p s)) (and_from (has part (g.caller s)) (has part (g.callee s)) (in_part (g.caller s) same ends.0) (in_part (g.callee s) rest.1 ends.1)) both.1) rest.0, same)

  low_of : (a : ℕ) → has part a ≡ true → lowest g p fs a ≡ r
  low_of a h = eqb-true (lowest g p fs a) r (and_parts (nat_eq (lowest g p fs a) r) (has fs a) (sym (has_component g p fs r a) ∙ h)).0

  -- two functions of a component have one lowest in it
  one_class : (a b : ℕ) → has part a ≡ true → has part b ≡ true → lowest g p part a ≡ lowest g p part b
  one_class a b ha hb = (same_class g p part a b).1 (within a b (low_of a ha) ((same_class g p fs a b).0 (low_of a ha ∙ sym (low_of b hb)))).0

-- a list without repeats whose members are all one is short
short : (xs : List ℕ) → Distinct xs → ((a b : ℕ) → has xs a ≡ true → has xs b ≡ true → a ≡ b) → length xs ≤ 1
short [] d h = omega arith
short (a ∷ []) d h = omega arith
short (a ∷ b ∷ xs) d h = let e : a ≡ b = h a b (has_head a (b ∷ xs)) (has_tail a b (b ∷ xs) (has_head b xs)) in absurd (by (nat_eq b a) refl d.0 e)
  where
    by : (c : Bool) → nat_eq b a ≡ c → (c || has xs a) ≡ false → a ≡ b → ⊥
    by true x i e = true≢false i
    by false x i e = eqb-false b a x (sym e)

component_connected : (g : SiteGraph) (p : Labels) (fs : List ℕ) → Closed g p fs → (r : ℕ) → is_several g p (component g p fs r) ≡ false
component_connected g p fs c r =
    let k = component g p fs r in
    let dk = distinct_filter (λ f. nat_eq (lowest g p fs f) r) fs c.distinct in
    let root : (a : ℕ) → has (roots g p k) a ≡ true → (nat_eq (lowest g p k a) a ≡ true) × (has k a ≡ true) = λ a h. and_parts (nat_eq (lowest g p k a) a) (has k a) (sym (has_filter (λ f. nat_eq (lowest g p k f) f) k a) ∙ h) in
    let l = short (roots g p k) (distinct_roots g p k dk) (λ a b ha hb. sym (eqb-true (lowest g p k a) a (root a ha).0) ∙ one_class g p fs r a b (root a ha).1 (root b hb).1 ∙ eqb-true (lowest g p k b) b (root b hb).0) in
    le-ltb 1 (length (roots g p k)) l

-- each component is connected and has no more open sites
unfoldable AllSmall : SiteGraph → Labels → ℕ → List (List ℕ) → Type 0
AllSmall g p n [] = Unit {0}
AllSmall g p n (c ∷ cs) = ((is_several g p c ≡ false) × (length (open_sites g p c) ≤ n)) × AllSmall g p n cs

all_small : (g : SiteGraph) (p : Labels) (fs : List ℕ) → Closed g p fs → (rs : List ℕ) → AllSmall g p (length (open_sites g p fs)) (map (component g p fs) rs)
unfolding AllSmall
all_small g p fs c [] = tt
all_small g p fs c (r ∷ rs) = ((component_connected g p fs c r, component_open g p fs r), all_small g p fs c rs)

components_small : (g : SiteGraph) (p : Labels) (fs : List ℕ) → Closed g p fs → AllSmall g p (length (open_sites g p fs)) (components g p fs)
unfolding components
components_small g p fs c = all_small g p fs c (roots g p fs)

fewer_open : (g : SiteGraph) (p : Labels) (fs : List ℕ) (s : ℕ) (l : Label) → has (open_sites g p fs) s ≡ true → length (open_sites g (with_label p s l) fs) < length (open_sites g p fs)
fewer_open g p fs s l o = let m = label_smaller g p fs s l o in omega (arith, m)

module _ (g : SiteGraph) (r : Rules) where
  open_chosen : (p : Labels) (fs : List ℕ) (s : ℕ) → is_decided g p fs ≡ false → s ≡ chosen g p fs → has (open_sites g p fs) s ≡ true
  open_chosen p fs s d e = ap (has (open_sites g p fs)) e ∙ chosen_open g p fs d

  mutual
    unfolding AllClosed AllSmall

    pub depth_bound : (t : Tree) (p : Labels) (fs : List ℕ) → Closed g p fs → IsTree g r p fs t → (depth t ≤ 2 * length (open_sites g p fs) + 2) × (is_several g p fs ≡ false → depth t ≤ 2 * length (open_sites g p fs) + 1)
    depth_bound (leaf v) p fs c h = (omega arith, λ e. omega arith)
    depth_bound (branch s k i) p fs c h =
        let o = open_chosen p fs s.0 h.0 h.2 in
        let a = (depth_bound k (with_label p s.0 Keep) fs (label_closed g p fs s.0 Keep c o) h.3).0 in
        let b = (depth_bound i (with_label p s.0 Inline) fs (label_closed g p fs s.0 Inline c o) h.5).0 in
        let x = fewer_open g p fs s.0 Keep o in
        let y = fewer_open g p fs s.0 Inline o in
        (omega (arith, a, b, x, y), λ e. omega (arith, a, b, x, y))
    depth_bound (cut s k v) p fs c h =
        let o = open_chosen p fs s.0 h.0 h.2 in
        let a = (depth_bound k (with_label p s.0 Keep) fs (label_closed g p fs s.0 Keep c o) h.3).0 in
        let x = fewer_open g p fs s.0 Keep o in
        (omega (arith, a, x), λ e. omega (arith, a, x))
    depth_bound (split hs ts) p fs c h =
        let a = depths_bound ts p (components g p fs) (length (open_sites g p fs)) (components_closed g p fs c) (components_small g p fs c) h.3 in
        (omega (arith, a), λ e. absurd (true≢false (sym h.1 ∙ e)))

    depths_bound : (ts : Parts) (p : Labels) (cs : List (List ℕ)) (n : ℕ) → AllClosed g p cs → AllSmall g p n cs → AreTrees g r p cs ts → depth_of ts ≤ 2 * n + 1
    depths_bound done p [] n c s h = omega arith
    depths_bound done p (k ∷ ks) n c s h = absurd h
    depths_bound (more t ts) p [] n c s h = absurd h
    depths_bound (more t ts) p (k ∷ ks) n c s h =
        let a = (depth_bound t p k c.0 h.0).1 s.0.0 in
        let b = depths_bound ts p ks n c.1 s.1 h.1 in
        let e = s.0.1 in
        omega (arith, a, b, e)

  -- ---- the form of version 2

  small : (d : ℕ) → d ≤ 16384 → nat_le d 16384 ≡ true
  small d h = grind (arith, nat_tests)

  as_many : (p : Labels) (cs : List (List ℕ)) (ts : Parts) → AreTrees g r p cs ts → count_of ts ≡ length cs
  as_many p [] done h = refl
  as_many p [] (more t ts) h = absurd h
  as_many p (c ∷ cs) done h = absurd h
  as_many p (c ∷ cs) (more t ts) h = ap suc (as_many p cs ts h.1)

  many_components : (p : Labels) (fs : List ℕ) → length (components g p fs) ≡ length (roots g p fs)
  unfolding components
  many_components p fs = length-map (roots g p fs) (component g p fs)

  mutual
    pub in_form : (t : Tree) (d : ℕ) (p : Labels) (fs : List ℕ) → IsTree g r p fs t → d + depth t ≤ 16385 → IsIn (form_of 2) d t
    in_form (leaf v) d p fs h low = small d (omega (arith, low))
    in_form (branch s k i) d p fs h low = (small d (omega (arith, low)), in_form k (d + 1) (with_label p s.0 Keep) fs h.3 (omega (arith, low)), in_form i (d + 1) (with_label p s.0 Inline) fs h.5 (omega (arith, low)))
    in_form (cut s k b) d p fs h low = (small d (omega (arith, low)), in_form k (d + 1) (with_label p s.0 Keep) fs h.3 (omega (arith, low)), small (d + 1) (omega (arith, low)), refl)
    in_form (split hs ts) d p fs h low =
        let few = sym (length-map hs (λ (f : FuncId). f.0)) ∙ ap (λ (xs : List ℕ). length xs) h.2 in
        let two = ltb-true 1 (length (roots g p fs)) h.1 in
        (small d (omega (arith, low)), omega (arith, few, two), as_many p (components g p fs) ts h.3 ∙ many_components p fs ∙ sym few, are_in ts (d + 1) p (components g p fs) h.3 (omega (arith, low)))

    are_in : (ts : Parts) (d : ℕ) (p : Labels) (cs : List (List ℕ)) → AreTrees g r p cs ts → d + depth_of ts ≤ 16385 → AreIn (form_of 2) d ts
    are_in done d p cs h low = tt
    are_in (more t ts) d p [] h low = absurd h
    are_in (more t ts) d p (c ∷ cs) h low = (in_form t d p c h.0 (omega (arith, low)), are_in ts d p cs h.1 (omega (arith, low)))
