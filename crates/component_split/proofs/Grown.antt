-- Each state has one tree: the trees below it are those of smaller states.
use Rattle.std.proofs.Common.{◌≡◌, ℕ, zero, suc, ◌+◌, ◌<◌, ◌≤◌, refl, sym, ap, ap₂, ◌∙◌, subst, ⊎_elim, arith, Bool, true, false, ◌&&◌, ◌||◌, nat_eq, List, [], ◌∷◌, length, map, Some, eq-eqb, cond}
use Rattle.std.specs.List.{filter}
use Rattle.std.proofs.lemmas.Bool.{and_parts, and_from, eqb-true, eqb-false, false≢true, true≢false, ltb-true, cases_eq}
use Rattle.decisions.specs.declared.maps.Label.{Label}
use Rattle.decisions.specs.declared.maps.Label.TheVariants.{Keep, Inline}
use Rattle.component_split.specs.Graph.{SiteGraph, Labels, Distinct, has, inside, with_label, is_open}
use Rattle.component_split.specs.Split.{lowest, component, roots, components, open_sites}
use Rattle.component_split.specs.Chosen.{chosen}
use Rattle.component_split.specs.Tree.{Tree, leaf, branch, split, Parts, done, more, is_decided, is_several, IsTree, AreTrees}
use Rattle.component_split.proofs.Lists.{has_head, has_tail, filter_short}
use Rattle.component_split.proofs.Merge.{has_filter, has_component, distinct_filter, distinct_roots}
use Rattle.component_split.proofs.Trees.{chosen_open}

-- ---- lengths of filtered lists

short_at : (Q : ℕ → Bool) (x s : ℕ) (xs : List ℕ) (a b : Bool) → nat_eq x s ≡ a → Q x ≡ b → Q s ≡ false → (has xs s ≡ true → length (filter Q xs) < length xs) → (a || has xs s) ≡ true → length (cond b (x ∷ filter Q xs) (filter Q xs)) < length (x ∷ xs)
short_at Q x s xs true true ea eb f rest h = absurd (true≢false (sym eb ∙ ap Q (eqb-true x s ea) ∙ f))
short_at Q x s xs true false ea eb f rest h = let l = filter_short Q xs in omega arith
short_at Q x s xs false true ea eb f rest h = let l = rest h in omega arith
short_at Q x s xs false false ea eb f rest h = let l = rest h in omega arith

-- a filter that drops an element
pub filter_shorter : (Q : ℕ → Bool) (xs : List ℕ) (s : ℕ) → has xs s ≡ true → Q s ≡ false → length (filter Q xs) < length xs
filter_shorter Q [] s h f = absurd (false≢true h)
filter_shorter Q (x ∷ xs) s h f = short_at Q x s xs (nat_eq x s) (Q x) refl refl f (λ e. filter_shorter Q xs s e f) h

most_at : (x : ℕ) (xs ys : List ℕ) (a b : Bool) → (b ≡ true → a ≡ true) → length ys ≤ length xs → length (cond b (x ∷ ys) ys) ≤ length (cond a (x ∷ xs) xs)
most_at x xs ys true true i h = omega arith
most_at x xs ys true false i h = omega arith
most_at x xs ys false true i h = absurd (false≢true (i refl))
most_at x xs ys false false i h = h

pub filter_most : (P Q : ℕ → Bool) → ((x : ℕ) → Q x ≡ true → P x ≡ true) → (xs : List ℕ) → length (filter Q xs) ≤ length (filter P xs)
filter_most P Q i [] = omega arith
filter_most P Q i (x ∷ xs) = most_at x (filter P xs) (filter Q xs) (P x) (Q x) (i x) (filter_most P Q i xs)

less_at : (P Q : ℕ → Bool) (x s : ℕ) (xs : List ℕ) (a b c : Bool) → nat_eq x s ≡ a → P x ≡ b → Q x ≡ c → ((y : ℕ) → Q y ≡ true → P y ≡ true) → P s ≡ true → Q s ≡ false → (has xs s ≡ true → length (filter Q xs) < length (filter P xs)) → (a || has xs s) ≡ true → length (cond c (x ∷ filter Q xs) (filter Q xs)) < length (cond b (x ∷ filter P xs) (filter P xs))
less_at P Q x s xs true b true ea eb ec i t f rest h = absurd (true≢false (sym ec ∙ ap Q (eqb-true x s ea) ∙ f))
less_at P Q x s xs true true false ea eb ec i t f rest h = let l = filter_most P Q i xs in omega arith
less_at P Q x s xs true false false ea eb ec i t f rest h = absurd (false≢true (sym eb ∙ ap P (eqb-true x s ea) ∙ t))
less_at P Q x s xs false true true ea eb ec i t f rest h = let l = rest h in omega arith
less_at P Q x s xs false true false ea eb ec i t f rest h = let l = rest h in omega arith
less_at P Q x s xs false false true ea eb ec i t f rest h = absurd (false≢true (sym eb ∙ i x ec))
less_at P Q x s xs false false false ea eb ec i t f rest h = rest h

pub filter_less : (P Q : ℕ → Bool) → ((x : ℕ) → Q x ≡ true → P x ≡ true) → (xs : List ℕ) (s : ℕ) → has xs s ≡ true → P s ≡ true → Q s ≡ false → length (filter Q xs) < length (filter P xs)
filter_less P Q i [] s h t f = absurd (false≢true h)
filter_less P Q i (x ∷ xs) s h t f = less_at P Q x s xs (nat_eq x s) (P x) (Q x) refl refl refl i t f (λ e. filter_less P Q i xs s e t f) h

-- ---- a labelled site

open_less : (p : Labels) (s : ℕ) (l : Label) (q : ℕ) (b : Bool) → nat_eq q s ≡ b → is_open (with_label p s l q) ≡ true → is_open (p q) ≡ true
open_less p s l q true e h = let w : with_label p s l q ≡ Some l = rw e refl in absurd (false≢true (sym (ap is_open w) ∙ h))
open_less p s l q false e h = let w : with_label p s l q ≡ p q = rw e refl in sym (ap is_open w) ∙ h

pub label_smaller : (g : SiteGraph) (p : Labels) (fs : List ℕ) (s : ℕ) (l : Label) → has (open_sites g p fs) s ≡ true → length (open_sites g (with_label p s l) fs) + length fs < length (open_sites g p fs) + length fs
unfolding open_sites
label_smaller g p fs s l h =
    let P : ℕ → Bool = λ q. inside g fs q && is_open (p q) in
    let Q : ℕ → Bool = λ q. inside g fs q && is_open (with_label p s l q) in
    let both = and_parts (P s) (has g.sites s) (sym (has_filter P g.sites s) ∙ h) in
    let e : nat_eq s s ≡ true = eq-eqb s s refl in
    let w : with_label p s l s ≡ Some l = rw e refl in
    let f : Q s ≡ false = ap (λ o. inside g fs s && is_open o) w ∙ (let n : (b : Bool) → (b && false) ≡ false = elim [ true ↦ refl | false ↦ refl ] in n (inside g fs s)) in
    let less = filter_less P Q (λ q t. let parts = and_parts (inside g fs q) (is_open (with_label p s l q)) t in and_from (inside g fs q) (is_open (p q)) parts.0 (open_less p s l q (nat_eq q s) refl parts.1)) g.sites s both.1 both.0 f in
    omega (arith, less)

-- ---- components

component_part : (g : SiteGraph) (p : Labels) (fs : List ℕ) (r f : ℕ) → has (component g p fs r) f ≡ true → has fs f ≡ true
component_part g p fs r f h = (and_parts (nat_eq (lowest g p fs f) r) (has fs f) (sym (has_component g p fs r f) ∙ h)).1

component_inside : (g : SiteGraph) (p : Labels) (fs : List ℕ) (r s : ℕ) → inside g (component g p fs r) s ≡ true → inside g fs s ≡ true
component_inside g p fs r s h =
    let both = and_parts (has (component g p fs r) (g.caller s)) (has (component g p fs r) (g.callee s)) h in
    and_from (has fs (g.caller s)) (has fs (g.callee s)) (component_part g p fs r (g.caller s) both.0) (component_part g p fs r (g.callee s) both.1)

pub component_open : (g : SiteGraph) (p : Labels) (fs : List ℕ) (r : ℕ) → length (open_sites g p (component g p fs r)) ≤ length (open_sites g p fs)
unfolding open_sites
component_open g p fs r = filter_most (λ q. inside g fs q && is_open (p q)) (λ q. inside g (component g p fs r) q && is_open (p q))
    (λ q t. let parts = and_parts (inside g (component g p fs r) q) (is_open (p q)) t in and_from (inside g fs q) (is_open (p q)) (component_inside g p fs r q parts.0) parts.1) g.sites

-- a lowest function of another class isn't in the component
dropped : (g : SiteGraph) (p : Labels) (fs : List ℕ) (r q : ℕ) → has (roots g p fs) q ≡ true → (q ≡ r → ⊥) → length (component g p fs r) < length fs
dropped g p fs r q h ne =
    let both = and_parts (nat_eq (lowest g p fs q) q) (has fs q) (sym (has_filter (λ f. nat_eq (lowest g p fs f) f) fs q) ∙ h) in
    let e : lowest g p fs q ≡ q = eqb-true (lowest g p fs q) q both.0 in
    filter_shorter (λ f. nat_eq (lowest g p fs f) r) fs q both.1 (one e (nat_eq (lowest g p fs q) r) refl)
  where
    one : lowest g p fs q ≡ q → (b : Bool) → nat_eq (lowest g p fs q) r ≡ b → nat_eq (lowest g p fs q) r ≡ false
    one e true x = absurd (ne (sym e ∙ eqb-true (lowest g p fs q) r x))
    one e false x = x

two_roots : (g : SiteGraph) (p : Labels) (fs rs : List ℕ) (r : ℕ) → roots g p fs ≡ rs → Distinct rs → 1 < length rs → length (component g p fs r) < length fs
two_roots g p fs [] r e d h = absurd (omega arith)
two_roots g p fs (a ∷ []) r e d h = absurd (omega arith)
two_roots g p fs (a ∷ b ∷ rs) r e d h = ⊎_elim
    (λ same. dropped g p fs r b (ap (λ y. has y b) e ∙ has_tail a b (b ∷ rs) (has_head b rs)) (λ q. apart (sym (q ∙ sym same)) (nat_eq b a) refl d.0))
    (λ ne. dropped g p fs r a (ap (λ y. has y a) e ∙ has_head a (b ∷ rs)) ne)
    (cases_eq a r)
  where
    apart : a ≡ b → (c : Bool) → nat_eq b a ≡ c → (c || has rs a) ≡ false → ⊥
    apart q true x i = true≢false i
    apart q false x i = eqb-false b a x (sym q)

pub component_smaller : (g : SiteGraph) (p : Labels) (fs : List ℕ) → Distinct fs → is_several g p fs ≡ true → (r : ℕ) → length (open_sites g p (component g p fs r)) + length (component g p fs r) < length (open_sites g p fs) + length fs
component_smaller g p fs c h r =
    let two = ltb-true 1 (length (roots g p fs)) h in
    let a = two_roots g p fs (roots g p fs) r refl (distinct_roots g p fs c) two in
    let b = component_open g p fs r in
    omega (arith, a, b)

-- ---- a state has a tree

parts_grown : (g : SiteGraph) (p : Labels) (fs : List ℕ) → ((q : ℕ) → (t : Tree) × IsTree g p (component g p fs q) t) → (rs : List ℕ) → (ts : Parts) × AreTrees g p (map (component g p fs) rs) ts
parts_grown g p fs h [] = (done, tt)
parts_grown g p fs h (q ∷ rs) = let one = h q in let others = parts_grown g p fs h rs in (more one.0 others.0, (one.1, others.1))

components_grown : (g : SiteGraph) (p : Labels) (fs : List ℕ) → ((q : ℕ) → (t : Tree) × IsTree g p (component g p fs q) t) → (ts : Parts) × AreTrees g p (components g p fs) ts
unfolding components
components_grown g p fs h = parts_grown g p fs h (roots g p fs)

case_grown : (g : SiteGraph) (p : Labels) (fs : List ℕ) (a b : Bool) → is_decided g p fs ≡ a → is_several g p fs ≡ b → (is_several g p fs ≡ true → (q : ℕ) → (t : Tree) × IsTree g p (component g p fs q) t) → (is_decided g p fs ≡ false → (l : Label) → (t : Tree) × IsTree g (with_label p (chosen g p fs) l) fs t) → (t : Tree) × IsTree g p fs t
case_grown g p fs true b d s parts child = (leaf, d)
case_grown g p fs false true d s parts child = let ts = components_grown g p fs (parts s) in (split ts.0, (d, s, ts.1))
case_grown g p fs false false d s parts child = let k = child d Keep in let i = child d Inline in (branch (chosen g p fs) k.0 i.0, (d, s, refl, k.1, i.1))

grown_by : (n : ℕ) (g : SiteGraph) (p : Labels) (fs : List ℕ) → Distinct fs → length (open_sites g p fs) + length fs < n → (t : Tree) × IsTree g p fs t
grown_by zero g p fs c h = absurd (omega arith)
grown_by (suc n) g p fs c h = case_grown g p fs (is_decided g p fs) (is_several g p fs) refl refl
    (λ s q. let m = component_smaller g p fs c s q in grown_by n g p (component g p fs q) (distinct_filter (λ f. nat_eq (lowest g p fs f) q) fs c) (omega (arith, m, h)))
    (λ d l. let m = label_smaller g p fs (chosen g p fs) l (chosen_open g p fs d) in grown_by n g (with_label p (chosen g p fs) l) fs c (omega (arith, m, h)))

pub tree_grown : (g : SiteGraph) (p : Labels) (fs : List ℕ) → Distinct fs → (t : Tree) × IsTree g p fs t
tree_grown g p fs c = grown_by (suc (length (open_sites g p fs) + length fs)) g p fs c (omega arith)

-- ---- and no other

mutual
  pub one_tree : (t u : Tree) (g : SiteGraph) (p : Labels) (fs : List ℕ) → IsTree g p fs t → IsTree g p fs u → t ≡ u
  one_tree leaf leaf g p fs a b = refl
  one_tree leaf (branch s k i) g p fs a b = absurd (true≢false (sym a ∙ b.0))
  one_tree leaf (split ts) g p fs a b = absurd (true≢false (sym a ∙ b.0))
  one_tree (branch s k i) leaf g p fs a b = absurd (false≢true (sym a.0 ∙ b))
  one_tree (branch s k i) (branch q l j) g p fs a b =
      let e : q ≡ s = b.2 ∙ sym a.2 in
      let ek = one_tree k l g (with_label p s Keep) fs a.3 (subst (λ x. IsTree g (with_label p x Keep) fs l) e b.3) in
      let ei = one_tree i j g (with_label p s Inline) fs a.4 (subst (λ x. IsTree g (with_label p x Inline) fs j) e b.4) in
      ap (λ x. branch x k i) (sym e) ∙ ap₂ (λ x y. branch q x y) ek ei
  one_tree (branch s k i) (split ts) g p fs a b = absurd (false≢true (sym a.1 ∙ b.1))
  one_tree (split ts) leaf g p fs a b = absurd (false≢true (sym a.0 ∙ b))
  one_tree (split ts) (branch q l j) g p fs a b = absurd (true≢false (sym a.1 ∙ b.1))
  one_tree (split ts) (split us) g p fs a b = ap split (one_parts ts us g p (components g p fs) a.2 b.2)

  one_parts : (ts us : Parts) (g : SiteGraph) (p : Labels) (cs : List (List ℕ)) → AreTrees g p cs ts → AreTrees g p cs us → ts ≡ us
  one_parts done done g p [] a b = refl
  one_parts done (more u us) g p [] a b = absurd b
  one_parts (more t ts) done g p [] a b = absurd a
  one_parts (more t ts) (more u us) g p [] a b = absurd a
  one_parts done done g p (c ∷ cs) a b = absurd a
  one_parts done (more u us) g p (c ∷ cs) a b = absurd a
  one_parts (more t ts) done g p (c ∷ cs) a b = absurd b
  one_parts (more t ts) (more u us) g p (c ∷ cs) a b = ap₂ (λ x y. more x y) (one_tree t u g p c a.0 b.0) (one_parts ts us g p cs a.1 b.1)
