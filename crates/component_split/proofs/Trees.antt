-- Trees of states, and how many nodes they have.
use Rattle.std.proofs.Common.{◌≡◌, ℕ, zero, suc, ◌+◌, ◌<◌, ◌≤◌, refl, sym, ap, ap₂, ◌∙◌, subst, arith, Bool, true, false, ◌&&◌, ◌||◌, nat_eq, if◌then◌else◌, cond, List, [], ◌∷◌, ◌++◌, length, map, drop, drop-cons, Option, Some}
use Rattle.std.specs.Prelude.{slice_index, nat_lt}
use Rattle.std.specs.List.{All}
use Rattle.std.proofs.lemmas.Bool.{eqb-true, eqb-false, and_parts, false≢true, true≢false, ltb-true, ltb-false}
use Rattle.std.proofs.lemmas.List.{length-map}
use Rattle.oi_base.specs.declared.ids.SiteId.{SiteId}
use Rattle.call_graph.specs.Graph.{Graph}
use Rattle.decisions.specs.declared.maps.Label.{Label}
use Rattle.decisions.specs.declared.maps.Label.TheVariants.{Keep, Inline}
use Rattle.decisions.specs.Maps.{label_of, sites_of, undecided, SetsOnly}
use Rattle.component_split.specs.Graph.{SiteGraph, Labels, with_label, is_open, has, inside}
use Rattle.component_split.specs.Split.{lowest, roots, components, open_sites, is_bridge, IsConnected}
use Rattle.component_split.specs.Chosen.{chosen, chosen_of, first_bridge, heaviest, heavier, weight_of, open_of}
use Rattle.component_split.specs.Tree.{Tree, leaf, branch, split, Parts, done, more, nodes, nodes_of, is_empty, is_decided, is_several, IsTree, AreTrees}
use Rattle.component_split.specs.States.{HaveTrees, nodes_in, Point, children, children_by}
use Rattle.component_split.specs.Over.{labels, keep_unless, Set}
use Rattle.component_split.proofs.Lists.{has_head, has_tail}
use Rattle.component_split.proofs.Counting.{components_count}
use Rattle.component_split.proofs.Merge.{has_roots, has_filter}
use Rattle.component_split.proofs.Chains.{same_class}
use Rattle.component_split.proofs.Choosing.{SiteAt}

pub nodes_some : (t : Tree) → 1 ≤ nodes t
nodes_some leaf = omega arith
nodes_some (branch s k i) = omega arith
nodes_some (split ts) = omega arith

-- the last of states with trees
pub have_last : (g : SiteGraph) (xs : List Point) (x : Point) (ts : List Tree) → HaveTrees g (xs ++ x ∷ []) ts → (us : List Tree) × (t : Tree) × HaveTrees g xs us × IsTree g x.0 x.1 t × (nodes_in ts ≡ nodes_in us + nodes t)
have_last g [] x [] h = absurd h
have_last g [] x (t ∷ []) h = ([], t, tt, h.0, omega arith)
have_last g [] x (t ∷ u ∷ ts) h = absurd h.1
have_last g (y ∷ ys) x [] h = absurd h
have_last g (y ∷ ys) x (t ∷ ts) h = let r = have_last g ys x ts h.1 in let e = r.4 in (t ∷ r.0, r.1, (h.0, r.2), r.3, omega (arith, e))

pub have_append : (g : SiteGraph) (xs ys : List Point) (us vs : List Tree) → HaveTrees g xs us → HaveTrees g ys vs → HaveTrees g (xs ++ ys) (us ++ vs)
have_append g [] ys [] vs h i = i
have_append g [] ys (u ∷ us) vs h i = absurd h
have_append g (x ∷ xs) ys [] vs h i = absurd h
have_append g (x ∷ xs) ys (u ∷ us) vs h i = (h.0, have_append g xs ys us vs h.1 i)

pub nodes_append : (us vs : List Tree) → nodes_in (us ++ vs) ≡ nodes_in us + nodes_in vs
nodes_append [] vs = omega arith
nodes_append (u ∷ us) vs = let h = nodes_append us vs in omega (arith, h)

trees_in : Parts → List Tree
trees_in done = []
trees_in (more t ts) = t ∷ trees_in ts

parts_have : (g : SiteGraph) (p : Labels) (cs : List (List ℕ)) (ts : Parts) → AreTrees g p cs ts → HaveTrees g (map (λ (c : List ℕ). (p, c)) cs) (trees_in ts)
unfolding trees_in
parts_have g p [] done h = tt
parts_have g p [] (more t ts) h = absurd h
parts_have g p (c ∷ cs) done h = absurd h
parts_have g p (c ∷ cs) (more t ts) h = (h.0, parts_have g p cs ts h.1)

parts_nodes : (ts : Parts) → nodes_of ts ≡ nodes_in (trees_in ts)
unfolding trees_in
parts_nodes done = refl
parts_nodes (more t ts) = let h = parts_nodes ts in omega (arith, h)

-- the states below a state have the trees below its tree
pub children_have : (g : SiteGraph) (p : Labels) (fs : List ℕ) (t : Tree) → IsTree g p fs t → (vs : List Tree) × HaveTrees g (children g (p, fs)) vs × (nodes t ≡ 1 + nodes_in vs)
children_have g p fs leaf h =
    let e : children g (p, fs) ≡ [] = ap (λ b. children_by b (is_several g p fs) (map (λ (c : List ℕ). (p, c)) (components g p fs)) ((with_label p (chosen g p fs) Keep, fs) ∷ (with_label p (chosen g p fs) Inline, fs) ∷ [])) h in
    ([], subst (λ (xs : List Point). HaveTrees g xs []) (sym e) tt, refl)
children_have g p fs (branch s k i) h =
    let below : List Point = (with_label p (chosen g p fs) Keep, fs) ∷ (with_label p (chosen g p fs) Inline, fs) ∷ [] in
    let e : children g (p, fs) ≡ below = ap₂ (λ b c. children_by b c (map (λ (c : List ℕ). (p, c)) (components g p fs)) below) h.0 h.1 in
    let both : HaveTrees g below (k ∷ i ∷ []) = (subst (λ q. IsTree g (with_label p q Keep) fs k) h.2 h.3, (subst (λ q. IsTree g (with_label p q Inline) fs i) h.2 h.4, tt)) in
    (k ∷ i ∷ [], subst (λ (xs : List Point). HaveTrees g xs (k ∷ i ∷ [])) (sym e) both, omega arith)
children_have g p fs (split ts) h =
    let parts : List Point = map (λ (c : List ℕ). (p, c)) (components g p fs) in
    let e : children g (p, fs) ≡ parts = ap₂ (λ b c. children_by b c parts ((with_label p (chosen g p fs) Keep, fs) ∷ (with_label p (chosen g p fs) Inline, fs) ∷ [])) h.0 h.1 in
    (trees_in ts, subst (λ (xs : List Point). HaveTrees g xs (trees_in ts)) (sym e) (parts_have g p (components g p fs) ts h.2), let n = parts_nodes ts in omega (arith, n))

-- one more node is counted
pub counted_step : (g : SiteGraph) (xs : List Point) (x : Point) (ts : List Tree) (n total : ℕ) → HaveTrees g (xs ++ x ∷ []) ts → n + nodes_in ts ≡ total → (us : List Tree) × HaveTrees g (xs ++ children g x) us × (n + 1 + nodes_in us ≡ total)
counted_step g xs x ts n total h e =
    let r = have_last g xs x ts h in
    let c = children_have g x.0 x.1 r.1 r.3 in
    let a = nodes_append r.0 c.0 in let b = r.4 in let d = c.2 in
    (r.0 ++ c.0, have_append g xs (children g x) r.0 c.0 r.2 c.1, omega (arith, a, b, d, e))

-- where a state is left, there is a node more
pub one_left : (g : SiteGraph) (xs : List Point) (x : Point) (ts : List Tree) → HaveTrees g (xs ++ x ∷ []) ts → 1 ≤ nodes_in ts
one_left g xs x ts h = let r = have_last g xs x ts h in let a = nodes_some r.1 in let e = r.4 in omega (arith, a, e)

pub none_left : (g : SiteGraph) (ts : List Tree) → HaveTrees g [] ts → nodes_in ts ≡ 0
none_left g [] h = refl
none_left g (t ∷ ts) h = absurd h

-- ---- labels

same_id : (s : SiteId) (k : ℕ) → k ≡ s.0 → (let x : SiteId = record { 0 = k } in x) ≡ s
same_id s k e = ap (λ (n : ℕ). let x : SiteId = record { 0 = n } in x) e

set_at : (p q : List (SiteId × Option Label)) (s : SiteId) (l : Label) → SetsOnly p q s (Some l) → (k : ℕ) (b : Bool) → nat_eq k s.0 ≡ b → labels q k ≡ (if b then Some l else labels p k)
unfolding labels
set_at p q s l h k true e = ap (λ (x : SiteId). keep_unless (label_of q x)) (same_id s k (eqb-true k s.0 e)) ∙ ap keep_unless h.this_site
set_at p q s l h k false e = ap keep_unless (h.other_sites (record { 0 = k }) (λ i. eqb-false k s.0 e (ap (λ (x : SiteId). x.0) i)))

-- a label that is set
pub labels_set : (p q : List (SiteId × Option Label)) (s : SiteId) (l : Label) → SetsOnly p q s (Some l) → labels q ≡ with_label (labels p) s.0 l
labels_set p q s l h = λ i k. set_at p q s l h k (nat_eq k s.0) refl i

pub undecided_sites : (ids : List SiteId) → sites_of (undecided {L = Label} ids) ≡ ids
undecided_sites [] = refl
undecided_sites (x ∷ xs) = ap (λ (ys : List SiteId). x ∷ ys) (undecided_sites xs)

-- ---- connected sets

one_only : (xs : List ℕ) (a b : ℕ) → length xs ≤ 1 → has xs a ≡ true → has xs b ≡ true → a ≡ b
one_only [] a b l h i = absurd (false≢true h)
one_only (x ∷ []) a b l h i = sym (eqb-true x a (one (nat_eq x a) h)) ∙ eqb-true x b (one (nat_eq x b) i)
  where
    one : (u : Bool) → (u || false) ≡ true → u ≡ true
    one true e = refl
    one false e = e
one_only (x ∷ y ∷ xs) a b l h i = absurd (omega (arith, l))

-- a set of one component is connected
pub one_connected : (g : SiteGraph) (p : Labels) (fs : List ℕ) → is_several g p fs ≡ false → IsConnected g p fs
one_connected g p fs h = λ a b ha hb. (same_class g p fs a b).0 (one_only (roots g p fs) (lowest g p fs a) (lowest g p fs b) (ltb-false 1 (length (roots g p fs)) h) (has_roots g p fs a ha) (has_roots g p fs b hb))

-- ---- undecided sites

drop_at : (xs : List ℕ) (k x : ℕ) → k < length xs → slice_index xs k ≡ x → drop k xs ≡ x ∷ drop (k + 1) xs
drop_at xs k x l e = let s : suc k ≡ k + 1 = omega arith in drop-cons xs k 0 l ∙ ap (λ y. y ∷ drop (suc k) xs) e ∙ ap (λ n. x ∷ drop n xs) s

pub open_at : (G : Graph) (p : Labels) (s : Set) (k : ℕ) (x : SiteId) (b : Bool) → SiteAt G s k x → is_open (p x.0) ≡ b → open_of p (drop k s.1) ≡ cond b (x.0 ∷ open_of p (drop (k + 1) s.1)) (open_of p (drop (k + 1) s.1))
open_at G p s k x b at e = ap (open_of p) (drop_at s.1 k x.0 at.within at.number) ∙ ap (λ c. cond c (x.0 ∷ open_of p (drop (k + 1) s.1)) (open_of p (drop (k + 1) s.1))) e

-- ---- states

pub all_more : {A : Type 0} (P : A → Type 0) (xs : List A) (x : A) → All P xs → P x → All P (xs ++ x ∷ [])
all_more P [] x h i zero d l = i
all_more P [] x h i (suc k) d l = absurd (omega (arith, l))
all_more P (y ∷ ys) x h i zero d l = h 0 d (omega arith)
all_more P (y ∷ ys) x h i (suc k) d l = all_more P ys x (λ j d m. h (suc j) d (omega (arith, m))) i k d (omega (arith, l))

pub all_front : {A : Type 0} (P : A → Type 0) (xs : List A) (x : A) → All P (xs ++ x ∷ []) → All P xs
all_front P [] x h k d l = absurd (omega (arith, l))
all_front P (y ∷ ys) x h zero d l = h 0 d (omega arith)
all_front P (y ∷ ys) x h (suc k) d l = all_front P ys x (λ j d m. h (suc j) d (omega (arith, m))) k d (omega (arith, l))

pub all_last : {A : Type 0} (P : A → Type 0) (xs : List A) (x : A) → All P (xs ++ x ∷ []) → P x
all_last P [] x h = h 0 x (omega arith)
all_last P (y ∷ ys) x h = all_last P ys x (λ j d m. h (suc j) d (omega (arith, m)))

-- ---- the chosen site is a candidate

either : (P : ℕ → Type 0) (b : Bool) (s t : ℕ) → P s → P t → P (if b then s else t)
either P true s t x y = x
either P false s t x y = y

heaviest_has : (g : SiteGraph) (us all : List ℕ) (s : ℕ) (ts : List ℕ) → has all s ≡ true → ((t : ℕ) → has ts t ≡ true → has all t ≡ true) → has all (heaviest g us s ts) ≡ true
heaviest_has g us all s [] h i = h
heaviest_has g us all s (t ∷ ts) h i = heaviest_has g us all (heavier g us s t) ts (either (λ x. has all x ≡ true) (nat_lt (weight_of g us s) (weight_of g us t)) t s (i t (has_head t ts)) h) (λ q e. i q (has_tail t q ts e))

bridge_has : (g : SiteGraph) (p : Labels) (fs all ss : List ℕ) (other : ℕ) → has all other ≡ true → ((t : ℕ) → has ss t ≡ true → has all t ≡ true) → has all (first_bridge g p fs ss other) ≡ true
bridge_has g p fs all [] other h i = h
bridge_has g p fs all (s ∷ ss) other h i = either (λ x. has all x ≡ true) (is_bridge g p fs s) s (first_bridge g p fs ss other) (i s (has_head s ss)) (bridge_has g p fs all ss other h (λ q e. i q (has_tail s q ss e)))

chosen_in : (g : SiteGraph) (p : Labels) (fs us : List ℕ) → is_empty us ≡ false → has us (chosen_of g p fs us) ≡ true
chosen_in g p fs [] h = absurd (true≢false h)
chosen_in g p fs (s ∷ ss) h = bridge_has g p fs (s ∷ ss) (s ∷ ss) (heaviest g (s ∷ ss) s ss) (heaviest_has g (s ∷ ss) (s ∷ ss) s ss (has_head s ss) (λ t e. has_tail s t ss e)) (λ t e. e)

-- the chosen site is undecided and inside the set
pub chosen_open : (g : SiteGraph) (p : Labels) (fs : List ℕ) → is_decided g p fs ≡ false → has (open_sites g p fs) (chosen g p fs) ≡ true
unfolding chosen
chosen_open g p fs h = chosen_in g p fs (open_sites g p fs) h

pub open_is_site : (g : SiteGraph) (p : Labels) (fs : List ℕ) (s : ℕ) → has (open_sites g p fs) s ≡ true → has g.sites s ≡ true
unfolding open_sites
open_is_site g p fs s h = (and_parts (inside g fs s && is_open (p s)) (has g.sites s) (sym (has_filter (λ q. inside g fs q && is_open (p q)) g.sites s) ∙ h)).1

-- ---- the branch of a state

pub split_children : (g : SiteGraph) (p : Labels) (fs : List ℕ) → is_decided g p fs ≡ false → is_several g p fs ≡ true → children g (p, fs) ≡ map (λ (c : List ℕ). (p, c)) (components g p fs)
split_children g p fs h i = ap₂ (λ b c. children_by b c (map (λ (c : List ℕ). (p, c)) (components g p fs)) ((with_label p (chosen g p fs) Keep, fs) ∷ (with_label p (chosen g p fs) Inline, fs) ∷ [])) h i

pub branch_children : (g : SiteGraph) (p : Labels) (fs : List ℕ) (s : ℕ) → is_decided g p fs ≡ false → is_several g p fs ≡ false → s ≡ chosen g p fs → children g (p, fs) ≡ (with_label p s Keep, fs) ∷ (with_label p s Inline, fs) ∷ []
branch_children g p fs s h i e = ap₂ (λ b c. children_by b c (map (λ (c : List ℕ). (p, c)) (components g p fs)) ((with_label p (chosen g p fs) Keep, fs) ∷ (with_label p (chosen g p fs) Inline, fs) ∷ [])) h i ∙ ap (λ q. (with_label p q Keep, fs) ∷ (with_label p q Inline, fs) ∷ []) (sym e)

pub leaf_children : (g : SiteGraph) (p : Labels) (fs : List ℕ) → is_decided g p fs ≡ true → children g (p, fs) ≡ []
leaf_children g p fs h = ap (λ b. children_by b (is_several g p fs) (map (λ (c : List ℕ). (p, c)) (components g p fs)) ((with_label p (chosen g p fs) Keep, fs) ∷ (with_label p (chosen g p fs) Inline, fs) ∷ [])) h

pub parts_points : (p : Labels) (ps : List Set) (cs : List (List ℕ)) → map (λ (c : Set). c.0) ps ≡ cs → map {B = Point} (λ (c : Set). (p, c.0)) ps ≡ map {B = Point} (λ (c : List ℕ). (p, c)) cs
parts_points p ps cs e = one ps ∙ ap (map {B = Point} (λ (c : List ℕ). (p, c))) e
  where
    one : (ps : List Set) → map {B = Point} (λ (c : Set). (p, c.0)) ps ≡ map {B = Point} (λ (c : List ℕ). (p, c)) (map (λ (c : Set). c.0) ps)
    one [] = refl
    one (c ∷ cs) = ap (λ (xs : List Point). (p, c.0) ∷ xs) (one cs)

pub several_by : (g : SiteGraph) (p : Labels) (fs : List ℕ) (ps : List Set) → map (λ (c : Set). c.0) ps ≡ components g p fs → nat_lt 1 (length ps) ≡ is_several g p fs
several_by g p fs ps e =
    let m : length (map (λ (c : Set). c.0) ps) ≡ length ps = simp length-map in
    ap (nat_lt 1) (sym m ∙ ap length e ∙ components_count g p fs)

pub not_several : (g : SiteGraph) (p : Labels) (fs : List ℕ) (ps : List Set) → map (λ (c : Set). c.0) ps ≡ components g p fs → length ps ≤ 1 → is_several g p fs ≡ false
not_several g p fs ps e l = sym (several_by g p fs ps e) ∙ one (nat_lt 1 (length ps)) refl
  where
    one : (b : Bool) → nat_lt 1 (length ps) ≡ b → b ≡ false
    one true h = let m = ltb-true 1 (length ps) h in absurd (omega (arith, m, l))
    one false h = refl

pub are_several : (g : SiteGraph) (p : Labels) (fs : List ℕ) (ps : List Set) → map (λ (c : Set). c.0) ps ≡ components g p fs → 1 < length ps → is_several g p fs ≡ true
are_several g p fs ps e l = sym (several_by g p fs ps e) ∙ one (nat_lt 1 (length ps)) refl
  where
    one : (b : Bool) → nat_lt 1 (length ps) ≡ b → b ≡ true
    one true h = refl
    one false h = let m = ltb-false 1 (length ps) h in absurd (omega (arith, m, l))
