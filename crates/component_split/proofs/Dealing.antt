-- Dealing functions and sites out to components.
use Rattle.std.proofs.Common.{◌≡◌, ◌≢◌, ℕ, zero, suc, ◌+◌, ◌<◌, refl, sym, ap, ap₂, ◌∙◌, subst, arith, Bool, true, false, ◌&&◌, nat_eq, cond, List, [], ◌∷◌, ◌++◌, length, map, take, get_or, set, replicate, eq-eqb, Option, Some, None}
use Rattle.std.specs.Prelude.{slice_index, zip}
use Rattle.std.specs.List.{filter, All}
use Rattle.std.proofs.lemmas.Bool.{and_parts, and_from, eqb-true, ne_eqb, false≢true}
use Rattle.std.proofs.lemmas.List.{map-append, get_or-map, length-map, take-map, take_more}
use Rattle.std.proofs.lemmas.Slice.Zip.{get_or-zip, length-zip, firsts-zip}
use Rattle.std.proofs.lemmas.List.Elements.{filter_more, All-filter}
use Rattle.oi_base.specs.declared.ids.FuncId.{FuncId}
use Rattle.oi_base.specs.declared.ids.SiteId.{SiteId}
use Rattle.component_split.specs.declared.parts.Member.{Member}
use Rattle.component_split.specs.Graph.{SiteGraph, Labels, has, inside}
use Rattle.component_split.specs.Classes.{AreComponentsOf}
use Rattle.component_split.specs.Split.{lowest, component, components, roots}
use Rattle.component_split.specs.Members.{funcs_in, is_head, is_of, AreLows, HaveHeads, joined_by, IsComponentOf, put_at}
use Rattle.component_split.specs.Over.{site_numbers, func_numbers, site_graph, IsRising, IsSetOf, IsCandidateNumber, AreSitesInside}
use Rattle.call_graph.specs.Graph.{Graph}
use Rattle.component_split.proofs.Lists.{has_at, place_of_has, rising_cons, rising_tail, rising_same, filter_same, filter_filter}
use Rattle.component_split.proofs.Merge.{has_filter, has_component, has_roots}

-- ---- one element more in one of the lists

pub put_is : {A : Type 0} (k : ℕ) (x : A) (yss : List (List A)) (d : List A) → k < length yss → set yss k (get_or yss k d ++ x ∷ []) ≡ put_at k x yss
put_is k x [] d l = absurd (omega (arith, l))
put_is zero x (ys ∷ yss) d l = refl
put_is {A} (suc k) x (ys ∷ yss) d l = ap (λ (zss : List (List A)). ys ∷ zss) (put_is k x yss d (omega arith))

pub map_put : {A : Type 0} (h : A → ℕ) (k : ℕ) (x : A) (yss : List (List A)) → map (λ (ys : List A). map h ys) (put_at k x yss) ≡ put_at k (h x) (map (λ (ys : List A). map h ys) yss)
map_put h k x [] = refl
map_put {A} h zero x (ys ∷ yss) = ap (λ (zs : List ℕ). zs ∷ map (λ (ys : List A). map h ys) yss) (map-append h ys (x ∷ []))
map_put {A} h (suc k) x (ys ∷ yss) = ap (λ (zss : List (List ℕ)). map h ys ∷ zss) (map_put h k x yss)

append_none : (xs : List ℕ) → xs ++ [] ≡ xs
append_none [] = refl
append_none (x ∷ xs) = ap (λ (ys : List ℕ). x ∷ ys) (append_none xs)

grown_off : (F G : ℕ → List ℕ) (t : ℕ → Bool) (x r : ℕ) → G r ≡ F r ++ cond (t r) (x ∷ []) [] → t r ≡ false → F r ≡ G r
grown_off F G t x r h e = sym (h ∙ ap (λ b. F r ++ cond b (x ∷ []) []) e ∙ append_none (F r))

-- no list takes the element
pub dealt_off : (F G : ℕ → List ℕ) (t : ℕ → Bool) (x : ℕ) (rs : List ℕ) → ((r : ℕ) → G r ≡ F r ++ cond (t r) (x ∷ []) []) → ((j : ℕ) → j < length rs → t (slice_index rs j) ≡ false) → map F rs ≡ map G rs
dealt_off F G t x [] h off = refl
dealt_off F G t x (r ∷ rs) h off = ap₂ (λ (ys : List ℕ) (yss : List (List ℕ)). ys ∷ yss) (grown_off F G t x r (h r) (off 0 (omega arith))) (dealt_off F G t x rs h (λ j l. off (suc j) (omega (arith, l))))

-- one list takes it
pub dealt_on : (F G : ℕ → List ℕ) (t : ℕ → Bool) (x : ℕ) (rs : List ℕ) (k : ℕ) → ((r : ℕ) → G r ≡ F r ++ cond (t r) (x ∷ []) []) → k < length rs → t (slice_index rs k) ≡ true → ((j : ℕ) → j < length rs → j ≢ k → t (slice_index rs j) ≡ false) → put_at k x (map F rs) ≡ map G rs
dealt_on F G t x [] k h l on off = absurd (omega (arith, l))
dealt_on F G t x (r ∷ rs) zero h l on off = ap₂ (λ (ys : List ℕ) (yss : List (List ℕ)). ys ∷ yss) (sym (h r ∙ ap (λ b. F r ++ cond b (x ∷ []) []) on)) (dealt_off F G t x rs h (λ j m. off (suc j) (omega (arith, m)) (λ e. omega (arith, e))))
dealt_on F G t x (r ∷ rs) (suc k) h l on off = ap₂ (λ (ys : List ℕ) (yss : List (List ℕ)). ys ∷ yss) (grown_off F G t x r (h r) (off 0 (omega arith) (λ e. omega (arith, e)))) (dealt_on F G t x rs k h (omega (arith, l)) on (λ j m ne. off (suc j) (omega (arith, m)) (λ e. ne (omega (arith, e)))))

-- nothing is dealt yet
pub none_dealt : (F : ℕ → List ℕ) (rs : List ℕ) → ((r : ℕ) → F r ≡ []) → replicate (length rs) [] ≡ map F rs
none_dealt F [] h = refl
none_dealt F (r ∷ rs) h = ap₂ (λ (ys : List ℕ) (yss : List (List ℕ)). ys ∷ yss) (sym (h r)) (none_dealt F rs h)

pub map_empty : {A : Type 0} (h : A → ℕ) (n : ℕ) → map (λ (ys : List A). map h ys) (replicate n []) ≡ replicate n []
map_empty h zero = refl
map_empty {A} h (suc n) = ap (λ (yss : List (List ℕ)). [] ∷ yss) (map_empty h n)

one_if : (b : Bool) (m : Member) → funcs_in (cond b (m ∷ []) []) ≡ cond b (m.func.0 ∷ []) []
one_if true m = refl
one_if false m = refl

-- one more member
pub more_members : (ms : List Member) (i : ℕ) (d : Member) → i < length ms → (r : ℕ) → funcs_in (filter (is_of r) (take (i + 1) ms)) ≡ funcs_in (filter (is_of r) (take i ms)) ++ cond (is_of r (get_or ms i d)) ((get_or ms i d).func.0 ∷ []) []
more_members ms i d l r = ap funcs_in (filter_more (is_of r) ms i d l) ∙ map-append (λ (m : Member). m.func.0) (filter (is_of r) (take i ms)) (cond (is_of r (get_or ms i d)) (get_or ms i d ∷ []) []) ∙ ap (λ (ys : List ℕ). funcs_in (filter (is_of r) (take i ms)) ++ ys) (one_if (is_of r (get_or ms i d)) (get_or ms i d))

pub deal_member : (ms : List Member) (i : ℕ) (d : Member) (rs : List ℕ) (k : ℕ) → i < length ms → IsRising rs → k < length rs → slice_index rs k ≡ (get_or ms i d).low.0 → put_at k (get_or ms i d).func.0 (map (λ r. funcs_in (filter (is_of r) (take i ms))) rs) ≡ map (λ r. funcs_in (filter (is_of r) (take (i + 1) ms))) rs
deal_member ms i d rs k l rising w e = dealt_on (λ r. funcs_in (filter (is_of r) (take i ms))) (λ r. funcs_in (filter (is_of r) (take (i + 1) ms))) (λ r. is_of r (get_or ms i d)) (get_or ms i d).func.0 rs k (more_members ms i d l) w
    (eq-eqb (get_or ms i d).low.0 (slice_index rs k) (sym e))
    (λ j m ne. ne_eqb (get_or ms i d).low.0 (slice_index rs j) (λ s. ne (rising_same rs rising j k m w (sym s ∙ sym e))))

-- one more site
pub more_sites : (P : ℕ → ℕ → Bool) (ss : List SiteId) (i : ℕ) (d : SiteId) → i < length ss → (r : ℕ) → filter (P r) (site_numbers (take (i + 1) ss)) ≡ filter (P r) (site_numbers (take i ss)) ++ cond (P r (get_or ss i d).0) ((get_or ss i d).0 ∷ []) []
more_sites P ss i d l r =
    let n : SiteId → ℕ = λ (x : SiteId). x.0 in
    let m : length (site_numbers ss) ≡ length ss = simp length-map in
    let g : get_or (site_numbers ss) i 0 ≡ (get_or ss i d).0 = get_or-map n ss i d 0 l in
    ap (filter (P r)) (sym (take-map n (i + 1) ss)) ∙ filter_more (P r) (site_numbers ss) i 0 (omega (arith, l, m))
    ∙ ap (λ x. filter (P r) (take i (site_numbers ss)) ++ cond (P r x) (x ∷ []) []) g
    ∙ ap (λ (ys : List ℕ). filter (P r) ys ++ cond (P r (get_or ss i d).0) ((get_or ss i d).0 ∷ []) []) (take-map n i ss)

pub deal_site : (low : ℕ → ℕ) (g : SiteGraph) (ss : List SiteId) (i : ℕ) (d : SiteId) (rs : List ℕ) (k : ℕ) (o : FuncId) → i < length ss → IsRising rs → k < length rs → slice_index rs k ≡ o.0 → IsComponentOf low g (get_or ss i d).0 (Some o) → put_at k (get_or ss i d).0 (map (λ r. filter (joined_by low g r) (site_numbers (take i ss))) rs) ≡ map (λ r. filter (joined_by low g r) (site_numbers (take (i + 1) ss))) rs
deal_site low g ss i d rs k o l rising w e c =
    let s = (get_or ss i d).0 in
    dealt_on (λ r. filter (joined_by low g r) (site_numbers (take i ss))) (λ r. filter (joined_by low g r) (site_numbers (take (i + 1) ss))) (λ r. joined_by low g r s) s rs k (more_sites (λ r x. joined_by low g r x) ss i d l) w
    (and_from (nat_eq (low (g.caller s)) (slice_index rs k)) (nat_eq (low (g.callee s)) (slice_index rs k)) (eq-eqb (low (g.caller s)) (slice_index rs k) (c.0 ∙ sym e)) (eq-eqb (low (g.callee s)) (slice_index rs k) (c.1 ∙ sym e)))
    (λ j m ne. and_off (nat_eq (low (g.caller s)) (slice_index rs j)) (nat_eq (low (g.callee s)) (slice_index rs j)) (ne_eqb (low (g.caller s)) (slice_index rs j) (λ q. ne (rising_same rs rising j k m w (sym q ∙ c.0 ∙ sym e)))))
  where
    and_off : (a b : Bool) → a ≡ false → (a && b) ≡ false
    and_off true b e = absurd (false≢true (sym e))
    and_off false b e = refl

neither : (a b r : ℕ) → (a ≡ b → ⊥) → (u v : Bool) → nat_eq a r ≡ u → nat_eq b r ≡ v → (u && v) ≡ false
neither a b r c true true e f = absurd (c (eqb-true a r e ∙ sym (eqb-true b r f)))
neither a b r c true false e f = refl
neither a b r c false v e f = refl

pub skip_site : (low : ℕ → ℕ) (g : SiteGraph) (ss : List SiteId) (i : ℕ) (d : SiteId) (rs : List ℕ) → i < length ss → IsComponentOf low g (get_or ss i d).0 None → map (λ r. filter (joined_by low g r) (site_numbers (take i ss))) rs ≡ map (λ r. filter (joined_by low g r) (site_numbers (take (i + 1) ss))) rs
skip_site low g ss i d rs l c =
    let s = (get_or ss i d).0 in
    dealt_off (λ r. filter (joined_by low g r) (site_numbers (take i ss))) (λ r. filter (joined_by low g r) (site_numbers (take (i + 1) ss))) (λ r. joined_by low g r s) s rs (more_sites (λ r x. joined_by low g r x) ss i d l)
    (λ j m. neither (low (g.caller s)) (low (g.callee s)) (slice_index rs j) c (nat_eq (low (g.caller s)) (slice_index rs j)) (nat_eq (low (g.callee s)) (slice_index rs j)) refl refl)

pub length_put : {A : Type 0} (k : ℕ) (x : A) (yss : List (List A)) → length (put_at k x yss) ≡ length yss
length_put k x [] = refl
length_put zero x (ys ∷ yss) = refl
length_put (suc k) x (ys ∷ yss) = ap suc (length_put k x yss)

pub take_whole : {A : Type 0} (xs : List A) → take (length xs) xs ≡ xs
take_whole [] = refl
take_whole {A} (x ∷ xs) = ap (λ (ys : List A). x ∷ ys) (take_whole xs)

-- a site of no component
pub none_of : (low : ℕ → ℕ) (g : SiteGraph) (s : ℕ) (o : Option FuncId) → ((r : FuncId) → o ≡ Some r → ⊥) → IsComponentOf low g s o → IsComponentOf low g s None
none_of low g s None never h = h
none_of low g s (Some r) never h = absurd (never r refl)

pub site_in : (G : Graph) (fs : List ℕ) (ss : List SiteId) (k : ℕ) (d : SiteId) → AreSitesInside G fs (site_numbers ss) → k < length ss → IsCandidateNumber G (get_or ss k d).0 × (inside (site_graph G) fs (get_or ss k d).0 ≡ true)
site_in G fs ss k d h l =
    let m : length (site_numbers ss) ≡ length ss = simp length-map in
    let e : get_or (site_numbers ss) k 0 ≡ (get_or ss k d).0 = get_or-map (λ (x : SiteId). x.0) ss k d 0 l in
    subst (λ q. IsCandidateNumber G q × (inside (site_graph G) fs q ≡ true)) e (h k 0 (omega (arith, m, l)))

-- ---- what was dealt are the components

rising_filter_at : (P : ℕ → Bool) (x : ℕ) (xs : List ℕ) (b : Bool) → IsRising (x ∷ xs) → IsRising (filter P xs) → IsRising (cond b (x ∷ filter P xs) (filter P xs))
rising_filter_at P x xs false r h = h
rising_filter_at P x xs true r h = rising_cons x (filter P xs) h (λ i l.
    let q = slice_index (filter P xs) i in
    let in_xs = (and_parts (P q) (has xs q) (sym (has_filter P xs q) ∙ has_at (filter P xs) i l)).1 in
    let at = place_of_has xs q in_xs in
    let w = at.1 in let e = at.2 in
    let b = r 0 (suc at.0) (omega arith) (omega (arith, w)) in omega (arith, b, e))

pub rising_filter : (P : ℕ → Bool) (xs : List ℕ) → IsRising xs → IsRising (filter P xs)
rising_filter P [] r = r
rising_filter P (x ∷ xs) r = rising_filter_at P x xs (P x) r (rising_filter P xs (rising_tail x xs r))

-- a test on members that only asks their functions
members_at : (P : Member → Bool) (Q : ℕ → Bool) (m : Member) (ms : List Member) (b : Bool) → P m ≡ b → Q m.func.0 ≡ b → funcs_in (filter P ms) ≡ filter Q (funcs_in ms) → funcs_in (filter P (m ∷ ms)) ≡ filter Q (funcs_in (m ∷ ms))
members_at P Q m ms true e f h = rw (e, f) (ap (λ (ys : List ℕ). m.func.0 ∷ ys) h)
members_at P Q m ms false e f h = rw (e, f) h

pub members_filter : (P : Member → Bool) (Q : ℕ → Bool) (ms : List Member) → All (λ (m : Member). P m ≡ Q m.func.0) ms → funcs_in (filter P ms) ≡ filter Q (funcs_in ms)
members_filter P Q [] h = refl
members_filter P Q (m ∷ ms) h = members_at P Q m ms (P m) refl (sym (h 0 m (omega arith))) (members_filter P Q ms (λ i d l. h (suc i) d (omega (arith, l))))

-- the lowest functions of a list are those of a list that is the same
pub lows_of : (g : SiteGraph) (p : Labels) (xs fs ps : List ℕ) (ms : List Member) → xs ≡ fs → (AreComponentsOf g p xs ps → AreLows (lowest g p xs) ms) → AreComponentsOf g p fs ps → AreLows (lowest g p fs) ms
lows_of g p xs fs ps ms same lows = subst (λ (zs : List ℕ). AreComponentsOf g p zs ps → AreLows (lowest g p zs) ms) same lows

pub heads_are : (g : SiteGraph) (p : Labels) (fs : List ℕ) (ms : List Member) → funcs_in ms ≡ fs → AreLows (lowest g p fs) ms → funcs_in (filter is_head ms) ≡ roots g p fs
heads_are g p fs ms e h = members_filter is_head (λ f. nat_eq (lowest g p fs f) f) ms (λ i d l. ap (λ x. nat_eq x (get_or ms i d).func.0) (h i d l)) ∙ ap (filter (λ f. nat_eq (lowest g p fs f) f)) e

pub funcs_are : (g : SiteGraph) (p : Labels) (fs : List ℕ) (ms : List Member) → funcs_in ms ≡ fs → AreLows (lowest g p fs) ms → (r : ℕ) → funcs_in (filter (is_of r) ms) ≡ component g p fs r
funcs_are g p fs ms e h r = members_filter (is_of r) (λ f. nat_eq (lowest g p fs f) r) ms (λ i d l. ap (λ x. nat_eq x r) (h i d l)) ∙ ap (filter (λ f. nat_eq (lowest g p fs f) r)) e

swapped : (a b c d : Bool) → ((a && b) && (c && d)) ≡ ((c && a) && (d && b))
swapped true true c d = let l : (c d : Bool) → (c && d) ≡ ((c && true) && (d && true)) = elim [ true ↦ elim [ true ↦ refl | false ↦ refl ] | false ↦ λ d. refl ] in l c d
swapped true false c d = let l : (c d : Bool) → false ≡ ((c && true) && (d && false)) = elim [ true ↦ elim [ true ↦ refl | false ↦ refl ] | false ↦ λ d. refl ] in l c d
swapped false b c d = let l : (c d : Bool) → false ≡ ((c && false) && (d && b)) = elim [ true ↦ λ d. refl | false ↦ λ d. refl ] in l c d

-- the sites of a component among those inside the set
pub sites_are : (g : SiteGraph) (p : Labels) (fs : List ℕ) (r : ℕ) → filter (joined_by (lowest g p fs) g r) (filter (inside g fs) g.sites) ≡ filter (inside g (component g p fs r)) g.sites
sites_are g p fs r = filter_filter (inside g fs) (joined_by (lowest g p fs) g r) g.sites ∙ filter_same (λ s. inside g fs s && joined_by (lowest g p fs) g r s) (inside g (component g p fs r)) g.sites
    (λ s h. swapped (has fs (g.caller s)) (has fs (g.callee s)) (nat_eq (lowest g p fs (g.caller s)) r) (nat_eq (lowest g p fs (g.callee s)) r) ∙ sym (ap₂ (λ x y. x && y) (has_component g p fs r (g.caller s)) (has_component g p fs r (g.callee s))))

pub heads_rise : (g : SiteGraph) (p : Labels) (fs hs : List ℕ) → hs ≡ roots g p fs → IsRising fs → IsRising hs
heads_rise g p fs hs e r = subst IsRising (sym e) (rising_filter (λ f. nat_eq (lowest g p fs f) f) fs r)

pub have_heads : (g : SiteGraph) (p : Labels) (fs hs : List ℕ) (ms : List Member) → hs ≡ roots g p fs → funcs_in ms ≡ fs → AreLows (lowest g p fs) ms → HaveHeads hs ms
have_heads g p fs hs ms e f h = λ i d l.
    let m = get_or ms i d in
    let n : length (funcs_in ms) ≡ length ms = simp length-map in
    let at : slice_index (funcs_in ms) i ≡ m.func.0 = get_or-map (λ (m : Member). m.func.0) ms i d 0 l in
    let is : has fs m.func.0 ≡ true = ap (has fs) (sym at) ∙ ap (λ (xs : List ℕ). has xs (slice_index (funcs_in ms) i)) (sym f) ∙ has_at (funcs_in ms) i (omega (arith, n, l)) in
    ap (λ (xs : List ℕ). has xs m.low.0) e ∙ ap (has (roots g p fs)) (h i d l) ∙ has_roots g p fs m.func.0 is

pub map_same : (F G : ℕ → List ℕ) (rs : List ℕ) → ((r : ℕ) → F r ≡ G r) → map F rs ≡ map G rs
map_same F G [] h = refl
map_same F G (r ∷ rs) h = ap₂ (λ (ys : List ℕ) (yss : List (List ℕ)). ys ∷ yss) (h r) (map_same F G rs h)

pub components_are : (g : SiteGraph) (p : Labels) (fs hs : List ℕ) (ms : List Member) (yss : List (List ℕ)) → hs ≡ roots g p fs → funcs_in ms ≡ fs → AreLows (lowest g p fs) ms → yss ≡ map (λ r. funcs_in (filter (is_of r) ms)) hs → yss ≡ map (component g p fs) (roots g p fs)
components_are g p fs hs ms yss e f h y = y ∙ map_same (λ r. funcs_in (filter (is_of r) ms)) (component g p fs) hs (λ r. funcs_are g p fs ms f h r) ∙ ap (map (component g p fs)) e

pub components_by : (g : SiteGraph) (p : Labels) (fs : List ℕ) → map (component g p fs) (roots g p fs) ≡ components g p fs
unfolding components
components_by g p fs = refl

pub sites_of_parts : (g : SiteGraph) (p : Labels) (fs hs ss : List ℕ) (zss : List (List ℕ)) → hs ≡ roots g p fs → ss ≡ filter (inside g fs) g.sites → zss ≡ map (λ r. filter (joined_by (lowest g p fs) g r) ss) hs → zss ≡ map (λ r. filter (inside g (component g p fs r)) g.sites) (roots g p fs)
sites_of_parts g p fs hs ss zss e s z = z ∙ map_same (λ r. filter (joined_by (lowest g p fs) g r) ss) (λ r. filter (inside g (component g p fs r)) g.sites) hs (λ r. ap (filter (joined_by (lowest g p fs) g r)) s ∙ sites_are g p fs r) ∙ ap (map (λ r. filter (inside g (component g p fs r)) g.sites)) e

zip_all : (P : List ℕ × List ℕ → Type 0) (C D : ℕ → List ℕ) (rs : List ℕ) → ((r : ℕ) → P (C r, D r)) → All P (zip (map C rs) (map D rs))
zip_all P C D [] h i d l = absurd (omega (arith, l))
zip_all P C D (r ∷ rs) h zero d l = h r
zip_all P C D (r ∷ rs) h (suc i) d l = zip_all P C D rs h i d (omega (arith, l))

part_is_set : (G : Graph) (p : Labels) (fs : List ℕ) → All (λ f. f < length G.funcs) fs → (r : ℕ) → IsSetOf G (component (site_graph G) p fs r, filter (inside (site_graph G) (component (site_graph G) p fs r)) (site_graph G).sites)
part_is_set G p fs h r = record { in_range = All-filter (λ f. nat_eq (lowest (site_graph G) p fs f) r) (λ f. f < length G.funcs) fs h; sites = refl }

-- there are as many lists of functions as of sites
pub as_many : (g : SiteGraph) (p : Labels) (fs : List ℕ) (yss : List (List FuncId)) (zss : List (List SiteId)) → map func_numbers yss ≡ map (component g p fs) (roots g p fs) → map site_numbers zss ≡ map (λ r. filter (inside g (component g p fs r)) g.sites) (roots g p fs) → length yss ≡ length zss
as_many g p fs yss zss y z =
    let a : length (map func_numbers yss) ≡ length yss = simp length-map in
    let b : length (map site_numbers zss) ≡ length zss = simp length-map in
    let d : length (map (component g p fs) (roots g p fs)) ≡ length (roots g p fs) = simp length-map in
    let e : length (map (λ r. filter (inside g (component g p fs r)) g.sites) (roots g p fs)) ≡ length (roots g p fs) = simp length-map in
    sym a ∙ ap length y ∙ d ∙ sym e ∙ sym (ap length z) ∙ b

-- the functions of the parts are the components
pub first_parts : (g : SiteGraph) (p : Labels) (fs : List ℕ) (yss : List (List FuncId)) (zss : List (List SiteId)) (parts : List (List ℕ × List ℕ)) → parts ≡ zip (map func_numbers yss) (map site_numbers zss) → map func_numbers yss ≡ map (component g p fs) (roots g p fs) → map site_numbers zss ≡ map (λ r. filter (inside g (component g p fs r)) g.sites) (roots g p fs) → map (λ (c : List ℕ × List ℕ). c.0) parts ≡ components g p fs
first_parts g p fs yss zss parts is y z =
    let a : length (map func_numbers yss) ≡ length yss = simp length-map in
    let b : length (map site_numbers zss) ≡ length zss = simp length-map in
    ap (λ (ps : List (List ℕ × List ℕ)). map (λ (c : List ℕ × List ℕ). c.0) ps) is ∙ firsts-zip (map func_numbers yss) (map site_numbers zss) (b ∙ sym (as_many g p fs yss zss y z) ∙ sym a) ∙ y ∙ components_by g p fs

pub parts_are_sets : (G : Graph) (p : Labels) (fs : List ℕ) (yss zss : List (List ℕ)) → All (λ f. f < length G.funcs) fs → yss ≡ map (component (site_graph G) p fs) (roots (site_graph G) p fs) → zss ≡ map (λ r. filter (inside (site_graph G) (component (site_graph G) p fs r)) (site_graph G).sites) (roots (site_graph G) p fs) → All (λ c. IsSetOf G c) (zip yss zss)
parts_are_sets G p fs yss zss h y z = subst (λ (ls : List (List ℕ)). All (λ c. IsSetOf G c) (zip ls zss)) (sym y) (subst (λ (ls : List (List ℕ)). All (λ c. IsSetOf G c) (zip (map (component (site_graph G) p fs) (roots (site_graph G) p fs)) ls)) (sym z) (zip_all (λ c. IsSetOf G c) (component (site_graph G) p fs) (λ r. filter (inside (site_graph G) (component (site_graph G) p fs r)) (site_graph G).sites) (roots (site_graph G) p fs) (part_is_set G p fs h)))

pub lists_rise : (g : SiteGraph) (p : Labels) (fs rs : List ℕ) (ls : List (List FuncId)) → IsRising fs → map func_numbers ls ≡ map (component g p fs) rs → All (λ l. IsRising (func_numbers l)) ls
lists_rise g p fs rs ls r e = λ k d l.
    let n : length (map func_numbers ls) ≡ length ls = simp length-map in
    let m : length (map (component g p fs) rs) ≡ length rs = simp length-map in
    let q = ap length e in
    let a : get_or (map func_numbers ls) k [] ≡ func_numbers (get_or ls k d) = get_or-map func_numbers ls k d [] l in
    let b : get_or (map (component g p fs) rs) k [] ≡ component g p fs (get_or rs k 0) = get_or-map (component g p fs) rs k 0 [] (omega (arith, n, m, q, l)) in
    subst IsRising (sym (sym a ∙ ap (λ (yss : List (List ℕ)). get_or yss k []) e ∙ b)) (rising_filter (λ f. nat_eq (lowest g p fs f) (get_or rs k 0)) fs r)

-- one more set
pub zip_next : (fl : List (List FuncId)) (sl : List (List SiteId)) (k : ℕ) (x : List FuncId) (y : List SiteId) → length fl ≡ length sl → k < length fl → x ≡ get_or fl k x → y ≡ get_or sl k y → take (k + 1) (zip (map func_numbers fl) (map site_numbers sl)) ≡ take k (zip (map func_numbers fl) (map site_numbers sl)) ++ (func_numbers x, site_numbers y) ∷ []
zip_next fl sl k x y n l e f =
    let ks = map func_numbers fl in
    let vs = map site_numbers sl in
    let a : length ks ≡ length fl = simp length-map in
    let b : length vs ≡ length sl = simp length-map in
    let lk : k < length ks = omega (arith, a, l) in
    let lv : k < length vs = omega (arith, b, n, l) in
    let lz : k < length (zip ks vs) = let z = length-zip ks vs in omega (arith, z, lk, lv) in
    let at : get_or (zip ks vs) k ([], []) ≡ (get_or ks k [], get_or vs k []) = get_or-zip ks vs k ([], []) lk lv in
    let u : get_or ks k [] ≡ func_numbers x = get_or-map func_numbers fl k x [] l ∙ ap func_numbers (sym e) in
    let v : get_or vs k [] ≡ site_numbers y = get_or-map site_numbers sl k y [] (omega (arith, n, l)) ∙ ap site_numbers (sym f) in
    take_more (zip ks vs) k ([], []) lz ∙ ap (λ (p : List ℕ × List ℕ). take k (zip ks vs) ++ p ∷ []) (at ∙ ap₂ (λ (s : List ℕ) (t : List ℕ). (s, t)) u v)
