-- Lists of arcs, their edges, and what their components show.
use Rattle.std.proofs.Common.{◌≡◌, ◌≢◌, ◌⊎◌, ◌&&◌, inl, inr, ℕ, zero, suc, ◌+◌, ◌<◌, refl, sym, ap, ◌∙◌, subst, ⊎_elim, arith, Bool, true, false, nat_eq, cond, List, [], ◌∷◌, ◌++◌, length, set, replicate, Some, None}
use Rattle.std.specs.Prelude.{slice_index, slice_index_or}
use Rattle.std.specs.List.{filter, All}
use Rattle.std.proofs.lemmas.Bool.{eqb-true, eqb-false, false≢true, true≢false}
use Rattle.std.proofs.lemmas.List.{get_or-map, get_or_default, length-map}
use Rattle.oi_base.specs.declared.ids.SiteId.{SiteId}
use Rattle.ir_core.proofs.Lists.{Has, has_at, at_has, has_in, all_at, map_source}
use Rattle.call_graph.specs.Graph.{Graph, candidate_ids}
use Rattle.call_graph.proofs.Candidates.{ascending}
use Rattle.strong_components.specs.declared.edge.Edge.{Edge}
use Rattle.strong_components.specs.declared.walk.Mark.{Mark}
use Rattle.strong_components.specs.declared.walk.Mark.TheVariants.{Unseen, Open, Closed}
use Rattle.strong_components.specs.Walk.{IsSorted, AreEdges, AreComponents}
use Rattle.strong_components.specs.Marks.{mark_at, are_joined}
use Rattle.strong_components.proofs.Sorted.{sorted_append}
use Rattle.component_split.specs.declared.arcs.Arc.{Arc}
use Rattle.component_split.specs.Graph.{SiteGraph, Labels, has, inside}
use Rattle.component_split.specs.Split.{joins_inside}
use Rattle.component_split.specs.Members.{put_at}
use Rattle.component_split.specs.Arcs.{IsArc, AreArcs, AreArcsWithin, PutsArcs, same_direction, is_directed, edge_along, edges_at, edges_of, IsOnCycle, ShowCycles}
use Rattle.component_split.specs.Over.{site_numbers, site_graph, Set, IsSetOf, IsRising}
use Rattle.component_split.specs.Walk.{left}
use Rattle.component_split.proofs.Lists.{place_of_has}
use Rattle.component_split.proofs.Merge.{has_filter}
use Rattle.component_split.proofs.Dealing.{rising_filter, length_put}
use Rattle.component_split.proofs.Trees.{all_more}
use Rattle.component_split.proofs.OnCycles.{IsAlong, on_cycle}

-- ---- arcs that are put

get_put_same : {A : Type 0} (k : ℕ) (x : A) (yss : List (List A)) → k < length yss → slice_index_or (put_at k x yss) k [] ≡ slice_index_or yss k [] ++ x ∷ []
get_put_same k x [] l = absurd (omega (arith, l))
get_put_same zero x (ys ∷ yss) l = refl
get_put_same (suc k) x (ys ∷ yss) l = get_put_same k x yss (omega (arith, l))

get_put_other : {A : Type 0} (k j : ℕ) (x : A) (yss : List (List A)) → j ≢ k → slice_index_or (put_at k x yss) j [] ≡ slice_index_or yss j []
get_put_other k j x [] n = refl
get_put_other zero zero x (ys ∷ yss) n = absurd (n refl)
get_put_other zero (suc j) x (ys ∷ yss) n = refl
get_put_other (suc k) zero x (ys ∷ yss) n = refl
get_put_other (suc k) (suc j) x (ys ∷ yss) n = get_put_other k j x yss (λ e. n (ap suc e))

put_each : {A : Type 0} (P : ℕ → A → Type 0) (k : ℕ) (x : A) (yss : List (List A)) → k < length yss → ((j : ℕ) → All (P j) (slice_index_or yss j [])) → P k x → (j : ℕ) → All (P j) (slice_index_or (put_at k x yss) j [])
put_each {A} P k x yss l h px j = one (nat_eq j k) refl
  where
    one : (b : Bool) → nat_eq j k ≡ b → All (P j) (slice_index_or (put_at k x yss) j [])
    one true e =
        let s : j ≡ k = eqb-true j k e in
        subst (λ i. All (P i) (slice_index_or (put_at k x yss) i [])) (sym s) (subst (All (P k)) (sym (get_put_same k x yss l)) (all_more (P k) (slice_index_or yss k []) x (h k) px))
    one false e = subst (All (P j)) (sym (get_put_other k j x yss (eqb-false j k e))) (h j)

module _ (g : SiteGraph) (p : Labels) (fs ss : List ℕ) where
  pub puts_count : (caller callee at : ℕ) (old new : List (List Arc)) → PutsArcs fs caller callee at old new → length new ≡ length old
  puts_count caller callee at old new puts = ap length puts.arcs ∙ length_put puts.to (record { site = at; to = puts.from; forth = false }) (put_at puts.from (record { site = at; to = puts.to; forth = true }) old) ∙ length_put puts.from (record { site = at; to = puts.to; forth = true }) old

  -- both arcs of a site more
  pub puts_arcs : (s at : ℕ) (old new : List (List Arc)) → at < length ss → slice_index ss at ≡ s → has g.sites s ≡ true → joins_inside g p fs s ≡ true → length old ≡ length fs → PutsArcs fs (g.caller s) (g.callee s) at old new → AreArcs g p fs ss old → AreArcs g p fs ss new
  puts_arcs s at old new l e h j n puts arcs =
      let is_site : has g.sites (slice_index ss at) ≡ true = ap (has g.sites) e ∙ h in
      let joins : joins_inside g p fs (slice_index ss at) ≡ true = ap (joins_inside g p fs) e ∙ j in
      let there : Arc = record { site = at; to = puts.to; forth = true } in
      let again : Arc = record { site = at; to = puts.from; forth = false } in
      let fi = puts.from_in in let ti = puts.to_in in
      let first : IsArc g p fs ss puts.from there = record { within = l; is_site = is_site; joins = joins; to_in = ti; tail = puts.from_is ∙ ap g.caller (sym e); head = puts.to_is ∙ ap g.callee (sym e) } in
      let second : IsArc g p fs ss puts.to again = record { within = l; is_site = is_site; joins = joins; to_in = fi; tail = puts.to_is ∙ ap g.callee (sym e); head = puts.from_is ∙ ap g.caller (sym e) } in
      let m = length_put puts.from there old in
      let P : ℕ → Arc → Type 0 = λ i a. IsArc g p fs ss i a in
      let one = put_each P puts.from there old (omega (arith, fi, n)) arcs first in
      let both = put_each P puts.to again (put_at puts.from there old) (omega (arith, ti, m, n)) one second in
      subst (AreArcs g p fs ss) (sym puts.arcs) both

  pub within_set : (arcs : List (List Arc)) → AreArcs g p fs ss arcs → AreArcsWithin (length fs) (length ss) arcs
  within_set arcs h from k d l = let a = h from k d l in (a.within, a.to_in)

-- no arc yet
pub none_put : (g : SiteGraph) (p : Labels) (fs ss : List ℕ) (arcs : List (List Arc)) → ((j : ℕ) → slice_index_or arcs j [] ≡ []) → AreArcs g p fs ss arcs
none_put g p fs ss arcs e from = subst (All (IsArc g p fs ss from)) (sym (e from)) (λ k d l. absurd (omega (arith, l)))

-- ---- the walk

-- arcs that leave a function to which the walk comes are left no more
pub left_seen : (arcs : List (List Arc)) (seen : List Bool) (v : ℕ) → slice_index_or seen v true ≡ false → left arcs (set seen v true) + length (slice_index_or arcs v []) ≡ left arcs seen
left_seen [] seen v h = refl
left_seen (r ∷ rs) [] v h = absurd (true≢false h)
left_seen (r ∷ rs) (s ∷ ss) zero h = let e : 0 + left rs ss + length r ≡ length r + left rs ss = omega arith in e ∙ ap (λ b. cond b 0 (length r) + left rs ss) (sym h)
left_seen (r ∷ rs) (s ∷ ss) (suc v) h = let i = left_seen rs ss v h in omega (arith, i)

-- the arcs that code reads at a position
pub row_is : {A : Type 0} (yss : List (List A)) (k : ℕ) (ys zs : List A) → k < length yss → ys ≡ slice_index_or yss k ys → zs ≡ ys → zs ≡ slice_index_or yss k []
row_is yss k ys zs l e f = f ∙ e ∙ get_or_default yss k ys [] l

-- ---- edges

has_parts : {A : Type 0} (xs ys : List A) (x : A) → Has (xs ++ ys) x → Has xs x ⊎ Has ys x
has_parts [] ys x h = inr h
has_parts (y ∷ xs) ys x (inl e) = inl (inl e)
has_parts {A} (y ∷ xs) ys x (inr h) = ⊎_elim (λ i. inl (inr i)) (λ i. inr i) (has_parts xs ys x h)

filter_source : {A : Type 0} (P : A → Bool) (xs : List A) (x : A) → Has (filter P xs) x → (P x ≡ true) × Has xs x
filter_source P [] x h = absurd h
filter_source {A} P (y ∷ ys) x h = one (P y) refl h (filter_source P ys x)
  where
    one : (b : Bool) → P y ≡ b → Has (cond b (y ∷ filter P ys) (filter P ys)) x → (Has (filter P ys) x → (P x ≡ true) × Has ys x) → (P x ≡ true) × Has (y ∷ ys) x
    one true e (inl same) rest = (subst (λ z. P z ≡ true) same e, inl same)
    one true e (inr i) rest = let r = rest i in (r.0, inr r.1)
    one false e i rest = let r = rest i in (r.0, inr r.1)

same_directions : (b c : Bool) → same_direction b c ≡ true → b ≡ c
same_directions true true e = refl
same_directions true false e = absurd (false≢true e)
same_directions false true e = absurd (false≢true e)
same_directions false false e = refl

-- an edge is that of a directed arc
edge_source : (directions : List Bool) (from : ℕ) (arcs : List Arc) (e : Edge) → Has (edges_at directions from arcs) e → (a : Arc) × Has arcs a × (slice_index_or directions a.site false ≡ a.forth) × (edge_along from a ≡ e)
edge_source directions from arcs e h =
    let m = map_source (edge_along from) (filter (is_directed directions) arcs) e h in
    let f = filter_source (is_directed directions) arcs m.0 m.1 in
    (m.0, f.1, same_directions (slice_index_or directions m.0.site false) m.0.forth f.0, m.2)

tail_at : (directions : List Bool) (from : ℕ) (arcs : List Arc) (e : Edge) → Has (edges_at directions from arcs) e → e.from ≡ from
tail_at directions from arcs e h = let s = edge_source directions from arcs e h in sym (ap Edge.from s.3)

tail_below : (directions : List Bool) (arcs : List (List Arc)) (n : ℕ) (e : Edge) → Has (edges_of directions arcs n) e → e.from < n
tail_below directions arcs zero e h = absurd h
tail_below directions arcs (suc n) e h = ⊎_elim
    (λ i. let l = tail_below directions arcs n e i in omega (arith, l))
    (λ i. let s = tail_at directions n (slice_index_or arcs n []) e i in omega (arith, s))
    (has_parts (edges_of directions arcs n) (edges_at directions n (slice_index_or arcs n [])) e h)

tails_rise : (directions : List Bool) (arcs : List (List Arc)) (n : ℕ) → IsSorted (edges_of directions arcs n)
tails_rise directions arcs zero i j s t le es et = absurd (let clash : None ≡ Some s = es in cc)
tails_rise directions arcs (suc n) i j s t le es et =
    let here : List Arc = slice_index_or arcs n [] in
    sorted_append (edges_of directions arcs n) (edges_at directions n here) (tails_rise directions arcs n)
    (λ i j s t le es et. let a = tail_at directions n here s (has_at (edges_at directions n here) i s es) in let b = tail_at directions n here t (has_at (edges_at directions n here) j t et) in omega (arith, a, b))
    (λ i j s t es et. let a = tail_below directions arcs n s (has_at (edges_of directions arcs n) i s es) in let b = tail_at directions n here t (has_at (edges_at directions n here) j t et) in omega (arith, a, b))
    i j s t le es et

module _ (g : SiteGraph) (p : Labels) (fs ss : List ℕ) (directions : List Bool) (arcs : List (List Arc)) (are : AreArcs g p fs ss arcs) where
  along_at : (from : ℕ) (e : Edge) → Has (edges_at directions from (slice_index_or arcs from [])) e → IsAlong g p fs ss directions e
  along_at from e h =
      let here : List Arc = slice_index_or arcs from [] in
      let s = edge_source directions from here e h in
      let at = at_has here s.0 s.1 in
      let is = all_at (IsArc g p fs ss from) here at.0 s.0 (are from) at.1 in
      record {
        arc = s.0;
        is_arc = subst (λ i. IsArc g p fs ss i s.0) (ap Edge.from s.3) is;
        to = sym (ap Edge.to s.3);
        direction = s.2;
      }

  along : (n : ℕ) (e : Edge) → Has (edges_of directions arcs n) e → IsAlong g p fs ss directions e
  along zero e h = absurd h
  along (suc n) e h = ⊎_elim (λ i. along n e i) (λ i. along_at n e i) (has_parts (edges_of directions arcs n) (edges_at directions n (slice_index_or arcs n [])) e h)

  pub are_edges : (k n : ℕ) → k ≡ n → n ≡ length fs → AreEdges k (edges_of directions arcs n)
  are_edges k n same count = record {
    tails = λ i e at. let l = tail_below directions arcs n e (has_at (edges_of directions arcs n) i e at) in omega (arith, l, same);
    heads = λ i e at. let a = along n e (has_at (edges_of directions arcs n) i e at) in let l = a.is_arc.to_in in let t = a.to in omega (arith, l, t, same, count);
    sorted = tails_rise directions arcs n;
  }

  -- ---- what components show

  joined_marks : (a b : Mark) → are_joined a b ≡ true → (c : ℕ) × (a ≡ Closed c) × (b ≡ Closed c)
  joined_marks (Closed a) (Closed b) e = (a, refl, ap Closed (sym (eqb-true a b e)))
  joined_marks (Closed a) Unseen e = absurd (false≢true e)
  joined_marks (Closed a) (Open b) e = absurd (false≢true e)
  joined_marks Unseen b e = absurd (false≢true e)
  joined_marks (Open a) b e = absurd (false≢true e)

  pub shown : (k n : ℕ) (IsRoot : ℕ → Type 0) (marks : List Mark) → IsRising ss → ((s : ℕ) → has g.sites s ≡ true → inside g fs s ≡ true → has ss s ≡ true) → AreComponents k (edges_of directions arcs n) IsRoot marks → ShowCycles g p fs marks
  shown k n IsRoot marks rising all comps s i j site within li lj ei ej joined =
      let at = place_of_has ss s (all s site within) in
      let m = joined_marks (mark_at marks i) (mark_at marks j) joined in
      let edges = edges_of directions arcs n in
      subst (IsOnCycle g p fs) at.2
      (on_cycle g p fs ss rising directions edges (λ e c. along n e (has_in edges e c)) at.0 at.1 i j (ei ∙ ap g.caller (sym at.2)) (ej ∙ ap g.callee (sym at.2)) (comps.joined i j m.0 m.1 m.2) (comps.joined j i m.0 m.2 m.1))

-- without marks nothing is shown
pub nothing_shown : (g : SiteGraph) (p : Labels) (fs : List ℕ) → ShowCycles g p fs []
nothing_shown g p fs s i j site within li lj ei ej joined = absurd (false≢true joined)

-- ---- the sites of a set

candidates_rise : (G : Graph) → IsRising (site_numbers (candidate_ids G))
candidates_rise G i j l m =
    let n : length (site_numbers (candidate_ids G)) ≡ length (candidate_ids G) = simp length-map in
    let d : SiteId = record { 0 = 0 } in
    let a = get_or-map (λ (s : SiteId). s.0) (candidate_ids G) i d 0 (omega (arith, l, m, n)) in
    let b = get_or-map (λ (s : SiteId). s.0) (candidate_ids G) j d 0 (omega (arith, m, n)) in
    let c = ascending G i j d l (omega (arith, m, n)) in
    omega (arith, a, b, c)

pub sites_rise : (G : Graph) (s : Set) → IsSetOf G s → IsRising s.1
sites_rise G s o = subst IsRising (sym o.sites) (rising_filter (inside (site_graph G) s.0) (site_graph G).sites (candidates_rise G))

pub set_has : (G : Graph) (s : Set) → IsSetOf G s → (q : ℕ) → has (site_graph G).sites q ≡ true → inside (site_graph G) s.0 q ≡ true → has s.1 q ≡ true
set_has G s o q h i = ap (λ (xs : List ℕ). has xs q) o.sites ∙ has_filter (inside (site_graph G) s.0) (site_graph G).sites q ∙ both (inside (site_graph G) s.0 q) (has (site_graph G).sites q) i h
  where
    both : (a b : Bool) → a ≡ true → b ≡ true → (a && b) ≡ true
    both true true e f = refl
    both true false e f = absurd (false≢true f)
    both false b e f = absurd (false≢true e)

pub get_replicate : {A : Type 0} (n j : ℕ) (xss : List (List A)) → xss ≡ replicate n [] → slice_index_or xss j [] ≡ []
get_replicate {A} n j xss e = ap (λ (yss : List (List A)). slice_index_or yss j []) e ∙ one n j
  where
    one : (n j : ℕ) → slice_index_or (let xss : List (List A) = replicate n [] in xss) j [] ≡ []
    one zero j = refl
    one (suc n) zero = refl
    one (suc n) (suc j) = one n j
