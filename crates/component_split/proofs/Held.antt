-- Maps that hold the candidates inside a set.
use Rattle.std.proofs.Common.{◌≡◌, ◌≢◌, ℕ, ◌+◌, ◌<◌, ◌≤◌, refl, sym, ap, ◌∙◌, subst, ⊎_elim, arith, Bool, true, false, ◌&&◌, ◌||◌, nat_eq, List, [], ◌∷◌, length, map, get_or, Option, Some, None}
use Rattle.std.specs.Prelude.{slice_index}
use Rattle.std.specs.Option.{IsSome}
use Rattle.std.specs.List.{All}
use Rattle.std.proofs.lemmas.Bool.{eqb-true, eqb-false, and_parts, false≢true, cases_lt}
use Rattle.std.proofs.lemmas.List.{get_or-map, length-map}
use Rattle.std.proofs.lemmas.List.Elements.{Contains-get_or}
use Rattle.oi_base.specs.declared.ids.SiteId.{SiteId}
use Rattle.oi_base.specs.Ascending.{IsAscending}
use Rattle.ir_core.proofs.Lists.{Has, has_in, has_mapped}
use Rattle.call_graph.specs.Graph.{Graph, candidate_ids}
use Rattle.decisions.specs.declared.maps.Label.{Label}
use Rattle.decisions.specs.Maps.{label_of, undecided, SetsOnly}
use Rattle.component_split.specs.Graph.{SiteGraph, Labels, has, inside, is_open}
use Rattle.component_split.specs.Split.{components, open_sites}
use Rattle.component_split.specs.Over.{site_numbers, site_graph, labels, keep_unless, Set, IsRising, IsSetOf, IsMapOver, HoldsInside}
use Rattle.component_split.specs.States.{AgreeInside}
use Rattle.component_split.proofs.Lists.{place_of_has, rising_same}
use Rattle.component_split.proofs.Merge.{has_filter}
use Rattle.component_split.proofs.Known.{is_held}
use Rattle.component_split.proofs.ArcLists.{set_has}
use Rattle.component_split.proofs.Agreeing.{part_inside}

abbrev Map : Type 0
Map = List (SiteId × Option Label)

abbrev id : ℕ → SiteId
id n = record { 0 = n }

-- a map over all candidates holds those inside a set
pub all_held : (G : Graph) (s : Set) (p : Map) → IsMapOver G p → HoldsInside G s p
all_held G s p m x h i = is_held G p m x h

pub sites_ascend : (sites : List SiteId) → IsRising (site_numbers sites) → IsAscending sites
sites_ascend sites r i j d l m =
    let n : length (site_numbers sites) ≡ length sites = simp length-map in
    let a = get_or-map (λ (s : SiteId). s.0) sites i d 0 (omega (arith, l, m)) in
    let b = get_or-map (λ (s : SiteId). s.0) sites j d 0 m in
    let c = r i j l (omega (arith, m, n)) in
    omega (arith, a, b, c)

-- ---- undecided sites

pub undecided_at : (ids : List SiteId) (q : ℕ) → has (site_numbers ids) q ≡ true → label_of (undecided {L = Label} ids) (id q) ≡ Some None
undecided_at [] q h = absurd (false≢true h)
undecided_at (x ∷ xs) q h = one (nat_eq x.0 q) refl (undecided_at xs q)
  where
    one : (b : Bool) → nat_eq x.0 q ≡ b → (has (site_numbers xs) q ≡ true → label_of (undecided {L = Label} xs) (id q) ≡ Some None) → label_of (undecided {L = Label} (x ∷ xs)) (id q) ≡ Some None
    one true e rest = rw e refl
    one false e rest = rw e (rest (sym (ap (λ b. b || has (site_numbers xs) q) e) ∙ h))

some_is : {A : Type 0} (o : Option A) (a : A) → o ≡ Some a → IsSome o
some_is o a e = subst IsSome (sym e) refl

-- ---- a label that is set

pub holds_set : (G : Graph) (s : Set) (p q : Map) (site : SiteId) (l : Option Label) → SetsOnly p q site l → HoldsInside G s p → HoldsInside G s q
holds_set G s p q site l sets h x k i = one (nat_eq x.0 site.0) refl
  where
    one : (b : Bool) → nat_eq x.0 site.0 ≡ b → IsSome (label_of q x)
    one true e = some_is (label_of q x) l (ap (label_of q) (ap id (eqb-true x.0 site.0 e)) ∙ sets.this_site)
    one false e = subst IsSome (sym (sets.other_sites x (λ same. eqb-false x.0 site.0 e (ap (λ (y : SiteId). y.0) same)))) (h x k i)

-- ---- labels that are copied

-- the first sites have the labels of another map, and the others have none
pub record Copied (ss : List ℕ) (from to : Map) (k : ℕ) : Type 0 where
  pub done : (j : ℕ) → j < k → j < length ss → label_of to (id (slice_index ss j)) ≡ label_of from (id (slice_index ss j))
  pub rest : (j : ℕ) → k ≤ j → j < length ss → label_of to (id (slice_index ss j)) ≡ Some None

pub none_copied : (sites : List SiteId) (ss : List ℕ) (from to : Map) → site_numbers sites ≡ ss → to ≡ undecided {L = Label} sites → ((j : ℕ) → j < length ss → has ss (slice_index ss j) ≡ true) → Copied ss from to 0
none_copied sites ss from to e u h = record {
  done = λ j l m. absurd (omega (arith, l));
  rest = λ j l m. ap (λ (p : Map). label_of p (id (slice_index ss j))) u ∙ undecided_at sites (slice_index ss j) (ap (λ (xs : List ℕ). has xs (slice_index ss j)) e ∙ h j m);
}

pub one_copied : (ss : List ℕ) (from old new : Map) (k : ℕ) (x : SiteId) → IsRising ss → k < length ss → slice_index ss k ≡ x.0 → label_of new x ≡ label_of from x → ((s : SiteId) → s ≢ x → label_of new s ≡ label_of old s) → Copied ss from old k → Copied ss from new (k + 1)
one_copied ss from old new k x rising within at label others c = record {
  done = λ j l m. ⊎_elim
      (λ b. others (id (slice_index ss j)) (differ j m (λ e. omega (arith, e, b))) ∙ c.done j b m)
      (λ b. let same : j ≡ k = omega (arith, l, b) in let is : slice_index ss j ≡ x.0 = ap (slice_index ss) same ∙ at in ap (λ n. label_of new (id n)) is ∙ label ∙ sym (ap (λ n. label_of from (id n)) is))
      (cases_lt j k);
  rest = λ j l m. others (id (slice_index ss j)) (differ j m (λ e. omega (arith, e, l))) ∙ c.rest j (omega (arith, l)) m;
}
  where
    differ : (j : ℕ) → j < length ss → j ≢ k → id (slice_index ss j) ≢ x
    differ j m n e = n (rising_same ss rising j k m within (ap (λ (s : SiteId). s.0) e ∙ sym at))

module _ (G : Graph) (s : Set) (o : IsSetOf G s) (from to : Map) (copied : Copied s.1 from to (length s.1)) where
  same_label : (q : ℕ) → has (site_graph G).sites q ≡ true → inside (site_graph G) s.0 q ≡ true → label_of to (id q) ≡ label_of from (id q)
  same_label q h i =
      let at = place_of_has s.1 q (set_has G s o q h i) in
      subst (λ n. label_of to (id n) ≡ label_of from (id n)) at.2 (copied.done at.0 at.1 at.1)

  pub copied_holds : HoldsInside G s from → HoldsInside G s to
  copied_holds held x h i = subst IsSome (sym (same_label x.0 h i)) (held x h i)

  pub copied_agree : AgreeInside (site_graph G) s.0 (labels to) (labels from)
  unfolding labels
  copied_agree q h i = ap keep_unless (same_label q h i)

-- all undecided
module _ (G : Graph) (s : Set) (o : IsSetOf G s) (sites : List SiteId) (numbers : site_numbers sites ≡ s.1) where
  none_at : (q : ℕ) → has (site_graph G).sites q ≡ true → inside (site_graph G) s.0 q ≡ true → label_of (undecided {L = Label} sites) (id q) ≡ Some None
  none_at q h i = undecided_at sites q (ap (λ (xs : List ℕ). has xs q) numbers ∙ set_has G s o q h i)

  pub undecided_holds : (p : Map) → p ≡ undecided {L = Label} sites → HoldsInside G s p
  undecided_holds p e x h i = some_is (label_of p x) None (ap (λ (p : Map). label_of p x) e ∙ none_at x.0 h i)

  pub undecided_agree : (p : Map) → p ≡ undecided {L = Label} sites → AgreeInside (site_graph G) s.0 (labels p) (labels (undecided {L = Label} (candidate_ids G)))
  unfolding labels
  undecided_agree p e q h i = ap (λ (p : Map). keep_unless (label_of p (id q))) e ∙ ap keep_unless (none_at q h i ∙ sym (undecided_at (candidate_ids G) q h))

-- ---- parts of a set

pub parts_hold : (G : Graph) (p : Labels) (s : Set) (m : Map) (parts : List Set) → map (λ (c : Set). c.0) parts ≡ components (site_graph G) p s.0 → HoldsInside G s m → All (λ c. HoldsInside G c m) parts
parts_hold G p s m parts e h k d l x is i =
    let c : Set = get_or parts k d in
    let listed : Has (components (site_graph G) p s.0) c.0 = subst (λ (cs : List (List ℕ)). Has cs c.0) e (has_mapped (λ (c : Set). c.0) parts c (has_in parts c (Contains-get_or parts k d l))) in
    h x is (part_inside (site_graph G) p s.0 c.0 listed x.0 i)

-- an undecided site is inside
pub open_is_inside : (g : SiteGraph) (p : Labels) (fs : List ℕ) (s : ℕ) → has (open_sites g p fs) s ≡ true → inside g fs s ≡ true
unfolding open_sites
open_is_inside g p fs s h = (and_parts (inside g fs s) (is_open (p s)) (and_parts (inside g fs s && is_open (p s)) (has g.sites s) (sym (has_filter (λ q. inside g fs q && is_open (p q)) g.sites s) ∙ h)).0).0
