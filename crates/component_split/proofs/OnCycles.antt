-- A site on a cycle of directed sites is no bridge.
use Rattle.std.proofs.Common.{◌≡◌, ◌≢◌, ℕ, ◌<◌, ◌≤◌, refl, sym, ap, ap₂, ◌∙◌, subst, arith, Bool, true, false, ◌&&◌, nat_eq, if◌then◌else◌, List, [], ◌∷◌, length, Some, Contains}
use Rattle.std.specs.Prelude.{slice_index, slice_index_or, nat_lt}
use Rattle.std.specs.List.{filter}
use Rattle.std.proofs.lemmas.Bool.{eqb-true, eqb-false, and_parts, true≢false, ltb-true}
use Rattle.decisions.specs.declared.maps.Label.TheVariants.{Keep}
use Rattle.strong_components.specs.declared.edge.Edge.{Edge}
use Rattle.strong_components.specs.Chains.{Leads, stays, goes}
use Rattle.component_split.specs.declared.arcs.Arc.{Arc}
use Rattle.component_split.specs.Graph.{SiteGraph, Labels, with_label, has, inside, joins}
use Rattle.component_split.specs.Split.{lowest, roots, is_bridge, joins_inside, Joined, here, forth, back, IsConnected}
use Rattle.component_split.specs.Arcs.{tail_of, head_of, IsArc, IsOnCycle}
use Rattle.component_split.specs.Over.{IsRising}
use Rattle.component_split.proofs.Lists.{has_at, rising_same}
use Rattle.component_split.proofs.Merge.{has_filter}
use Rattle.component_split.proofs.Chains.{joined_on, joined_back, same_class}
use Rattle.component_split.proofs.Counting.{components_count}
use Rattle.component_split.proofs.Dealing.{rising_filter}

-- ---- what joins where one site is kept

module _ (g : SiteGraph) (p : Labels) (fs : List ℕ) (s : ℕ) where
  abbrev without : Labels
  without = with_label p s Keep

  -- every other site still joins
  still_by : (t : ℕ) (b : Bool) → nat_eq t s ≡ b → b ≡ false → joins_inside g p fs t ≡ true → joins_inside g without fs t ≡ true
  still_by t true e n h = absurd (true≢false n)
  still_by t false e n h = ap (λ c. inside g fs t && joins (if c then Some Keep else p t)) e ∙ h

  pub still_joins : (t : ℕ) → t ≢ s → joins_inside g p fs t ≡ true → joins_inside g without fs t ≡ true
  still_joins t n h = one (nat_eq t s) refl
    where
      one : (b : Bool) → nat_eq t s ≡ b → joins_inside g without fs t ≡ true
      one true e = absurd (n (eqb-true t s e))
      one false e = still_by t false e refl h

  -- a chain goes round the site
  round : IsOnCycle g p fs s → (t : ℕ) → has g.sites t ≡ true → joins_inside g p fs t ≡ true → Joined g without fs (g.caller t) (g.callee t)
  round c t h i = one (nat_eq t s) refl
    where
      one : (b : Bool) → nat_eq t s ≡ b → Joined g without fs (g.caller t) (g.callee t)
      one true e = subst (λ q. Joined g without fs (g.caller q) (g.callee q)) (sym (eqb-true t s e)) c
      one false e = forth t h (still_by t false e refl i) here

  still_joined : IsOnCycle g p fs s → (a b : ℕ) → Joined g p fs a b → Joined g without fs a b
  still_joined c a b here = here
  still_joined c a b (forth t h i y) = joined_on g without fs a (g.caller t) (g.callee t) (still_joined c a (g.caller t) y) (round c t h i)
  still_joined c a b (back t h i y) = joined_on g without fs a (g.callee t) (g.caller t) (still_joined c a (g.callee t) y) (joined_back g without fs (g.caller t) (g.callee t) (round c t h i))

-- ---- connected sets

filter_has : (P : ℕ → Bool) (xs : List ℕ) (x : ℕ) → has (filter P xs) x ≡ true → (P x ≡ true) × (has xs x ≡ true)
filter_has P xs x h = and_parts (P x) (has xs x) (sym (has_filter P xs x) ∙ h)

-- numbers of which no two differ, and which differ by their places, are no more than one
one_at_most : (xs : List ℕ) → IsRising xs → ((a b : ℕ) → has xs a ≡ true → has xs b ≡ true → a ≡ b) → length xs ≤ 1
one_at_most [] r h = omega arith
one_at_most (x ∷ []) r h = omega arith
one_at_most (x ∷ y ∷ xs) r h =
    let same = h x y (has_at (x ∷ y ∷ xs) 0 (omega arith)) (has_at (x ∷ y ∷ xs) 1 (omega arith)) in
    let lower : x < y = r 0 1 (omega arith) (omega arith) in
    absurd (omega (arith, same, lower))

roots_same : (g : SiteGraph) (p : Labels) (fs : List ℕ) → IsConnected g p fs → (a b : ℕ) → has (roots g p fs) a ≡ true → has (roots g p fs) b ≡ true → a ≡ b
roots_same g p fs c a b ha hb =
    let x = filter_has (λ f. nat_eq (lowest g p fs f) f) fs a ha in
    let y = filter_has (λ f. nat_eq (lowest g p fs f) f) fs b hb in
    sym (eqb-true (lowest g p fs a) a x.0) ∙ (same_class g p fs a b).1 (c a b x.1 y.1) ∙ eqb-true (lowest g p fs b) b y.0

few_not_several : (n : ℕ) → n ≤ 1 → nat_lt 1 n ≡ false
few_not_several n l = one (nat_lt 1 n) refl
  where
    one : (b : Bool) → nat_lt 1 n ≡ b → b ≡ false
    one true e = let h = ltb-true 1 n e in absurd (omega (arith, h, l))
    one false e = refl

-- a site on a cycle is no bridge of a connected set
pub no_bridge : (g : SiteGraph) (p : Labels) (fs : List ℕ) (s : ℕ) → IsRising fs → IsConnected g p fs → IsOnCycle g p fs s → is_bridge g p fs s ≡ false
no_bridge g p fs s r c o =
    let q : Labels = with_label p s Keep in
    let connected : IsConnected g q fs = λ a b ha hb. still_joined g p fs s o a b (c a b ha hb) in
    let few = one_at_most (roots g q fs) (rising_filter (λ f. nat_eq (lowest g q fs f) f) fs r) (roots_same g q fs connected) in
    ap (nat_lt 1) (components_count g q fs) ∙ few_not_several (length (roots g q fs)) few

-- ---- directed sites

-- an edge along an arc in the direction of its site
pub record IsAlong (g : SiteGraph) (p : Labels) (fs ss : List ℕ) (directions : List Bool) (e : Edge) : Type 0 where
  pub arc : Arc
  pub is_arc : IsArc g p fs ss e.from arc
  pub to : e.to ≡ arc.to
  pub direction : slice_index_or directions arc.site false ≡ arc.forth

arc_joins : (g : SiteGraph) (p : Labels) (fs : List ℕ) (b : Bool) (t x y : ℕ) → has g.sites t ≡ true → joins_inside g p fs t ≡ true → x ≡ tail_of g b t → y ≡ head_of g b t → Joined g p fs x y
arc_joins g p fs true t x y h i ex ey = subst (λ u. Joined g p fs u y) (sym ex) (subst (λ v. Joined g p fs (g.caller t) v) (sym ey) (forth t h i here))
arc_joins g p fs false t x y h i ex ey = subst (λ u. Joined g p fs u y) (sym ex) (subst (λ v. Joined g p fs (g.callee t) v) (sym ey) (back t h i here))

module _ (g : SiteGraph) (p : Labels) (fs ss : List ℕ) (rising : IsRising ss) (directions : List Bool) (edges : List Edge) (along : (e : Edge) → Contains edges e → IsAlong g p fs ss directions e) (k : ℕ) (within : k < length ss) where
  abbrev site : ℕ
  site = slice_index ss k

  abbrev forward : Bool
  forward = slice_index_or directions k false

  abbrev Round : ℕ → ℕ → Type 0
  Round a b = Joined g (with_label p site Keep) fs a b

  -- an edge leaves the site's tail, or goes round the site
  one_edge : (e : Edge) → IsAlong g p fs ss directions e → Round (slice_index fs e.to) (tail_of g forward site) → Round (slice_index fs e.from) (tail_of g forward site)
  one_edge e a rest = by_site (nat_eq a.arc.site k) refl
    where
      by_site : (b : Bool) → nat_eq a.arc.site k ≡ b → Round (slice_index fs e.from) (tail_of g forward site)
      by_site true same =
          let at : a.arc.site ≡ k = eqb-true a.arc.site k same in
          let towards : a.arc.forth ≡ forward = sym a.direction ∙ ap (λ i. slice_index_or directions i false) at in
          let tail : slice_index fs e.from ≡ tail_of g forward site = a.is_arc.tail ∙ ap₂ (λ b i. tail_of g b (slice_index ss i)) towards at in
          subst (λ x. Round x (tail_of g forward site)) (sym tail) here
      by_site false other =
          let t = slice_index ss a.arc.site in
          let differs : t ≢ site = λ e. eqb-false a.arc.site k other (rising_same ss rising a.arc.site k a.is_arc.within within e) in
          let joining = still_joins g p fs site t differs a.is_arc.joins in
          let head : slice_index fs e.to ≡ head_of g a.arc.forth t = ap (slice_index fs) a.to ∙ a.is_arc.head in
          joined_on g (with_label p site Keep) fs (slice_index fs e.from) (slice_index fs e.to) (tail_of g forward site) (arc_joins g (with_label p site Keep) fs a.arc.forth t (slice_index fs e.from) (slice_index fs e.to) a.is_arc.is_site joining a.is_arc.tail head) rest

  -- what leads to the site's tail is joined with it by others
  leads_round : {u v : ℕ} → Leads edges u v → slice_index fs v ≡ tail_of g forward site → Round (slice_index fs u) (tail_of g forward site)
  leads_round (stays f) e = subst (λ x. Round (slice_index fs f) x) e here
  leads_round (goes e f c r) h = one_edge e (along e c) (leads_round r h)

  -- a site whose functions lead to each other is on a cycle
  pub on_cycle : (i j : ℕ) → slice_index fs i ≡ g.caller site → slice_index fs j ≡ g.callee site → Leads edges i j → Leads edges j i → IsOnCycle g p fs site
  on_cycle i j ei ej there again = by_direction forward refl
    where
      by_direction : (b : Bool) → forward ≡ b → IsOnCycle g p fs site
      by_direction true e =
          let tail : tail_of g forward site ≡ g.caller site = ap (λ b. tail_of g b site) e in
          let r = leads_round again (ei ∙ sym tail) in
          joined_back g (with_label p site Keep) fs (g.callee site) (g.caller site) (subst (λ x. Round x (g.caller site)) ej (subst (Round (slice_index fs j)) tail r))
      by_direction false e =
          let tail : tail_of g forward site ≡ g.callee site = ap (λ b. tail_of g b site) e in
          let r = leads_round there (ej ∙ sym tail) in
          subst (λ x. Round x (g.callee site)) ei (subst (Round (slice_index fs i)) tail r)
