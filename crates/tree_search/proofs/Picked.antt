-- The map that a tree picks completes the state, and has what the tree is worth.
use Rattle.std.proofs.Common.{◌≡◌, ℕ, refl, sym, ap, ap₂, ◌∙◌, arith, Bool, true, false, ◌&&◌, ◌||◌, nat_eq, if◌then◌else◌, List, [], ◌∷◌, map, Some, None}
use Rattle.std.proofs.lemmas.Bool.{and_parts, eqb-true, eqb-false, false≢true, true≢false, ltb-true, ltb-false}
use Rattle.ir_core.specs.declared.module.Module.{Module}
use Rattle.call_graph.specs.Graph.{Graph}
use Rattle.decisions.specs.declared.maps.Label.{Label}
use Rattle.decisions.specs.declared.maps.Label.TheVariants.{Keep, Inline}
use Rattle.component_split.specs.Graph.{SiteGraph, Labels, Closed, Distinct, has, with_label}
use Rattle.component_split.specs.Split.{lowest, component, roots, components}
use Rattle.component_split.specs.Over.{site_graph}
use Rattle.component_split.proofs.Merge.{has_component, distinct_roots}
use Rattle.inline_certificate.specs.Trees.{Tree, leaf, branch, cut, split, Parts, done, more}
use Rattle.size_measure.specs.Maps.{Map, Completes, AgreeInside}
use Rattle.size_measure.specs.Sizes.{Size, plus, lesser, part}
use Rattle.size_measure.proofs.Bounds.{filled_completes}
use Rattle.size_measure.proofs.Independent.{part_same}
use Rattle.cert_checker.specs.Worth.{BoundOf, Worth, Worths}
use Rattle.cert_checker.proofs.States.{open_site, label_closed, AllClosed, components_closed}
use Rattle.cert_checker.proofs.WorthBounds.{parts_of, parts_whole}
use Rattle.tree_search.specs.Values.{value, values, takes_inline, pick, picks}

-- ---- numbers or none

one_of : (P : Map → Type 0) (b : Bool) (d e : Map) → (b ≡ true → P d) → (b ≡ false → P e) → P (λ q. if b then d q else e q)
one_of P true d e h i = h refl
one_of P false d e h i = i refl

lesser_takes : (a b : Size) → takes_inline a b ≡ true → lesser a b ≡ b
lesser_takes a None h = absurd (false≢true h)
lesser_takes None (Some b) h = refl
lesser_takes (Some a) (Some b) h = let l = ltb-true b a h in ap Some (omega (arith, l))

lesser_leaves : (a b : Size) → takes_inline a b ≡ false → lesser a b ≡ a
lesser_leaves None None h = refl
lesser_leaves (Some a) None h = refl
lesser_leaves None (Some b) h = absurd (true≢false h)
lesser_leaves (Some a) (Some b) h = let l = ltb-false b a h in ap Some (omega (arith, l))

-- what completes a state with one more label completes the state
less_label : (d : Map) (p : Labels) (s : ℕ) (l : Label) → p s ≡ None → Completes d (with_label p s l) → Completes d p
less_label d p s l n c q k h = by (nat_eq q s) refl
  where
    clash : None ≡ Some k → ⊥
    clash e = cc

    by : (b : Bool) → nat_eq q s ≡ b → d q ≡ k
    by true x = absurd (clash (sym n ∙ ap p (sym (eqb-true q s x)) ∙ h))
    by false x = let w : with_label p s l q ≡ p q = rw x refl in c q k (w ∙ h)

-- ---- components have no function in common

ApartFrom : List ℕ → List (List ℕ) → Type 0
ApartFrom c [] = Unit {0}
ApartFrom c (k ∷ ks) = ((f : ℕ) → has k f ≡ true → has c f ≡ false) × ApartFrom c ks

AllApart : List (List ℕ) → Type 0
AllApart [] = Unit {0}
AllApart (c ∷ cs) = ApartFrom c cs × AllApart cs

module _ (g : SiteGraph) (p : Labels) (fs : List ℕ) where
  root_apart : (r q : ℕ) → (r ≡ q → ⊥) → (f : ℕ) → has (component g p fs q) f ≡ true → has (component g p fs r) f ≡ false
  root_apart r q other f h = by (nat_eq (lowest g p fs f) r) refl
    where
      in_q : lowest g p fs f ≡ q
      in_q = eqb-true (lowest g p fs f) q (and_parts (nat_eq (lowest g p fs f) q) (has fs f) (sym (has_component g p fs q f) ∙ h)).0

      by : (b : Bool) → nat_eq (lowest g p fs f) r ≡ b → has (component g p fs r) f ≡ false
      by true x = absurd (other (sym (eqb-true (lowest g p fs f) r x) ∙ in_q))
      by false x = has_component g p fs r f ∙ ap (λ (b : Bool). b && has fs f) x

  root_at : (b : Bool) (r q : ℕ) (rs : List ℕ) → nat_eq q r ≡ b → (b || has rs r) ≡ false → (has rs r ≡ false → ApartFrom (component g p fs r) (map (component g p fs) rs)) → ApartFrom (component g p fs r) (map (component g p fs) (q ∷ rs))
  unfolding ApartFrom
  root_at true r q rs x h rest = absurd (true≢false h)
  root_at false r q rs x h rest = (root_apart r q (λ e. eqb-false q r x (sym e)), rest h)

  roots_apart : (r : ℕ) (rs : List ℕ) → has rs r ≡ false → ApartFrom (component g p fs r) (map (component g p fs) rs)
  unfolding ApartFrom
  roots_apart r [] h = tt
  roots_apart r (q ∷ rs) h = root_at (nat_eq q r) r q rs refl h (λ e. roots_apart r rs e)

  all_apart : (rs : List ℕ) → Distinct rs → AllApart (map (component g p fs) rs)
  unfolding AllApart
  all_apart [] d = tt
  all_apart (r ∷ rs) d = (roots_apart r rs d.0, all_apart rs d.1)

  components_apart : Closed g p fs → AllApart (components g p fs)
  unfolding components
  components_apart c = all_apart (roots g p fs) (distinct_roots g p fs c.distinct)

-- ---- a map that is one on the functions of a set and another elsewhere

abbrev on : SiteGraph → List ℕ → Map → Map → Map
on g c d e q = if has c (g.caller q) then d q else e q

on_agrees : (g : SiteGraph) (c : List ℕ) (d e : Map) → AgreeInside g c (on g c d e) d
on_agrees g c d e s site h = let i : has c (g.caller s) ≡ true = (and_parts (has c (g.caller s)) (has c (g.callee s)) h).0 in rw i refl

on_apart : (g : SiteGraph) (c k : List ℕ) (d e : Map) → ((f : ℕ) → has k f ≡ true → has c f ≡ false) → AgreeInside g k (on g c d e) e
on_apart g c k d e apart s site h = let i : has c (g.caller s) ≡ false = apart (g.caller s) (and_parts (has k (g.caller s)) (has k (g.callee s)) h).0 in rw i refl

on_completes : (g : SiteGraph) (p : Labels) (c : List ℕ) (d e : Map) → Completes d p → Completes e p → Completes (on g c d e) p
on_completes g p c d e cd ce q k h = by (has c (g.caller q)) refl
  where
    by : (b : Bool) → has c (g.caller q) ≡ b → on g c d e q ≡ k
    by true x = rw x (cd q k h)
    by false x = rw x (ce q k h)

module _ (m : Module) (g : Graph) where
  parts_apart : (p : Labels) (c : List ℕ) (d e : Map) → Completes d p → Completes e p → (ks : List (List ℕ)) → AllClosed (site_graph g) p ks → ApartFrom c ks → parts_of m g (on (site_graph g) c d e) ks ≡ parts_of m g e ks
  unfolding parts_of AllClosed ApartFrom
  parts_apart p c d e cd ce [] a b = refl
  parts_apart p c d e cd ce (k ∷ ks) a b =
      ap₂ plus (part_same m g p k a.0 (on (site_graph g) c d e) e (on_completes (site_graph g) p c d e cd ce) ce (on_apart (site_graph g) c k d e b.0)) (parts_apart p c d e cd ce ks a.1 b.1)

  module _ (bound : BoundOf) where
    -- the worth of a tree is its value
    mutual
      pub worth_value : (t : Tree) (p : Labels) (fs : List ℕ) (x : Size) → Worth m g bound p fs t x → x ≡ value t
      worth_value (leaf v) p fs x w = sym w.1
      worth_value (branch s k i) p fs x w = w.5 ∙ ap₂ lesser (worth_value k (with_label p s.0 Keep) fs w.0 w.3) (worth_value i (with_label p s.0 Inline) fs w.1 w.4)
      worth_value (cut s k b) p fs x w = worth_value k (with_label p s.0 Keep) fs x w.1
      worth_value (split hs ts) p fs x w = worths_value ts p (components (site_graph g) p fs) x w.2

      worths_value : (ts : Parts) (p : Labels) (cs : List (List ℕ)) (x : Size) → Worths m g bound p cs ts x → x ≡ values ts
      worths_value done p [] x w = w
      worths_value done p (c ∷ cs) x w = absurd w
      worths_value (more t ts) p [] x w = absurd w
      worths_value (more t ts) p (c ∷ cs) x w = w.4 ∙ ap₂ plus (worth_value t p c w.0 w.2) (worths_value ts p cs w.1 w.3)

    mutual
      unfolding parts_of AllClosed AllApart

      pub picked : (t : Tree) (p : Labels) (fs : List ℕ) (x : Size) → Closed (site_graph g) p fs → Worth m g bound p fs t x → Completes (pick (site_graph g) p fs t) p × (part m g (pick (site_graph g) p fs t) fs ≡ x)
      picked (leaf v) p fs x c w = (filled_completes Keep p, sym w.2)
      picked (branch s k i) p fs x c w =
          let keep = with_label p s.0 Keep in
          let inline = with_label p s.0 Inline in
          let vk = worth_value k keep fs w.0 w.3 in
          let vi = worth_value i inline fs w.1 w.4 in
          one_of (λ (d : Map). Completes d p × (part m g d fs ≡ x)) (takes_inline (value k) (value i)) (pick (site_graph g) inline fs i) (pick (site_graph g) keep fs k)
          (λ b. let r = picked i inline fs w.1 (label_closed (site_graph g) p fs s.0 Inline c w.2) w.4 in (
            less_label (pick (site_graph g) inline fs i) p s.0 Inline (open_site (site_graph g) p fs s.0 w.2).0 r.0,
            r.1 ∙ vi ∙ sym (lesser_takes (value k) (value i) b) ∙ sym (ap₂ lesser vk vi) ∙ sym w.5,
          ))
          (λ b. let r = picked k keep fs w.0 (label_closed (site_graph g) p fs s.0 Keep c w.2) w.3 in (
            less_label (pick (site_graph g) keep fs k) p s.0 Keep (open_site (site_graph g) p fs s.0 w.2).0 r.0,
            r.1 ∙ vk ∙ sym (lesser_leaves (value k) (value i) b) ∙ sym (ap₂ lesser vk vi) ∙ sym w.5,
          ))
      picked (cut s k b) p fs x c w =
          let keep = with_label p s.0 Keep in
          let r = picked k keep fs x (label_closed (site_graph g) p fs s.0 Keep c w.0) w.1 in
          (less_label (pick (site_graph g) keep fs k) p s.0 Keep (open_site (site_graph g) p fs s.0 w.0).0 r.0, r.1)
      picked (split hs ts) p fs x c w =
          let cs = components (site_graph g) p fs in
          let r = pickeds ts p cs x (components_closed (site_graph g) p fs c) (components_apart (site_graph g) p fs c) w.2 in
          (r.0, sym (parts_whole m g p fs c (picks (site_graph g) p cs ts)) ∙ r.1)

      pickeds : (ts : Parts) (p : Labels) (cs : List (List ℕ)) (x : Size) → AllClosed (site_graph g) p cs → AllApart cs → Worths m g bound p cs ts x → Completes (picks (site_graph g) p cs ts) p × (parts_of m g (picks (site_graph g) p cs ts) cs ≡ x)
      pickeds done p [] x a b w = (filled_completes Keep p, sym w)
      pickeds done p (c ∷ cs) x a b w = absurd w
      pickeds (more t ts) p [] x a b w = absurd w
      pickeds (more t ts) p (c ∷ cs) x a b w =
          let own = pick (site_graph g) p c t in
          let rest = picks (site_graph g) p cs ts in
          let r = picked t p c w.0 a.0 w.2 in
          let rs = pickeds ts p cs w.1 a.1 b.1 w.3 in
          let both = on_completes (site_graph g) p c own rest r.0 rs.0 in (
            both,
            ap₂ plus (part_same m g p c a.0 (on (site_graph g) c own rest) own both r.0 (on_agrees (site_graph g) c own rest) ∙ r.1)
                (parts_apart p c own rest r.0 rs.0 cs a.1 b.0 ∙ rs.1) ∙ sym w.4,
          )
