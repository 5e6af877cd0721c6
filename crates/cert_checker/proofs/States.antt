-- A label for an undecided site, and components, leave the states of the search closed.
use Rattle.std.proofs.Common.{◌≡◌, ◌≢◌, ℕ, refl, sym, ap, ◌∙◌, Bool, true, false, ◌&&◌, nat_eq, List, [], ◌∷◌, map, Option, Some, None}
use Rattle.std.proofs.lemmas.Bool.{and_parts, and_from, eqb-true, false≢true}
use Rattle.decisions.specs.declared.maps.Label.{Label}
use Rattle.decisions.specs.declared.maps.Label.TheVariants.{Keep}
use Rattle.component_split.specs.Graph.{SiteGraph, Labels, Closed, has, inside, with_label, is_open}
use Rattle.component_split.specs.Split.{component, roots, components, open_sites}
use Rattle.component_split.proofs.ClosedSets.{component_closed}
use Rattle.component_split.proofs.Merge.{has_filter}
use Rattle.size_measure.specs.Maps.{Map, Completes, AgreeInside}

undecided : (o : Option Label) → is_open o ≡ true → o ≡ None
undecided None h = refl
undecided (Some l) h = absurd (false≢true h)

not_keep : (o : Option Label) → o ≡ None → o ≢ Some Keep
not_keep None e z = absurd cc
not_keep (Some l) e z = absurd cc

-- a site that is open over a set is undecided and inside it
pub open_site : (g : SiteGraph) (p : Labels) (fs : List ℕ) (s : ℕ) → has (open_sites g p fs) s ≡ true → (p s ≡ None) × (inside g fs s ≡ true)
unfolding open_sites
open_site g p fs s h =
    let both = and_parts (inside g fs s && is_open (p s)) (has g.sites s) (sym (has_filter (λ q. inside g fs q && is_open (p q)) g.sites s) ∙ h) in
    let parts = and_parts (inside g fs s) (is_open (p s)) both.0 in
    (undecided (p s) parts.1, parts.0)

pub label_completes : (e : Map) (p : Labels) (s : ℕ) (l : Label) → Completes e p → e s ≡ l → Completes e (with_label p s l)
label_completes e p s l c h q k i = by (nat_eq q s) refl
  where
    same : {a b : Label} → Some a ≡ Some b → a ≡ b
    same z = cc

    by : (b : Bool) → nat_eq q s ≡ b → e q ≡ k
    by true x = let w : with_label p s l q ≡ Some l = rw x refl in ap e (eqb-true q s x) ∙ h ∙ same (sym w ∙ i)
    by false x = let w : with_label p s l q ≡ p q = rw x refl in c q k (sym w ∙ i)

-- a label for an open site leaves a set closed
pub label_closed : (g : SiteGraph) (p : Labels) (fs : List ℕ) (s : ℕ) (l : Label) → Closed g p fs → has (open_sites g p fs) s ≡ true → Closed g (with_label p s l) fs
label_closed g p fs s l c h = record {
  over = λ q other. over_at q other (nat_eq q s) refl;
  ends = λ q apart. ends_at q apart (nat_eq q s) refl;
  distinct = c.distinct;
}
  where
    none_yet : p s ≡ None
    none_yet = (open_site g p fs s h).0

    is_site : has g.sites s ≡ true
    is_site = c.over s (not_keep (p s) none_yet)

    over_at : (q : ℕ) → with_label p s l q ≢ Some Keep → (b : Bool) → nat_eq q s ≡ b → has g.sites q ≡ true
    over_at q other true x = ap (has g.sites) (eqb-true q s x) ∙ is_site
    over_at q other false x = let w : with_label p s l q ≡ p q = rw x refl in c.over q (λ k. other (w ∙ k))

    ends_at : (q : ℕ) → has fs (g.caller q) ≢ has fs (g.callee q) → (b : Bool) → nat_eq q s ≡ b → with_label p s l q ≡ Some Keep
    ends_at q apart true x = absurd (not_keep (p s) none_yet (ap p (sym (eqb-true q s x)) ∙ c.ends q apart))
    ends_at q apart false x = let w : with_label p s l q ≡ p q = rw x refl in w ∙ c.ends q apart

-- ---- components

unfoldable pub AllClosed : SiteGraph → Labels → List (List ℕ) → Type 0
AllClosed g p [] = Unit {0}
AllClosed g p (c ∷ cs) = Closed g p c × AllClosed g p cs

all_components : (g : SiteGraph) (p : Labels) (fs : List ℕ) → Closed g p fs → (rs : List ℕ) → AllClosed g p (map (component g p fs) rs)
unfolding AllClosed
all_components g p fs c [] = tt
all_components g p fs c (r ∷ rs) = (component_closed g p fs c r, all_components g p fs c rs)

pub components_closed : (g : SiteGraph) (p : Labels) (fs : List ℕ) → Closed g p fs → AllClosed g p (components g p fs)
unfolding components
components_closed g p fs c = all_components g p fs c (roots g p fs)

-- ---- states where nothing is open

-- there all completions agree inside
pub none_open : (g : SiteGraph) (p : Labels) (fs : List ℕ) → Closed g p fs → open_sites g p fs ≡ [] → (d e : Map) → Completes d p → Completes e p → AgreeInside g fs d e
unfolding open_sites
none_open g p fs c nothing d e cd ce s site i = by (p s) refl
  where
    by : (o : Option Label) → p s ≡ o → d s ≡ e s
    by (Some l) x = cd s l x ∙ sym (ce s l x)
    by None x =
        let o : is_open (p s) ≡ true = ap is_open x in
        let t : has (open_sites g p fs) s ≡ true = has_filter (λ q. inside g fs q && is_open (p q)) g.sites s ∙ and_from (inside g fs s && is_open (p s)) (has g.sites s) (and_from (inside g fs s) (is_open (p s)) i o) site in
        absurd (false≢true (sym (ap (λ (y : List ℕ). has y s) nothing) ∙ t))
