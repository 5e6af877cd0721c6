-- What a call graph and a partial map know of a candidate.
use Rattle.std.proofs.Common.{◌≡◌, ℕ, zero, suc, ◌<◌, refl, sym, ap, ◌∙◌, subst, arith, Bool, true, false, not, ◌||◌, nat_eq, List, [], ◌∷◌, length, get_or, Option, Some, None}
use Rattle.std.specs.Prelude.{slice_index}
use Rattle.std.specs.Option.{IsSome, is_some, option_map_or}
use Rattle.std.proofs.lemmas.Bool.{and_parts, false≢true}
use Rattle.std.proofs.lemmas.List.{get_or-map, get_or_default, length-map}
use Rattle.oi_base.specs.declared.ids.SiteId.{SiteId}
use Rattle.oi_base.specs.declared.ids.FuncId.{FuncId}
use Rattle.call_graph.specs.declared.facts.SiteFacts.{SiteFacts}
use Rattle.call_graph.specs.Graph.{Graph, candidate_ids, IsNumber, SiteIs, IsCandidateOf}
use Rattle.call_graph.proofs.Candidates.{exactly}
use Rattle.decisions.specs.declared.maps.Label.{Label}
use Rattle.decisions.specs.Maps.{label_of, sites_of}
use Rattle.component_split.specs.Graph.{has, inside, is_open}
use Rattle.component_split.specs.Over.{site_numbers, site_graph, of_site, caller_of, callee_of, labels, keep_unless, Set, IsSetOf, IsMapOver, IsCandidateNumber, AreSitesInside}
use Rattle.component_split.proofs.Lists.{place_of_has, has_at}
use Rattle.component_split.proofs.Merge.{has_filter}

same_site : (s : SiteId) (n : ℕ) → s.0 ≡ n → s ≡ (let x : SiteId = record { 0 = n } in x)
same_site s n e = ap (λ (n : ℕ). let x : SiteId = record { 0 = n } in x) e

-- a candidate's number is that of a candidate
pub known : (g : Graph) (s : SiteId) → IsCandidateNumber g s.0 → IsCandidateOf g s
known g s h =
    let at = place_of_has (site_numbers (candidate_ids g)) s.0 h in
    let k = at.0 in
    let l : k < length (candidate_ids g) = inside (candidate_ids g) k at.1 in
    let e : (get_or (candidate_ids g) k s).0 ≡ s.0 = sym (get_or-map (λ (x : SiteId). x.0) (candidate_ids g) k s 0 l) ∙ at.2 in
    (exactly g s).0 (k, l, same_site (get_or (candidate_ids g) k s) s.0 e)
  where
    inside : (xs : List SiteId) (k : ℕ) → k < length (site_numbers xs) → k < length xs
    inside [] k l = l
    inside (x ∷ xs) zero l = omega arith
    inside (x ∷ xs) (suc k) l = let r = inside xs k (omega (arith, l)) in omega (arith, r)

fact_is : (g : Graph) (h : SiteFacts → ℕ) (s : SiteId) (x : SiteFacts) → SiteIs g s x → of_site g h s.0 ≡ h x
fact_is g h s x e = ap (λ (o : Option SiteFacts). option_map_or h o 0) e

pub caller_known : (g : Graph) (s : SiteId) (r : FuncId) → IsCandidateNumber g s.0 → ((x : SiteFacts) → SiteIs g s x → r ≡ x.site.caller) → r.0 ≡ caller_of g s.0
unfolding caller_of
caller_known g s r h f = let k = known g s h in ap (λ (f : FuncId). f.0) (f k.1.0 k.1.1) ∙ sym (fact_is g (λ (x : SiteFacts). x.site.caller.0) s k.1.0 k.1.1)

pub callee_known : (g : Graph) (s : SiteId) (r : FuncId) → IsCandidateNumber g s.0 → ((x : SiteFacts) → SiteIs g s x → r ≡ x.site.callee) → r.0 ≡ callee_of g s.0
unfolding callee_of
callee_known g s r h f = let k = known g s h in ap (λ (f : FuncId). f.0) (f k.1.0 k.1.1) ∙ sym (fact_is g (λ (x : SiteFacts). x.site.callee.0) s k.1.0 k.1.1)

-- a candidate has a number in range
pub numbered : (g : Graph) (s : SiteId) → IsCandidateNumber g s.0 → IsNumber g s
numbered g s h = (known g s h).0

-- what stands at a place of the candidates is one
pub listed : (g : Graph) (k : ℕ) (d : SiteId) → k < length (candidate_ids g) → IsCandidateNumber g (get_or (candidate_ids g) k d).0
listed g k d l =
    let e = get_or-map (λ (x : SiteId). x.0) (candidate_ids g) k d 0 l in
    let m : length (site_numbers (candidate_ids g)) ≡ length (candidate_ids g) = simp length-map in
    ap (has (site_numbers (candidate_ids g))) (sym e) ∙ has_at (site_numbers (candidate_ids g)) k (omega (arith, m, l))

-- the number of the site at a place
pub number_at : (sites : List SiteId) (numbers : List ℕ) → site_numbers sites ≡ numbers → (k : ℕ) (x : SiteId) → k < length numbers → x ≡ get_or sites k x → slice_index numbers k ≡ x.0
number_at sites numbers e k x l h =
    let m : length (site_numbers sites) ≡ length sites = simp length-map in
    let n = ap length e in
    ap (λ (ns : List ℕ). slice_index ns k) (sym e) ∙ get_or-map (λ (x : SiteId). x.0) sites k x 0 (omega (arith, m, n, l)) ∙ ap (λ (x : SiteId). x.0) (sym h)

-- a site of a set is a candidate inside it
pub site_of_set : (g : Graph) (s : Set) → IsSetOf g s → (k : ℕ) → k < length s.1 → IsCandidateNumber g (slice_index s.1 k) × (inside (site_graph g) s.0 (slice_index s.1 k) ≡ true)
site_of_set g s o k l =
    let q = slice_index s.1 k in
    let h : has s.1 q ≡ true = has_at s.1 k l in
    let both = and_parts (inside (site_graph g) s.0 q) (has (site_graph g).sites q) (sym (has_filter (inside (site_graph g) s.0) (site_graph g).sites q) ∙ ap (λ (xs : List ℕ). has xs q) (sym o.sites) ∙ h) in
    (both.1, both.0)

-- the sites of a set are inside it
pub sites_inside : (g : Graph) (s : Set) → IsSetOf g s → AreSitesInside g s.0 s.1
sites_inside g s o = λ k d l. let e : get_or s.1 k d ≡ slice_index s.1 k = get_or_default s.1 k d 0 l in subst (λ q. IsCandidateNumber g q × (inside (site_graph g) s.0 q ≡ true)) (sym e) (site_of_set g s o k l)

-- ---- maps

held_at : (e : SiteId × Option Label) (p : List (SiteId × Option Label)) (s : SiteId) (b : Bool) → nat_eq e.0.0 s.0 ≡ b → (b || has (site_numbers (sites_of p)) s.0) ≡ true → (has (site_numbers (sites_of p)) s.0 ≡ true → (l : Option Label) × (label_of p s ≡ Some l)) → (l : Option Label) × (label_of (e ∷ p) s ≡ Some l)
held_at e p s true t h rest = (e.1, rw t refl)
held_at e p s false t h rest = let r = rest h in (r.0, rw t r.1)

held_in : (p : List (SiteId × Option Label)) (s : SiteId) → has (site_numbers (sites_of p)) s.0 ≡ true → (l : Option Label) × (label_of p s ≡ Some l)
held_in [] s h = absurd (false≢true h)
held_in (e ∷ p) s h = held_at e p s (nat_eq e.0.0 s.0) refl h (λ i. held_in p s i)

-- a map over the candidates holds each
pub held : (g : Graph) (p : List (SiteId × Option Label)) → IsMapOver g p → (s : SiteId) → IsCandidateNumber g s.0 → (l : Option Label) × (label_of p s ≡ Some l)
held g p m s h = held_in p s (ap (λ (xs : List SiteId). has (site_numbers xs) s.0) m ∙ h)

pub is_held : (g : Graph) (p : List (SiteId × Option Label)) → IsMapOver g p → (s : SiteId) → IsCandidateNumber g s.0 → IsSome (label_of p s)
is_held g p m s h = let r = held g p m s h in subst IsSome (sym r.1) (some r.0)
  where
    some : (l : Option Label) → IsSome (let o : Option (Option Label) = Some l in o)
    some l = refl

-- what the map says of a site that it holds
pub label_is : (p : List (SiteId × Option Label)) (s : SiteId) (l : Option Label) → label_of p s ≡ Some l → labels p s.0 ≡ l
unfolding labels
label_is p s l e = ap keep_unless e

pub open_is : (o : Option Label) (r : Bool) → is_some o ≡ not r → r ≡ is_open o
open_is None true e = refl
open_is None false e = absurd (false≢true e)
open_is (Some l) true e = absurd (false≢true (sym e))
open_is (Some l) false e = refl
