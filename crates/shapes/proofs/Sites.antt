-- The sites that a map labels inline, where one more has the label.
use Rattle.std.proofs.Common.{◌≡◌, ℕ, zero, suc, ◌<◌, ◌==◌, nat_lt, Bool, true, false, cond, if◌then◌else◌, List, [], ◌∷◌, filter, Option, Some, None, slice_get, Contains, All, refl, sym, ap, ap₂, subst, ◌∙◌, arith}
use Rattle.std.specs.Prelude.{◌&&◌}
use Rattle.std.specs.Option.{option_map_or}
use Rattle.std.proofs.lemmas.Bool.{eqb-true, eq-eqb, ne_eqb, lt-ltb, le-ltb, and_right}
use Rattle.std.proofs.lemmas.Option.{slice_get_within, get_or_from_slice_get}
use Rattle.std.proofs.lemmas.List.Elements.{All-head, All-tail, All-filter, All-weaker, All-contains_itself, filter_passes}
use Rattle.oi_base.specs.declared.ids.FuncId.{FuncId}
use Rattle.oi_base.specs.declared.ids.SiteId.{SiteId}
use Rattle.oi_base.specs.Ascending.{IsAscending}
use Rattle.call_graph.specs.declared.facts.SiteFacts.{SiteFacts}
use Rattle.call_graph.specs.Graph.{Graph, SiteIs, IsCandidateOf, candidate_ids}
use Rattle.call_graph.proofs.Candidates.{ascending, exactly}
use Rattle.decisions.specs.declared.maps.Label.{Label}
use Rattle.decisions.specs.declared.maps.Label.TheVariants.{Inline}
use Rattle.decisions.specs.Maps as maps
use Rattle.decisions.proofs.Lookups.{same_site}
use Rattle.shapes.specs.Standing.{Labels, is_inline, is_in, inline_sites}
use Rattle.shapes.proofs.SameSites.{by_label, same_sites}

-- a site that has a label, or is undecided, stands in the map
pub has_label : {L : Type 0} (p : List (SiteId × L)) (s : SiteId) (l : L) → maps.label_of p s ≡ Some l → (k : ℕ) × (slice_get (maps.sites_of p) k ≡ Some s)
has_label [] s l e = absurd (let clash : None ≡ Some l = e in cc)
has_label {L} (x ∷ p) s l e = by_test (x.0.0 == s.0) refl e (has_label p s l)
  where
    by_test : (b : Bool) → (x.0.0 == s.0) ≡ b → (if b then Some x.1 else maps.label_of p s) ≡ Some l → (maps.label_of p s ≡ Some l → (k : ℕ) × (slice_get (maps.sites_of p) k ≡ Some s)) → (k : ℕ) × (slice_get (x.0 ∷ maps.sites_of p) k ≡ Some s)
    by_test true t e rest = (0, ap (λ (s : SiteId). Some s) (same_site x.0 s (eqb-true x.0.0 s.0 t)))
    by_test false t e rest = let r = rest e in (suc r.0, r.1)

pub label_candidate : (g : Graph) (p : Labels) (s : SiteId) (l : Option Label) → maps.sites_of p ≡ candidate_ids g → maps.label_of p s ≡ Some l → IsCandidateOf g s
label_candidate g p s l all e =
    let r = has_label p s l e in
    let at : slice_get (candidate_ids g) r.0 ≡ Some s = ap (λ (xs : List SiteId). slice_get xs r.0) (sym all) ∙ r.1 in
    (exactly g s).0 (r.0, slice_get_within (candidate_ids g) r.0 s at, get_or_from_slice_get (candidate_ids g) r.0 s s at)

-- what is so of each site that a map labels inline
abbrev pub IsInlineIn : Graph → Labels → FuncId → SiteId → Type 0
IsInlineIn g p f o = (is_inline (maps.label_of p o) && is_in g f o) ≡ true

pub all_candidates : (g : Graph) (p : Labels) (f : FuncId) → maps.sites_of p ≡ candidate_ids g → All (IsCandidateOf g) (inline_sites g p f)
all_candidates g p f all =
    All-filter (λ (s : SiteId). is_inline (maps.label_of p s) && is_in g f s) (IsCandidateOf g) (maps.sites_of p)
    (subst (λ (xs : List SiteId). All (IsCandidateOf g) xs) (sym all) (All-weaker (Contains (candidate_ids g)) (IsCandidateOf g) (λ s h. (exactly g s).0 h) (candidate_ids g) (All-contains_itself (candidate_ids g))))

pub all_inline : (g : Graph) (p : Labels) (f : FuncId) → All (IsInlineIn g p f) (inline_sites g p f)
all_inline g p f = filter_passes (λ (s : SiteId). is_inline (maps.label_of p s) && is_in g f s) (maps.sites_of p)

-- ---- rising sites

abbrev pub Above : SiteId → List SiteId → Type 0
Above x xs = All (λ (o : SiteId). x.0 < o.0) xs

abbrev pub Rising : List SiteId → Type 0
Rising [] = Unit {0}
Rising (x ∷ xs) = Above x xs × Rising xs

rising : (xs : List SiteId) → IsAscending xs → Rising xs
rising [] h = tt
rising (x ∷ xs) h = (λ k d lt. h 0 (suc k) d (omega arith) (omega (arith, lt)), rising xs (λ i j d less lt. h (suc i) (suc j) d (omega (arith, less)) (omega (arith, lt))))

-- sites with one more, in their order
abbrev pub site_inserted : SiteId → List SiteId → List SiteId
site_inserted s [] = s ∷ []
site_inserted s (o ∷ os) = if nat_lt o.0 s.0 then o ∷ site_inserted s os else s ∷ o ∷ os

before_all : (s : SiteId) (xs : List SiteId) → Above s xs → site_inserted s xs ≡ s ∷ xs
before_all s [] h = refl
before_all s (o ∷ os) h = let lt = All-head (λ (o : SiteId). s.0 < o.0) o os h in rw (le-ltb o.0 s.0 (omega (arith, lt))) refl

same_filter : (s : SiteId) (old new : SiteId → Bool) → ((o : SiteId) → (o.0 ≡ s.0 → ⊥) → new o ≡ old o) → (xs : List SiteId) → Above s xs → filter new xs ≡ filter old xs
same_filter s old new same [] h = refl
same_filter s old new same (x ∷ xs) h =
    let lt = All-head (λ (o : SiteId). s.0 < o.0) x xs h in
    ap₂ (λ (b : Bool) (rest : List SiteId). cond b (x ∷ rest) rest) (same x (λ e. omega (arith, lt, e))) (same_filter s old new same xs (All-tail (λ (o : SiteId). s.0 < o.0) x xs h))

-- where one site more passes a test, it stands at its place
pub filter_insert : (s : SiteId) (old new : SiteId → Bool) → ((o : SiteId) → (o.0 ≡ s.0 → ⊥) → new o ≡ old o) → old s ≡ false → new s ≡ true → (xs : List SiteId) (k : ℕ) → Rising xs → slice_get xs k ≡ Some s → filter new xs ≡ site_inserted s (filter old xs)
filter_insert s old new same no_old yes_new [] k h e = absurd (let clash : None ≡ Some s = e in cc)
filter_insert s old new same no_old yes_new (x ∷ xs) zero h e =
    let is : x ≡ s = cc in
    subst (λ (x : SiteId). Above x xs → filter new (x ∷ xs) ≡ site_inserted s (filter old (x ∷ xs))) (sym is)
    (λ above. rw (no_old, yes_new) (ap (λ (rest : List SiteId). s ∷ rest) (same_filter s old new same xs above) ∙ sym (before_all s (filter old xs) (All-filter old (λ (o : SiteId). s.0 < o.0) xs above))))
    h.0
filter_insert s old new same no_old yes_new (x ∷ xs) (suc k) h e =
    let lt = passed x xs k h.0 e in
    let rest = filter_insert s old new same no_old yes_new xs k h.1 e in
    rw (same x (λ e. omega (arith, lt, e))) (by_test (old x) lt rest)
  where
    passed : (x : SiteId) (xs : List SiteId) (k : ℕ) → Above x xs → slice_get xs k ≡ Some s → x.0 < s.0
    passed x xs k above at = subst (λ (o : SiteId). x.0 < o.0) (get_or_from_slice_get xs k s s at) (above k s (slice_get_within xs k s at))

    by_test : (b : Bool) → x.0 < s.0 → filter new xs ≡ site_inserted s (filter old xs) → cond b (x ∷ filter new xs) (filter new xs) ≡ site_inserted s (cond b (x ∷ filter old xs) (filter old xs))
    by_test true lt rest = rw (lt-ltb x.0 s.0 lt) (ap (λ (ys : List SiteId). x ∷ ys) rest)
    by_test false lt rest = rest

-- ---- a site that comes to be inlined

module _ (g : Graph) (old new : Labels) (s : SiteId) (y : SiteFacts) (all : maps.sites_of old ≡ candidate_ids g) (is : SiteIs g s y) (was : maps.label_of old s ≡ Some None) (sets : maps.SetsOnly old new s (Some Inline)) where
  stands_in : (f : FuncId) → is_in g f s ≡ (y.site.caller.0 == f.0)
  stands_in f = ap (λ (o : Option SiteFacts). option_map_or (λ (x : SiteFacts). x.site.caller.0 == f.0) o false) is

  pub elsewhere : (f : FuncId) → (y.site.caller.0 ≡ f.0 → ⊥) → inline_sites g new f ≡ inline_sites g old f
  elsewhere f other =
      let out = stands_in f ∙ ne_eqb y.site.caller.0 f.0 other in
      same_sites g old new f sets.same_sites
      (by_label old new s Inline sets (λ o. (is_inline (maps.label_of new o) && is_in g f o) ≡ (is_inline (maps.label_of old o) && is_in g f o))
      (and_right (is_inline (maps.label_of new s)) (is_in g f s) out ∙ sym (and_right (is_inline (maps.label_of old s)) (is_in g f s) out))
      (λ o e. ap (λ (l : Option (Option Label)). is_inline l && is_in g f o) e))

  pub at_caller : (f : FuncId) → y.site.caller.0 ≡ f.0 → inline_sites g new f ≡ site_inserted s (inline_sites g old f)
  at_caller f same =
      let into = stands_in f ∙ eq-eqb y.site.caller.0 f.0 same in
      let place = has_label old s None was in
      ap (λ (xs : List SiteId). filter (λ (o : SiteId). is_inline (maps.label_of new o) && is_in g f o) xs) sets.same_sites
      ∙ filter_insert s (λ (o : SiteId). is_inline (maps.label_of old o) && is_in g f o) (λ (o : SiteId). is_inline (maps.label_of new o) && is_in g f o)
      (λ o ne. ap (λ (l : Option (Option Label)). is_inline l && is_in g f o) (sets.other_sites o (λ e. ne (ap SiteId.0 e))))
      (rw was refl) (rw (sets.this_site, into) refl) (maps.sites_of old) place.0 (subst Rising (sym all) (rising (candidate_ids g) (ascending g))) place.1
