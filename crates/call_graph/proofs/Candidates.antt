-- The list of the candidates.
use Rattle.std.proofs.Common.{◌≡◌, ℕ, zero, suc, ◌+◌, ◌-◌, ◌<◌, ◌≤◌, Bool, true, false, cond, List, [], ◌∷◌, length, Some, None, slice_get, slice_index_or, Contains, IsTrue, ◌↔◌, refl, sym, ap, ◌∙◌, arith}
use Rattle.std.proofs.lemmas.Option.{slice_get_within, slice_get-get_or, slice_get_read, get_or_from_slice_get}
use Rattle.oi_base.specs.declared.ids.SiteId.{SiteId}
use Rattle.call_graph.specs.declared.facts.SiteFacts.{SiteFacts}
use Rattle.oi_base.specs.Ascending.{IsAscending}
use Rattle.call_graph.specs.Graph.{Graph, candidates_from, candidate_ids, IsCandidateOf}

low : (n : ℕ) (ss : List SiteFacts) (k : ℕ) (s : SiteId) → slice_get (candidates_from n ss) k ≡ Some s → n ≤ s.0
low n [] k s e = absurd (let clash : None ≡ Some s = e in cc)
low n (x ∷ xs) k s e = by_flag x.candidate k e (low (n + 1) xs)
  where
    by_flag : (b : Bool) (k : ℕ) → slice_get (cond b (record { 0 = n } ∷ candidates_from (n + 1) xs) (candidates_from (n + 1) xs)) k ≡ Some s → ((k : ℕ) (s : SiteId) → slice_get (candidates_from (n + 1) xs) k ≡ Some s → n + 1 ≤ s.0) → n ≤ s.0
    by_flag true zero e rest = let same : record { 0 = n } ≡ s = cc in let number : n ≡ s.0 = ap SiteId.0 same in omega (arith, number)
    by_flag true (suc k) e rest = let l = rest k s e in omega (arith, l)
    by_flag false k e rest = let l = rest k s e in omega (arith, l)

rises : (n : ℕ) (ss : List SiteFacts) → IsAscending (candidates_from n ss)
rises n [] i j d less lt = absurd (omega (arith, lt))
rises n (x ∷ xs) i j d less lt = by_flag x.candidate i j less lt (low (n + 1) xs) (rises (n + 1) xs)
  where
    by_flag : (b : Bool) (i j : ℕ) → i < j → j < length (cond b (record { 0 = n } ∷ candidates_from (n + 1) xs) (candidates_from (n + 1) xs)) → ((k : ℕ) (s : SiteId) → slice_get (candidates_from (n + 1) xs) k ≡ Some s → n + 1 ≤ s.0) → IsAscending (candidates_from (n + 1) xs)
        → (slice_index_or (cond b (record { 0 = n } ∷ candidates_from (n + 1) xs) (candidates_from (n + 1) xs)) i d).0 < (slice_index_or (cond b (record { 0 = n } ∷ candidates_from (n + 1) xs) (candidates_from (n + 1) xs)) j d).0
    by_flag true i zero less lt above rest = absurd (omega (arith, less))
    by_flag true zero (suc j) less lt above rest = let l = above j (slice_index_or (candidates_from (n + 1) xs) j d) (slice_get-get_or (candidates_from (n + 1) xs) j d (omega (arith, lt))) in omega (arith, l)
    by_flag true (suc i) (suc j) less lt above rest = rest i j d (omega (arith, less)) (omega (arith, lt))
    by_flag false i j less lt above rest = rest i j d less lt

-- the site that a number of the list stands for
abbrev Stands : ℕ → List SiteFacts → SiteId → Type 0
Stands n ss s = (n ≤ s.0) × ((x : SiteFacts) × (slice_get ss (s.0 - n) ≡ Some x) × IsTrue x.candidate)

one_on : (n : ℕ) (x : SiteFacts) (xs : List SiteFacts) (s : SiteId) → Stands (n + 1) xs s → Stands n (x ∷ xs) s
one_on n x xs s h =
    let l = h.0 in
    let e : s.0 - n ≡ suc (s.0 - (n + 1)) = omega (arith, l) in
    (omega (arith, l), (h.1.0, ap (slice_get (x ∷ xs)) e ∙ h.1.1, h.1.2))

stands : (n : ℕ) (ss : List SiteFacts) (k : ℕ) (s : SiteId) → slice_get (candidates_from n ss) k ≡ Some s → Stands n ss s
stands n [] k s e = absurd (let clash : None ≡ Some s = e in cc)
stands n (x ∷ xs) k s e = by_flag x.candidate refl k e (stands (n + 1) xs)
  where
    by_flag : (b : Bool) → x.candidate ≡ b → (k : ℕ) → slice_get (cond b (record { 0 = n } ∷ candidates_from (n + 1) xs) (candidates_from (n + 1) xs)) k ≡ Some s → ((k : ℕ) (s : SiteId) → slice_get (candidates_from (n + 1) xs) k ≡ Some s → Stands (n + 1) xs s) → Stands n (x ∷ xs) s
    by_flag true c zero e rest =
        let same : record { 0 = n } ≡ s = cc in
        let number : n ≡ s.0 = ap SiteId.0 same in
        let z : s.0 - n ≡ 0 = omega (arith, number) in
        (omega (arith, number), (x, ap (slice_get (x ∷ xs)) z, c))
    by_flag true c (suc k) e rest = one_on n x xs s (rest k s e)
    by_flag false c k e rest = one_on n x xs s (rest k s e)

listed : (n : ℕ) (ss : List SiteFacts) (j : ℕ) (x : SiteFacts) → slice_get ss j ≡ Some x → x.candidate ≡ true → (k : ℕ) × (slice_get (candidates_from n ss) k ≡ Some (record { 0 = n + j }))
listed n [] j x e c = absurd (let clash : None ≡ Some x = e in cc)
listed n (y ∷ ys) zero x e c =
    let same : y ≡ x = cc in
    let flag : y.candidate ≡ true = ap SiteFacts.candidate same ∙ c in
    let z : n ≡ n + 0 = omega arith in
    (0, rw flag (ap (λ (m : ℕ). Some (record { 0 = m })) z))
listed n (y ∷ ys) (suc j) x e c = by_flag y.candidate (listed (n + 1) ys j x e c)
  where
    z : n + 1 + j ≡ n + suc j
    z = omega arith

    by_flag : (b : Bool) → ((k : ℕ) × (slice_get (candidates_from (n + 1) ys) k ≡ Some (record { 0 = n + 1 + j }))) → (k : ℕ) × (slice_get (cond b (record { 0 = n } ∷ candidates_from (n + 1) ys) (candidates_from (n + 1) ys)) k ≡ Some (record { 0 = n + suc j }))
    by_flag true r = (suc r.0, r.1 ∙ ap (λ (m : ℕ). Some (record { 0 = m })) z)
    by_flag false r = (r.0, r.1 ∙ ap (λ (m : ℕ). Some (record { 0 = m })) z)

pub ascending : (g : Graph) → IsAscending (candidate_ids g)
ascending g = rises 1 g.sites

pub exactly : (g : Graph) (s : SiteId) → Contains (candidate_ids g) s ↔ IsCandidateOf g s
exactly g s = (to, back)
  where
    to : Contains (candidate_ids g) s → IsCandidateOf g s
    to h =
        let r = stands 1 g.sites h.0 s (slice_get_read (candidate_ids g) (length (candidate_ids g)) h.0 s refl h.1 (sym h.2)) in
        let w = slice_get_within g.sites (s.0 - 1) r.1.0 r.1.1 in
        let l = r.0 in
        ((l, omega (arith, w, l)), r.1)

    back : IsCandidateOf g s → Contains (candidate_ids g) s
    back h =
        let l = h.0.0 in
        let r = listed 1 g.sites (s.0 - 1) h.1.0 h.1.1 h.1.2 in
        let number : 1 + (s.0 - 1) ≡ s.0 = omega (arith, l) in
        let at : slice_get (candidate_ids g) r.0 ≡ Some s = r.1 ∙ ap (λ (m : ℕ). Some (record { 0 = m })) number in
        (r.0, slice_get_within (candidate_ids g) r.0 s at, get_or_from_slice_get (candidate_ids g) r.0 s s at)
