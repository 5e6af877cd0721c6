-- The test of who is kept says what it is to be kept.
use Rattle.std.proofs.Common.{◌≡◌, ◌≢◌, inl, inr, ⊎_elim, ℕ, zero, suc, ◌+◌, ◌-◌, refl, ap, ◌∙◌, subst, arith, Bool, true, false, ◌&&◌, ◌||◌, nat_eq, eq-eqb, List, [], ◌∷◌, slice_get, Option, Some, None}
use Rattle.std.specs.Option.{option_map_or}
use Rattle.std.proofs.lemmas.Bool.{or_cases, and_parts, and_from, eqb-true, false≢true}
use Rattle.std.proofs.lemmas.Option.{slice_get_within}
use Rattle.oi_base.specs.declared.ids.FuncId.{FuncId}
use Rattle.oi_base.specs.declared.ids.SiteId.{SiteId}
use Rattle.call_graph.specs.declared.facts.FuncFacts.{FuncFacts}
use Rattle.call_graph.specs.declared.facts.SiteFacts.{SiteFacts}
use Rattle.call_graph.specs.Graph.{Graph}
use Rattle.decisions.specs.declared.maps.Label.{Label}
use Rattle.decisions.specs.declared.maps.Label.TheVariants.{Keep, Inline}
use Rattle.decisions.specs.Maps as maps
use Rattle.function_removal.specs.Kept.{IsReached, IsExternal, KeepsCall, IsKept}
use Rattle.size_measure.specs.Maps.{Map, map_of, label_or, is_keep}
use Rattle.size_measure.specs.Kept.{is_reached, is_external, any_keeps, is_kept}
use Rattle.size_measure.proofs.Tests.{or_true}

abbrev pub Iff : Type 0 → Type 0 → Type 0
Iff P Q = (P → Q) × (Q → P)

-- ---- functions

reached_is : (g : Graph) (f : FuncId) → Iff (is_reached g f.0 ≡ true) (IsReached g f)
reached_is g f = (λ e. there (slice_get g.funcs f.0) refl e, λ r. ap (λ (o : Option FuncFacts). option_map_or (λ (h : FuncFacts). h.reached) o false) r.here ∙ r.reached)
  where
    there : (o : Option FuncFacts) → slice_get g.funcs f.0 ≡ o → option_map_or (λ (h : FuncFacts). h.reached) o false ≡ true → IsReached g f
    there None at e = absurd (false≢true e)
    there (Some h) at e = record { facts = h; here = at; reached = e }

external_is : (g : Graph) (f : FuncId) → Iff (is_external g f.0 ≡ true) (IsExternal g f)
external_is g f = (λ e. there (slice_get g.funcs f.0) refl e, λ r. ap (λ (o : Option FuncFacts). option_map_or (λ (h : FuncFacts). h.external) o false) r.here ∙ r.external)
  where
    there : (o : Option FuncFacts) → slice_get g.funcs f.0 ≡ o → option_map_or (λ (h : FuncFacts). h.external) o false ≡ true → IsExternal g f
    there None at e = absurd (false≢true e)
    there (Some h) at e = record { facts = h; here = at; external = e }

keep_is : (o : Option Label) → Iff (is_keep (label_or Keep o) ≡ true) (o ≢ Some Inline)
keep_is None = (λ e z. absurd cc, λ h. refl)
keep_is (Some Keep) = (λ e z. absurd cc, λ h. refl)
keep_is (Some Inline) = (λ e z. false≢true e, λ h. absurd (h refl))

-- ---- sites

-- one of these sites, which are numbered from n on, is kept, has a reached caller and calls the function
record KeepsAt (g : Graph) (d : Map) (f n : ℕ) (xs : List SiteFacts) : Type 0 where
  place : ℕ
  facts : SiteFacts
  here : slice_get xs place ≡ Some facts
  caller : is_reached g facts.site.caller.0 ≡ true
  callee : nat_eq facts.site.callee.0 f ≡ true
  keep : is_keep (d (n + place)) ≡ true

module _ (g : Graph) (d : Map) (f : ℕ) where
  found : (n : ℕ) (xs : List SiteFacts) → any_keeps g d f n xs ≡ true → KeepsAt g d f n xs
  found n [] h = absurd (false≢true h)
  found n (x ∷ xs) h = ⊎_elim first (λ e. later (found (suc n) xs e)) (or_cases (is_reached g x.site.caller.0 && (nat_eq x.site.callee.0 f && is_keep (d n))) (any_keeps g d f (suc n) xs) h)
    where
      first : (is_reached g x.site.caller.0 && (nat_eq x.site.callee.0 f && is_keep (d n))) ≡ true → KeepsAt g d f n (x ∷ xs)
      first e =
          let a = and_parts (is_reached g x.site.caller.0) (nat_eq x.site.callee.0 f && is_keep (d n)) e in
          let b = and_parts (nat_eq x.site.callee.0 f) (is_keep (d n)) a.1 in
          let at : n ≡ n + 0 = omega arith in
          record { place = 0; facts = x; here = refl; caller = a.0; callee = b.0; keep = subst (λ (k : ℕ). is_keep (d k) ≡ true) at b.1 }

      later : KeepsAt g d f (suc n) xs → KeepsAt g d f n (x ∷ xs)
      later r =
          let at : suc n + r.place ≡ n + suc r.place = omega arith in
          record { place = suc r.place; facts = r.facts; here = r.here; caller = r.caller; callee = r.callee; keep = subst (λ (k : ℕ). is_keep (d k) ≡ true) at r.keep }

  told : (n : ℕ) (xs : List SiteFacts) (place : ℕ) (x : SiteFacts) → slice_get xs place ≡ Some x → is_reached g x.site.caller.0 ≡ true → nat_eq x.site.callee.0 f ≡ true → is_keep (d (n + place)) ≡ true → any_keeps g d f n xs ≡ true
  told n [] place x at r c k = absurd (no_site at)
    where
      no_site : None ≡ Some x → ⊥
      no_site e = cc
  told n (y ∷ xs) zero x at r c k =
      let own : is_keep (d n) ≡ true = subst (λ (i : ℕ). is_keep (d i) ≡ true) (omega arith) k in
      let all : (is_reached g x.site.caller.0 && (nat_eq x.site.callee.0 f && is_keep (d n))) ≡ true = and_from (is_reached g x.site.caller.0) (nat_eq x.site.callee.0 f && is_keep (d n)) r (and_from (nat_eq x.site.callee.0 f) (is_keep (d n)) c own) in
      ap (λ (z : SiteFacts). (is_reached g z.site.caller.0 && (nat_eq z.site.callee.0 f && is_keep (d n))) || any_keeps g d f (suc n) xs) (same at) ∙ ap (λ (b : Bool). b || any_keeps g d f (suc n) xs) all
    where
      same : Some y ≡ Some x → y ≡ x
      same e = cc
  told n (y ∷ xs) (suc place) x at r c k =
      ap (λ (b : Bool). (is_reached g y.site.caller.0 && (nat_eq y.site.callee.0 f && is_keep (d n))) || b) (told (suc n) xs place x at r c (subst (λ (i : ℕ). is_keep (d i) ≡ true) (omega arith) k))
      ∙ or_true (is_reached g y.site.caller.0 && (nat_eq y.site.callee.0 f && is_keep (d n)))

-- ---- who is kept

module _ (g : Graph) (d : List (SiteId × Label)) (f : FuncId) where
  call_of : KeepsAt g (map_of d) f.0 1 g.sites → (s : SiteId) × KeepsCall g d f s
  call_of k =
      let within = slice_get_within g.sites k.place k.facts k.here in
      let at : (1 + k.place) - 1 ≡ k.place = omega arith in (
        record { 0 = 1 + k.place },
        record {
          number = (omega arith, omega (arith, within));
          facts = k.facts;
          here = ap (slice_get g.sites) at ∙ k.here;
          callee = ap (λ (n : ℕ). record { 0 = n }) (eqb-true k.facts.site.callee.0 f.0 k.callee);
          caller = (reached_is g k.facts.site.caller).0 k.caller;
          keep = (keep_is (maps.label_of d (record { 0 = 1 + k.place }))).0 k.keep;
        },
      )

  of_call : (s : SiteId) → KeepsCall g d f s → any_keeps g (map_of d) f.0 1 g.sites ≡ true
  of_call s k =
      let number = k.number in
      told g (map_of d) f.0 1 g.sites (s.0 - 1) k.facts k.here ((reached_is g k.facts.site.caller).1 k.caller) (eq-eqb k.facts.site.callee.0 f.0 (ap (λ (h : FuncId). h.0) k.callee))
      (subst (λ (n : ℕ). is_keep (map_of d n) ≡ true) (omega (arith, number)) ((keep_is (maps.label_of d s)).1 k.keep))

  pub kept_is : IsReached g f → Iff (is_kept g (map_of d) f.0 ≡ true) (IsKept g d f)
  kept_is reached = (
    λ e. record { reached = reached; stays = ⊎_elim (λ x. inl ((external_is g f).0 x)) (λ x. inr (call_of (found g (map_of d) f.0 1 g.sites x))) (or_cases (is_external g f.0) (any_keeps g (map_of d) f.0 1 g.sites) e) },
    λ k. ⊎_elim (λ x. ap (λ (b : Bool). b || any_keeps g (map_of d) f.0 1 g.sites) ((external_is g f).1 x)) (λ x. ap (λ (b : Bool). is_external g f.0 || b) (of_call x.0 x.1) ∙ or_true (is_external g f.0)) k.stays,
  )
