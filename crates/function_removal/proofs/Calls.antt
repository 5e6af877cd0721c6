-- What the walk over the sites finds.
use Rattle.std.proofs.Common.{ℕ, ◌≡◌, ◌⊎◌, ◌↔◌, ◌<◌, ◌≤◌, ◌+◌, ◌-◌, true≢false, false, inl, inr, IsTrue, Bool, List, length, slice_get, get_or, Some, None, sym, ap, ◌∙◌, subst, arith}
use Rattle.std.proofs.lemmas.Bool.{cases_lt}
use Rattle.std.proofs.lemmas.Option.{slice_get_cases, slice_get_within}
use Rattle.oi_base.specs.declared.ids.FuncId.{FuncId}
use Rattle.oi_base.specs.declared.ids.SiteId.{SiteId}
use Rattle.call_graph.specs.declared.facts.FuncFacts.{FuncFacts}
use Rattle.call_graph.specs.declared.facts.SiteFacts.{SiteFacts}
use Rattle.call_graph.specs.Graph.{Graph, IsNumber, SiteIs}
use Rattle.decisions.specs.declared.maps.Label.{Label}
use Rattle.function_removal.specs.Kept.{IsReached, HasKeep, KeepsCall}

-- an element in a list's range
there : {A : Type 0} (xs : List A) (i : ℕ) → i < length xs → (x : A) × (slice_get xs i ≡ Some x)
there {A} xs i less = from (slice_get_cases xs i).1
  where
    from : ((x : A) × (i < length xs) × (slice_get xs i ≡ Some x) × (get_or xs i x ≡ x)) ⊎ ((length xs ≤ i) × (slice_get xs i ≡ None)) → (x : A) × (slice_get xs i ≡ Some x)
    from (inl x) = (x.0, x.2)
    from (inr n) = absurd (let more = n.0 in omega (arith, less, more))

pub reached_is : (g : Graph) (f : FuncId) (r : Bool) → f.0 < length g.funcs → ((x : FuncFacts) → slice_get g.funcs f.0 ≡ Some x → r ≡ x.reached) → IsTrue r ↔ IsReached g f
reached_is g f r less is = (λ t. let x = there g.funcs f.0 less in record { facts = x.0; here = x.1; reached = subst IsTrue (is x.0 x.1) t }, λ h. subst IsTrue (sym (is h.facts h.here)) h.reached)

pub reached_within : (g : Graph) (f : FuncId) → IsReached g f → f.0 < length g.funcs
reached_within g f h = slice_get_within g.funcs f.0 h.facts h.here

pub site_there : (g : Graph) (s : SiteId) → IsNumber g s → (x : SiteFacts) × SiteIs g s x
site_there g s n = there g.sites (s.0 - 1) (let low = n.0 in let high = n.1 in omega (arith, low, high))

pub keeps : (g : Graph) (d : List (SiteId × Label)) (f : FuncId) (s : SiteId) → IsNumber g s → (callee caller : FuncId) → ((x : SiteFacts) → SiteIs g s x → callee ≡ x.site.callee) → ((x : SiteFacts) → SiteIs g s x → caller ≡ x.site.caller) → callee.0 ≡ f.0 → IsReached g caller → (b : Bool) → IsTrue b ↔ HasKeep d s → IsTrue b ↔ KeepsCall g d f s
keeps g d f s n callee caller callee_is caller_is same reached b keep = (
  λ t. let x = site_there g s n in record {
    number = n;
    facts = x.0;
    here = x.1;
    callee = sym (callee_is x.0 x.1) ∙ ap (λ (k : ℕ). let h : FuncId = record { 0 = k } in h) same;
    caller = subst (IsReached g) (caller_is x.0 x.1) reached;
    keep = keep.0 t;
  },
  λ k. keep.1 k.keep,
)

-- no site up to a number keeps a call
abbrev pub NoneUpTo : Graph → List (SiteId × Label) → FuncId → ℕ → Type 0
NoneUpTo g d f n = (s : SiteId) → s.0 ≤ n → KeepsCall g d f s → ⊥

pub none_yet : (g : Graph) (d : List (SiteId × Label)) (f : FuncId) → NoneUpTo g d f 0
none_yet g d f s le k = let low = k.number.0 in omega (arith, le, low)

pub one_more : (g : Graph) (d : List (SiteId × Label)) (f : FuncId) (n : ℕ) → NoneUpTo g d f n → (b : Bool) → IsTrue b ↔ KeepsCall g d f (record { 0 = n + 1 }) → b ≡ false → NoneUpTo g d f (n + 1)
one_more g d f n none b is not_it s le k = by (cases_lt n s.0)
  where
    by : (n < s.0) ⊎ (s.0 ≤ n) → ⊥
    by (inl above) = true≢false (sym (is.1 (subst (λ (x : ℕ). KeepsCall g d f (record { 0 = x })) (let same : s.0 ≡ n + 1 = omega (arith, le, above) in same) k)) ∙ not_it)
    by (inr within) = none s within k

pub none_at_all : (g : Graph) (d : List (SiteId × Label)) (f : FuncId) (n : ℕ) → length g.sites ≤ n → NoneUpTo g d f n → (s : SiteId) → KeepsCall g d f s → ⊥
none_at_all g d f n all none s k = none s (let high = k.number.1 in omega (arith, all, high)) k
