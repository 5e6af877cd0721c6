-- The components of a closed set are closed.
use Rattle.std.proofs.Common.{◌≡◌, ◌≢◌, ◌⊎◌, ℕ, refl, sym, ap, ap₂, ◌∙◌, inl, inr, ⊎_elim, Bool, true, false, ◌&&◌, nat_eq, List, Option, Some, None}
use Rattle.std.proofs.lemmas.Bool.{and_from, false≢true, true≢false}
use Rattle.decisions.specs.declared.maps.Label.{Label}
use Rattle.decisions.specs.declared.maps.Label.TheVariants.{Keep, Inline}
use Rattle.component_split.specs.Graph.{SiteGraph, Labels, Closed, has, inside, joins}
use Rattle.component_split.specs.Split.{lowest, component}
use Rattle.component_split.proofs.Merge.{lowest_joins, has_component, distinct_filter}

keep_or : (o : Option Label) → (o ≡ Some Keep) ⊎ ((o ≢ Some Keep) × (joins o ≡ true))
keep_or None = inr ((λ e. absurd (cc)), refl)
keep_or (Some Inline) = inr ((λ e. absurd (cc)), refl)
keep_or (Some Keep) = inl refl

component_ends : (g : SiteGraph) (p : Labels) (fs : List ℕ) (c : Closed g p fs) (r s : ℕ) (a b : Bool) → has fs (g.caller s) ≡ a → has fs (g.callee s) ≡ b → has (component g p fs r) (g.caller s) ≢ has (component g p fs r) (g.callee s) → p s ≡ Some Keep
component_ends g p fs c r s true true ea eb ne = ⊎_elim (λ k. k)
    (λ h. let i : (inside g fs s && joins (p s)) ≡ true = and_from (inside g fs s) (joins (p s)) (and_from (has fs (g.caller s)) (has fs (g.callee s)) ea eb) h.1 in
    let same : lowest g p fs (g.caller s) ≡ lowest g p fs (g.callee s) = lowest_joins g p fs g.sites s (c.over s h.0) i in
    absurd (ne (has_component g p fs r (g.caller s) ∙ ap₂ (λ x y. nat_eq x r && y) same (ea ∙ sym eb) ∙ sym (has_component g p fs r (g.callee s)))))
    (keep_or (p s))
component_ends g p fs c r s true false ea eb ne = c.ends s (λ q. true≢false (sym ea ∙ q ∙ eb))
component_ends g p fs c r s false true ea eb ne = c.ends s (λ q. false≢true (sym ea ∙ q ∙ eb))
component_ends g p fs c r s false false ea eb ne =
    let l : (x : Bool) → (x && false) ≡ false = elim [ true ↦ refl | false ↦ refl ] in
    let out : (f : ℕ) → has fs f ≡ false → has (component g p fs r) f ≡ false = λ f h. has_component g p fs r f ∙ ap (λ y. nat_eq (lowest g p fs f) r && y) h ∙ l (nat_eq (lowest g p fs f) r) in
    absurd (ne (out (g.caller s) ea ∙ sym (out (g.callee s) eb)))

-- the components of a closed set are closed
pub component_closed : (g : SiteGraph) (p : Labels) (fs : List ℕ) → Closed g p fs → (r : ℕ) → Closed g p (component g p fs r)
component_closed g p fs c r = record {
  over = c.over;
  ends = λ s ne. component_ends g p fs c r s (has fs (g.caller s)) (has fs (g.callee s)) refl refl ne;
  distinct = distinct_filter (λ f. nat_eq (lowest g p fs f) r) fs c.distinct;
}
