-- The lower bound of a partial map is one for all its completions.
use Rattle.std.proofs.Common.{◌≡◌, ◌≢◌, ◌⊎◌, inl, inr, ⊎_elim, ℕ, zero, suc, refl, sym, ap, ◌∙◌, subst, arith, Bool, true, false, not, ◌&&◌, ◌||◌, nat_eq, eq-eqb, List, [], ◌∷◌, length, Option, Some, None}
use Rattle.std.proofs.lemmas.Bool.{or_cases, and_parts, eqb-true, false≢true, true≢false}
use Rattle.ir_core.specs.declared.module.Module.{Module}
use Rattle.call_graph.specs.declared.facts.SiteFacts.{SiteFacts}
use Rattle.call_graph.specs.Graph.{Graph}
use Rattle.decisions.specs.declared.maps.Label.{Label}
use Rattle.decisions.specs.declared.maps.Label.TheVariants.{Keep, Inline}
use Rattle.component_split.specs.Graph.{SiteGraph, Labels, has}
use Rattle.component_split.specs.Over.{site_graph}
use Rattle.size_measure.specs.Maps.{Map, Completes, filled, label_or, is_keep}
use Rattle.size_measure.specs.Kept.{is_reached, is_external, any_keeps, is_kept}
use Rattle.size_measure.specs.Trees.{body}
use Rattle.size_measure.specs.Sizes.{Size, plus, IsAtMost, total, body_size, held, held_if}
use Rattle.size_measure.specs.Low.{all_of, settles, settled_by, is_settled, size_if, low_held, low, IsBound}
use Rattle.size_measure.proofs.SameTrees.{AgreeFrom, tree_same, body_same, size_same}
use Rattle.size_measure.proofs.SmallCodes.{least_body}
use Rattle.size_measure.proofs.Tests.{keep_or, or_true}

-- ---- numbers or none

pub at_most_refl : (a : Size) → IsAtMost a a
at_most_refl None = tt
at_most_refl (Some a) = omega arith

zero_most : (a : Size) → IsAtMost (Some 0) a
zero_most None = tt
zero_most (Some a) = omega arith

pub plus_mono : (a b c d : Size) → IsAtMost a b → IsAtMost c d → IsAtMost (plus a c) (plus b d)
plus_mono a None c d h i = tt
plus_mono a (Some b) c None h i = tt
plus_mono None (Some b) c (Some d) h i = absurd h
plus_mono (Some a) (Some b) None (Some d) h i = absurd i
plus_mono (Some a) (Some b) (Some c) (Some d) h i = omega arith

total_mono : (v w : ℕ → Size) → ((f : ℕ) → IsAtMost (v f) (w f)) → (fs : List ℕ) → IsAtMost (total v fs) (total w fs)
unfolding total
total_mono v w h [] = omega arith
total_mono v w h (f ∷ fs) = plus_mono (v f) (w f) (total v fs) (total w fs) (h f) (total_mono v w h fs)

-- ---- settled functions

pub filled_completes : (l : Label) (p : Labels) → Completes (filled l p) p
filled_completes l p s k e = rw e refl

all_at : (t : ℕ → Bool) (ss : List ℕ) (s : ℕ) → all_of t ss ≡ true → has ss s ≡ true → t s ≡ true
all_at t [] s h i = absurd (false≢true i)
all_at t (q ∷ ss) s h i = let both = and_parts (t q) (all_of t ss) h in ⊎_elim (λ e. ap t (sym (eqb-true q s e)) ∙ both.0) (λ e. all_at t ss s both.1 e) (or_cases (nat_eq q s) (has ss s) i)

-- what a settled function says of a site in it
abbrev Onward : SiteGraph → Labels → ℕ → Type 0
Onward g p s = (p s ≡ Some Keep) ⊎ ((p s ≡ Some Inline) × ((n : ℕ) × (settled_by g p n (g.callee s) ≡ true)))

settles_at : (g : SiteGraph) (p : Labels) (n s : ℕ) (o : Option Label) → p s ≡ o → settles o (settled_by g p n (g.callee s)) ≡ true → Onward g p s
settles_at g p n s None e h = absurd (false≢true h)
settles_at g p n s (Some Keep) e h = inl e
settles_at g p n s (Some Inline) e h = inr (e, (n, h))

-- a site that isn't kept is a candidate
abbrev pub IsOver : SiteGraph → Labels → Type 0
IsOver g p = (s : ℕ) → p s ≢ Some Keep → has g.sites s ≡ true

onward : (g : SiteGraph) (p : Labels) → IsOver g p → (n s : ℕ) → settled_by g p n (g.caller s) ≡ true → Onward g p s
unfolding settled_by
onward g p over zero s h = absurd (false≢true h)
onward g p over (suc n) s h = ⊎_elim (λ k. inl k)
    (λ other. let t : (not (nat_eq (g.caller s) (g.caller s)) || settles (p s) (settled_by g p n (g.callee s))) ≡ true = all_at (λ q. not (nat_eq (g.caller q) (g.caller s)) || settles (p q) (settled_by g p n (g.callee q))) g.sites s h (over s other) in
    let e : nat_eq (g.caller s) (g.caller s) ≡ true = eq-eqb (g.caller s) (g.caller s) refl in
    let u : settles (p s) (settled_by g p n (g.callee s)) ≡ true = rw e at t in
    settles_at g p n s (p s) refl u)
    (keep_or (p s))

module _ (m : Module) (g : Graph) (p : Labels) (over : IsOver (site_graph g) p) where
  abbrev Settled : ℕ → Type 0
  Settled f = (n : ℕ) × (settled_by (site_graph g) p n f ≡ true)

  agree : (d e : Map) → Completes d p → Completes e p → AgreeFrom (site_graph g) d e Settled
  agree d e cd ce = record {
    same = λ s x. ⊎_elim (λ k. cd s Keep k ∙ sym (ce s Keep k)) (λ i. cd s Inline i.0 ∙ sym (ce s Inline i.0)) (onward (site_graph g) p over x.0 s x.1);
    stays = λ s x i. ⊎_elim (λ k. let kept : d s ≡ Keep = cd s Keep k in absurd cc) (λ j. j.1) (onward (site_graph g) p over x.0 s x.1);
  }

  -- a settled function has one body, and so one size, under all completions
  pub settled_body : (d e : Map) → Completes d p → Completes e p → (f : ℕ) → is_settled g p f ≡ true → (body m g d f ≡ body m g e f) × (body_size m g d f ≡ body_size m g e f)
  settled_body d e cd ce f h =
      let same = tree_same m (site_graph g) d e Settled (agree d e cd ce) (length g.funcs) f (suc (length g.funcs), h) in
      (body_same m g d e f same, size_same m g d e f same)

  -- ---- functions that all completions keep

  keeps_more : (e : Map) → Completes e p → (s : ℕ) (o : Option Label) (r b : Bool) → p s ≡ o → (r && (b && is_keep (label_or Inline o))) ≡ true → (r && (b && is_keep (e s))) ≡ true
  keeps_more e ce s (Some Keep) r b x h = ap (λ (l : Label). r && (b && is_keep l)) (ce s Keep x) ∙ h
  keeps_more e ce s None r b x h = absurd (not_kept r b h)
    where
      not_kept : (r b : Bool) → (r && (b && false)) ≡ true → ⊥
      not_kept true true h = false≢true h
      not_kept true false h = false≢true h
      not_kept false b h = false≢true h
  keeps_more e ce s (Some Inline) r b x h = absurd (not_kept r b h)
    where
      not_kept : (r b : Bool) → (r && (b && false)) ≡ true → ⊥
      not_kept true true h = false≢true h
      not_kept true false h = false≢true h
      not_kept false b h = false≢true h

  any_more : (e : Map) → Completes e p → (f n : ℕ) (xs : List SiteFacts) → any_keeps g (filled Inline p) f n xs ≡ true → any_keeps g e f n xs ≡ true
  any_more e ce f n [] h = h
  any_more e ce f n (x ∷ xs) h = ⊎_elim
      (λ k. let here = keeps_more e ce n (p n) (is_reached g x.site.caller.0) (nat_eq x.site.callee.0 f) refl k in rw here refl)
      (λ k. ap (λ (y : Bool). (is_reached g x.site.caller.0 && (nat_eq x.site.callee.0 f && is_keep (e n))) || y) (any_more e ce f (suc n) xs k) ∙ or_true (is_reached g x.site.caller.0 && (nat_eq x.site.callee.0 f && is_keep (e n))))
      (or_cases (is_reached g x.site.caller.0 && (nat_eq x.site.callee.0 f && is_keep (filled Inline p n))) (any_keeps g (filled Inline p) f (suc n) xs) h)

  pub kept_more : (e : Map) → Completes e p → (f : ℕ) → is_kept g (filled Inline p) f ≡ true → is_kept g e f ≡ true
  kept_more e ce f h = ⊎_elim
      (λ k. rw k refl)
      (λ k. ap (λ (y : Bool). is_external g f || y) (any_more e ce f 1 g.sites k) ∙ or_true (is_external g f))
      (or_cases (is_external g f) (any_keeps g (filled Inline p) f 1 g.sites) h)

  -- ---- the bound

  low_body : (e : Map) → Completes e p → (f : ℕ) (b : Bool) → is_settled g p f ≡ b → IsAtMost (size_if b (body_size m g (filled Keep p) f)) (body_size m g e f)
  low_body e ce f true h = subst (λ (y : Size). IsAtMost (body_size m g (filled Keep p) f) y) (settled_body (filled Keep p) e (filled_completes Keep p) ce f h).1 (at_most_refl (body_size m g (filled Keep p) f))
  low_body e ce f false h = least_body m g e f

  low_at : (e : Map) → Completes e p → (f : ℕ) (a b : Bool) → is_kept g (filled Inline p) f ≡ a → is_kept g e f ≡ b → IsAtMost (held_if a (size_if (is_settled g p f) (body_size m g (filled Keep p) f))) (held_if b (body_size m g e f))
  low_at e ce f false b x y = zero_most (held_if b (body_size m g e f))
  low_at e ce f true true x y = low_body e ce f (is_settled g p f) refl
  low_at e ce f true false x y = absurd (true≢false (sym (kept_more e ce f x) ∙ y))

  -- no completion has less than the lower bound, and none has a size where that is none
  pub low_bound : (fs : List ℕ) → IsBound m g p fs (low m g p fs)
  low_bound fs e ce = total_mono (low_held m g p) (held m g e) (λ f. low_at e ce f (is_kept g (filled Inline p) f) (is_kept g e f) refl refl) fs
