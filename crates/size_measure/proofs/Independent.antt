-- What a map says of the functions of a closed set depends only on the labels of the sites inside it.
use Rattle.std.proofs.Common.{◌≡◌, ⊎_elim, ℕ, suc, ◌+◌, ◌-◌, refl, sym, ap, ap₂, ◌∙◌, subst, arith, Bool, true, false, ◌&&◌, ◌||◌, nat_eq, eq-eqb, List, [], ◌∷◌, length, slice_get, Option, Some}
use Rattle.std.specs.Option.{option_map_or}
use Rattle.std.proofs.lemmas.Bool.{and_from, eqb-true, false≢true, true≢false}
use Rattle.ir_core.specs.declared.module.Module.{Module}
use Rattle.call_graph.specs.declared.facts.SiteFacts.{SiteFacts}
use Rattle.call_graph.specs.Graph.{Graph}
use Rattle.decisions.specs.declared.maps.Label.{Label}
use Rattle.decisions.specs.declared.maps.Label.TheVariants.{Keep, Inline}
use Rattle.component_split.specs.Graph.{Labels, Closed, has, inside}
use Rattle.component_split.specs.Over.{site_graph, caller_of, callee_of}
use Rattle.size_measure.specs.Maps.{Map, Completes, AgreeInside, is_keep}
use Rattle.size_measure.specs.Kept.{is_reached, is_external, any_keeps, is_kept}
use Rattle.size_measure.specs.Trees.{tree, body}
use Rattle.size_measure.specs.Sizes.{Size, plus, total, body_size, held, held_if, part}
use Rattle.size_measure.proofs.SameTrees.{AgreeFrom, tree_same, body_same, size_same}
use Rattle.size_measure.proofs.Tests.{keep_or, or_true}

-- the sites of a graph from a number on are these
abbrev pub StandAt : Graph → ℕ → List SiteFacts → Type 0
StandAt g n xs = (k : ℕ) (x : SiteFacts) → slice_get xs k ≡ Some x → (caller_of g (n + k) ≡ x.site.caller.0) × (callee_of g (n + k) ≡ x.site.callee.0)

pub all_stand : (g : Graph) → StandAt g 1 g.sites
unfolding caller_of callee_of
all_stand g k x e =
    let at : (1 + k) - 1 ≡ k = omega arith in
    let here : slice_get g.sites ((1 + k) - 1) ≡ Some x = ap (slice_get g.sites) at ∙ e in
    (ap (λ (o : Option SiteFacts). option_map_or (λ (y : SiteFacts). y.site.caller.0) o 0) here, ap (λ (o : Option SiteFacts). option_map_or (λ (y : SiteFacts). y.site.callee.0) o 0) here)

pub rest_stand : (g : Graph) (n : ℕ) (x : SiteFacts) (xs : List SiteFacts) → StandAt g n (x ∷ xs) → StandAt g (suc n) xs
rest_stand g n x xs stand k y e =
    let at : n + suc k ≡ suc n + k = omega arith in
    subst (λ (i : ℕ). (caller_of g i ≡ y.site.caller.0) × (callee_of g i ≡ y.site.callee.0)) at (stand (suc k) y e)

pub first_stands : (g : Graph) (n : ℕ) (x : SiteFacts) (xs : List SiteFacts) → StandAt g n (x ∷ xs) → callee_of g n ≡ x.site.callee.0
first_stands g n x xs stand = let at : n + 0 ≡ n = omega arith in subst (λ (i : ℕ). callee_of g i ≡ x.site.callee.0) at (stand 0 x refl).1

module _ (m : Module) (g : Graph) (p : Labels) (fs : List ℕ) (c : Closed (site_graph g) p fs) (d e : Map) (cd : Completes d p) (ce : Completes e p) (same : AgreeInside (site_graph g) fs d e) where
  -- a site that may not be inlined is kept
  inside_same : (s : ℕ) → inside (site_graph g) fs s ≡ true → d s ≡ e s
  inside_same s i = ⊎_elim (λ k. cd s Keep k ∙ sym (ce s Keep k)) (λ other. same s (c.over s other) i) (keep_or (p s))

  -- a site with an end in the set has one label
  one_label : (a b : Bool) (s : ℕ) → has fs (caller_of g s) ≡ a → has fs (callee_of g s) ≡ b → (a || b) ≡ true → d s ≡ e s
  one_label true true s x y h = inside_same s (and_from (has fs (caller_of g s)) (has fs (callee_of g s)) x y)
  one_label true false s x y h = let k = c.ends s (λ q. true≢false (sym x ∙ q ∙ y)) in cd s Keep k ∙ sym (ce s Keep k)
  one_label false true s x y h = let k = c.ends s (λ q. false≢true (sym x ∙ q ∙ y)) in cd s Keep k ∙ sym (ce s Keep k)
  one_label false false s x y h = absurd (false≢true h)

  calls_from : (s : ℕ) → has fs (caller_of g s) ≡ true → d s ≡ e s
  calls_from s h = one_label true (has fs (callee_of g s)) s h refl refl

  calls_to : (s : ℕ) → has fs (callee_of g s) ≡ true → d s ≡ e s
  calls_to s h = one_label (has fs (caller_of g s)) true s refl h (or_true (has fs (caller_of g s)))

  -- an inline site doesn't leave the set
  stays : (b : Bool) (s : ℕ) → has fs (callee_of g s) ≡ b → has fs (caller_of g s) ≡ true → d s ≡ Inline → has fs (callee_of g s) ≡ true
  stays true s y h i = y
  stays false s y h i = let k : d s ≡ Keep = cd s Keep (c.ends s (λ q. true≢false (sym h ∙ q ∙ y))) in absurd cc

  agree : AgreeFrom (site_graph g) d e (λ f. has fs f ≡ true)
  agree = record { same = calls_from; stays = λ s h i. stays (has fs (callee_of g s)) s refl h i }

  trees_same : (f : ℕ) → has fs f ≡ true → tree m g d f ≡ tree m g e f
  trees_same f h = tree_same m (site_graph g) d e (λ x. has fs x ≡ true) agree (length g.funcs) f h

  pub bodies_same : (f : ℕ) → has fs f ≡ true → body m g d f ≡ body m g e f
  bodies_same f h = body_same m g d e f (trees_same f h)

  pub sizes_same : (f : ℕ) → has fs f ≡ true → body_size m g d f ≡ body_size m g e f
  sizes_same f h = size_same m g d e f (trees_same f h)

  keeps_same : (b r : Bool) (callee f n : ℕ) → nat_eq callee f ≡ b → callee_of g n ≡ callee → has fs f ≡ true → (r && (b && is_keep (d n))) ≡ (r && (b && is_keep (e n)))
  keeps_same true r callee f n y at h = ap (λ (l : Label). r && is_keep l) (calls_to n (ap (has fs) (at ∙ eqb-true callee f y) ∙ h))
  keeps_same false r callee f n y at h = refl

  any_same : (f : ℕ) → has fs f ≡ true → (n : ℕ) (xs : List SiteFacts) → StandAt g n xs → any_keeps g d f n xs ≡ any_keeps g e f n xs
  any_same f h n [] stand = refl
  any_same f h n (x ∷ xs) stand =
      ap₂ (λ (a b : Bool). a || b) (keeps_same (nat_eq x.site.callee.0 f) (is_reached g x.site.caller.0) x.site.callee.0 f n refl (first_stands g n x xs stand) h)
      (any_same f h (suc n) xs (rest_stand g n x xs stand))

  pub kept_same : (f : ℕ) → has fs f ≡ true → is_kept g d f ≡ is_kept g e f
  kept_same f h = ap (λ (b : Bool). is_external g f || b) (any_same f h 1 g.sites (all_stand g))

  held_same : (f : ℕ) → has fs f ≡ true → held m g d f ≡ held m g e f
  held_same f h = ap₂ held_if (kept_same f h) (sizes_same f h)

-- sums of values that agree on the list
pub total_same : (v w : ℕ → Size) (xs : List ℕ) → ((f : ℕ) → has xs f ≡ true → v f ≡ w f) → total v xs ≡ total w xs
unfolding total
total_same v w [] h = refl
total_same v w (x ∷ xs) h = ap₂ plus (h x (let e : nat_eq x x ≡ true = eq-eqb x x refl in rw e refl)) (total_same v w xs (λ f i. h f (rw i (or_true (nat_eq x f)))))

pub part_same : (m : Module) (g : Graph) (p : Labels) (fs : List ℕ) → Closed (site_graph g) p fs → (d e : Map) → Completes d p → Completes e p → AgreeInside (site_graph g) fs d e → part m g d fs ≡ part m g e fs
part_same m g p fs c d e cd ce same = total_same (held m g d) (held m g e) fs (λ f h. held_same m g p fs c d e cd ce same f h)
