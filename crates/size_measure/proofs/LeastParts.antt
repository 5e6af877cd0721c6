-- The least size over a closed set is the sum of those over its components.
use Rattle.std.proofs.Common.{◌≡◌, ℕ, refl, sym, ap, ◌∙◌, subst, arith, Bool, true, false, nat_eq, List, [], ◌∷◌}
use Rattle.std.proofs.lemmas.Bool.{and_parts, eqb-true, false≢true}
use Rattle.ir_core.specs.declared.module.Module.{Module}
use Rattle.call_graph.specs.Graph.{Graph}
use Rattle.decisions.specs.declared.maps.Label.TheVariants.{Keep}
use Rattle.component_split.specs.Graph.{Labels, Closed, has, inside}
use Rattle.component_split.specs.Split.{lowest, component, roots}
use Rattle.component_split.specs.Over.{site_graph, caller_of, callee_of}
use Rattle.component_split.proofs.ClosedSets.{component_closed}
use Rattle.component_split.proofs.Merge.{has_component, has_roots, distinct_roots}
use Rattle.size_measure.specs.Maps.{Map, Completes, filled}
use Rattle.size_measure.specs.Sizes.{Size, IsAtMost, total, held, part}
use Rattle.size_measure.specs.Low.{IsLeastOf}
use Rattle.size_measure.proofs.Bounds.{plus_mono, filled_completes}
use Rattle.size_measure.proofs.Independent.{part_same, total_same}
use Rattle.size_measure.proofs.Sums.{total_of_groups, has_head, has_tail}

module _ (m : Module) (g : Graph) (p : Labels) (fs : List ℕ) (closed : Closed (site_graph g) p fs) where
  abbrev heads : List ℕ
  heads = roots (site_graph g) p fs

  abbrev part_of : ℕ → List ℕ
  part_of r = component (site_graph g) p fs r

  -- the size over the set is the sum of those over its components
  pub part_components : (d : Map) → total (λ r. part m g d (part_of r)) heads ≡ part m g d fs
  part_components d = total_of_groups (held m g d) (lowest (site_graph g) p fs) heads (distinct_roots (site_graph g) p fs closed.distinct) fs (λ f h. has_roots (site_graph g) p fs f h)

  module _ (x : ℕ → Size) (least : (r : ℕ) → has heads r ≡ true → IsLeastOf m g p (part_of r) (x r)) where
    all_bounds : (d : Map) → Completes d p → (rs : List ℕ) → ((r : ℕ) → has rs r ≡ true → has heads r ≡ true) → IsAtMost (total x rs) (total (λ r. part m g d (part_of r)) rs)
    unfolding total
    all_bounds d c [] in_heads = omega arith
    all_bounds d c (r ∷ rs) in_heads =
        plus_mono (x r) (part m g d (part_of r)) (total x rs) (total (λ q. part m g d (part_of q)) rs) ((least r (in_heads r (has_head r rs))).bound d c)
        (all_bounds d c rs (λ q h. in_heads q (has_tail r q rs h)))

    bound : (d : Map) → Completes d p → IsAtMost (total x heads) (part m g d fs)
    bound d c = subst (λ (y : Size). IsAtMost (total x heads) y) (part_components d) (all_bounds d c heads (λ r h. h))

    -- ---- a completion that has the least over each component

    record Best (r : ℕ) : Type 0 where
      best : Map
      completes : Completes best p
      meets : has heads r ≡ true → part m g best (part_of r) ≡ x r

    best_of : (r : ℕ) → Best r
    best_of r = by (has heads r) refl
      where
        by : (b : Bool) → has heads r ≡ b → Best r
        by true e = let met = (least r e).met in record { best = met.0; completes = met.1; meets = λ _. met.2 }
        by false e = record { best = filled Keep p; completes = filled_completes Keep p; meets = λ h. absurd (false≢true (sym e ∙ h)) }

    together : Map
    together q = (best_of (lowest (site_graph g) p fs (caller_of g q))).best q

    together_completes : Completes together p
    unfolding together best_of
    together_completes q l e = (best_of (lowest (site_graph g) p fs (caller_of g q))).completes q l e

    agrees : (r q : ℕ) → inside (site_graph g) (part_of r) q ≡ true → together q ≡ (best_of r).best q
    unfolding together best_of
    agrees r q i =
        let from : has (part_of r) (caller_of g q) ≡ true = (and_parts (has (part_of r) (caller_of g q)) (has (part_of r) (callee_of g q)) i).0 in
        let low = and_parts (nat_eq (lowest (site_graph g) p fs (caller_of g q)) r) (has fs (caller_of g q)) (sym (has_component (site_graph g) p fs r (caller_of g q)) ∙ from) in
        ap (λ (k : ℕ). (best_of k).best q) (eqb-true (lowest (site_graph g) p fs (caller_of g q)) r low.0)

    meets : (r : ℕ) → has heads r ≡ true → part m g together (part_of r) ≡ x r
    meets r h =
        part_same m g p (part_of r) (component_closed (site_graph g) p fs closed r) together (best_of r).best together_completes (best_of r).completes (λ q site i. agrees r q i)
        ∙ (best_of r).meets h

    pub least_of_all : IsLeastOf m g p fs (total x heads)
    least_of_all = record { bound = bound; met = (together, together_completes, sym (part_components together) ∙ total_same (λ r. part m g together (part_of r)) x heads meets) }
