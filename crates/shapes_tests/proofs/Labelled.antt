-- A site of a map has a label in it, and a reached function a tree in a forest.
use Rattle.std.proofs.Common.{◌≡◌, ◌⊎◌, ◌==◌, ◌<◌, ◌≤◌, inl, inr, Bool, true, false, if◌then◌else◌, List, [], ◌∷◌, length, slice_get, get_or, Option, Some, None, refl, sym, ap, ◌∙◌, subst, arith, Contains, IsSome}
use Rattle.std.proofs.lemmas.Option.{slice_get_cases}
use Rattle.oi_base.specs.declared.ids.FuncId.{FuncId}
use Rattle.ir_core.specs.declared.module.Module.{Module}
use Rattle.call_graph.specs.declared.facts.FuncFacts.{FuncFacts}
use Rattle.call_graph.specs.Graph.{Graph}
use Rattle.shapes.specs.Standing.{Trees, IsForest, tree_of}
use Rattle.std.proofs.lemmas.Bool.Decides.{nat_tests}
use Rattle.oi_base.specs.declared.ids.SiteId.{SiteId}
use Rattle.decisions.specs.Maps.{label_of, sites_of}
use Rattle.ir_core.proofs.Lists.{Has, has_in}

labelled : {L : Type 0} (p : List (SiteId × L)) (s : SiteId) → Has (sites_of p) s → IsSome (label_of p s)
labelled [] s h = absurd h
labelled (e ∷ rest) s h = by (e.0.0 == s.0) refl (λ k. labelled rest s k) h
  where
    by : (t : Bool) → (e.0.0 == s.0) ≡ t → (Has (sites_of rest) s → IsSome (label_of rest s)) → Has (sites_of (e ∷ rest)) s → IsSome (if t then Some e.1 else label_of rest s)
    by true t later h = refl
    by false t later (inl same) = let n = ap (λ (x : SiteId). x.0) same in absurd (clash (grind (arith, nat_tests)))
      where
        clash : false ≡ true → ⊥
        clash f = cc
    by false t later (inr k) = later k

pub has_label : {L : Type 0} (p : List (SiteId × L)) (sites : List SiteId) (s : SiteId) → sites_of p ≡ sites → Contains sites s → IsSome (label_of p s)
has_label p sites s same c = labelled p s (subst (λ (xs : List SiteId). Has xs s) (sym same) (has_in sites s c))

-- a reached function has a tree in a forest
pub has_tree : (m : Module) (g : Graph) (x : Trees) → IsForest m g x → (f : FuncId) → f.0 < length g.funcs → (r : Bool) → ((h : FuncFacts) → slice_get g.funcs f.0 ≡ Some h → r ≡ h.reached) → r ≡ true → IsSome (tree_of x f)
has_tree m g x forest f less r is so = from (slice_get_cases g.funcs f.0).1
  where
    from : ((h : FuncFacts) × (f.0 < length g.funcs) × (slice_get g.funcs f.0 ≡ Some h) × (get_or g.funcs f.0 h ≡ h)) ⊎ ((length g.funcs ≤ f.0) × (slice_get g.funcs f.0 ≡ None)) → IsSome (tree_of x f)
    from (inl h) = forest.reached f h.0 h.2 ∙ sym (is h.0 h.2) ∙ so
    from (inr none) = absurd (let more = none.0 in omega (arith, less, more))
