-- The tree of a function depends only on the labels of the sites that it reaches by inline sites.
use Rattle.std.proofs.Common.{◌≡◌, ℕ, zero, suc, refl, sym, ap, ap₂, ◌∙◌, subst, Bool, true, false, ◌&&◌, nat_eq, if◌then◌else◌, List, [], ◌∷◌}
use Rattle.std.specs.Option.{option_and_then}
use Rattle.std.proofs.lemmas.Bool.{eqb-true}
use Rattle.ir_core.specs.declared.flat.FlatBody.{FlatBody}
use Rattle.ir_core.specs.declared.module.Module.{Module}
use Rattle.call_graph.specs.Graph.{Graph}
use Rattle.decisions.specs.declared.maps.Label.{Label}
use Rattle.decisions.specs.declared.maps.Label.TheVariants.{Keep, Inline}
use Rattle.shapes.specs.Tree.{Tree, Callees, more}
use Rattle.site_inliner.specs.Flat.{flat}
use Rattle.component_split.specs.Graph.{SiteGraph}
use Rattle.size_measure.specs.Maps.{Map, is_inline}
use Rattle.size_measure.specs.Trees.{callees_of, tree_with, tree_by, tree, body}
use Rattle.size_measure.specs.Sizes.{ok, measured, body_size}

one_same : (b : Bool) (l k : Label) (s : ℕ) (t u : Tree) (ks js : Callees) → (b ≡ true → l ≡ k) → (b ≡ true → l ≡ Inline → t ≡ u) → ks ≡ js →
    (if b && is_inline l then more (record { 0 = s }) t ks else ks) ≡ (if b && is_inline k then more (record { 0 = s }) u js else js)
one_same false l k s t u ks js same deeper rest = rest
one_same true Keep k s t u ks js same deeper rest =
    rest ∙ ap (λ (x : Label). if is_inline x then more (record { 0 = s }) u js else js) (same refl)
one_same true Inline k s t u ks js same deeper rest =
    ap₂ (λ (x : Tree) (xs : Callees). more (record { 0 = s }) x xs) (deeper refl refl) rest ∙ ap (λ (x : Label). if is_inline x then more (record { 0 = s }) u js else js) (same refl)

-- of functions of which some predicate holds: their sites have the same labels, and the callees of inline ones are such functions
pub record AgreeFrom (g : SiteGraph) (d e : Map) (X : ℕ → Type 0) : Type 0 where
  pub same : (s : ℕ) → X (g.caller s) → d s ≡ e s
  pub stays : (s : ℕ) → X (g.caller s) → d s ≡ Inline → X (g.callee s)

module _ (m : Module) (g : SiteGraph) (d e : Map) (X : ℕ → Type 0) (agree : AgreeFrom g d e X) where
  callees_same : (t u : ℕ → Tree) → ((f : ℕ) → X f → t f ≡ u f) → (f : ℕ) → X f → (ss : List ℕ) → callees_of g d f t ss ≡ callees_of g e f u ss
  callees_same t u deeper f has [] = refl
  callees_same t u deeper f has (s ∷ ss) =
      let at : nat_eq (g.caller s) f ≡ true → X (g.caller s) = λ b. subst X (sym (eqb-true (g.caller s) f b)) has in
      one_same (nat_eq (g.caller s) f) (d s) (e s) s (t (g.callee s)) (u (g.callee s)) (callees_of g d f t ss) (callees_of g e f u ss)
      (λ b. agree.same s (at b)) (λ b i. deeper (g.callee s) (agree.stays s (at b) i)) (callees_same t u deeper f has ss)

  pub tree_same : (n f : ℕ) → X f → tree_by m g d n f ≡ tree_by m g e n f
  unfolding tree_by
  tree_same zero f has = refl
  tree_same (suc n) f has = ap (tree_with m f) (callees_same (tree_by m g d n) (tree_by m g e n) (λ q h. tree_same n q h) f has g.sites)

module _ (m : Module) (g : Graph) (d e : Map) (f : ℕ) (same : tree m g d f ≡ tree m g e f) where
  pub body_same : body m g d f ≡ body m g e f
  body_same = ap (flat m) same

  pub size_same : body_size m g d f ≡ body_size m g e f
  unfolding body_size
  size_same = ap (option_and_then (λ (b : FlatBody). ok (measured b))) body_same
