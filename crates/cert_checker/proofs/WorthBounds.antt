-- What a tree is worth over a state, no completion goes below.
use Rattle.std.proofs.Common.{◌≡◌, ◌⊎◌, inl, inr, ⊎_elim, ℕ, refl, sym, ap, ◌∙◌, subst, arith, List, [], ◌∷◌, map, Some, None}
use Rattle.ir_core.specs.declared.module.Module.{Module}
use Rattle.call_graph.specs.Graph.{Graph}
use Rattle.decisions.specs.declared.maps.Label.{Label}
use Rattle.decisions.specs.declared.maps.Label.TheVariants.{Keep, Inline}
use Rattle.component_split.specs.Graph.{Labels, Closed, with_label}
use Rattle.component_split.specs.Split.{component, roots, components}
use Rattle.component_split.specs.Over.{site_graph}
use Rattle.inline_certificate.specs.Trees.{Tree, leaf, branch, cut, split, Parts, done, more}
use Rattle.size_measure.specs.Maps.{Map, Completes, filled}
use Rattle.size_measure.specs.Sizes.{Size, plus, lesser, IsAtMost, total, part}
use Rattle.size_measure.specs.Low.{IsBound}
use Rattle.size_measure.proofs.Independent.{part_same}
use Rattle.size_measure.proofs.Bounds.{at_most_refl, plus_mono, filled_completes}
use Rattle.size_measure.proofs.LeastParts.{part_components}
use Rattle.cert_checker.specs.Worth.{BoundOf, Worth, Worths}
use Rattle.cert_checker.proofs.States.{label_completes, label_closed, AllClosed, components_closed, none_open}

pub at_most_trans : (a b c : Size) → IsAtMost a b → IsAtMost b c → IsAtMost a c
at_most_trans a b None h i = tt
at_most_trans a None (Some c) h i = absurd i
at_most_trans None (Some b) (Some c) h i = absurd h
at_most_trans (Some a) (Some b) (Some c) h i = omega arith

pub lesser_left : (a b : Size) → IsAtMost (lesser a b) a
lesser_left None b = tt
lesser_left (Some a) None = omega arith
lesser_left (Some a) (Some b) = omega arith

pub lesser_right : (a b : Size) → IsAtMost (lesser a b) b
lesser_right a None = tt
lesser_right None (Some b) = omega arith
lesser_right (Some a) (Some b) = omega arith

label_is : (l : Label) → (l ≡ Keep) ⊎ (l ≡ Inline)
label_is Keep = inl refl
label_is Inline = inr refl

-- the sum over sets of what a map has over each
unfoldable pub parts_of : Module → Graph → Map → List (List ℕ) → Size
parts_of m g d [] = Some 0
parts_of m g d (c ∷ cs) = plus (part m g d c) (parts_of m g d cs)

parts_by : (m : Module) (g : Graph) (d : Map) (class : ℕ → List ℕ) (rs : List ℕ) → parts_of m g d (map class rs) ≡ total (λ r. part m g d (class r)) rs
unfolding parts_of total
parts_by m g d class [] = refl
parts_by m g d class (r ∷ rs) = ap (plus (part m g d (class r))) (parts_by m g d class rs)

pub parts_whole : (m : Module) (g : Graph) (p : Labels) (fs : List ℕ) → Closed (site_graph g) p fs → (d : Map) → parts_of m g d (components (site_graph g) p fs) ≡ part m g d fs
unfolding components
parts_whole m g p fs c d = parts_by m g d (component (site_graph g) p fs) (roots (site_graph g) p fs) ∙ part_components m g p fs c d

module _ (m : Module) (g : Graph) (bound : BoundOf) (sound : (p : Labels) (fs : List ℕ) → Closed (site_graph g) p fs → IsBound m g p fs (bound p fs)) where
  mutual
    unfolding parts_of AllClosed

    pub worth_bound : (t : Tree) (p : Labels) (fs : List ℕ) (x : Size) → Closed (site_graph g) p fs → Worth m g bound p fs t x → IsBound m g p fs x
    worth_bound (leaf v) p fs x c w e ce =
        let same : part m g (filled Keep p) fs ≡ part m g e fs = part_same m g p fs c (filled Keep p) e (filled_completes Keep p) ce (none_open (site_graph g) p fs c w.0 (filled Keep p) e (filled_completes Keep p) ce) in
        subst (λ (y : Size). IsAtMost x y) (w.2 ∙ same) (at_most_refl x)
    worth_bound (branch s k i) p fs x c w e ce = ⊎_elim
        (λ l. subst (λ (y : Size). IsAtMost y (part m g e fs)) (sym w.5) (at_most_trans (lesser w.0 w.1) w.0 (part m g e fs) (lesser_left w.0 w.1)
        (worth_bound k (with_label p s.0 Keep) fs w.0 (label_closed (site_graph g) p fs s.0 Keep c w.2) w.3 e (label_completes e p s.0 Keep ce l))))
        (λ l. subst (λ (y : Size). IsAtMost y (part m g e fs)) (sym w.5) (at_most_trans (lesser w.0 w.1) w.1 (part m g e fs) (lesser_right w.0 w.1)
        (worth_bound i (with_label p s.0 Inline) fs w.1 (label_closed (site_graph g) p fs s.0 Inline c w.2) w.4 e (label_completes e p s.0 Inline ce l))))
        (label_is (e s.0))
    worth_bound (cut s k b) p fs x c w e ce = ⊎_elim
        (λ l. worth_bound k (with_label p s.0 Keep) fs x (label_closed (site_graph g) p fs s.0 Keep c w.0) w.1 e (label_completes e p s.0 Keep ce l))
        (λ l. at_most_trans x b (part m g e fs) w.3 (subst (λ (y : Size). IsAtMost y (part m g e fs)) (sym w.2)
        (sound (with_label p s.0 Inline) fs (label_closed (site_graph g) p fs s.0 Inline c w.0) e (label_completes e p s.0 Inline ce l))))
        (label_is (e s.0))
    worth_bound (split hs ts) p fs x c w e ce =
        subst (λ (y : Size). IsAtMost x y) (parts_whole m g p fs c e) (worths_bound ts p (components (site_graph g) p fs) x (components_closed (site_graph g) p fs c) w.2 e ce)

    worths_bound : (ts : Parts) (p : Labels) (cs : List (List ℕ)) (x : Size) → AllClosed (site_graph g) p cs → Worths m g bound p cs ts x → (e : Map) → Completes e p → IsAtMost x (parts_of m g e cs)
    worths_bound done p [] x a w e ce = subst (λ (y : Size). IsAtMost y (Some 0)) (sym w) (at_most_refl (Some 0))
    worths_bound done p (c ∷ cs) x a w e ce = absurd w
    worths_bound (more t ts) p [] x a w e ce = absurd w
    worths_bound (more t ts) p (c ∷ cs) x a w e ce =
        subst (λ (y : Size). IsAtMost y (parts_of m g e (c ∷ cs))) (sym w.4)
        (plus_mono w.0 (part m g e c) w.1 (parts_of m g e cs) (worth_bound t p c w.0 a.0 w.2 e ce) (worths_bound ts p cs w.1 a.1 w.3 e ce))
