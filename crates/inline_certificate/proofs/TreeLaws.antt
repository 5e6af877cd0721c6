-- Nodes fill the places that are open exactly where they are those of trees.
use Rattle.std.proofs.Common.{◌≡◌, ℕ, zero, suc, ◌+◌, ◌≤◌, Bool, true, false, cond, length, replicate, List, [], ◌∷◌, ◌++◌, Some, None, inl, inr, refl, sym, ap, ◌∙◌, arith, append_assoc}
use mathlib.Core.Bool.{false≢true}
use Rattle.std.specs.Prelude.{Option, ◌⊎◌, ◌&&◌, nat_le}
use Rattle.std.proofs.lemmas.Bool.Decides.{nat_tests}
use Rattle.std.proofs.lemmas.List.{append-nil}
use Rattle.oi_base.specs.declared.ids.FuncId.{FuncId}
use Rattle.inline_certificate.specs.declared.nodes.CertNode.{CertNode}
use Rattle.inline_certificate.specs.declared.nodes.CertNode.TheVariants.{Leaf, Branch, Split, Cut}
use Rattle.inline_certificate.specs.declared.forms.Form.{Form}
use Rattle.inline_certificate.specs.declared.places.Place.{Place}
use Rattle.inline_certificate.specs.Trees.{Tree, Parts, leaf, branch, cut, split, done, more, count_of, preorder, preorders, is_within, IsIn, AreIn, IsTreeIn}
use Rattle.inline_certificate.specs.Places.{place_at, root, below, fits, after}

-- ---- one node

both : (a b : Bool) → (a && b) ≡ true → (a ≡ true) × (b ≡ true)
both true b e = (refl, e)
both false b e = cc

pub after_node : (f : Form) (p : Place) (places : List Place) (n : CertNode) (ns : List CertNode) → fits f p n ≡ true → is_within f.deepest p.depth ≡ true → after f (p ∷ places) (n ∷ ns) ≡ after f (below p.depth n ++ places) ns
unfolding after
after_node f p places n ns h k = rw (h, k) refl

pub after_none : (f : Form) (places : List Place) → after f places [] ≡ Some places
unfolding after
after_none f places = refl

some_then : (t : Bool) (o : Option (List Place)) (places : List Place) → cond t o None ≡ Some places → (t ≡ true) × (o ≡ Some places)
some_then true o places e = (refl, e)
some_then false o places e = cc

pub no_place : (f : Form) (n : CertNode) (ns : List CertNode) → after f [] (n ∷ ns) ≡ Some [] → ⊥
unfolding after
no_place f n ns e = cc

pub unfit : (f : Form) (p : Place) (places : List Place) (n : CertNode) (ns : List CertNode) → fits f p n ≡ false → after f (p ∷ places) (n ∷ ns) ≡ Some [] → ⊥
unfolding after
unfit f p places n ns h e = let s = some_then (fits f p n && is_within f.deepest p.depth) (after f (below p.depth n ++ places) ns) [] e in absurd (false≢true (sym h ∙ (both (fits f p n) (is_within f.deepest p.depth) s.0).0))

pub record Stands (f : Form) (p : Place) (places : List Place) (n : CertNode) (ns : List CertNode) (end : List Place) : Type 0 where
  pub place : fits f p n ≡ true
  pub within : is_within f.deepest p.depth ≡ true
  pub rest : after f (below p.depth n ++ places) ns ≡ Some end

pub stands : (f : Form) (p : Place) (places : List Place) (n : CertNode) (ns : List CertNode) (end : List Place) → after f (p ∷ places) (n ∷ ns) ≡ Some end → Stands f p places n ns end
unfolding after
stands f p places n ns end e =
    let s = some_then (fits f p n && is_within f.deepest p.depth) (after f (below p.depth n ++ places) ns) end e in
    let b = both (fits f p n) (is_within f.deepest p.depth) s.0 in
    record { place = b.0; within = b.1; rest = s.1 }

-- ---- the nodes of a tree fill one place

two_or_more : (fs : List FuncId) → 2 ≤ length fs → nat_le 2 (length fs) ≡ true
two_or_more fs h = grind (arith, nat_tests)

mutual
  pub tree_fills : (t : Tree) (f : Form) (depth : ℕ) (second : Bool) (places : List Place) (ns : List CertNode) → IsIn f depth t → after f (place_at depth second ∷ places) (preorder t ++ ns) ≡ after f places ns
  tree_fills (leaf v) f depth second places ns h = after_node f (place_at depth second) places (Leaf v) ns refl h
  tree_fills (branch s keep inline) f depth second places ns h =
      after_node f (place_at depth second) places (Branch s) ((preorder keep ++ preorder inline) ++ ns) refl h.0
      ∙ ap (λ (l : List CertNode). after f (place_at (depth + 1) false ∷ place_at (depth + 1) true ∷ places) l) (append_assoc (preorder keep) (preorder inline) ns)
      ∙ tree_fills keep f (depth + 1) false (place_at (depth + 1) true ∷ places) (preorder inline ++ ns) h.1
      ∙ tree_fills inline f (depth + 1) true places ns h.2
  tree_fills (cut s keep bound) f depth second places ns h =
      after_node f (place_at depth second) places (Branch s) ((preorder keep ++ Cut bound ∷ []) ++ ns) refl h.0
      ∙ ap (λ (l : List CertNode). after f (place_at (depth + 1) false ∷ place_at (depth + 1) true ∷ places) l) (append_assoc (preorder keep) (Cut bound ∷ []) ns)
      ∙ tree_fills keep f (depth + 1) false (place_at (depth + 1) true ∷ places) (Cut bound ∷ ns) h.1
      ∙ after_node f (place_at (depth + 1) true) places (Cut bound) ns h.3 h.2
  tree_fills (split fs parts) f depth second places ns h =
      after_node f (place_at depth second) places (Split fs) (preorders parts ++ ns) (two_or_more fs h.1) h.0
      ∙ ap (λ (k : ℕ). after f (replicate k (place_at (depth + 1) false) ++ places) (preorders parts ++ ns)) (sym h.2)
      ∙ parts_fill parts f (depth + 1) places ns h.3

  pub parts_fill : (ts : Parts) (f : Form) (depth : ℕ) (places : List Place) (ns : List CertNode) → AreIn f depth ts → after f (replicate (count_of ts) (place_at depth false) ++ places) (preorders ts ++ ns) ≡ after f places ns
  parts_fill done f depth places ns h = refl
  parts_fill (more t ts) f depth places ns h =
      ap (λ (l : List CertNode). after f (place_at depth false ∷ (replicate (count_of ts) (place_at depth false) ++ places)) l) (append_assoc (preorder t) (preorders ts) ns)
      ∙ tree_fills t f depth false (replicate (count_of ts) (place_at depth false) ++ places) (preorders ts ++ ns) h.0
      ∙ parts_fill ts f depth places ns h.1

pub a_tree_fills : (f : Form) (nodes : List CertNode) → IsTreeIn f nodes → after f root nodes ≡ Some []
a_tree_fills f nodes t =
    ap (λ (l : List CertNode). after f root l) (t.in_order ∙ sym (append-nil (preorder t.tree)))
    ∙ tree_fills t.tree f 1 false [] [] t.in_form
    ∙ after_none f []

-- ---- what fills places are trees

abbrev IsCut : Form → Place → List CertNode → Type 0
IsCut f p ns = (b : Option ℕ) × (p.second ≡ true) × (f.has_cuts ≡ true) × (is_within f.deepest p.depth ≡ true) × (ns ≡ Cut b ∷ [])

abbrev IsTreeAt : Form → ℕ → List CertNode → Type 0
IsTreeAt f depth ns = (t : Tree) × IsIn f depth t × (ns ≡ preorder t)

abbrev AreFilled : Form → List Place → List CertNode → Type 0
AreFilled f [] ns = ns ≡ []
AreFilled f (p ∷ places) ns = (front rest : List CertNode) × (IsTreeAt f p.depth front ⊎ IsCut f p front) × AreFilled f places rest × (ns ≡ front ++ rest)

no_cut : (f : Form) (p : Place) (ns : List CertNode) → p.second ≡ false → IsTreeAt f p.depth ns ⊎ IsCut f p ns → IsTreeAt f p.depth ns
no_cut f p ns e (inl t) = t
no_cut f p ns e (inr c) = absurd (false≢true (sym e ∙ c.1))

abbrev ArePartsAt : Form → ℕ → ℕ → List Place → List CertNode → Type 0
ArePartsAt f depth m places ns = (ts : Parts) × (rest : List CertNode) × AreIn f depth ts × (count_of ts ≡ m) × AreFilled f places rest × (ns ≡ preorders ts ++ rest)

parts_filled : (m : ℕ) (f : Form) (depth : ℕ) (places : List Place) (ns : List CertNode) → AreFilled f (replicate m (place_at depth false) ++ places) ns → ArePartsAt f depth m places ns
parts_filled zero f depth places ns h = (done, ns, tt, refl, h, refl)
parts_filled (suc m) f depth places ns h =
    let t = no_cut f (place_at depth false) h.0 refl h.2 in
    let ts = parts_filled m f depth places h.1 h.3 in
    let nodes : ns ≡ (preorder t.0 ++ preorders ts.0) ++ ts.1 = h.4 ∙ ap (λ (l : List CertNode). l ++ h.1) t.2 ∙ ap (λ (l : List CertNode). preorder t.0 ++ l) ts.5 ∙ sym (append_assoc (preorder t.0) (preorders ts.0) ts.1) in
    (more t.0 ts.0, ts.1, (t.1, ts.2), ap (λ (k : ℕ). suc k) ts.3, ts.4, nodes)

branch_filled : (f : Form) (p : Place) (places : List Place) (s : _) (ns : List CertNode) → is_within f.deepest p.depth ≡ true → AreFilled f (place_at (p.depth + 1) false ∷ place_at (p.depth + 1) true ∷ places) ns → AreFilled f (p ∷ places) (Branch s ∷ ns)
branch_filled f p places s ns within h = by_second h.3.2
  where
    keep : IsTreeAt f (p.depth + 1) h.0
    keep = no_cut f (place_at (p.depth + 1) false) h.0 refl h.2

    nodes : (x : List CertNode) → h.3.0 ≡ x → Branch s ∷ ns ≡ (Branch s ∷ (preorder keep.0 ++ x)) ++ h.3.1
    nodes x e = ap (λ (l : List CertNode). Branch s ∷ l) (h.4 ∙ ap (λ (l : List CertNode). h.0 ++ l) (h.3.4 ∙ ap (λ (l : List CertNode). l ++ h.3.1) e) ∙ ap (λ (l : List CertNode). l ++ (x ++ h.3.1)) keep.2 ∙ sym (append_assoc (preorder keep.0) x h.3.1))

    by_second : IsTreeAt f (p.depth + 1) h.3.0 ⊎ IsCut f (place_at (p.depth + 1) true) h.3.0 → AreFilled f (p ∷ places) (Branch s ∷ ns)
    by_second (inl i) = (preorder (branch s keep.0 i.0), h.3.1, inl (branch s keep.0 i.0, (within, keep.1, i.1), refl), h.3.3, nodes (preorder i.0) i.2)
    by_second (inr c) = (preorder (cut s keep.0 c.0), h.3.1, inl (cut s keep.0 c.0, (within, keep.1, c.3, c.2), refl), h.3.3, nodes (Cut c.0 ∷ []) c.4)

two_at_least : (fs : List FuncId) → nat_le 2 (length fs) ≡ true → 2 ≤ length fs
two_at_least fs h = grind (arith, nat_tests)

node_filled : (n : CertNode) (f : Form) (p : Place) (places : List Place) (ns : List CertNode) → fits f p n ≡ true → is_within f.deepest p.depth ≡ true → AreFilled f (below p.depth n ++ places) ns → AreFilled f (p ∷ places) (n ∷ ns)
node_filled (Leaf v) f p places ns fit within h = (Leaf v ∷ [], ns, inl (leaf v, within, refl), h, refl)
node_filled (Branch s) f p places ns fit within h = branch_filled f p places s ns within h
node_filled (Split fs) f p places ns fit within h =
    let ts = parts_filled (length fs) f (p.depth + 1) places ns h in
    (preorder (split fs ts.0), ts.1, inl (split fs ts.0, (within, two_at_least fs fit, ts.3, ts.2), refl), ts.4, ap (λ (l : List CertNode). Split fs ∷ l) ts.5)
node_filled (Cut b) f p places ns fit within h = let c = both p.second f.has_cuts fit in (Cut b ∷ [], ns, inr (b, c.0, c.1, within, refl), h, refl)

places_filled : (ns : List CertNode) (f : Form) (places : List Place) → after f places ns ≡ Some [] → AreFilled f places ns
places_filled [] f [] e = refl
places_filled [] f (p ∷ places) e = let k : Some (p ∷ places) ≡ Some [] = sym (after_none f (p ∷ places)) ∙ e in cc
places_filled (n ∷ ns) f [] e = absurd (no_place f n ns e)
places_filled (n ∷ ns) f (p ∷ places) e =
    let s = stands f p places n ns [] e in
    node_filled n f p places ns s.place s.within (places_filled ns f (below p.depth n ++ places) s.rest)

pub what_fills_is_a_tree : (f : Form) (nodes : List CertNode) → after f root nodes ≡ Some [] → IsTreeIn f nodes
what_fills_is_a_tree f nodes e =
    let h = places_filled nodes f root e in
    let t = no_cut f (place_at 1 false) h.0 refl h.2 in
    record { tree = t.0; in_form = t.1; in_order = h.4 ∙ ap (λ (l : List CertNode). h.0 ++ l) h.3 ∙ append-nil h.0 ∙ t.2 }
