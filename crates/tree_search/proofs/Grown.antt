-- Each state has one tree.
use Rattle.std.proofs.Common.{◌≡◌, ℕ, zero, suc, ◌+◌, ◌<◌, refl, sym, ap, ap₂, ◌∙◌, subst, arith, Bool, true, false, nat_eq, List, [], ◌∷◌, length, map, Option, Some, None}
use Rattle.std.proofs.lemmas.Bool.{false≢true, true≢false}
use Rattle.oi_base.specs.declared.ids.FuncId.{FuncId}
use Rattle.oi_base.specs.declared.ids.SiteId.{SiteId}
use Rattle.decisions.specs.declared.maps.Label.{Label}
use Rattle.decisions.specs.declared.maps.Label.TheVariants.{Keep, Inline}
use Rattle.component_split.specs.Graph.{SiteGraph, Labels, Distinct, with_label}
use Rattle.component_split.specs.Split.{lowest, component, roots, components, open_sites}
use Rattle.component_split.specs.Chosen.{chosen}
use Rattle.component_split.specs.Tree.{is_decided, is_several}
use Rattle.component_split.specs.Over.{func_numbers}
use Rattle.component_split.proofs.Merge.{distinct_filter}
use Rattle.component_split.proofs.Trees.{chosen_open}
use Rattle.component_split.proofs.Grown.{label_smaller, component_smaller}
use Rattle.inline_certificate.specs.Trees.{Tree, leaf, branch, cut, split, Parts, done, more}
use Rattle.size_measure.specs.Sizes.{Size}
use Rattle.tree_search.specs.Values.{value}
use Rattle.tree_search.specs.Search.{Rules, IsTree, AreTrees}

module _ (g : SiteGraph) (r : Rules) where
  abbrev Grown : Labels → List ℕ → Type 0
  Grown p fs = (t : Tree) × IsTree g r p fs t

  parts_grown : (p : Labels) (fs : List ℕ) → ((q : ℕ) → Grown p (component g p fs q)) → (rs : List ℕ) → (ts : Parts) × AreTrees g r p (map (component g p fs) rs) ts
  parts_grown p fs h [] = (done, tt)
  parts_grown p fs h (q ∷ rs) = let one = h q in let others = parts_grown p fs h rs in (more one.0 others.0, (one.1, others.1))

  components_grown : (p : Labels) (fs : List ℕ) → ((q : ℕ) → Grown p (component g p fs q)) → (ts : Parts) × AreTrees g r p (components g p fs) ts
  unfolding components
  components_grown p fs h = parts_grown p fs h (roots g p fs)

  ids : List ℕ → List FuncId
  ids [] = []
  ids (n ∷ ns) = record { 0 = n } ∷ ids ns

  ids_are : (ns : List ℕ) → func_numbers (ids ns) ≡ ns
  unfolding ids
  ids_are [] = refl
  ids_are (n ∷ ns) = ap (λ (xs : List ℕ). n ∷ xs) (ids_are ns)

  branch_grown : (p : Labels) (fs : List ℕ) → is_decided g p fs ≡ false → is_several g p fs ≡ false → (k : Grown (with_label p (chosen g p fs) Keep) fs) → Grown (with_label p (chosen g p fs) Inline) fs → (o : Option Size) → r.cut_by (with_label p (chosen g p fs) Inline) fs (value k.0) ≡ o → Grown p fs
  branch_grown p fs d s k i None e = (branch (record { 0 = chosen g p fs }) k.0 i.0, (d, s, refl, k.1, e, i.1))
  branch_grown p fs d s k i (Some b) e = (cut (record { 0 = chosen g p fs }) k.0 b, (d, s, refl, k.1, e))

  case_grown : (p : Labels) (fs : List ℕ) (a b : Bool) → is_decided g p fs ≡ a → is_several g p fs ≡ b → (is_several g p fs ≡ true → (q : ℕ) → Grown p (component g p fs q)) → (is_decided g p fs ≡ false → (l : Label) → Grown (with_label p (chosen g p fs) l) fs) → Grown p fs
  case_grown p fs true b d s parts child = (leaf (r.leaf_value p fs), (d, refl))
  case_grown p fs false true d s parts child = let ts = components_grown p fs (parts s) in (split (ids (roots g p fs)) ts.0, (d, s, ids_are (roots g p fs), ts.1))
  case_grown p fs false false d s parts child = let k = child d Keep in branch_grown p fs d s k (child d Inline) (r.cut_by (with_label p (chosen g p fs) Inline) fs (value k.0)) refl

  grown_by : (n : ℕ) (p : Labels) (fs : List ℕ) → Distinct fs → length (open_sites g p fs) + length fs < n → Grown p fs
  grown_by zero p fs c h = absurd (omega (arith, h))
  grown_by (suc n) p fs c h = case_grown p fs (is_decided g p fs) (is_several g p fs) refl refl
      (λ s q. let m = component_smaller g p fs c s q in grown_by n p (component g p fs q) (distinct_filter (λ f. nat_eq (lowest g p fs f) q) fs c) (omega (arith, m, h)))
      (λ d l. let m = label_smaller g p fs (chosen g p fs) l (chosen_open g p fs d) in grown_by n (with_label p (chosen g p fs) l) fs c (omega (arith, m, h)))

  pub tree_grown : (p : Labels) (fs : List ℕ) → Distinct fs → Grown p fs
  tree_grown p fs c = grown_by (suc (length (open_sites g p fs) + length fs)) p fs c (omega arith)

  -- ---- and no other

  same_site : (s q : SiteId) → s.0 ≡ q.0 → s ≡ q
  same_site s q e = ap (λ (n : ℕ). record { 0 = n }) e

  same_funcs : (hs ks : List FuncId) → func_numbers hs ≡ func_numbers ks → hs ≡ ks
  same_funcs [] [] e = refl
  same_funcs [] (k ∷ ks) e = absurd (none k.0 (func_numbers ks) e)
    where
      none : (n : ℕ) (ns : List ℕ) → [] ≡ n ∷ ns → ⊥
      none n ns e = cc
  same_funcs (h ∷ hs) [] e = absurd (none h.0 (func_numbers hs) (sym e))
    where
      none : (n : ℕ) (ns : List ℕ) → [] ≡ n ∷ ns → ⊥
      none n ns e = cc
  same_funcs (h ∷ hs) (k ∷ ks) e = let both = parts h.0 k.0 (func_numbers hs) (func_numbers ks) e in ap₂ (λ (n : ℕ) (xs : List FuncId). record { 0 = n } ∷ xs) both.0 (same_funcs hs ks both.1)
    where
      parts : (a b : ℕ) (xs ys : List ℕ) → a ∷ xs ≡ b ∷ ys → (a ≡ b) × (xs ≡ ys)
      parts a b xs ys e = (cc, cc)

  no_cut : (o : Option Size) (b : Size) → o ≡ None → o ≡ Some b → ⊥
  no_cut o b e f = let clash : None ≡ Some b = sym e ∙ f in cc

  one_cut : (o : Option Size) (a b : Size) → o ≡ Some a → o ≡ Some b → a ≡ b
  one_cut o a b e f = let same : Some a ≡ Some b = sym e ∙ f in cc

  mutual
    pub one_tree : (t u : Tree) (p : Labels) (fs : List ℕ) → IsTree g r p fs t → IsTree g r p fs u → t ≡ u
    one_tree (leaf v) (leaf w) p fs a b = ap leaf (a.1 ∙ sym b.1)
    one_tree (leaf v) (branch s k i) p fs a b = absurd (true≢false (sym a.0 ∙ b.0))
    one_tree (leaf v) (cut s k y) p fs a b = absurd (true≢false (sym a.0 ∙ b.0))
    one_tree (leaf v) (split hs ts) p fs a b = absurd (true≢false (sym a.0 ∙ b.0))
    one_tree (branch s k i) (leaf w) p fs a b = absurd (false≢true (sym a.0 ∙ b.0))
    one_tree (branch s k i) (branch q l j) p fs a b =
        let e : q ≡ s = same_site q s (b.2 ∙ sym a.2) in
        let ek = one_tree k l (with_label p s.0 Keep) fs a.3 (subst (λ (x : SiteId). IsTree g r (with_label p x.0 Keep) fs l) e b.3) in
        let ei = one_tree i j (with_label p s.0 Inline) fs a.5 (subst (λ (x : SiteId). IsTree g r (with_label p x.0 Inline) fs j) e b.5) in
        ap (λ (x : SiteId). branch x k i) (sym e) ∙ ap₂ (λ (x y : Tree). branch q x y) ek ei
    one_tree (branch s k i) (cut q l y) p fs a b =
        let e : q ≡ s = same_site q s (b.2 ∙ sym a.2) in
        let ek = one_tree k l (with_label p s.0 Keep) fs a.3 (subst (λ (x : SiteId). IsTree g r (with_label p x.0 Keep) fs l) e b.3) in
        absurd (no_cut (r.cut_by (with_label p s.0 Inline) fs (value k)) y a.4 (ap₂ (λ (x : SiteId) (t : Tree). r.cut_by (with_label p x.0 Inline) fs (value t)) (sym e) ek ∙ b.4))
    one_tree (branch s k i) (split hs ts) p fs a b = absurd (false≢true (sym a.1 ∙ b.1))
    one_tree (cut s k y) (leaf w) p fs a b = absurd (false≢true (sym a.0 ∙ b.0))
    one_tree (cut s k y) (branch q l j) p fs a b =
        let e : q ≡ s = same_site q s (b.2 ∙ sym a.2) in
        let ek = one_tree k l (with_label p s.0 Keep) fs a.3 (subst (λ (x : SiteId). IsTree g r (with_label p x.0 Keep) fs l) e b.3) in
        absurd (no_cut (r.cut_by (with_label p s.0 Inline) fs (value k)) y (ap₂ (λ (x : SiteId) (t : Tree). r.cut_by (with_label p x.0 Inline) fs (value t)) (sym e) ek ∙ b.4) a.4)
    one_tree (cut s k y) (cut q l w) p fs a b =
        let e : q ≡ s = same_site q s (b.2 ∙ sym a.2) in
        let ek = one_tree k l (with_label p s.0 Keep) fs a.3 (subst (λ (x : SiteId). IsTree g r (with_label p x.0 Keep) fs l) e b.3) in
        let same = one_cut (r.cut_by (with_label p s.0 Inline) fs (value k)) y w a.4 (ap₂ (λ (x : SiteId) (t : Tree). r.cut_by (with_label p x.0 Inline) fs (value t)) (sym e) ek ∙ b.4) in
        ap (λ (x : SiteId). cut x k y) (sym e) ∙ ap₂ (λ (x : Tree) (z : Size). cut q x z) ek same
    one_tree (cut s k y) (split hs ts) p fs a b = absurd (false≢true (sym a.1 ∙ b.1))
    one_tree (split hs ts) (leaf w) p fs a b = absurd (false≢true (sym a.0 ∙ b.0))
    one_tree (split hs ts) (branch q l j) p fs a b = absurd (true≢false (sym a.1 ∙ b.1))
    one_tree (split hs ts) (cut q l w) p fs a b = absurd (true≢false (sym a.1 ∙ b.1))
    one_tree (split hs ts) (split ks us) p fs a b = ap₂ split (same_funcs hs ks (a.2 ∙ sym b.2)) (same_trees ts us p (components g p fs) a.3 b.3)

    same_trees : (ts us : Parts) (p : Labels) (cs : List (List ℕ)) → AreTrees g r p cs ts → AreTrees g r p cs us → ts ≡ us
    same_trees done done p cs a b = refl
    same_trees done (more u us) p [] a b = absurd b
    same_trees done (more u us) p (c ∷ cs) a b = absurd a
    same_trees (more t ts) done p [] a b = absurd a
    same_trees (more t ts) done p (c ∷ cs) a b = absurd b
    same_trees (more t ts) (more u us) p [] a b = absurd a
    same_trees (more t ts) (more u us) p (c ∷ cs) a b = ap₂ more (one_tree t u p c a.0 b.0) (same_trees ts us p cs a.1 b.1)
