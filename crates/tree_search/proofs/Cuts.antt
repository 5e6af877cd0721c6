-- The tree with cuts has the value and the picked map of the tree without, and no more nodes.
use Rattle.std.proofs.Common.{◌≡◌, ℕ, ◌≤◌, refl, sym, ap, ap₂, ◌∙◌, subst, arith, Bool, true, false, if◌then◌else◌, List, [], ◌∷◌, Some, None}
use Rattle.std.proofs.lemmas.Bool.{false≢true, true≢false, le-ltb}
use Rattle.ir_core.specs.declared.module.Module.{Module}
use Rattle.call_graph.specs.Graph.{Graph}
use Rattle.decisions.specs.declared.maps.Label.{Label}
use Rattle.decisions.specs.declared.maps.Label.TheVariants.{Keep, Inline}
use Rattle.component_split.specs.Graph.{Labels, Closed, has, with_label}
use Rattle.component_split.specs.Split.{components, open_sites}
use Rattle.component_split.specs.Tree as counted
use Rattle.component_split.specs.Tree.{is_decided}
use Rattle.component_split.specs.Over.{site_graph, caller_of}
use Rattle.component_split.proofs.Trees.{chosen_open, nodes_some}
use Rattle.inline_certificate.specs.Trees.{Tree, leaf, branch, cut, split, Parts, done, more}
use Rattle.size_measure.specs.Maps.{Map}
use Rattle.size_measure.specs.Sizes.{Size, IsAtMost}
use Rattle.size_measure.specs.Low.{low, IsLeastOf}
use Rattle.size_measure.proofs.Bounds.{low_bound}
use Rattle.cert_checker.specs.Worth.{Worth}
use Rattle.cert_checker.proofs.States.{label_closed, AllClosed, components_closed}
use Rattle.cert_checker.proofs.WorthBounds.{at_most_trans, worth_bound}
use Rattle.tree_search.specs.Values.{value, visits, visits_of, takes_inline, pick, picks}
use Rattle.tree_search.specs.Search.{Rules, IsTree, AreTrees, rules, rules_without_cuts}
use Rattle.tree_search.proofs.Picked.{picked}
use Rattle.cert_checker.specs.Judged.{at_most}
use Rattle.cert_checker.proofs.Exact.{at_most_is}
use Rattle.tree_search.proofs.Worths.{tree_worth, whole_worth, bound_is, no_cut}

-- ---- no more nodes than the tree that is counted

mutual
  pub visits_few : (t : Tree) (u : counted.Tree) (g : Graph) (r : Rules) (p : Labels) (fs : List ℕ) → IsTree (site_graph g) r p fs t → counted.IsTree (site_graph g) p fs u → visits t ≤ counted.nodes u
  visits_few (leaf v) u g r p fs a b = nodes_some u
  visits_few (branch s k i) counted.leaf g r p fs a b = absurd (false≢true (sym a.0 ∙ b))
  visits_few (branch s k i) (counted.branch q l j) g r p fs a b =
      let e : q ≡ s.0 = b.2 ∙ sym a.2 in
      let keep = visits_few k l g r (with_label p s.0 Keep) fs a.3 (subst (λ (x : ℕ). counted.IsTree (site_graph g) (with_label p x Keep) fs l) e b.3) in
      let inline = visits_few i j g r (with_label p s.0 Inline) fs a.5 (subst (λ (x : ℕ). counted.IsTree (site_graph g) (with_label p x Inline) fs j) e b.4) in
      omega (arith, keep, inline)
  visits_few (branch s k i) (counted.split us) g r p fs a b = absurd (false≢true (sym a.1 ∙ b.1))
  visits_few (cut s k y) counted.leaf g r p fs a b = absurd (false≢true (sym a.0 ∙ b))
  visits_few (cut s k y) (counted.branch q l j) g r p fs a b =
      let e : q ≡ s.0 = b.2 ∙ sym a.2 in
      let keep = visits_few k l g r (with_label p s.0 Keep) fs a.3 (subst (λ (x : ℕ). counted.IsTree (site_graph g) (with_label p x Keep) fs l) e b.3) in
      let inline = nodes_some j in
      omega (arith, keep, inline)
  visits_few (cut s k y) (counted.split us) g r p fs a b = absurd (false≢true (sym a.1 ∙ b.1))
  visits_few (split hs ts) counted.leaf g r p fs a b = absurd (false≢true (sym a.0 ∙ b))
  visits_few (split hs ts) (counted.branch q l j) g r p fs a b = absurd (true≢false (sym a.1 ∙ b.1))
  visits_few (split hs ts) (counted.split us) g r p fs a b = let all = parts_few ts us g r p (components (site_graph g) p fs) a.3 b.2 in omega (arith, all)

  parts_few : (ts : Parts) (us : counted.Parts) (g : Graph) (r : Rules) (p : Labels) (cs : List (List ℕ)) → AreTrees (site_graph g) r p cs ts → counted.AreTrees (site_graph g) p cs us → visits_of ts ≤ counted.nodes_of us
  parts_few done us g r p cs a b = omega arith
  parts_few (more t ts) us g r p [] a b = absurd a
  parts_few (more t ts) counted.done g r p (c ∷ cs) a b = absurd b
  parts_few (more t ts) (counted.more u us) g r p (c ∷ cs) a b =
      let first = visits_few t u g r p c a.0 b.0 in
      let rest = parts_few ts us g r p cs a.1 b.1 in
      omega (arith, first, rest)

-- ---- values

at_most_both : (a b : Size) → IsAtMost a b → IsAtMost b a → a ≡ b
at_most_both None None h i = refl
at_most_both None (Some b) h i = absurd h
at_most_both (Some a) None h i = absurd i
at_most_both (Some a) (Some b) h i = ap Some (omega (arith, h, i))

no_inline : (a b : Size) → IsAtMost a b → takes_inline a b ≡ false
no_inline a None h = refl
no_inline None (Some b) h = absurd h
no_inline (Some a) (Some b) h = le-ltb b a h

if_same : (b d : Bool) (u v w x : Label) → b ≡ d → u ≡ v → w ≡ x → (if b then u else w) ≡ (if d then v else x)
if_same true true u v w x e f h = f
if_same true false u v w x e f h = absurd (true≢false e)
if_same false true u v w x e f h = absurd (false≢true e)
if_same false false u v w x e f h = h

if_false : (b : Bool) (u v : Label) → b ≡ false → (if b then u else v) ≡ v
if_false true u v e = absurd (true≢false e)
if_false false u v e = refl

module _ (m : Module) (g : Graph) where
  -- a worth is the least over its state
  worth_least : (t : Tree) (p : Labels) (fs : List ℕ) (x : Size) → Closed (site_graph g) p fs → Worth m g (low m g) p fs t x → IsLeastOf m g p fs x
  worth_least t p fs x c w =
      let r = picked m g (low m g) t p fs x c w in
      record { bound = worth_bound m g (low m g) (λ q gs closed. low_bound m g q closed.over gs) t p fs x c w; met = (pick (site_graph g) p fs t, r.0, r.1) }

  least_once : (p : Labels) (fs : List ℕ) (x y : Size) → IsLeastOf m g p fs x → IsLeastOf m g p fs y → x ≡ y
  least_once p fs x y a b =
      at_most_both x y (subst (λ (v : Size). IsAtMost x v) b.met.2 (a.bound b.met.0 b.met.1)) (subst (λ (v : Size). IsAtMost y v) a.met.2 (b.bound a.met.0 a.met.1))

  abbrev IsWhole : Labels → List ℕ → Tree → Type 0
  IsWhole p fs t = IsTree (site_graph g) (rules_without_cuts m g) p fs t

  abbrev IsCut : Labels → List ℕ → Tree → Type 0
  IsCut p fs t = IsTree (site_graph g) (rules m g) p fs t

  -- both trees have one value
  pub one_value : (t u : Tree) (p : Labels) (fs : List ℕ) → Closed (site_graph g) p fs → IsWhole p fs t → IsCut p fs u → value t ≡ value u
  one_value t u p fs c a b = least_once p fs (value t) (value u) (worth_least t p fs (value t) c (whole_worth m g t p fs c a)) (worth_least u p fs (value u) c (tree_worth m g u p fs c b))

  -- where the inline child is cut it is not taken
  cut_leaves : (p : Labels) (fs : List ℕ) (i : Tree) (a b : Size) → Closed (site_graph g) p fs → IsWhole p fs i → (rules m g).cut_by p fs a ≡ Some b → takes_inline a (value i) ≡ false
  cut_leaves p fs i a b c t e =
      let w = worth_least i p fs (value i) c (whole_worth m g i p fs c t) in
      let h = (bound_is (is_decided (site_graph g) p fs) (at_most a (low m g p fs)) (low m g p fs) b e).1 in
      no_inline a (value i) (at_most_trans a (low m g p fs) (value i) (at_most_is a (low m g p fs) h) (subst (λ (v : Size). IsAtMost (low m g p fs) v) w.met.2 (low_bound m g p c.over fs w.met.0 w.met.1)))

  abbrev Alike : Map → Map → Type 0
  Alike d e = (q : ℕ) → d q ≡ e q

  mutual
    unfolding AllClosed

    pub same_pick : (t u : Tree) (p : Labels) (fs : List ℕ) → Closed (site_graph g) p fs → IsWhole p fs t → IsCut p fs u → Alike (pick (site_graph g) p fs t) (pick (site_graph g) p fs u)
    same_pick (leaf v) (leaf w) p fs c a b q = refl
    same_pick (leaf v) (branch s k i) p fs c a b q = absurd (true≢false (sym a.0 ∙ b.0))
    same_pick (leaf v) (cut s k y) p fs c a b q = absurd (true≢false (sym a.0 ∙ b.0))
    same_pick (leaf v) (split hs ts) p fs c a b q = absurd (true≢false (sym a.0 ∙ b.0))
    same_pick (branch s k i) (leaf w) p fs c a b q = absurd (false≢true (sym a.0 ∙ b.0))
    same_pick (branch s k i) (branch r l j) p fs c a b q =
        let e : r.0 ≡ s.0 = b.2 ∙ sym a.2 in
        let o : has (open_sites (site_graph g) p fs) s.0 ≡ true = ap (has (open_sites (site_graph g) p fs)) a.2 ∙ chosen_open (site_graph g) p fs a.0 in
        let keep = with_label p s.0 Keep in
        let inline = with_label p s.0 Inline in
        let tl = subst (λ (x : ℕ). IsCut (with_label p x Keep) fs l) e b.3 in
        let tj = subst (λ (x : ℕ). IsCut (with_label p x Inline) fs j) e b.5 in
        let ck = label_closed (site_graph g) p fs s.0 Keep c o in
        let ci = label_closed (site_graph g) p fs s.0 Inline c o in
        if_same (takes_inline (value k) (value i)) (takes_inline (value l) (value j)) (pick (site_graph g) inline fs i q) (pick (site_graph g) (with_label p r.0 Inline) fs j q) (pick (site_graph g) keep fs k q) (pick (site_graph g) (with_label p r.0 Keep) fs l q)
        (ap₂ takes_inline (one_value k l keep fs ck a.3 tl) (one_value i j inline fs ci a.5 tj))
        (same_pick i j inline fs ci a.5 tj q ∙ ap (λ (x : ℕ). pick (site_graph g) (with_label p x Inline) fs j q) (sym e))
        (same_pick k l keep fs ck a.3 tl q ∙ ap (λ (x : ℕ). pick (site_graph g) (with_label p x Keep) fs l q) (sym e))
    same_pick (branch s k i) (cut r l y) p fs c a b q =
        let e : r.0 ≡ s.0 = b.2 ∙ sym a.2 in
        let o : has (open_sites (site_graph g) p fs) s.0 ≡ true = ap (has (open_sites (site_graph g) p fs)) a.2 ∙ chosen_open (site_graph g) p fs a.0 in
        let keep = with_label p s.0 Keep in
        let inline = with_label p s.0 Inline in
        let tl = subst (λ (x : ℕ). IsCut (with_label p x Keep) fs l) e b.3 in
        let ck = label_closed (site_graph g) p fs s.0 Keep c o in
        let ci = label_closed (site_graph g) p fs s.0 Inline c o in
        let not_taken = cut_leaves inline fs i (value k) y ci a.5 (ap₂ (λ (x : ℕ) (v : Size). (rules m g).cut_by (with_label p x Inline) fs v) (sym e) (one_value k l keep fs ck a.3 tl) ∙ b.4) in
        if_false (takes_inline (value k) (value i)) (pick (site_graph g) inline fs i q) (pick (site_graph g) keep fs k q) not_taken
        ∙ same_pick k l keep fs ck a.3 tl q ∙ ap (λ (x : ℕ). pick (site_graph g) (with_label p x Keep) fs l q) (sym e)
    same_pick (branch s k i) (split hs ts) p fs c a b q = absurd (false≢true (sym a.1 ∙ b.1))
    same_pick (cut s k x) u p fs c a b q = absurd (no_cut x a.4)
    same_pick (split hs ts) (leaf w) p fs c a b q = absurd (false≢true (sym a.0 ∙ b.0))
    same_pick (split hs ts) (branch r l j) p fs c a b q = absurd (true≢false (sym a.1 ∙ b.1))
    same_pick (split hs ts) (cut r l w) p fs c a b q = absurd (true≢false (sym a.1 ∙ b.1))
    same_pick (split hs ts) (split ks us) p fs c a b q = same_picks ts us p (components (site_graph g) p fs) (components_closed (site_graph g) p fs c) a.3 b.3 q

    same_picks : (ts us : Parts) (p : Labels) (cs : List (List ℕ)) → AllClosed (site_graph g) p cs → AreTrees (site_graph g) (rules_without_cuts m g) p cs ts → AreTrees (site_graph g) (rules m g) p cs us → Alike (picks (site_graph g) p cs ts) (picks (site_graph g) p cs us)
    same_picks done done p [] c a b q = refl
    same_picks done done p (k ∷ ks) c a b q = absurd a
    same_picks done (more u us) p [] c a b q = absurd b
    same_picks done (more u us) p (k ∷ ks) c a b q = absurd a
    same_picks (more t ts) done p [] c a b q = absurd a
    same_picks (more t ts) done p (k ∷ ks) c a b q = absurd b
    same_picks (more t ts) (more u us) p [] c a b q = absurd a
    same_picks (more t ts) (more u us) p (k ∷ ks) c a b q =
        let here = has k (caller_of g q) in
        if_same here here (pick (site_graph g) p k t q) (pick (site_graph g) p k u q) (picks (site_graph g) p ks ts q) (picks (site_graph g) p ks us q) refl (same_pick t u p k c.0 a.0 b.0 q) (same_picks ts us p ks c.1 a.1 b.1 q)
