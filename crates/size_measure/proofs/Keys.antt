-- Trees of one function that reach the same inlined sites are the same, whatever the maps for which they stand.
use Rattle.std.proofs.Common.{◌≡◌, ◌⊎◌, inl, inr, ⊎_elim, ℕ, ◌<◌, refl, sym, ap, ◌∙◌, subst, Bool, true, false, ◌&&◌, ◌||◌, ◌==◌, nat_eq, eq-eqb, if◌then◌else◌, List, [], ◌∷◌, length, All, Some}
use Rattle.std.specs.List.{filter}
use Rattle.std.proofs.lemmas.Bool.{or_cases, and_parts, and_from, eqb-true, false≢true}
use Rattle.std.proofs.lemmas.List.Elements.{All-head, All-tail}
use Rattle.oi_base.specs.declared.ids.FuncId.{FuncId}
use Rattle.oi_base.specs.declared.ids.SiteId.{SiteId}
use Rattle.ir_core.specs.declared.module.Module.{Module}
use Rattle.call_graph.specs.Graph.{Graph, candidate_ids, IsCandidateOf}
use Rattle.decisions.specs.declared.maps.Label.{Label}
use Rattle.decisions.specs.declared.maps.Label.TheVariants.{Keep, Inline}
use Rattle.decisions.specs.Maps as maps
use Rattle.shapes.specs.Tree.{Tree, node, Callees, none, more, func}
use Rattle.shapes.specs.Over.{IsGraphOf, sites_of}
use Rattle.shapes.specs.Standing as standing
use Rattle.shapes.specs.Standing.{Labels, is_in, inline_sites, StandsFor, AllStandFor, IsTreeOf}
use Rattle.shapes.specs.Reaching.{has_func, have_func}
use Rattle.shapes.proofs.Sites.{IsInlineIn, all_inline}
use Rattle.component_split.specs.Graph.{has}
use Rattle.component_split.specs.Over.{site_graph, site_numbers, caller_of, callee_of}
use Rattle.component_split.proofs.Known.{known}
use Rattle.size_measure.specs.Maps.{Map, is_inline}
use Rattle.size_measure.specs.Trees.{tree, reaches, any_reaches}
use Rattle.size_measure.proofs.SameTrees.{AgreeFrom, tree_same}
use Rattle.size_measure.proofs.ForestTrees.{kept_map, inline_same, in_is, callee_known, forest_tree}
use Rattle.size_measure.proofs.Tests.{or_true}

-- the map in which exactly these sites are inline
abbrev inlines : Tree → Map
inlines t s = if reaches t s then Inline else Keep

label_is : (l : Label) → is_inline l ≡ true → l ≡ Inline
label_is Keep h = absurd (false≢true h)
label_is Inline h = refl

-- ---- lists of sites

passing : (P : SiteId → Bool) (xs : List SiteId) (n : ℕ) → has (site_numbers xs) n ≡ true → P (record { 0 = n }) ≡ true → has (site_numbers (filter P xs)) n ≡ true
passing P [] n h e = h
passing P (x ∷ xs) n h e = by (P x) refl (or_cases (nat_eq x.0 n) (has (site_numbers xs) n) h) (λ i. passing P xs n i e)
  where
    by : (b : Bool) → P x ≡ b → (nat_eq x.0 n ≡ true) ⊎ (has (site_numbers xs) n ≡ true) → (has (site_numbers xs) n ≡ true → has (site_numbers (filter P xs)) n ≡ true) → has (site_numbers (if b then x ∷ filter P xs else filter P xs)) n ≡ true
    by true q (inl here) rest = rw here refl
    by true q (inr later) rest = rw (rest later) (or_true (nat_eq x.0 n))
    by false q (inl here) rest = absurd (false≢true (sym q ∙ ap (λ (k : ℕ). P (record { 0 = k })) (eqb-true x.0 n here) ∙ e))
    by false q (inr later) rest = rest later

labelled : (p : Labels) (n : ℕ) → standing.is_inline (maps.label_of p (record { 0 = n })) ≡ true → has (site_numbers (maps.sites_of p)) n ≡ true
labelled [] n h = absurd (false≢true h)
labelled (x ∷ p) n h = by (nat_eq x.0.0 n) refl h (labelled p n)
  where
    by : (b : Bool) → nat_eq x.0.0 n ≡ b → standing.is_inline (if b then Some x.1 else maps.label_of p (record { 0 = n })) ≡ true → (standing.is_inline (maps.label_of p (record { 0 = n })) ≡ true → has (site_numbers (maps.sites_of p)) n ≡ true) → (b || has (site_numbers (maps.sites_of p)) n) ≡ true
    by true e h rest = refl
    by false e h rest = rest h

reached_among : (ks : Callees) (n : ℕ) → has (site_numbers (sites_of ks)) n ≡ true → any_reaches ks n ≡ true
reached_among none n h = absurd (false≢true h)
reached_among (more q t ks) n h = ⊎_elim
    (λ here. rw here refl)
    (λ later. ap (λ (b : Bool). (nat_eq q.0 n || reaches t n) || b) (reached_among ks n later) ∙ or_true (nat_eq q.0 n || reaches t n))
    (or_cases (nat_eq q.0 n) (has (site_numbers (sites_of ks)) n) h)

root_stands : (t : Tree) (c : ℕ) → c ≡ (func t).0 → has_func (record { 0 = c }) t ≡ true
root_stands (node f w ks) c e = let here : (f.0 == c) ≡ true = eq-eqb f.0 c (sym e) in rw here refl

module _ (m : Module) (g : Graph) (graph : IsGraphOf m g) (p : Labels) (all : maps.sites_of p ≡ candidate_ids g) where
  -- ---- what a tree reaches is inline

  mutual
    reached_inline : (t : Tree) → StandsFor g p t → (n : ℕ) → reaches t n ≡ true → standing.is_inline (maps.label_of p (record { 0 = n })) ≡ true
    reached_inline (node f w ks) stands n h = any_inline f ks (subst (All (IsInlineIn g p f)) (sym stands.0) (all_inline g p f)) stands.1 n h

    any_inline : (f : FuncId) (ks : Callees) → All (IsInlineIn g p f) (sites_of ks) → AllStandFor g p ks → (n : ℕ) → any_reaches ks n ≡ true → standing.is_inline (maps.label_of p (record { 0 = n })) ≡ true
    any_inline f none inline stand n h = absurd (false≢true h)
    any_inline f (more q t ks) inline stand n h = ⊎_elim
        (λ own. ⊎_elim
        (λ here. subst (λ (k : ℕ). standing.is_inline (maps.label_of p (record { 0 = k })) ≡ true) (eqb-true q.0 n here) (and_parts (standing.is_inline (maps.label_of p q)) (is_in g f q) (All-head (IsInlineIn g p f) q (sites_of ks) inline)).0)
        (λ inner. reached_inline t stand.1.0 n inner)
        (or_cases (nat_eq q.0 n) (reaches t n) own))
        (λ later. any_inline f ks (All-tail (IsInlineIn g p f) q (sites_of ks) inline) stand.1.1 n later)
        (or_cases (nat_eq q.0 n || reaches t n) (any_reaches ks n) h)

  -- ---- an inline site of a function that stands in a tree

  module _ (n : ℕ) (inline : standing.is_inline (maps.label_of p (record { 0 = n })) ≡ true) where
    is_site : has (site_graph g).sites n ≡ true
    is_site = subst (λ (xs : List SiteId). has (site_numbers xs) n ≡ true) all (labelled p n inline)

    candidate : IsCandidateOf g (record { 0 = n })
    candidate = known g (record { 0 = n }) is_site

    caller : FuncId
    caller = record { 0 = caller_of g n }

    its_site : is_in g caller (record { 0 = n }) ≡ true
    unfolding caller
    its_site = in_is g (record { 0 = n }) candidate.1.0 candidate.1.1 caller ∙ eq-eqb (caller_of g n) (caller_of g n) refl

    -- where its function stands, it is among the callees' sites
    among : (f : FuncId) (ks : Callees) → f.0 ≡ caller_of g n → sites_of ks ≡ inline_sites g p f → has (site_numbers (sites_of ks)) n ≡ true
    unfolding caller
    among f ks e is =
        let own : is_in g f (record { 0 = n }) ≡ true = subst (λ (k : ℕ). is_in g (record { 0 = k }) (record { 0 = n }) ≡ true) (sym e) its_site in
        subst (λ (xs : List SiteId). has (site_numbers xs) n ≡ true) (sym is)
        (passing (λ (s : SiteId). standing.is_inline (maps.label_of p s) && is_in g f s) (maps.sites_of p) n (labelled p n inline) (and_from (standing.is_inline (maps.label_of p (record { 0 = n }))) (is_in g f (record { 0 = n })) inline own))

    callee_stands : (ks : Callees) → AllStandFor g p ks → has (site_numbers (sites_of ks)) n ≡ true → have_func (record { 0 = callee_of g n }) ks ≡ true
    callee_stands none stand h = absurd (false≢true h)
    callee_stands (more q t ks) stand h = ⊎_elim
        (λ here. let same : q.0 ≡ n = eqb-true q.0 n here in
        let called : callee_of g n ≡ (func t).0 = callee_known g (record { 0 = n }) candidate.1.0 candidate.1.1 (func t) (subst (λ (k : ℕ). standing.callee_of g (record { 0 = k }) ≡ Some (func t)) same stand.0) in
        let root : has_func (record { 0 = callee_of g n }) t ≡ true = root_stands t (callee_of g n) called in
        rw root refl)
        (λ later. ap (λ (b : Bool). has_func (record { 0 = callee_of g n }) t || b) (callee_stands ks stand.1.1 later) ∙ or_true (has_func (record { 0 = callee_of g n }) t))
        (or_cases (nat_eq q.0 n) (has (site_numbers (sites_of ks)) n) h)

    mutual
      found : (t : Tree) → StandsFor g p t → has_func (record { 0 = caller_of g n }) t ≡ true → (reaches t n ≡ true) × (has_func (record { 0 = callee_of g n }) t ≡ true)
      found (node f w ks) stands h = ⊎_elim
          (λ here. let h' = among f ks (eqb-true f.0 (caller_of g n) here) stands.0 in
          (reached_among ks n h', ap (λ (b : Bool). (f.0 == callee_of g n) || b) (callee_stands ks stands.1 h') ∙ or_true (f.0 == callee_of g n)))
          (λ later. let r = any_found ks stands.1 later in (r.0, ap (λ (b : Bool). (f.0 == callee_of g n) || b) r.1 ∙ or_true (f.0 == callee_of g n)))
          (or_cases (f.0 == caller_of g n) (have_func (record { 0 = caller_of g n }) ks) h)

      any_found : (ks : Callees) → AllStandFor g p ks → have_func (record { 0 = caller_of g n }) ks ≡ true → (any_reaches ks n ≡ true) × (have_func (record { 0 = callee_of g n }) ks ≡ true)
      any_found none stand h = absurd (false≢true h)
      any_found (more q t ks) stand h = ⊎_elim
          (λ own. let r = found t stand.1.0 own in
          (ap (λ (b : Bool). (nat_eq q.0 n || b) || any_reaches ks n) r.0 ∙ ap (λ (b : Bool). b || any_reaches ks n) (or_true (nat_eq q.0 n)), ap (λ (b : Bool). b || have_func (record { 0 = callee_of g n }) ks) r.1))
          (λ later. let r = any_found ks stand.1.1 later in
          (ap (λ (b : Bool). (nat_eq q.0 n || reaches t n) || b) r.0 ∙ or_true (nat_eq q.0 n || reaches t n), ap (λ (b : Bool). has_func (record { 0 = callee_of g n }) t || b) r.1 ∙ or_true (has_func (record { 0 = callee_of g n }) t)))
          (or_cases (has_func (record { 0 = caller_of g n }) t) (have_func (record { 0 = caller_of g n }) ks) h)

  module _ (t : Tree) (stands : StandsFor g p t) where
    abbrev Here : ℕ → Type 0
    Here c = has_func (record { 0 = c }) t ≡ true

    inline_label : (n : ℕ) → kept_map p n ≡ Inline → standing.is_inline (maps.label_of p (record { 0 = n })) ≡ true
    inline_label n e = sym (inline_same p (record { 0 = n })) ∙ ap is_inline e

    same_label : (n : ℕ) → Here (caller_of g n) → kept_map p n ≡ inlines t n
    same_label n h = by (reaches t n) refl
      where
        kept : (l : Label) → kept_map p n ≡ l → reaches t n ≡ false → l ≡ Keep
        kept Keep e r = refl
        kept Inline e r = absurd (false≢true (sym r ∙ (found n (inline_label n e) t stands h).0))

        by : (b : Bool) → reaches t n ≡ b → kept_map p n ≡ inlines t n
        by true r = rw r (label_is (kept_map p n) (inline_same p (record { 0 = n }) ∙ reached_inline t stands n r))
        by false r = rw r (kept (kept_map p n) refl r)

    agree : AgreeFrom (site_graph g) (kept_map p) (inlines t) Here
    agree = record { same = same_label; stays = λ n h i. (found n (inline_label n i) t stands h).1 }

  -- a tree that stands for a map is that of the map in which the sites that it reaches are inline
  by_sites : (f : FuncId) (t : Tree) → f.0 < length g.funcs → IsTreeOf m g p f t → t ≡ tree m g (inlines t) f.0
  by_sites f t low is = forest_tree m g p graph all f t low is ∙ tree_same m (site_graph g) (kept_map p) (inlines t) (Here t is.stands) (agree t is.stands) (length g.funcs) f.0 (root_stands t f.0 (ap (λ (k : FuncId). k.0) (sym is.function)))

-- trees of one function that reach the same sites are the same
pub one_key : (m : Module) (g : Graph) → IsGraphOf m g → (p q : Labels) → maps.sites_of p ≡ candidate_ids g → maps.sites_of q ≡ candidate_ids g → (f : FuncId) (t u : Tree) → f.0 < length g.funcs → IsTreeOf m g p f t → IsTreeOf m g q f u → ((s : ℕ) → reaches t s ≡ reaches u s) → t ≡ u
one_key m g graph p q all_p all_q f t u low is_t is_u same =
    by_sites m g graph p all_p f t low is_t
    ∙ tree_same m (site_graph g) (inlines t) (inlines u) (λ _. Unit {0}) (record { same = λ s h. ap (λ (b : Bool). if b then Inline else Keep) (same s); stays = λ s h i. tt }) (length g.funcs) f.0 tt
    ∙ sym (by_sites m g graph q all_q f u low is_u)
