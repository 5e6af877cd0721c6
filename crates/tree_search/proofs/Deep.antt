-- The tree of a module's search is that of a certificate of version 2.
use Rattle.std.proofs.Common.{ℕ, ◌+◌, ◌≤◌, arith, Bool, true, false, ◌&&◌, List, [], ◌∷◌, length, cond, if◌then◌else◌}
use Rattle.std.specs.List.{filter}
use Rattle.std.proofs.lemmas.List.{length-map}
use Rattle.oi_base.specs.declared.ids.SiteId.{SiteId}
use Rattle.ir_core.specs.declared.limits.TheConstants.{MOST_SITES}
use Rattle.ir_core.specs.declared.module.Module.{Module}
use Rattle.call_graph.specs.declared.facts.SiteFacts.{SiteFacts}
use Rattle.call_graph.specs.Graph.{Graph, candidates_from, candidate_ids}
use Rattle.shapes.specs.Over.{IsGraphOf}
use Rattle.component_split.specs.Graph.{Labels, inside, is_open}
use Rattle.component_split.specs.Split.{open_sites}
use Rattle.component_split.specs.Over.{site_graph, reached_from}
use Rattle.component_split.specs.States.{none_decided}
use Rattle.inline_certificate.specs.Trees.{Tree, IsIn, form_of}
use Rattle.cert_checker.proofs.Whole.{whole_closed}
use Rattle.tree_search.specs.Values.{depth}
use Rattle.tree_search.specs.Search.{IsSearchTree, rules}
use Rattle.tree_search.proofs.Depth.{depth_bound, in_form}

few_filtered : (P : ℕ → Bool) (xs : List ℕ) → length (filter P xs) ≤ length xs
few_filtered P [] = omega arith
few_filtered P (x ∷ xs) = by (P x) (few_filtered P xs)
  where
    by : (b : Bool) → length (filter P xs) ≤ length xs → length (cond b (x ∷ filter P xs) (filter P xs)) ≤ length (x ∷ xs)
    by true h = omega (arith, h)
    by false h = omega (arith, h)

few_candidates : (n : ℕ) (xs : List SiteFacts) → length (candidates_from n xs) ≤ length xs
few_candidates n [] = omega arith
few_candidates n (x ∷ xs) = by x.candidate (few_candidates (n + 1) xs)
  where
    by : (b : Bool) → length (candidates_from (n + 1) xs) ≤ length xs → length (if b then (record { 0 = n } ∷ candidates_from (n + 1) xs) else candidates_from (n + 1) xs) ≤ length (x ∷ xs)
    by true h = omega (arith, h)
    by false h = omega (arith, h)

few_open : (g : Graph) (p : Labels) (fs : List ℕ) → length (open_sites (site_graph g) p fs) ≤ length g.sites
unfolding open_sites
few_open g p fs =
    let a = few_filtered (λ s. inside (site_graph g) fs s && is_open (p s)) (site_graph g).sites in
    let b = length-map (candidate_ids g) (λ (s : SiteId). s.0) in
    let c = few_candidates 1 g.sites in
    omega (arith, a, b, c)

module _ (m : Module) (g : Graph) (graph : IsGraphOf m g) (few : length g.sites ≤ MOST_SITES) (t : Tree) (is : IsSearchTree m g t) where
  pub search_depth : depth t ≤ 8194
  search_depth =
      let all = reached_from 0 g.funcs in
      let bound = (depth_bound (site_graph g) (rules m g) t (none_decided g) all (whole_closed m g graph) is).0 in
      let undecided = few_open g (none_decided g) all in
      omega (arith, bound, undecided, few)

  pub search_form : IsIn (form_of 2) 1 t
  search_form = let d = search_depth in in_form (site_graph g) (rules m g) t 1 (none_decided g) (reached_from 0 g.funcs) is (omega (arith, d))
