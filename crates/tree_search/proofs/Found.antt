-- The picked map of the search's tree is least, and its certificate passes.
use Rattle.std.proofs.Common.{◌≡◌, ℕ, ◌+◌, sym, ap, ◌∙◌, subst, arith, List, Some}
use Rattle.ir_core.specs.declared.module.Module.{Module}
use Rattle.call_graph.specs.Graph.{Graph}
use Rattle.component_split.specs.Over.{site_graph, reached_from}
use Rattle.component_split.specs.States.{none_decided}
use Rattle.inline_certificate.specs.declared.certificates.Certificate.{Certificate}
use Rattle.inline_certificate.specs.Trees.{Tree, preorder}
use Rattle.shapes.specs.Over.{IsGraphOf}
use Rattle.size_measure.specs.Maps.{Map, Completes, map_of}
use Rattle.size_measure.specs.Sizes.{Size, plus, IsAtMost, part, size}
use Rattle.size_measure.specs.Low.{low}
use Rattle.size_measure.proofs.Bounds.{at_most_refl, plus_mono, low_bound}
use Rattle.size_measure.proofs.Independent.{part_same}
use Rattle.cert_checker.specs.Worth.{Worth, Passes}
use Rattle.cert_checker.proofs.Whole.{whole_closed}
use Rattle.cert_checker.proofs.WorthBounds.{worth_bound}
use Rattle.tree_search.specs.Values.{value, pick}
use Rattle.tree_search.specs.Search.{IsSearchTree}
use Rattle.tree_search.proofs.Worths.{tree_worth}
use Rattle.tree_search.proofs.Picked.{picked}

module _ (m : Module) (g : Graph) (graph : IsGraphOf m g) (t : Tree) (is : IsSearchTree m g t) where
  abbrev all : List ℕ
  all = reached_from 0 g.funcs

  abbrev pub found : Map
  found = pick (site_graph g) (none_decided g) all t

  worth : Worth m g (low m g) (none_decided g) all t (value t)
  worth = tree_worth m g t (none_decided g) all (whole_closed m g graph) is

  its : Completes found (none_decided g) × (part m g found all ≡ value t)
  its = picked m g (low m g) t (none_decided g) all (value t) (whole_closed m g graph) worth

  pub found_completes : Completes found (none_decided g)
  found_completes = its.0

  -- the size of the picked map
  pub found_size : size m g found ≡ plus (Some 16) (value t)
  found_size = ap (plus (Some 16)) its.1

  -- no map over the candidates has less
  pub found_least : (d : Map) → Completes d (none_decided g) → IsAtMost (size m g found) (size m g d)
  found_least d c =
      subst (λ (x : Size). IsAtMost x (size m g d)) (sym found_size)
      (plus_mono (Some 16) (Some 16) (value t) (part m g d all) (at_most_refl (Some 16)) (worth_bound m g (low m g) (λ p fs closed. low_bound m g p closed.over fs) t (none_decided g) all (value t) (whole_closed m g graph) worth d c))

  -- the certificate of the tree with its value passes
  pub found_passes : (c : Certificate) (n : ℕ) → value t ≡ Some n → c.tree ≡ preorder t → c.text ≡ n + 16 → ((s : ℕ) → map_of c.map s ≡ found s) → Passes m g c
  found_passes c n v nodes text same = record {
    tree = t;
    nodes = nodes;
    worth = n;
    has_worth = subst (λ (x : Size). Worth m g (low m g) (none_decided g) all t x) v worth;
    root = sym text;
    map_size =
        ap (plus (Some 16)) (part_same m g (none_decided g) all (whole_closed m g graph) (map_of c.map) found (λ s l e. same s ∙ found_completes s l e) found_completes (λ s site i. same s) ∙ its.1)
        ∙ ap (plus (Some 16)) v ∙ ap Some (let e : 16 + n ≡ n + 16 = omega arith in e ∙ sym text);
  }
