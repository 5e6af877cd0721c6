-- Weights that are kept.
use Rattle.std.proofs.Common.{◌≡◌, ℕ, ◌+◌, min, arith}
use Rattle.oi_base.specs.declared.ids.FuncId.{FuncId}
use Rattle.ir_core.specs.declared.module.Module.{Module}
use Rattle.call_graph.specs.Graph.{Graph}
use Rattle.shapes.specs.Tree.{Tree, node, Callees, none, more, weight}
use Rattle.shapes.specs.Weight.{full_weight, kept, IsWeighed, AreWeighed}
use Rattle.shapes.specs.Over.{IsOver, AreOver}

pub kept_weight : (m : Module) (t : Tree) → IsWeighed m t → weight t ≡ kept (full_weight m t)
kept_weight m (node f w ks) h = h.0

-- one callee more, in numbers of 64 bits
pub one_more : (total call kid full rest all first next : ℕ) → kept (total + (call + full + rest)) ≡ kept all → kid ≡ kept full → first ≡ min (total + min call 18446744073709551615) 18446744073709551615 → next ≡ min (first + kid) 18446744073709551615 → kept (next + rest) ≡ kept all
one_more total call kid full rest all first next whole kid_is first_is next_is = omega arith

pub whole_weight : (own inside own' inside' sum most : ℕ) → own' ≡ min own 18446744073709551615 → kept inside' ≡ kept inside → sum ≡ min (own' + inside') 18446744073709551615 → most ≡ kept sum → most ≡ kept (own + inside)
whole_weight own inside own' inside' sum most own_is inside_is sum_is most_is = omega arith

mutual
  pub over_weighed : (m : Module) (g : Graph) (t : Tree) → IsOver m g t → IsWeighed m t
  over_weighed m g (node f w ks) h = (h.0.weight, all_weighed m g f ks h.1)

  pub all_weighed : (m : Module) (g : Graph) (f : FuncId) (ks : Callees) → AreOver m g f ks → AreWeighed m ks
  all_weighed m g f none h = tt
  all_weighed m g f (more s t ks) h = (over_weighed m g t h.1.0, all_weighed m g f ks h.1.1)
