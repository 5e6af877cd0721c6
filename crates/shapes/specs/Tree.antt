-- Shapes as trees: a function, and for each of its sites that are inlined the tree of the callee.
use Rattle.std.specs.Prelude.{ℕ, suc, ◌+◌, ◌≤◌, max, List, [], ◌∷◌}
use Rattle.std.proofs.Common.{arith}
use denote.Param.Weighed.{most}
use Rattle.std.specs.declared.rc.Rc.{Rc}
use Rattle.std.specs.declared.alloc.Global.{Global}
use Rattle.oi_base.specs.declared.ids.FuncId.{FuncId}
use Rattle.oi_base.specs.declared.ids.SiteId.{SiteId}

mutual
  -- a function, the weight that is kept for it, and its inlined sites
  pub data Tree : Type 0 where
    node : (func : FuncId) (weight : ℕ) (inlined : Callees) → Tree

  -- sites in text order, each with the tree of its callee
  pub data Callees : Type 0 where
    none : Callees
    more : (site : SiteId) (callee : Tree) (rest : Callees) → Callees

abbrev pub func : Tree → FuncId
func (node f w ks) = f

abbrev pub weight : Tree → ℕ
weight (node f w ks) = w

abbrev pub inlined : Tree → Callees
inlined (node f w ks) = ks

-- sites with shared trees as sites with trees
abbrev pub callees : List (SiteId × Rc Tree Global) → Callees
callees [] = none
callees (k ∷ ks) = more k.0 k.1.value (callees ks)

-- how many functions stand in a tree
abbrev mutual
  pub nodes : Tree → ℕ
  nodes (node f w ks) = suc (nodes_of_callees ks)

  pub nodes_of_callees : Callees → ℕ
  nodes_of_callees none = 0
  nodes_of_callees (more s t ks) = nodes t + nodes_of_callees ks

-- no callee's tree has more functions than all of them
most_nodes : (ks : List (SiteId × Rc Tree Global)) → most (λ k. max 0 (max (nodes k.1.value + 1) 0)) ks ≤ nodes_of_callees (callees ks) + 1
most_nodes [] = omega arith
most_nodes (k ∷ ks) = let rest = most_nodes ks in omega (arith, rest)

pub deep : (ks : List (SiteId × Rc Tree Global)) → max (most (λ k. max 0 (max (nodes k.1.value + 1) 0)) ks) 0 ≤ suc (nodes_of_callees (callees ks))
deep ks = let all = most_nodes ks in omega (arith, all)
