use Rattle.std.proofs.Common.{◌≡◌, ◌+◌, ◌++◌, ◌∷◌, drop}
use Rattle.shapes.specs.Tree.{func, callees, nodes, nodes_of_callees}
use Rattle.site_inliner.specs.Placed.{regs_of, blocks_of, inner_regs, inner_blocks}
use Rattle.site_inliner.specs.Extents.{own_extent, inner_extents}
use Rattle.site_inliner.proofs.extents.+add_extents.Given as goal

abbrev pub invariant-loop-entry : goal.invariant-loop-entry
invariant-loop-entry l =
    (l.all.items ++ inner_extents l.m (callees (drop l.entry-index l.inlined)) ≡ l.fn.all.items ++ own_extent l.m (func l.shape) ∷ inner_extents l.m (callees l.inlined))
    × (l.total.regs + inner_regs l.m (callees (drop l.entry-index l.inlined)) ≡ regs_of l.m l.shape)
    × (l.total.blocks + inner_blocks l.m (callees (drop l.entry-index l.inlined)) ≡ blocks_of l.m l.shape)
    × (l.total.shapes + nodes_of_callees (callees (drop l.entry-index l.inlined)) ≡ nodes l.shape)
