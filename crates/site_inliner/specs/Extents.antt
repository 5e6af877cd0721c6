-- How many registers and blocks the bodies of a tree and of all trees in it have.
use Rattle.std.specs.Prelude.{List, [], ◌∷◌, ◌++◌}
use Rattle.oi_base.specs.declared.ids.FuncId.{FuncId}
use Rattle.ir_core.specs.declared.module.Module.{Module}
use Rattle.shapes.specs.Tree.{Tree, node, Callees, none, more, nodes}
use Rattle.site_inliner.specs.declared.extents.Extent.{Extent}
use Rattle.site_inliner.specs.Placed.{own_regs, own_blocks, regs_of, blocks_of}

abbrev pub extent : Module → Tree → Extent
extent m t = record { regs = regs_of m t; blocks = blocks_of m t; shapes = nodes t }

-- what a function takes by itself
abbrev pub own_extent : Module → FuncId → Extent
own_extent m f = record { regs = own_regs m f; blocks = own_blocks m f; shapes = 1 }

-- each tree before those in it
abbrev mutual
  pub extents : Module → Tree → List Extent
  extents m (node f w ks) = extent m (node f w ks) ∷ inner_extents m ks

  pub inner_extents : Module → Callees → List Extent
  inner_extents m none = []
  inner_extents m (more s t ks) = extents m t ++ inner_extents m ks
