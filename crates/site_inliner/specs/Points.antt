-- Points of the text in code: their callees are trees, with the extents of these and of more.
use Rattle.std.specs.Prelude.{◌≡◌, List, ◌++◌}
use Rattle.ir_core.specs.declared.module.Module.{Module}
use Rattle.oi_base.specs.declared.ids.SiteId.{SiteId}
use Rattle.shapes.specs.Tree.{Callees, more, callees}
use Rattle.site_inliner.specs.declared.extents.Extent.{Extent}
use Rattle.site_inliner.specs.declared.points.Point as code
use Rattle.site_inliner.specs.declared.points.Callee as coded
use Rattle.site_inliner.specs.Placed.{Whole, Point, all_callees}
use Rattle.site_inliner.specs.Extents.{extent, inner_extents}

abbrev pub point : Module → Whole → code.Point → Point
point m all p = record { site = p.site; reg = p.reg; block = p.block; left = all_callees m all (callees p.left.now) }

abbrev pub HasExtents : Module → code.Point → Type 0
HasExtents m p = (others : List Extent) × (p.extents.now ≡ inner_extents m (callees p.left.now) ++ others)

-- a callee at the head of those that are left, with the extents from its own on
abbrev pub IsCallee : Module → code.Point → coded.Callee → Type 0
IsCallee m p c = (c.extent ≡ extent m c.shape.now) × (c.extents.now ≡ p.extents.now) × ((s : SiteId) × (rest : Callees) × (callees p.left.now ≡ more s c.shape.now rest)) × HasExtents m p
