use Rattle.std.proofs.Common.{◌≡◌, subst, sym, refl}
use Rattle.shapes.specs.Tree.{Tree, callees}
use Rattle.site_inliner.specs.Extents.{extent}
use Rattle.site_inliner.proofs.PointLaws.{head, IsFirst}
use Rattle.site_inliner.proofs.points.Point.next_callee.Goals as goal

pub returns-then-entry-self-clause-extents : goal.returns-then-entry-self-clause-extents
returns-then-entry-self-clause-extents c m h =
    let found = head m c.args.self.now.left.now c.args.self.now.extents.now _ c.in-Some-Some.extent.now c.in-Some-Some.ensures.value c.in-Some-Some.ensures'.value h in
    let both = subst (λ (t : Tree). (c.in-Some-Some.extent.now ≡ extent m t) × IsFirst (callees c.args.self.now.left.now) t) (sym c.deref.ensures) found in
    (both.0, refl, both.1, h)
