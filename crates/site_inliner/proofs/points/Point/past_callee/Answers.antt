use Rattle.site_inliner.proofs.PointLaws.{past_first}
use Rattle.site_inliner.proofs.points.Point.past_callee.Goals as goal

pub returns-clause-extents : goal.returns-clause-extents
returns-clause-extents c m h = past_first m c.args.self.left.now c.args.self.extents.now c.rest-2.result.now c.rest.result.now c.args.callee.extent c.args.callee.shape.now h.0 h.2 h.3 c.rest.ensures c.rest-2.ensures
