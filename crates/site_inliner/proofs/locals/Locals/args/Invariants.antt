use Rattle.std.proofs.Common.{◌≡◌, take, map}
use Rattle.site_inliner.specs.Parts.{typed_in}
use Rattle.site_inliner.proofs.locals.Locals.args.Given as goal

abbrev pub invariant-loop-arg : goal.invariant-loop-arg
invariant-loop-arg l = l.values ≡ map (typed_in l.self) (take l.arg-index l.args)
