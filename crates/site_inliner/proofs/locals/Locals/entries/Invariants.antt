use Rattle.std.proofs.Common.{◌≡◌, take, map}
use Rattle.site_inliner.specs.Parts.{entry_in}
use Rattle.site_inliner.proofs.locals.Locals.entries.Given as goal

abbrev pub invariant-loop-pair : goal.invariant-loop-pair
invariant-loop-pair l = l.entries ≡ map (entry_in l.self l.t) (take l.pair-index l.pairs)
