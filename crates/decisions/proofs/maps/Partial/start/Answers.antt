use Rattle.decisions.proofs.Lookups.{zip-replicate}
use Rattle.decisions.proofs.maps.Partial.start.Goals as goal

pub returns : goal.returns
returns c = rw (c.in_ok-sites.ensures.items, c.in_ok-labels.ensures) (zip-replicate c.args.candidates.now)
