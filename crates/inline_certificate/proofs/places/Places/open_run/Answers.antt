use Rattle.inline_certificate.proofs.Runs.{open_more, places_more}
use Rattle.inline_certificate.proofs.places.Places.open_run.Goals as goal

pub invariant_of-self-2 : goal.invariant_of-self-2
invariant_of-self-2 c = rw c.in_ok-push.ensures.items (open_more _ _ c.self.invariant c.requires)

pub returns : goal.returns
returns c = rw (← c.self.view_is, c.in_ok-push.ensures.items) (places_more c.self.inside.runs.items (record { place = c.args.place; count = c.args.count }))
