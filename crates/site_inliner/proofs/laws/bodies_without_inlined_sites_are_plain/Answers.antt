use Rattle.site_inliner.proofs.WithoutSites.{plain_flat}
use Rattle.site_inliner.proofs.laws.bodies_without_inlined_sites_are_plain.Goals as goal

pub returns : goal.returns
returns c = plain_flat
