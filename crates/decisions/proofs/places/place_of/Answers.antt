use Rattle.std.proofs.Common.{rules}
use Rattle.std.proofs.lemmas.List.Sorted.{answers_always}
use Rattle.oi_base.specs.declared.ids.SiteId.{SiteId}
use Rattle.decisions.proofs.SearchLaws.{searched}
use Rattle.decisions.proofs.places.place_of.Goals as goal

-- the closure gives a site's number
pub returns : goal.returns
returns c =
    let facts = c.binary_search_by_key.ensures in
    let by_number = facts.position (λ (x : SiteId). x.0) (answers_always _ _ _ (λ f a r g called. search rules)) in
    rw c.ok.ensures.value (searched c.args.sites.now c.requires c.args.s c.binary_search_by_key.result facts.bound by_number)
