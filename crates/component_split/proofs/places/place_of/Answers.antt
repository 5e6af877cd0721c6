use Rattle.std.proofs.Common.{rules}
use Rattle.std.proofs.lemmas.List.Sorted.{answers_always}
use Rattle.oi_base.specs.declared.ids.FuncId.{FuncId}
use Rattle.component_split.proofs.FuncSearch.{searched}
use Rattle.component_split.proofs.places.place_of.Goals as goal

-- the closure gives a function's number
pub returns : goal.returns
returns c =
    let facts = c.binary_search_by_key.ensures in
    let by_number = facts.position (λ (x : FuncId). x.0) (answers_always _ _ _ (λ f a r g called. search rules)) in
    rw c.ok.ensures.value (searched c.args.funcs.now c.requires c.args.f c.binary_search_by_key.result facts.bound by_number)
