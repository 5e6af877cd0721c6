use Rattle.std.proofs.Common.{◌≡◌, Contains, ap, ◌∙◌, sym, slice_index_or}
use Rattle.std.proofs.lemmas.Bool.{eqb-true}
use Rattle.decisions.specs.Maps.{sites_of}
use Rattle.decisions.proofs.Lookups.{same_site}
use Rattle.shapes_tests.proofs.Labelled.{has_label}
use Rattle.shapes_tests.proofs.forest_tests.is_undecided.Goals as goal

pub get-requires : goal.get-requires
get-requires c =
    let at = (c.if-contains.ensures {u = tt}).cases in
    let found = slice_index_or c.candidates.result.now at.0 c.args.s in
    let contained : Contains c.candidates.result.now c.args.s = (at.0, at.1, same_site found c.args.s (eqb-true found.0 c.args.s.0 (at.2 c.args.s))) in
    has_label c.partial.result.now c.candidates.result.now c.args.s (ap (λ p. sites_of p) c.partial.ensures ∙ c.requires.candidates ∙ sym c.candidates.ensures.value) contained
