use Rattle.std.proofs.Common.{ℕ, ◌+◌, List, map, ap, ◌∙◌}
use Rattle.std.specs.Prelude.{unwrap_or, slice_get}
use Rattle.module_rules.specs.Faults.{numbers_of, global_number}
use Rattle.rv_isa.specs.Memory.{data_start}
use Rattle.image_layout.specs.Addresses.{Located}
use Rattle.image_layout.proofs.Globals.{data_fits}
use Rattle.image_layout.proofs.GlobalNames.{same_globals}
use Rattle.image_layout.proofs.PlaceableGlobals.{all_placeable}
use Rattle.image_layout.proofs.imaging.addresses.Goals as goal

pub places-requires-clause-globals : goal.places-requires-clause-globals
places-requires-clause-globals c = all_placeable c.args.m.now c.requires.valid

pub places-requires-clause-fits : goal.places-requires-clause-fits
places-requires-clause-fits c = data_fits c.args.m.now c.requires.valid

pub returns-clause-links : goal.returns-clause-links
returns-clause-links c =
    let at : List ℕ → ℕ → ℕ = λ ps g. data_start + unwrap_or (slice_get ps g) 0 in
    record {
      entries = λ f h. ap (λ (a : Located). unwrap_or (slice_get a.entries f) 0) c.of.ensures ∙ c.in_ok-entries.ensures c.args.m.now f h;
      globals = ap at (ap (λ (a : Located). a.places) c.of.ensures ∙ c.in_ok-places.ensures.places);
    }

pub returns-clause-names : goal.returns-clause-names
returns-clause-names c =
    ap (λ (a : Located). a.names) c.of.ensures ∙ c.in_ok-names.ensures ∙ ap (λ gs. numbers_of (map global_number gs)) c.as_slice.ensures ∙ same_globals c.args.m.now c.requires.valid
