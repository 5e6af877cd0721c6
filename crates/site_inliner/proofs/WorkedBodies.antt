-- The worked bodies, by computing them.
use Rattle.std.proofs.Common.{refl}
use Rattle.ir_core.specs.Sizes.{layout}
use Rattle.site_inliner.specs.Replaced.{replaced}
use Rattle.site_inliner.specs.Worked.{WorkedBodies}

pub worked_bodies : WorkedBodies
unfolding layout replaced
worked_bodies = record {
  once_inlined = record { by_strings = refl; by_calls = refl; by_places = refl };
  looping_inlined = record { by_strings = refl; by_calls = refl; by_places = refl };
  choosing_inlined = record { by_strings = refl; by_calls = refl; by_places = refl };
  choosing_second = record { by_strings = refl; by_calls = refl; by_places = refl };
  nested_all_inlined = record { by_strings = refl; by_calls = refl; by_places = refl };
  nested_some_inlined = record { by_strings = refl; by_calls = refl; by_places = refl };
  nested_second_of_b = record { by_strings = refl; by_calls = refl; by_places = refl };
}
