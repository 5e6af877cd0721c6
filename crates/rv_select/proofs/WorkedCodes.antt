-- The worked codes, by computing them.
use Rattle.std.proofs.Common.{refl}
use Rattle.frame_layout.specs.Frame.{frame, home, frame_of}
use Rattle.rv_select.specs.Parts.{hi, lo, load_word, load_slot, store_slot, load_home, frame_down, frame_up}
use Rattle.rv_select.specs.Code.{code}
use Rattle.rv_select.specs.Worked.{WorkedCodes}

pub worked_codes : WorkedCodes
unfolding frame home frame_of hi lo load_word load_slot store_slot load_home frame_down frame_up code
worked_codes = record {
  operations_are_right = refl;
  comparisons_are_right = refl;
  conversions_are_right = refl;
  loads_and_stores_are_right = refl;
  words_are_right = refl;
  others_are_right = refl;
  far_homes_are_right = refl;
  text_of_a_loop_of_phis = refl;
  text_of_a_switch_into_a_phi = refl;
  text_of_operations_that_are_not_folded = refl;
  text_of_a_loop_of_calls = refl;
  text_of_a_call_that_never_returns = refl;
  text_of_bytes_through = refl;
  text_of_a_global_and_an_alloca = refl;
}
