-- The worked branches, by computing them.
use Rattle.std.proofs.Common.{refl}
use Rattle.frame_layout.specs.Frame.{frame, home, frame_of}
use Rattle.rv_select.specs.Parts.{hi, lo, load_word, load_slot, store_slot, load_home, frame_down, frame_up}
use Rattle.rv_select.specs.Code.{code}
use Rattle.rv_select.specs.WorkedBranches.{WorkedBranches}

pub worked_branches : WorkedBranches
unfolding frame home frame_of hi lo load_word load_slot store_slot load_home frame_down frame_up code
worked_branches = record {
  text_of_bytes_through = refl;
  text_past_four_puts = refl;
  text_past_many_puts = refl;
  sizes_of_branches = refl;
  branches_are_right = refl;
}
