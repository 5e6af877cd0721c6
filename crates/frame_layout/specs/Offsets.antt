-- A frame as contracts see it.
use Rattle.std.specs.Prelude.{ℕ, List, Option, slice_index_or}
use Rattle.frame_layout.specs.declared.homes.Home.{Home}
use Rattle.frame_layout.specs.declared.homes.Home.TheVariants.{NoHome}
use Rattle.frame_layout.specs.Homes.{slot_in, shadow_in, place_in}

-- its size in bytes, and the home of each register, by the register's number
pub record Offsets : Type 0 where
  pub bytes : ℕ
  pub homes : List Home

abbrev pub home_of : Offsets → ℕ → Home
home_of f r = slice_index_or f.homes r NoHome

abbrev pub slot_of : Offsets → ℕ → Option ℕ
slot_of f r = slot_in (home_of f r)

abbrev pub shadow_of : Offsets → ℕ → Option ℕ
shadow_of f r = shadow_in (home_of f r)

abbrev pub place_of : Offsets → ℕ → Option ℕ
place_of f r = place_in (home_of f r)
