-- Places: the line and the column of a byte, both from 1, columns counted in bytes.
use Rattle.std.specs.Prelude.{ℕ, ◌+◌, ◌<◌, ◌^◌, ◌==◌, List, if◌then◌else◌, fold}
use Rattle.oi_base.specs.declared.ids.Place.{Place}

-- where a text begins
abbrev pub first_place : Place
first_place = record { line = 1; column = 1 }

-- the places of this many bytes more, from this one on, fit 32 bits
abbrev pub HasRoom : Place → ℕ → Type 0
HasRoom p n = (p.line + n < 2 ^ 32) × (p.column + n < 2 ^ 32)

-- the place after one more byte: a line feed ends a line
abbrev pub next_place : Place → ℕ → Place
next_place p b = if b == 10 then record { line = p.line + 1; column = 1 } else record { line = p.line; column = p.column + 1 }

-- the place after these bytes
abbrev pub place_after : Place → List ℕ → Place
place_after p bs = fold next_place p bs
