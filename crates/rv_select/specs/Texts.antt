-- The bytes of a code.
use Rattle.std.specs.Prelude.{ℕ, List}
use Rattle.std.specs.List.{flat_map}
use Rattle.std.specs.Int.{w32, to_le_bytes}
use Rattle.rv_isa.specs.declared.rv.Rv.{Rv}
use Rattle.rv_isa.specs.Words.{word_of}

-- its words one after another, each with the lowest byte first
abbrev pub bytes_of : List Rv → List ℕ
bytes_of code = flat_map (λ i. to_le_bytes w32 (word_of i)) code
