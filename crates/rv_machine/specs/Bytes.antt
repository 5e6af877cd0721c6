-- Lists as arrays: what they hold at a place.
use Rattle.std.specs.Prelude.{ℕ, List, slice_index_or}
use Rattle.rv_machine.specs.declared.bytes.Size.{Size}
use Rattle.rv_machine.specs.declared.bytes.Size.TheVariants.{Byte, Half, Word}

-- what an array of numbers holds at a place, and 0 after its end
abbrev pub held : List ℕ → ℕ → ℕ
held numbers q = slice_index_or numbers q 0

-- how many bytes an access has
abbrev pub size_of : Size → ℕ
size_of Byte = 1
size_of Half = 2
size_of Word = 4
