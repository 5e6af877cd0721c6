-- What the laws of the machine speak of: what was put, and the instructions that stand in the text.
use Rattle.std.specs.Prelude.{ℕ, ◌≡◌, ◌+◌, ◌%◌, ◌≤◌, true, List, [], ◌∷◌}
use Rattle.rv_isa.specs.declared.rv.Rv.{Rv}
use Rattle.rv_isa.specs.Words.{word_of, InRange}
use Rattle.rv_isa.specs.Memory.{Segments, read, in_text, bytes_at_load, guard_start}
use Rattle.rv_isa.specs.Isa.{Machine}

-- the text is as it was loaded
abbrev pub Kept : Segments → Machine → Type 0
Kept s m = (a : ℕ) → in_text s a 1 ≡ true → m.memory a ≡ bytes_at_load s a

-- an instruction's word stands at a place of the text
pub record Stands (s : Segments) (pc : ℕ) (i : Rv) : Type 0 where
  pub inside : in_text s pc 4 ≡ true
  pub aligned : pc % 4 ≡ 0
  pub low : pc + 4 ≤ guard_start
  pub range : InRange i
  pub has : read (bytes_at_load s) 4 pc ≡ word_of i

-- instructions stand there, one after another
abbrev pub Holds : Segments → ℕ → List Rv → Type 0
Holds s pc [] = Unit {0}
Holds s pc (i ∷ is) = Stands s pc i × Holds s (pc + 4) is
