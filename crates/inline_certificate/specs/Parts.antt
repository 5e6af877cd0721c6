-- Parts of texts.
use Rattle.std.specs.Prelude.{◌≡◌, ◌≢◌, ◌<◌, ℕ, List, [], ◌∷◌, ◌++◌, length, slice_index}
use Rattle.decisions.specs.Reading.{lines_of}

-- a word begins neither with a plus nor with a zero that is not its only digit
abbrev pub IsPlain : List ℕ → Type 0
IsPlain word = (slice_index word 0 ≢ 43) × (slice_index word 0 ≡ 48 → length word ≡ 1)

abbrev pub IsAfterBlank : List ℕ → Type 0
IsAfterBlank text = (rest : List ℕ) × (text ≡ 32 ∷ rest)

-- the line is a byte, something, and a line feed
abbrev pub IsInside : List ℕ → Type 0
IsInside line = (first : ℕ) × (rest : List ℕ) × (line ≡ first ∷ (rest ++ 10 ∷ []))

-- the first line of a text, and the rest
pub record IsCutAt (bytes line rest : List ℕ) : Type 0 where
  pub lines : lines_of bytes ≡ line ∷ lines_of rest
  pub whole : bytes ≡ line ++ rest
  pub some : 0 < length line
