-- The words that begin an instruction or a terminator, but for those that name an operation or a conversion.
use Rattle.std.specs.Prelude.{ℕ, List, [], ◌∷◌, codes}

abbrev pub choice_words : List (List ℕ)
choice_words = codes "icmp" ∷ codes "select" ∷ []

abbrev pub line_words : List (List ℕ)
line_words = codes "alloca" ∷ codes "load" ∷ codes "store" ∷ codes "getelementptr" ∷ codes "phi" ∷ codes "tail" ∷ codes "notail" ∷ codes "call" ∷ codes "ret" ∷ codes "br" ∷ codes "switch" ∷ codes "unreachable" ∷ []
