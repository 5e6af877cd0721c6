-- Where the first line of a text ends.
use Rattle.std.specs.Prelude.{ℕ, suc, List, [], ◌∷◌, if◌then◌else◌, ◌==◌}

-- after its line feed, or at the end of the text
abbrev pub end_of : List ℕ → ℕ
end_of [] = 0
end_of (b ∷ bs) = if b == 10 then 1 else suc (end_of bs)
