-- Classes of bytes, and runs.
use Rattle.std.specs.Prelude.{ℕ, ◌==◌, nat_lt, Bool, false, ◌&&◌, ◌||◌, List, [], ◌∷◌, length, take_while, if◌then◌else◌}
use Rattle.std.specs.Char.{is_ascii_alphanumeric, is_ascii_digit}
use Rattle.std.specs.List.{list_all}

-- a letter or a digit of ASCII, or one of `_`, `.`, `$` and `-`
abbrev pub is_run_byte : ℕ → Bool
is_run_byte b = is_ascii_alphanumeric b || ((b == 95) || ((b == 46) || ((b == 36) || (b == 45))))

-- a space, a tab, a carriage return or a line feed
abbrev pub is_separator : ℕ → Bool
is_separator b = (b == 32) || ((b == 9) || ((b == 13) || (b == 10)))

-- one of `=`, `,`, `(`, `)`, `[`, `]`, `{`, `}`, `!`, `*`, `<`, `>`, `:` and `|`
abbrev pub is_sign : ℕ → Bool
is_sign b =
    (b == 61) || ((b == 44) || ((b == 40) || ((b == 41) || ((b == 91) || ((b == 93) || ((b == 123) ||
    ((b == 125) || ((b == 33) || ((b == 42) || ((b == 60) || ((b == 62) || ((b == 58) || (b == 124)))))))))))))

-- the text begins with this byte
abbrev pub begins_with : ℕ → List ℕ → Bool
begins_with b [] = false
begins_with b (c ∷ cs) = c == b

-- the longest run at the start of a text
abbrev pub run_of : List ℕ → List ℕ
run_of bs = take_while is_run_byte bs

-- a run without a leading `-`
abbrev pub without_minus : List ℕ → List ℕ
without_minus [] = []
without_minus (b ∷ bs) = if b == 45 then bs else b ∷ bs

-- decimal digits, with at most one `-` before them
unfoldable pub is_int : List ℕ → Bool
is_int run = nat_lt 0 (length (without_minus run)) && list_all is_ascii_digit (without_minus run)
