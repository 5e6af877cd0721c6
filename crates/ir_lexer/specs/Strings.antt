-- What a string says.
use Rattle.std.specs.Prelude.{ℕ, ◌+◌, ◌*◌, ◌==◌, nat_lt, Bool, not, ◌&&◌, List, [], ◌∷◌, length, take, drop, position, Option, Some, None, unwrap_or, Result, Ok, Err, if◌then◌else◌}
use Rattle.std.specs.Char.{is_ascii_hexdigit, digit_value}
use Rattle.std.specs.List.{list_any}
use Rattle.oi_base.specs.declared.ids.Place.{Place}
use Rattle.ir_lexer.specs.declared.fault.LexFault.{LexFault}
use Rattle.ir_lexer.specs.declared.fault.LexFault.TheVariants.{OpenString}

-- what the bytes between the quotes say: `\\` is a backslash, `\` with two hexadecimal digits is that byte, and
-- any other byte stands for itself
unfoldable pub unescaped : List ℕ → List ℕ
unescaped [] = []
unescaped (a ∷ []) = a ∷ []
unescaped (a ∷ b ∷ []) = if (a == 92) && (b == 92) then 92 ∷ [] else a ∷ unescaped (b ∷ [])
unescaped (a ∷ b ∷ c ∷ bs) =
    if (a == 92) && (b == 92) then 92 ∷ unescaped (c ∷ bs)
    else (if (a == 92) && (is_ascii_hexdigit b && is_ascii_hexdigit c) then (16 * digit_value b + digit_value c) ∷ unescaped bs
    else a ∷ unescaped (b ∷ c ∷ bs))

-- the byte that an escape says, from what stands after its backslash, and what stands after the escape; none where
-- the backslash stands for itself
abbrev pub escape : List ℕ → Option (ℕ × List ℕ)
escape [] = None
escape (a ∷ []) = if a == 92 then Some (92, []) else None
escape (a ∷ b ∷ bs) =
    if a == 92 then Some (92, b ∷ bs)
    else (if is_ascii_hexdigit a && is_ascii_hexdigit b then Some (16 * digit_value a + digit_value b, bs)
    else None)

-- the first byte that is said, and what stands after the bytes that say it
abbrev pub first_said : List ℕ → Option (ℕ × List ℕ)
first_said [] = None
first_said (a ∷ bs) = if a == 92 then Some (unwrap_or (escape bs) (92, bs)) else Some (a, bs)

-- a text that begins with a quote at the place: what its string says, and how many bytes the string takes with its
-- quotes, where the next quote after the first is the n-th byte from 0
abbrev pub string_up_to : Place → List ℕ → Option ℕ → Result (List ℕ × ℕ) LexFault
string_up_to p bs None = Err (OpenString p)
string_up_to p bs (Some n) = Ok (unescaped (take n (drop 1 bs)), n + 2)

abbrev pub string_at : Place → List ℕ → Result (List ℕ × ℕ) LexFault
string_at p bs = string_up_to p bs (position (λ b. b == 34) (drop 1 bs))

-- what a name in quotes may say: it is not empty, and it holds no zero byte
unfoldable pub is_name : List ℕ → Bool
is_name bs = nat_lt 0 (length bs) && not (list_any (λ b. b == 0) bs)
