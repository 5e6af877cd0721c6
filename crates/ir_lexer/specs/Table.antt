-- The table of tokens: the token at the start of a text that begins with no separator and no comment, and how many
-- bytes the token takes, or why there is none. `p` is the place of the text's first byte.
use Rattle.std.specs.Prelude.{◌≡◌, ℕ, ◌+◌, ◌==◌, nat_lt, nat_le, Bool, false, ◌&&◌, List, [], ◌∷◌, length, drop, Result, Ok, Err, if◌then◌else◌}
use Rattle.std.specs.Str.Parse.{signed_digits_value}
use Rattle.oi_base.specs.declared.ids.Place.{Place}
use Rattle.ir_lexer.specs.declared.fault.LexFault.{LexFault}
use Rattle.ir_lexer.specs.declared.fault.LexFault.TheVariants.{BadByte, LongNumber, NoMemory}
use Rattle.ir_lexer.specs.declared.table.Token.{Token}
use Rattle.ir_lexer.specs.declared.table.Token.TheVariants.{Int, Word, Label, Local, Global, Str, CStr, Meta, Hash, Sign, End}
use Rattle.ir_lexer.specs.Alphabet.{is_run_byte, is_sign, begins_with, run_of, without_minus, is_int}
use Rattle.ir_lexer.specs.Places.{next_place}
use Rattle.ir_lexer.specs.Strings.{string_at, is_name}

abbrev pub Found : Type 0
Found = Result (Token × ℕ) LexFault

abbrev pub and_then : {A B : Type 0} → Result A LexFault → (A → Result B LexFault) → Result B LexFault
and_then (Ok a) f = f a
and_then (Err e) f = Err e

-- a call gives this, unless memory runs out
abbrev pub Gives : {A : Type 0} → Result A LexFault → Result A LexFault → Type 0
Gives (Ok a) o = o ≡ Ok a
Gives (Err NoMemory) o = Unit {0}
Gives (Err e) o = o ≡ Err e

-- the run `c`
abbrev pub is_c : List ℕ → Bool
is_c [] = false
is_c (b ∷ bs) = (b == 99) && (length bs == 0)

-- INT, of at most 30 digits
unfoldable pub int_token : Place → List ℕ → Found
int_token p run = if nat_le (length (without_minus run)) 30 then Ok (Int (signed_digits_value 10 run), length run) else Err (LongNumber p)

-- CSTRING: the run `c` with a string directly after it
unfoldable pub cstring_token : Place → List ℕ → Found
cstring_token p bs = and_then (string_at (next_place p 99) (drop 1 bs)) (λ s. Ok (CStr s.0, s.1 + 1))

-- LABEL: a run with `:` directly after it; or CSTRING, INT, or WORD, which is any other run
unfoldable pub run_token : Place → List ℕ → Found
run_token p bs =
    let run = run_of bs in let after = drop (length run) bs in
    if begins_with 58 after then Ok (Label run, length run + 1)
    else (if is_c run && begins_with 34 after then cstring_token p bs
    else (if is_int run then int_token p run
    else Ok (Word run, length run)))

-- LABEL: a string with `:` directly after it; or STRING
unfoldable pub string_token : Place → List ℕ → Found
string_token p bs = and_then (string_at p bs) (λ s.
    if begins_with 58 (drop s.1 bs) then (if is_name s.0 then Ok (Label s.0, s.1 + 1) else Err (BadByte p 34))
    else Ok (Str s.0, s.1))

-- a run or a string as a name after the byte b, and how many bytes the two take
unfoldable pub name_after : Place → ℕ → List ℕ → Result (List ℕ × ℕ) LexFault
name_after p b bs =
    if begins_with 34 bs then and_then (string_at (next_place p b) bs) (λ s. if is_name s.0 then Ok (s.0, s.1 + 1) else Err (BadByte p b))
    else (if nat_lt 0 (length (run_of bs)) then Ok (run_of bs, length (run_of bs) + 1)
    else Err (BadByte p b))

-- the token at the start, by its first byte
unfoldable pub token_at : Place → List ℕ → Found
token_at p [] = Ok (End, 0)
token_at p (b ∷ bs) =
    let run = run_of bs in
    if is_run_byte b then run_token p (b ∷ bs)
    else (if b == 34 then string_token p (b ∷ bs)
    else (if b == 37 then and_then (name_after p b bs) (λ n. Ok (Local n.0, n.1))
    else (if b == 64 then and_then (name_after p b bs) (λ n. Ok (Global n.0, n.1))
    else (if (b == 33) && nat_lt 0 (length run) then Ok (Meta run, length run + 1)
    else (if (b == 35) && nat_lt 0 (length run) then Ok (Hash run, length run + 1)
    else (if is_sign b then Ok (Sign b, 1)
    else Err (BadByte p b)))))))
