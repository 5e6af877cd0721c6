-- The tokens of a text with their places, or its first fault.
use Rattle.std.specs.Prelude.{◌≡◌, ℕ, ◌+◌, ◌<◌, ◌==◌, Bool, true, false, not, ◌&&◌, ◌||◌, List, [], ◌∷◌, ◌++◌, length, take, drop, MatchBool, Result, Ok, Err, if◌then◌else◌}
use Rattle.oi_base.specs.declared.ids.Place.{Place}
use Rattle.ir_lexer.specs.declared.fault.LexFault.{LexFault}
use Rattle.ir_lexer.specs.declared.fault.LexFault.TheVariants as faults
use Rattle.ir_lexer.specs.declared.table.Token.{Token}
use Rattle.ir_lexer.specs.declared.table.Token.TheVariants as tokens
use Rattle.ir_lexer.specs.declared.table.Spot.{Spot}
use Rattle.ir_lexer.specs.Alphabet.{is_separator}
use Rattle.ir_lexer.specs.Places.{first_place, place_after}
use Rattle.ir_lexer.specs.Table.{Found, token_at}

-- what is not read yet of a text: its bytes, and the place of the first of them
pub record Unread : Type 0 where
  pub bytes : List ℕ
  pub place : Place

abbrev pub unread : List ℕ → Place → Unread
unread bs p = record { bytes = bs; place = p }

-- a whole text
abbrev pub whole : List ℕ → Unread
whole bs = unread bs first_place

-- what is left after n bytes
abbrev pub skip : ℕ → Unread → Unread
skip n u = unread (drop n u.bytes) (place_after u.place (take n u.bytes))

-- is a comment open after the byte, where one was open before it or not? A comment runs from `;` to the end of its line
abbrev pub is_in_comment : Bool → ℕ → Bool
is_in_comment inside b = (inside || (b == 59)) && not (b == 10)

-- is the byte a separator or in a comment?
abbrev pub is_skipped : Bool → ℕ → Bool
is_skipped inside b = inside || ((b == 59) || is_separator b)

-- how many bytes at the start of a text are separators or in comments, where a comment is open at first or is not
unfoldable pub gap_len : Bool → List ℕ → ℕ
gap_len inside [] = 0
gap_len inside (b ∷ bs) = if is_skipped inside b then 1 + gap_len (is_in_comment inside b) bs else 0

-- the token at the start, its place, and what is left after it
abbrev pub taken : Unread → Found → Result ((Token × Place) × Unread) LexFault
taken u (Ok t) = Ok ((t.0, u.place), skip t.1 u)
taken u (Err e) = Err e

-- the next token with its place, and what is left after it; or the fault that stands in its place
unfoldable pub next_token : Unread → Result ((Token × Place) × Unread) LexFault
next_token u = let here = skip (gap_len false u.bytes) u in taken here (token_at here.place here.bytes)

-- the end of a text
abbrev pub is_end : Token → Bool
is_end tokens.End = true
is_end t = false

-- after the end nothing is left, and after any other token fewer bytes than before it
abbrev pub LeavesFewer : Token → Unread → Unread → Type 0
LeavesFewer t u v = MatchBool (is_end t) (v.bytes ≡ []) (length v.bytes < length u.bytes)

-- these are the next tokens of u, none of them the end, and v is what is left after them
abbrev pub Passes : Unread → List Spot → Unread → Type 0
Passes u [] v = u ≡ v
Passes u (s ∷ ss) v = (w : Unread) × (next_token u ≡ Ok ((s.token, s.place), w)) × (is_end s.token ≡ false) × Passes w ss v

-- these are all tokens of u, the end being the last
abbrev pub HasTokens : Unread → List Spot → Type 0
HasTokens u ts = (front : List Spot) × (v : Unread) × (p : Place) × (w : Unread)
    × (ts ≡ front ++ record { token = tokens.End; place = p } ∷ []) × Passes u front v × (next_token v ≡ Ok ((tokens.End, p), w))

-- u has this fault, its first one, after these tokens
abbrev pub HasFault : Unread → List Spot → LexFault → Type 0
HasFault u front e = (v : Unread) × Passes u front v × (next_token v ≡ Err e)

-- what a text gives: all its tokens, or its first fault
abbrev pub Lexes : Unread → Result (List Spot) LexFault → Type 0
Lexes u (Ok ts) = HasTokens u ts
Lexes u (Err e) = (front : List Spot) × HasFault u front e

-- the fault e is what the lexer gives in place of a token, or memory ran out
abbrev pub IsFaultOf : LexFault → Result ((Token × Place) × Unread) LexFault → Type 0
IsFaultOf faults.NoMemory o = Unit {0}
IsFaultOf e o = o ≡ Err e

-- the fault e is the first of the text, or memory ran out
abbrev pub HasFirstFault : Unread → LexFault → Type 0
HasFirstFault u faults.NoMemory = Unit {0}
HasFirstFault u e = (front : List Spot) × HasFault u front e
