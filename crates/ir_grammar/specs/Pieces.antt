-- A text as its tokens with their places, the last being its end or its first lexical fault.
use Rattle.std.specs.Prelude.{ℕ, zero, suc, ◌+◌, Bool, true, List, [], ◌∷◌, length, Result, Ok, Err, if◌then◌else◌}
use Rattle.oi_base.specs.declared.ids.Place.{Place}
use Rattle.ir_lexer.specs.declared.fault.LexFault.{LexFault}
use Rattle.ir_lexer.specs.declared.fault.LexFault.TheVariants as lexical
use Rattle.ir_lexer.specs.declared.table.Token.{Token}
use Rattle.ir_lexer.specs.declared.table.Spot.{Spot}
use Rattle.ir_lexer.specs.Lexing.{Unread, whole, next_token, is_end}

-- a token with its place, or the lexical fault that stands in its place
pub data Piece : Type 0 where
  Is : (spot : Spot) → Piece
  Bad : (fault : LexFault) → Piece

abbrev pub lexical_place : LexFault → Place
lexical_place (lexical.BadByte p b) = p
lexical_place (lexical.OpenString p) = p
lexical_place (lexical.LongNumber p) = p
lexical_place lexical.NoMemory = record { line = 0; column = 0 }

abbrev pub piece_place : Piece → Place
piece_place (Is s) = s.place
piece_place (Bad e) = lexical_place e

-- the end or a lexical fault, after which a text has no piece
abbrev pub is_last : Piece → Bool
is_last (Is s) = is_end s.token
is_last (Bad e) = true

-- the piece that the lexer gives, and those after it
abbrev pub then_more : Result ((Token × Place) × Unread) LexFault → (Unread → List Piece) → List Piece
then_more (Ok t) more = Is (record { token = t.0.0; place = t.0.1 }) ∷ (if is_end t.0.0 then [] else more t.1)
then_more (Err e) more = Bad e ∷ []

-- the pieces of what is not read yet, at most so many
unfoldable pub pieces_at : ℕ → Unread → List Piece
pieces_at zero u = []
pieces_at (suc n) u = then_more (next_token u) (λ v. pieces_at n v)

-- each piece but the last takes a byte
unfoldable pub pieces_of : Unread → List Piece
pieces_of u = pieces_at (length u.bytes + 1) u

-- the pieces of a text
abbrev pub pieces : List ℕ → List Piece
pieces bytes = pieces_of (whole bytes)
