-- The text of marks: how tokens are spelled, and what stands between them.
use Rattle.std.specs.Prelude.{ℕ, ◌/◌, ◌%◌, ◌==◌, Bool, true, false, not, ◌&&◌, nat_lt, nat_le, List, [], ◌∷◌, ◌++◌, length, flat_map, slice_get, unwrap_or, if◌then◌else◌}
use Rattle.std.specs.List.{list_all}
use Rattle.std.specs.Fmt.{signed_decimal, digit_glyph}
use Rattle.ir_lexer.specs.Alphabet.{is_run_byte}
use Rattle.ir_printer.specs.declared.marks.Sign.{Sign}
use Rattle.ir_printer.specs.declared.marks.Sign.TheVariants as signs
use Rattle.ir_printer.specs.declared.marks.Mark.{Mark}
use Rattle.ir_printer.specs.declared.marks.Mark.TheVariants as marks
use Rattle.ir_printer.specs.Words.{word_text}

-- the names of a module and of the function that is printed
pub record Tables : Type 0 where
  pub symbols : List (List ℕ)
  pub types : List (List ℕ)
  pub locals : List (List ℕ)

abbrev pub tables : List (List ℕ) → List (List ℕ) → List (List ℕ) → Tables
tables symbols types locals = record { symbols = symbols; types = types; locals = locals }

-- the name at a position
abbrev pub name_at : List (List ℕ) → ℕ → List ℕ
name_at names at = unwrap_or (slice_get names at) []

-- ---- strings and names

-- printable ASCII but a quote or a backslash
abbrev pub stands_for_itself : ℕ → Bool
stands_for_itself b = (nat_le 32 b && nat_lt b 127) && (not (b == 34) && not (b == 92))

-- a byte in a string: itself, or a backslash and two hexadecimal digits
abbrev pub escaped : ℕ → List ℕ
escaped b = if stands_for_itself b then b ∷ [] else 92 ∷ digit_glyph true (b / 16) ∷ digit_glyph true (b % 16) ∷ []

-- a string that says this
unfoldable pub quoted : List ℕ → List ℕ
quoted said = 34 ∷ (flat_map escaped said ++ 34 ∷ [])

-- one byte or more that may stand without quotes
abbrev pub is_run : List ℕ → Bool
is_run name = nat_lt 0 (length name) && list_all is_run_byte name

-- a name, in quotes where it needs them
unfoldable pub spelled_name : List ℕ → List ℕ
spelled_name name = if is_run name then name else quoted name

-- ---- marks

abbrev pub sign_byte : Sign → ℕ
sign_byte signs.Equals = 61
sign_byte signs.Comma = 44
sign_byte signs.OpenRound = 40
sign_byte signs.CloseRound = 41
sign_byte signs.OpenSquare = 91
sign_byte signs.CloseSquare = 93
sign_byte signs.OpenCurly = 123
sign_byte signs.CloseCurly = 125

-- what the mark writes itself
abbrev pub spelled : Tables → Mark → List ℕ
spelled n (marks.Word w) = word_text w
spelled n (marks.Int i) = signed_decimal i
spelled n (marks.Str said) = quoted said
spelled n (marks.CStr said) = 99 ∷ quoted said
spelled n (marks.Symbol x) = 64 ∷ spelled_name (name_at n.symbols x.0)
spelled n (marks.TypeName x) = 37 ∷ spelled_name (name_at n.types x.0)
spelled n (marks.Local x) = 37 ∷ spelled_name (name_at n.locals x.0)
spelled n (marks.Label x) = spelled_name (name_at n.locals x.0) ++ 58 ∷ []
spelled n (marks.Spaced s) = sign_byte s ∷ []
spelled n (marks.Closing s) = sign_byte s ∷ []
spelled n (marks.Opening s) = sign_byte s ∷ []
spelled n (marks.Joined s) = sign_byte s ∷ []
spelled n marks.Line = []
spelled n marks.Indented = []

-- the mark takes no gap before it: the sign stands directly after the token before it, or the mark is a gap itself
abbrev pub is_tight : Mark → Bool
is_tight (marks.Closing s) = true
is_tight (marks.Joined s) = true
is_tight marks.Line = true
is_tight marks.Indented = true
is_tight m = false

-- what stands between the mark and the next token
abbrev pub gap_after : Mark → List ℕ
gap_after (marks.Opening s) = []
gap_after (marks.Joined s) = []
gap_after marks.Line = 10 ∷ []
gap_after marks.Indented = 10 ∷ 32 ∷ 32 ∷ []
gap_after m = 32 ∷ []

-- the mark's text after a gap
abbrev pub mark_text : Tables → List ℕ → Mark → List ℕ
mark_text n gap m = if is_tight m then spelled n m else gap ++ spelled n m

-- the text of marks, the first of which stands after this gap
abbrev pub marks_text : Tables → List ℕ → List Mark → List ℕ
marks_text n gap [] = []
marks_text n gap (m ∷ ms) = mark_text n gap m ++ marks_text n (gap_after m) ms
