-- The tokens of marks.
use Rattle.std.specs.Prelude.{◌≡◌, ℕ, ◌<◌, ◌^◌, Bool, nat_lt, List, [], ◌∷◌, nat_abs, IsTrue}
use Rattle.std.specs.List.{list_all}
use Rattle.ir_lexer.specs.declared.table.Token.{Token}
use Rattle.ir_lexer.specs.declared.table.Token.TheVariants as tokens
use Rattle.ir_lexer.specs.Strings.{is_name}
use Rattle.ir_grammar.specs.Pieces.{Piece, Is, Bad}
use Rattle.ir_printer.specs.declared.marks.Mark.{Mark}
use Rattle.ir_printer.specs.declared.marks.Mark.TheVariants as marks
use Rattle.ir_printer.specs.Words.{word_text}
use Rattle.ir_printer.specs.Layout.{Tables, name_at, sign_byte}

-- a mark's token before others; the begin of a line is none
abbrev pub with_token : Tables → Mark → List Token → List Token
with_token n (marks.Word w) ts = tokens.Word (word_text w) ∷ ts
with_token n (marks.Int i) ts = tokens.Int i ∷ ts
with_token n (marks.Str said) ts = tokens.Str said ∷ ts
with_token n (marks.CStr said) ts = tokens.CStr said ∷ ts
with_token n (marks.Symbol x) ts = tokens.Global (name_at n.symbols x.0) ∷ ts
with_token n (marks.TypeName x) ts = tokens.Local (name_at n.types x.0) ∷ ts
with_token n (marks.Local x) ts = tokens.Local (name_at n.locals x.0) ∷ ts
with_token n (marks.Label x) ts = tokens.Label (name_at n.locals x.0) ∷ ts
with_token n (marks.Spaced s) ts = tokens.Sign (sign_byte s) ∷ ts
with_token n (marks.Closing s) ts = tokens.Sign (sign_byte s) ∷ ts
with_token n (marks.Opening s) ts = tokens.Sign (sign_byte s) ∷ ts
with_token n (marks.Joined s) ts = tokens.Sign (sign_byte s) ∷ ts
with_token n marks.Line ts = ts
with_token n marks.Indented ts = ts

abbrev pub tokens_of : Tables → List Mark → List Token
tokens_of n [] = []
tokens_of n (m ∷ ms) = with_token n m (tokens_of n ms)

-- the pieces are these tokens, wherever they stand
abbrev pub Are : List Piece → List Token → Type 0
Are [] [] = Unit {0}
Are [] (t ∷ ts) = ⊥
Are (p ∷ ps) [] = ⊥
Are (Is s ∷ ps) (t ∷ ts) = (s.token ≡ t) × Are ps ts
Are (Bad e ∷ ps) (t ∷ ts) = ⊥

-- ---- what can be spelled

abbrev pub is_byte : ℕ → Bool
is_byte b = nat_lt b 256

abbrev pub AreBytes : List ℕ → Type 0
AreBytes bs = IsTrue (list_all is_byte bs)

-- some bytes, and no zero byte
abbrev pub IsName : List ℕ → Type 0
IsName name = IsTrue (is_name name) × AreBytes name

-- a number of at most 30 digits, bytes, and names
abbrev pub IsSpellable : Tables → Mark → Type 0
IsSpellable n (marks.Word w) = Unit {0}
IsSpellable n (marks.Int i) = nat_abs i < 10 ^ 30
IsSpellable n (marks.Str said) = AreBytes said
IsSpellable n (marks.CStr said) = AreBytes said
IsSpellable n (marks.Symbol x) = IsName (name_at n.symbols x.0)
IsSpellable n (marks.TypeName x) = IsName (name_at n.types x.0)
IsSpellable n (marks.Local x) = IsName (name_at n.locals x.0)
IsSpellable n (marks.Label x) = IsName (name_at n.locals x.0)
IsSpellable n (marks.Spaced s) = Unit {0}
IsSpellable n (marks.Closing s) = Unit {0}
IsSpellable n (marks.Opening s) = Unit {0}
IsSpellable n (marks.Joined s) = Unit {0}
IsSpellable n marks.Line = Unit {0}
IsSpellable n marks.Indented = Unit {0}

abbrev pub AreSpellable : Tables → List Mark → Type 0
AreSpellable n [] = Unit {0}
AreSpellable n (m ∷ ms) = IsSpellable n m × AreSpellable n ms
