-- What it is that the marks of a part are read as that part again.
use Rattle.std.specs.Prelude.{◌≡◌, ℕ, ◌+◌, ◌<◌, ◌≤◌, ◌^◌, max, Bool, true, List, [], ◌∷◌, ◌++◌, length, fold, nat_abs}
use Rattle.ir_lexer.specs.declared.table.Token.{Token}
use Rattle.ir_lexer.specs.declared.table.Token.TheVariants as tokens
use Rattle.ir_grammar.specs.Pieces.{Piece, Is, Bad}
use Rattle.ir_grammar.specs.Names.{Names, Begins}
use Rattle.ir_grammar.specs.Forms.{Form}
use Rattle.ir_printer.specs.declared.marks.Mark.{Mark}
use Rattle.ir_printer.specs.declared.marks.Mark.TheVariants as marks
use Rattle.ir_printer.specs.Layout.{Tables}
use Rattle.ir_printer.specs.Tokens.{tokens_of, Are, IsName, AreBytes, AreSpellable}

-- how many names of each kind have come
pub record Counts : Type 0 where
  pub symbols : ℕ
  pub types : ℕ
  pub locals : ℕ

abbrev pub counts : Names → Counts
counts s = record { symbols = length s.symbols; types = length s.types; locals = length s.locals }

-- after the name at a position
abbrev pub past : ℕ → ℕ → ℕ
past n k = max n (k + 1)

-- after a mark
abbrev pub after_mark : Counts → Mark → Counts
after_mark c (marks.Symbol x) = record c { symbols = past c.symbols x.0 }
after_mark c (marks.TypeName x) = record c { types = past c.types x.0 }
after_mark c (marks.Local x) = record c { locals = past c.locals x.0 }
after_mark c (marks.Label x) = record c { locals = past c.locals x.0 }
after_mark c m = c

abbrev pub after : Counts → List Mark → Counts
after c ms = fold after_mark c ms

-- a mark's name has come, or is the next one
abbrev pub IsReady : Counts → Mark → Type 0
IsReady c (marks.Symbol x) = x.0 ≤ c.symbols
IsReady c (marks.TypeName x) = x.0 ≤ c.types
IsReady c (marks.Local x) = x.0 ≤ c.locals
IsReady c (marks.Label x) = x.0 ≤ c.locals
IsReady c m = Unit {0}

-- each name has come, or is the next one where it stands
abbrev pub AreReady : Counts → List Mark → Type 0
AreReady c [] = Unit {0}
AreReady c (m ∷ ms) = IsReady c m × AreReady (after_mark c m) ms

-- the names so far begin the tables; local names count inside a function alone
abbrev pub Front : Bool → Tables → Names → Type 0
Front inside n s = Begins n.symbols s.symbols × Begins n.types s.types × (inside ≡ true → Begins n.locals s.locals)

-- what every token of a text of bytes meets
abbrev pub IsSound : Token → Type 0
IsSound (tokens.Int i) = nat_abs i < 10 ^ 30
IsSound (tokens.Label name) = IsName name
IsSound (tokens.Local name) = IsName name
IsSound (tokens.Global name) = IsName name
IsSound (tokens.Str said) = AreBytes said
IsSound (tokens.CStr said) = AreBytes said
IsSound t = Unit {0}

abbrev pub AreSound : List Piece → Type 0
AreSound [] = Unit {0}
AreSound (Is s ∷ us) = IsSound s.token × AreSound us
AreSound (Bad e ∷ us) = AreSound us

-- pieces of these tokens are read as this value, wherever its names are ready
abbrev pub Rereads : {A : Type 0} → Bool → Tables → Form A → A → List Mark → Type 0
Rereads inside n f a ms = (s : Names) (us : List Piece) → Front inside n s → AreReady (counts s) ms → Are us (tokens_of n ms) → (t : Names) × f.reads s us a t × Front inside n t × (counts t ≡ after (counts s) ms)

-- what is said of a value that was read from these names to those, and of its marks
pub record IsReprinted {A : Type 0} (inside : Bool) (n : Tables) (f : Form A) (s : Names) (a : A) (t : Names) (ms : List Mark) : Type 0 where
  pub ready : AreReady (counts s) ms
  pub counted : counts t ≡ after (counts s) ms
  pub spellable : AreSpellable n ms
  pub rereads : Rereads inside n f a ms
