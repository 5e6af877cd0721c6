-- The table of tokens as a relation: which bytes spell a token.
use Rattle.std.specs.Prelude.{◌≡◌, ℕ, ◌<◌, ◌≤◌, ◌==◌, Bool, false, ◌||◌, ◌⊎◌, List, [], ◌∷◌, ◌++◌, length, IsTrue, IsFalse}
use Rattle.std.specs.List.{list_all, list_any}
use Rattle.std.specs.Str.Parse.{signed_digits_value}
use Rattle.ir_lexer.specs.declared.table.Token.{Token}
use Rattle.ir_lexer.specs.declared.table.Token.TheVariants.{Int, Word, Label, Local, Global, Str, CStr, Meta, Hash, Sign, End}
use Rattle.ir_lexer.specs.Alphabet.{is_run_byte, is_sign, without_minus, is_int}
use Rattle.ir_lexer.specs.Strings.{unescaped, is_name}

-- one run byte or more
abbrev pub IsRun : List ℕ → Type 0
IsRun bs = (0 < length bs) × IsTrue (list_all is_run_byte bs)

-- a string that says this: `"`, any bytes but `"`, `"`
abbrev pub Quotes : List ℕ → List ℕ → Type 0
Quotes said bs = (raw : List ℕ) × (bs ≡ 34 ∷ (raw ++ 34 ∷ [])) × IsFalse (list_any (λ b. b == 34) raw) × (said ≡ unescaped raw)

-- a run that is this name, or a string that says it
abbrev pub Names : List ℕ → List ℕ → Type 0
Names name bs = (IsRun bs × (name ≡ bs)) ⊎ (Quotes name bs × IsTrue (is_name name))

-- the bytes are a form of the token
abbrev pub Spells : Token → List ℕ → Type 0
Spells (Int n) bs = IsRun bs × IsTrue (is_int bs) × (length (without_minus bs) ≤ 30) × (n ≡ signed_digits_value 10 bs)
Spells (Word w) bs = IsRun bs × IsFalse (is_int bs) × (w ≡ bs)
Spells (Label name) bs = (form : List ℕ) × (bs ≡ form ++ 58 ∷ []) × Names name form
Spells (Local name) bs = (form : List ℕ) × (bs ≡ 37 ∷ form) × Names name form
Spells (Global name) bs = (form : List ℕ) × (bs ≡ 64 ∷ form) × Names name form
Spells (Str said) bs = Quotes said bs
Spells (CStr said) bs = (form : List ℕ) × (bs ≡ 99 ∷ form) × Quotes said form
Spells (Meta name) bs = (bs ≡ 33 ∷ name) × IsRun name
Spells (Hash name) bs = (bs ≡ 35 ∷ name) × IsRun name
Spells (Sign b) bs = (bs ≡ b ∷ []) × IsTrue (is_sign b)
Spells End bs = bs ≡ []

-- is the byte one with which a token before it may go on: a run byte, `:` or a quote?
abbrev pub continues : List ℕ → Bool
continues [] = false
continues (b ∷ bs) = is_run_byte b || ((b == 58) || (b == 34))
