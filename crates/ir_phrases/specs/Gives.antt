-- What a call of the reader answers, seen beside the reading of a form.
use Rattle.std.specs.Prelude.{◌≡◌, ℕ, Bool, true, false, List, [], ◌∷◌, Option, Some, None, Result, Ok, Err, if◌then◌else◌}
use Rattle.oi_base.specs.declared.ids.Place.{Place}
use Rattle.ir_lexer.specs.declared.table.Token.{Token}
use Rattle.ir_lexer.specs.declared.table.Token.TheVariants as tokens
use Rattle.ir_lexer.specs.Lexing.{is_end}
use Rattle.ir_phrases.specs.declared.ahead.Ahead.{Ahead}
use Rattle.ir_phrases.specs.declared.ahead.Ahead.TheVariants as aheads
use Rattle.ir_phrases.specs.declared.fault.ReadFault.{ReadFault}
use Rattle.ir_phrases.specs.declared.fault.ReadFault.TheVariants as faults
use Rattle.ir_grammar.specs.declared.which.Which.{Which}
use Rattle.ir_grammar.specs.Pieces.{Piece, Is, Bad}
use Rattle.ir_grammar.specs.Words.{is_left_out}
use Rattle.ir_grammar.specs.Forms.{Left, Outcome, Fault, Why, Refused, Exceeds, Verdict, Takes, Refuses, place_of}

-- the pieces left, where this stands next and these after it
abbrev pub with_ahead : Ahead → List Piece → List Piece
with_ahead (aheads.Token s) ts = Is s ∷ (if is_end s.token then [] else ts)
with_ahead (aheads.Fault e) ts = Bad e ∷ []
with_ahead aheads.Nothing ts = []

abbrev pub rest_of : List Piece → List Piece
rest_of [] = []
rest_of (t ∷ ts) = ts

abbrev pub left_out_if : Bool → Place → ReadFault
left_out_if true p = faults.LeftOut p
left_out_if false p = faults.Syntax p

-- the fault of a token with which nothing goes on
abbrev pub refused : List Piece → ReadFault
refused [] = faults.Syntax (place_of [])
refused (Is s ∷ ts) = left_out_if (is_left_out s.token) s.place
refused (Bad e ∷ ts) = faults.Lexical e

abbrev pub said : Why → List Piece → ReadFault
said Refused ts = refused ts
said (Exceeds w) ts = faults.Limit (place_of ts) w

abbrev pub fault_of : Fault → ReadFault
fault_of d = said d.why d.at

-- a fault that is answered is that of the reading, unless memory ran out
abbrev pub Fails : {A : Type 0} → ReadFault → Outcome A → Type 0
Fails faults.NoMemory o = Unit {0}
Fails e o = (d : Fault) × (o ≡ Err d) × (fault_of d ≡ e)

-- what is answered, and what the reader has left, is what the reading gives
abbrev pub Gives : {A : Type 0} → Result A ReadFault → Left → Outcome A → Type 0
Gives (Ok a) new o = o ≡ Ok (a, new)
Gives (Err e) new o = Fails e o

-- the same, whatever is left
abbrev pub GivesAll : {A : Type 0} → Result A ReadFault → Outcome A → Type 0
GivesAll (Ok a) o = (l : Left) × (o ≡ Ok (a, l))
GivesAll (Err e) o = Fails e o

-- the reader has passed what stood next, unless memory ran out
abbrev pub Passes : Result Unit ReadFault → Left → Left → Type 0
Passes (Ok u) old new = new ≡ record old { tokens = rest_of old.tokens }
Passes (Err e) old new = e ≡ faults.NoMemory

-- the value of a verdict
abbrev pub IsVerdict : {A : Type 0} → Option A → Verdict A → Type 0
IsVerdict None v = v ≡ Refuses
IsVerdict (Some a) v = v ≡ Takes a

-- the word that stands next, if one does
abbrev pub word_in : Token → Option (List ℕ)
word_in (tokens.Word w) = Some w
word_in t = None

abbrev pub head_word : List Piece → Option (List ℕ)
head_word [] = None
head_word (Is s ∷ ts) = word_in s.token
head_word (Bad e ∷ ts) = None

-- the name after `@` that stands next, if one does
abbrev pub global_in : Token → Option (List ℕ)
global_in (tokens.Global n) = Some n
global_in t = None

abbrev pub head_global : List Piece → Option (List ℕ)
head_global [] = None
head_global (Is s ∷ ts) = global_in s.token
head_global (Bad e ∷ ts) = None

-- the fault where whatever token stands next exceeds a limit
abbrev pub beyond : Which → List Piece → ReadFault
beyond w [] = refused []
beyond w (Is s ∷ ts) = faults.Limit s.place w
beyond w (Bad e ∷ ts) = faults.Lexical e
