-- Forms of one token, and of a form any number of times.
use Rattle.std.specs.Prelude.{ℕ, ℤ, pos, negsuc, Bool, true, false, nat_lt, List, [], ◌∷◌, ◌++◌, Option, Some, None, if◌then◌else◌}
use Rattle.std.specs.Str.{bytes_eq}
use Rattle.ir_lexer.specs.declared.table.Token.{Token}
use Rattle.ir_lexer.specs.declared.table.Token.TheVariants as tokens
use Rattle.ir_core.specs.declared.limits.TheConstants.{MOST_FUNCTIONS, MOST_LENGTH, MOST_LEVELS, MOST_PARAMS}
use Rattle.ir_grammar.specs.declared.kinds.Kind.{Kind}
use Rattle.ir_grammar.specs.declared.which.Which.{Which}
use Rattle.ir_grammar.specs.declared.which.Which.TheVariants as limits
use Rattle.ir_grammar.specs.Sets.{Set, IsWord, IsSign, OfKind, has}
use Rattle.ir_grammar.specs.Forms.{Form, ret, token, Verdict, Takes, Refuses, Over, ◌>>=◌, either, rounds}

-- ---- limits

-- the limits of a text, each a number or none: definitions, parameters or arguments, lengths, and levels of types and initialisers
pub record Limits : Type 0 where
  pub functions : Option ℕ
  pub params : Option ℕ
  pub length : Option ℕ
  pub levels : ℕ

abbrev pub stated : Limits
stated = record { functions = Some MOST_FUNCTIONS; params = Some MOST_PARAMS; length = Some MOST_LENGTH; levels = MOST_LEVELS }

-- without limits, where so many levels are enough
abbrev pub unlimited : ℕ → Limits
unlimited n = record { functions = None; params = None; length = None; levels = n }

abbrev pub is_past : Option ℕ → ℕ → Bool
is_past None n = false
is_past (Some most) n = nat_lt most n

-- ---- one token

abbrev pub allows : Bool → Verdict Unit
allows true = Takes tt
allows false = Refuses

abbrev pub expect : Set → Form Unit
expect z = token (λ t. allows (has z t))

abbrev pub sign : ℕ → Set
sign c = IsSign c ∷ []

abbrev pub word : List ℕ → Set
word w = IsWord w ∷ []

abbrev pub kind : Kind → Set
kind k = OfKind k ∷ []

-- a table of words
abbrev pub look : {A : Type 0} → List (List ℕ × A) → List ℕ → Verdict A
look [] w = Refuses
look (e ∷ es) w = if bytes_eq w e.0 then Takes e.1 else look es w

abbrev pub words_of : {A : Type 0} → List (List ℕ × A) → Set
words_of [] = []
words_of (e ∷ es) = IsWord e.0 ∷ words_of es

abbrev pub word_of : {A : Type 0} → List (List ℕ × A) → Token → Verdict A
word_of table (tokens.Word w) = look table w
word_of table t = Refuses

abbrev pub one_word : {A : Type 0} → List (List ℕ × A) → Form A
one_word table = token (word_of table)

-- the name or the string of a token
abbrev pub bytes_of : Token → List ℕ
bytes_of (tokens.Label n) = n
bytes_of (tokens.Local n) = n
bytes_of (tokens.Global n) = n
bytes_of (tokens.Str n) = n
bytes_of (tokens.CStr n) = n
bytes_of (tokens.Meta n) = n
bytes_of (tokens.Hash n) = n
bytes_of t = []

abbrev pub text_if : Bool → List ℕ → Verdict (List ℕ)
text_if true n = Takes n
text_if false n = Refuses

abbrev pub text_of : Kind → Token → Verdict (List ℕ)
text_of k t = text_if (has (kind k) t) (bytes_of t)

-- the name or the string of a token of this kind
abbrev pub text : Kind → Form (List ℕ)
text k = token (text_of k)

abbrev pub int_of : Token → Verdict ℤ
int_of (tokens.Int n) = Takes n
int_of t = Refuses

abbrev pub int : Form ℤ
int = token int_of

-- a length, count or alignment; without a limit one below zero stands for zero
abbrev pub below_zero : Option ℕ → Verdict ℕ
below_zero None = Takes 0
below_zero (Some most) = Over limits.Length

abbrev pub in_range : Option ℕ → ℤ → Verdict ℕ
in_range most (pos n) = if is_past most n then Over limits.Length else Takes n
in_range most (negsuc n) = below_zero most

abbrev pub number_of : Option ℕ → Token → Verdict ℕ
number_of most (tokens.Int n) = in_range most n
number_of most t = Refuses

abbrev pub number : Option ℕ → Form ℕ
number most = token (number_of most)

-- whatever comes exceeds a limit
abbrev pub over : {A : Type 0} → Which → Form A
over w = token (λ t. Over w)

-- ---- many

-- a form any number of times, without values
abbrev pub skip : Set → Form Unit → Form Unit
skip z f = rounds (λ x. z) (λ x. f) (λ x. ret tt) tt

-- what a form gives any number of times, after what is there
abbrev pub many : {A : Type 0} → Set → Form A → List A → Form (List A)
many z f = rounds (λ xs. z) (λ xs. f >>= λ x. ret (xs ++ x ∷ [])) (λ xs. ret xs)

-- , item
abbrev pub after_comma : {A : Type 0} → Form A → Form A
after_comma f = expect (sign 44) >>= λ c. f

-- [ item { , item } ], where an item begins so
abbrev pub listed : {A : Type 0} → Set → Form A → Form (List A)
listed z f = either z (f >>= λ a. many (sign 44) (after_comma f) (a ∷ [])) (ret [])
