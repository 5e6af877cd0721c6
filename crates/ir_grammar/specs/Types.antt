-- Types.
use Rattle.std.specs.Prelude.{ℕ, zero, suc, Bool, true, false, nat_eq, ◌||◌, List, [], ◌∷◌, ◌++◌, Option, if◌then◌else◌, codes}
use Rattle.oi_base.specs.declared.words.Width.TheVariants.{W1, W8, W16, W32}
use Rattle.ir_lexer.specs.declared.table.Token.{Token}
use Rattle.ir_lexer.specs.declared.table.Token.TheVariants as tokens
use Rattle.ir_core.specs.declared.ty.IrType.{IrType}
use Rattle.ir_core.specs.declared.ty.IrType as types
use Rattle.ir_grammar.specs.declared.kinds.Kind.TheVariants as kinds
use Rattle.ir_grammar.specs.declared.which.Which.TheVariants as limits
use Rattle.ir_grammar.specs.Names.{type_name}
use Rattle.ir_grammar.specs.Sets.{Set, IsSign}
use Rattle.ir_grammar.specs.Forms.{Form, act, ret, token, Verdict, Refuses, Over, ◌>>=◌, either}
use Rattle.ir_grammar.specs.Tokens.{Limits, expect, sign, word, kind, look, words_of, one_word, text, number, listed}

abbrev pub value_types : List (List ℕ × IrType)
value_types = (codes "i32", types.Int W32) ∷ (codes "ptr", types.Ptr) ∷ (codes "i8", types.Int W8) ∷ (codes "i1", types.Int W1) ∷ (codes "i16", types.Int W16) ∷ []

-- the types that are one word, with `void` or without it
abbrev pub scalars : Bool → List (List ℕ × IrType)
scalars true = (codes "void", types.Void) ∷ value_types
scalars false = value_types

-- LOCAL
unfoldable pub named : Form IrType
named = text kinds.Local >>= λ n. act (λ s. (types.Named (type_name n s).0, (type_name n s).1))

-- a word, where no level is left
abbrev pub last_of : Bool → Token → Verdict IrType
last_of void (tokens.Word w) = look (scalars void) w
last_of void (tokens.Sign c) = if nat_eq c 91 || nat_eq c 123 then Over limits.Nesting else Refuses
last_of void t = Refuses

abbrev pub brackets : Set
brackets = IsSign 91 ∷ IsSign 123 ∷ []

abbrev pub type_set : Bool → Set
type_set void = kind kinds.Local ++ words_of (scalars void) ++ brackets

-- [ INT x type ]
abbrev pub array : Option ℕ → Form IrType → Form IrType
array most f = do
  open1 ← expect (sign 91)
  n ← number most
  x ← expect (word (codes "x"))
  t ← f
  close1 ← expect (sign 93)
  ret (types.Array n t)

-- { [ type { , type } ] }
abbrev pub struct : Form IrType → Form IrType
struct f = do
  open1 ← expect (sign 123)
  ts ← listed (type_set true) f
  close1 ← expect (sign 125)
  ret (types.Struct ts)

-- a type with at most so many levels and arrays of at most this length; `void` may be one or not
unfoldable pub type_in : Bool → Option ℕ → ℕ → Form IrType
type_in void most zero = either (kind kinds.Local) named (token (last_of void))
type_in void most (suc n) = either (kind kinds.Local) named (either (words_of (scalars void)) (one_word (scalars void)) (either (sign 91) (array most (type_in true most n)) (struct (type_in true most n))))

unfoldable pub type_form : Limits → Form IrType
type_form l = type_in true l.length l.levels

-- a type but `void`
unfoldable pub value_type : Limits → Form IrType
value_type l = type_in false l.length l.levels
