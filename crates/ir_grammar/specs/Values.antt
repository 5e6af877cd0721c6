-- Values and initialisers.
use Rattle.std.specs.Prelude.{ℕ, zero, suc, true, false, nat_eq, ◌||◌, List, [], ◌∷◌, ◌++◌, Option, if◌then◌else◌, codes}
use Rattle.ir_lexer.specs.declared.table.Token.{Token}
use Rattle.ir_lexer.specs.declared.table.Token.TheVariants as tokens
use Rattle.ir_core.specs.declared.module.SymId.{SymId}
use Rattle.ir_core.specs.declared.constant.Const.{Const}
use Rattle.ir_core.specs.declared.constant.Const as consts
use Rattle.ir_core.specs.declared.constant.TypedConst.{TypedConst}
use Rattle.ir_core.specs.declared.constant.TypedCount.{TypedCount}
use Rattle.ir_core.specs.declared.op.Operand.{Operand}
use Rattle.ir_core.specs.declared.op.Operand.TheVariants as operands
use Rattle.ir_core.specs.declared.op.TypedOperand.{TypedOperand}
use Rattle.ir_grammar.specs.declared.kinds.Kind.TheVariants as kinds
use Rattle.ir_grammar.specs.declared.which.Which.TheVariants as limits
use Rattle.ir_grammar.specs.Names.{symbol, local}
use Rattle.ir_grammar.specs.Sets.{Set, IsWord}
use Rattle.ir_grammar.specs.Forms.{Form, act, ret, token, Verdict, Refuses, Over, ◌>>=◌, either}
use Rattle.ir_grammar.specs.Tokens.{Limits, expect, sign, word, kind, look, words_of, one_word, text, int, skip, many, after_comma, listed}
use Rattle.ir_grammar.specs.Types.{type_in, type_form, type_set}

abbrev pub const_words : List (List ℕ × Const)
const_words = (codes "true", consts.Bool true) ∷ (codes "false", consts.Bool false) ∷ (codes "null", consts.Null) ∷ (codes "undef", consts.Undef) ∷ (codes "poison", consts.Poison) ∷ []

abbrev pub gep_word : Set
gep_word = word (codes "getelementptr")

abbrev pub gep_flag : Set
gep_flag = IsWord (codes "inbounds") ∷ IsWord (codes "nuw") ∷ IsWord (codes "nusw") ∷ []

unfoldable pub gep_flags : Form Unit
gep_flags = skip gep_flag (expect gep_flag)

-- GLOBAL
unfoldable pub global : Form SymId
global = text kinds.Global >>= λ n. act (symbol n)

-- type INT, where so many levels are left
abbrev pub index : Option ℕ → ℕ → Form TypedCount
index most n = type_in true most n >>= λ t. int >>= λ i. ret (record { ty = t; count = i })

-- what stands after `getelementptr` and its flags in a constant: `(` type `,` ptr GLOBAL { `,` type INT } `)`
unfoldable pub gep_rest : Option ℕ → ℕ → Form Const
gep_rest most n = do
  open1 ← expect (sign 40)
  t ← type_in true most n
  c ← expect (sign 44)
  p ← expect (word (codes "ptr"))
  g ← global
  is ← many (sign 44) (after_comma (index most n)) []
  close1 ← expect (sign 41)
  ret (consts.Gep t g is)

unfoldable pub gep : Option ℕ → ℕ → Form Const
gep most n = expect gep_word >>= λ w. gep_flags >>= λ f. gep_rest most n

abbrev pub address : Form Const
address = global >>= λ g. ret (consts.Address g)

abbrev pub integer : Form Const
integer = int >>= λ i. ret (consts.Int i)

abbrev pub const_set : Set
const_set = kind kinds.Global ++ gep_word ++ kind kinds.Int ++ words_of const_words

-- a constant as a value, where so many levels are left
unfoldable pub const_at : Option ℕ → ℕ → Form Const
const_at most n = either (kind kinds.Global) address (either gep_word (gep most n) (either (kind kinds.Int) integer (one_word const_words)))

unfoldable pub constant : Limits → Form Const
constant l = const_at l.length l.levels

unfoldable pub local_value : Form Operand
local_value = text kinds.Local >>= λ n. act (λ s. (operands.Local (local n s).0, (local n s).1))

abbrev pub value_set : Set
value_set = kind kinds.Local ++ const_set

unfoldable pub value : Limits → Form Operand
value l = either (kind kinds.Local) local_value (constant l >>= λ c. ret (operands.Const c))

-- type value
unfoldable pub typed : Limits → Form TypedOperand
typed l = type_form l >>= λ t. value l >>= λ v. ret (record { ty = t; value = v })

-- ---- initialisers

abbrev pub zero_init : Form Const
zero_init = expect (word (codes "zeroinitializer")) >>= λ w. ret consts.Zero

abbrev pub bytes : Form Const
bytes = text kinds.CStr >>= λ b. ret (consts.Bytes b)

-- a constant's word, where no level is left
abbrev pub last_const_of : Token → Verdict Const
last_const_of (tokens.Word w) = look const_words w
last_const_of (tokens.Sign c) = if nat_eq c 91 || nat_eq c 123 then Over limits.Nesting else Refuses
last_const_of t = Refuses

-- type init
abbrev pub typed_init : Form Const → Option ℕ → ℕ → Form TypedConst
typed_init f most n = type_in true most n >>= λ t. f >>= λ c. ret (record { ty = t; value = c })

abbrev pub array_init : Form TypedConst → Form Const
array_init f = do
  open1 ← expect (sign 91)
  cs ← listed (type_set true) f
  close1 ← expect (sign 93)
  ret (consts.Array cs)

abbrev pub struct_init : Form TypedConst → Form Const
struct_init f = do
  open1 ← expect (sign 123)
  cs ← listed (type_set true) f
  close1 ← expect (sign 125)
  ret (consts.Struct cs)

-- an initialiser with at most so many levels
unfoldable pub init_at : Option ℕ → ℕ → Form Const
init_at most zero =
    either (kind kinds.Global) address (either gep_word (gep most zero) (either (kind kinds.Int) integer
    (either (word (codes "zeroinitializer")) zero_init (either (kind kinds.CStr) bytes (token last_const_of)))))
init_at most (suc n) =
    either (kind kinds.Global) address (either gep_word (gep most (suc n)) (either (kind kinds.Int) integer
    (either (word (codes "zeroinitializer")) zero_init (either (kind kinds.CStr) bytes
    (either (sign 91) (array_init (typed_init (init_at most n) most n)) (either (sign 123) (struct_init (typed_init (init_at most n) most n)) (one_word const_words)))))))

unfoldable pub init : Limits → Form Const
init l = init_at l.length l.levels
