-- Operations.
use Rattle.std.specs.Prelude.{ℕ, ◌+◌, pos, Bool, true, false, List, [], ◌∷◌, ◌++◌, length, take, Option, Some, None, if◌then◌else◌, codes}
use Rattle.std.specs.Str.{bytes_eq}
use Rattle.oi_base.specs.declared.ids.Place.{Place}
use Rattle.ir_lexer.specs.declared.table.Token.{Token}
use Rattle.ir_lexer.specs.declared.table.Token.TheVariants as tokens
pub use Rattle.ir_core.specs.Opcodes.{bin_words, order_words, cast_words}
use Rattle.ir_core.specs.declared.ty.IrType.{IrType, Void}
use Rattle.ir_core.specs.declared.module.SymId.{SymId}
use Rattle.ir_core.specs.declared.constant.TypedCount.{TypedCount}
use Rattle.ir_core.specs.declared.op.LocalId.{LocalId}
use Rattle.ir_core.specs.declared.op.TypedOperand.{TypedOperand}
use Rattle.ir_core.specs.declared.op.Pair.{Pair}
use Rattle.ir_core.specs.declared.op.Op.{Op}
use Rattle.ir_core.specs.declared.op.Op.TheVariants as ops
use Rattle.ir_core.specs.declared.func.Instr.{Instr}
use Rattle.ir_grammar.specs.declared.kinds.Kind.TheVariants as kinds
use Rattle.ir_grammar.specs.declared.kinds.Barred.TheVariants as barred
use Rattle.ir_grammar.specs.declared.which.Which.TheVariants as limits
use Rattle.ir_grammar.specs.Names.{Names, symbol, local, define, define_next}
use Rattle.ir_grammar.specs.Sets.{Set, IsWord}
use Rattle.ir_grammar.specs.Forms.{Form, act, ret, token, Verdict, Takes, Refuses, ◌>>=◌, either, choose, rounds, located}
use Rattle.ir_grammar.specs.Tokens.{Limits, is_past, expect, sign, word, kind, words_of, one_word, text, number, over, skip}
use Rattle.ir_grammar.specs.Types.{type_form, value_type, type_set}
use Rattle.ir_grammar.specs.Values.{gep_word, gep_flags, value, typed}
use Rattle.ir_grammar.specs.Groups.{group}
use Rattle.ir_grammar.specs.Attributes.{note, notes, no_marks, attribute_list, argument}

-- ---- items and then notes, each after a comma

-- what stands after the comma: a note, or an item, where no note came before; with whether one came
abbrev pub listing : {A : Type 0} → Form A → Bool → List A → Form (Bool × List A)
listing f true xs = note >>= λ n. ret (true, xs)
listing f false xs = either (kind kinds.Meta) (note >>= λ n. ret (true, xs)) (f >>= λ a. ret (false, xs ++ a ∷ []))

abbrev pub one_listed : {A : Type 0} → Form A → Bool × List A → Form (Bool × List A)
one_listed f x = expect (sign 44) >>= λ c. listing f x.0 x.1

-- { , item } { , note }
abbrev pub items_and_notes : {A : Type 0} → Form A → List A → Form (List A)
items_and_notes f xs = rounds (λ x. sign 44) (one_listed f) (λ x. ret x.1) (false, xs)

-- [ , align INT ] { , note }
abbrev pub align_word : Set
align_word = word (codes "align")

-- `align` INT { , note }
unfoldable pub align_then_notes : Limits → Form (Option ℕ)
align_then_notes l = expect align_word >>= λ w. number l.length >>= λ n. notes >>= λ e. ret (Some n)

-- note { , note }
unfoldable pub note_then_notes : Form Unit
note_then_notes = note >>= λ e. notes

-- after the comma
unfoldable pub align_or_notes : Limits → Form (Option ℕ)
align_or_notes l = either align_word (align_then_notes l) (note_then_notes >>= λ e. ret None)

unfoldable pub align_and_notes : Limits → Form (Option ℕ)
align_and_notes l = either (sign 44) (expect (sign 44) >>= λ c. align_or_notes l) (ret None)

-- ---- operations with a result

abbrev pub bin_flag : Set
bin_flag = IsWord (codes "nuw") ∷ IsWord (codes "nsw") ∷ IsWord (codes "exact") ∷ IsWord (codes "disjoint") ∷ []

-- BIN { nuw | nsw | exact | disjoint } type value , value
unfoldable pub bin : Limits → Form Op
bin l = do
  o ← one_word bin_words
  f ← skip bin_flag (expect bin_flag)
  t ← type_form l
  a ← value l
  c ← expect (sign 44)
  b ← value l
  n ← notes
  ret (ops.Bin o t a b)

abbrev pub icmp_word : Set
icmp_word = word (codes "icmp")

abbrev pub samesign : Set
samesign = word (codes "samesign")

abbrev pub may_samesign : Form Unit
may_samesign = either samesign (expect samesign) (ret tt)

-- icmp [ samesign ] CC type value , value
unfoldable pub icmp : Limits → Form Op
icmp l = do
  w ← expect icmp_word
  f ← may_samesign
  o ← one_word order_words
  t ← type_form l
  a ← value l
  c ← expect (sign 44)
  b ← value l
  n ← notes
  ret (ops.Icmp o t a b)

abbrev pub select_word : Set
select_word = word (codes "select")

-- select type value , type value , type value
unfoldable pub select : Limits → Form Op
select l = do
  w ← expect select_word
  a ← typed l
  c ← expect (sign 44)
  b ← typed l
  d ← expect (sign 44)
  e ← typed l
  n ← notes
  ret (ops.Select a b e)

abbrev pub cast_flag : Set
cast_flag = IsWord (codes "nuw") ∷ IsWord (codes "nsw") ∷ IsWord (codes "nneg") ∷ []

-- (zext | sext | trunc) { nuw | nsw | nneg } type value to type
unfoldable pub cast : Limits → Form Op
cast l = do
  o ← one_word cast_words
  f ← skip cast_flag (expect cast_flag)
  a ← typed l
  w ← expect (word (codes "to"))
  t ← type_form l
  n ← notes
  ret (ops.Cast o a t)

abbrev pub alloca_word : Set
alloca_word = word (codes "alloca")

-- type INT [ , align INT ] { , note }
unfoldable pub count_and_rest : Limits → Form (Option TypedCount × Option ℕ)
count_and_rest l = do
  t ← type_form l
  n ← number l.length
  a ← align_and_notes l
  ret (Some (record { ty = t; count = pos n }), a)

abbrev pub align_alone : Limits → Form (Option TypedCount × Option ℕ)
align_alone l = align_or_notes l >>= λ a. ret (None, a)

abbrev pub after_alloca : Limits → Form (Option TypedCount × Option ℕ)
after_alloca l = either (type_set true) (count_and_rest l) (align_alone l)

abbrev pub alloca_rest : Limits → Form (Option TypedCount × Option ℕ)
alloca_rest l = either (sign 44) (expect (sign 44) >>= λ c. after_alloca l) (ret (None, None))

unfoldable pub alloca : Limits → Form Op
alloca l = do
  w ← expect alloca_word
  t ← type_form l
  x ← alloca_rest l
  ret (ops.Alloca t x.0 x.1)

abbrev pub load_word : Set
load_word = word (codes "load")

-- load type , type value [ , align INT ]
unfoldable pub load : Limits → Form Op
load l = do
  w ← expect load_word
  t ← type_form l
  c ← expect (sign 44)
  a ← typed l
  n ← align_and_notes l
  ret (ops.Load t a n)

-- what stands after `getelementptr` and its flags: type , type value { , type value }
unfoldable pub gep_op_rest : Limits → Form Op
gep_op_rest l = do
  t ← type_form l
  c ← expect (sign 44)
  a ← typed l
  is ← items_and_notes (typed l) []
  ret (ops.Gep t a is)

unfoldable pub gep_op : Limits → Form Op
gep_op l = expect gep_word >>= λ w. gep_flags >>= λ f. gep_op_rest l

abbrev pub phi_word : Set
phi_word = word (codes "phi")

-- `[` value , LOCAL `]`
unfoldable pub pair : Limits → Form Pair
pair l = do
  open1 ← expect (sign 91)
  v ← value l
  c ← expect (sign 44)
  n ← text kinds.Local
  b ← act (local n)
  close1 ← expect (sign 93)
  ret (record { value = v; from = b })

-- phi type pair { , pair }
unfoldable pub phi : Limits → Form Op
phi l = do
  w ← expect phi_word
  t ← type_form l
  p ← pair l
  ps ← items_and_notes (pair l) (p ∷ [])
  ret (ops.Phi t ps)

abbrev pub other_words : Set
other_words = words_of bin_words ++ icmp_word ++ select_word ++ words_of cast_words ++ alloca_word ++ load_word ++ phi_word

-- an operation that has a result, but a call or a `getelementptr`
unfoldable pub other_op : Limits → Form Op
other_op l =
    either (words_of bin_words) (bin l) (either icmp_word (icmp l) (either select_word (select l) (either (words_of cast_words) (cast l)
    (either alloca_word (alloca l) (either load_word (load l) (phi l))))))

-- ---- store

abbrev pub store_word : Set
store_word = word (codes "store")

-- store type value , type value [ , align INT ]
unfoldable pub store : Limits → Form Op
store l = do
  w ← expect store_word
  a ← typed l
  c ← expect (sign 44)
  p ← typed l
  n ← align_and_notes l
  ret (ops.Store a p n)

-- ---- items in round brackets, at most so many

-- the next item after the comma
abbrev pub next_item : {A : Type 0} → Limits → Form A → List A → Form A
next_item l f xs = choose (is_past l.params (length xs + 1)) (over limits.Params) f

-- , item
abbrev pub one_more_item : {A : Type 0} → Limits → Form A → List A → Form (List A)
one_more_item l f xs = expect (sign 44) >>= λ c. next_item l f xs >>= λ x. ret (xs ++ x ∷ [])

abbrev pub more_items : {A : Type 0} → Limits → Form A → List A → Form (List A)
more_items l f = rounds (λ xs. sign 44) (one_more_item l f) (λ xs. ret xs)

-- [ item { , item } ], where an item begins with a type
abbrev pub item_list : {A : Type 0} → Limits → Form A → Form (List A)
item_list l f = either (type_set true) (f >>= λ a. more_items l f (a ∷ [])) (ret [])

-- `(` [ item { , item } ] `)`
abbrev pub in_brackets : {A : Type 0} → Limits → Form A → Form (List A)
in_brackets l f = do
  open1 ← expect (sign 40)
  xs ← item_list l f
  close1 ← expect (sign 41)
  ret xs

-- ---- calls

abbrev pub tail_word : Set
tail_word = IsWord (codes "tail") ∷ IsWord (codes "notail") ∷ []

abbrev pub call_word : Set
call_word = word (codes "call")

abbrev pub call_words : Set
call_words = tail_word ++ call_word

abbrev pub call_words_form : Form Unit
call_words_form = either tail_word (expect tail_word >>= λ t. expect call_word) (expect call_word)

-- [ tail | notail ] call { attr }
unfoldable pub call_head : Form Unit
call_head = do
  w ← call_words_form
  m ← attribute_list barred.Values no_marks
  ret tt

-- { attr } { , note }
unfoldable pub call_end : Form Unit
call_end = attribute_list barred.Code no_marks >>= λ m. notes

abbrev pub begins_with : List ℕ → List ℕ → Bool
begins_with [] name = true
begins_with (p ∷ ps) [] = false
begins_with (p ∷ ps) (b ∷ bs) = if bytes_eq (p ∷ []) (b ∷ []) then begins_with ps bs else false

-- the name of a function that marks lifetimes
abbrev pub is_lifetime : List ℕ → Bool
is_lifetime name = begins_with (codes "llvm.lifetime.") name

abbrev pub callee_if : Bool → List ℕ → Verdict (List ℕ)
callee_if true n = Refuses
callee_if false n = Takes n

abbrev pub callee_of : Token → Verdict (List ℕ)
callee_of (tokens.Global n) = callee_if (is_lifetime n) n
callee_of t = Refuses

-- a GLOBAL that is no function for lifetimes
unfoldable pub callee : Form SymId
callee = token callee_of >>= λ n. act (symbol n)

unfoldable pub arguments : Limits → Form (List TypedOperand)
arguments l = in_brackets l (argument l)

-- a call with a result that has a name: its type is no `void`
unfoldable pub named_call : Limits → Form Op
named_call l = do
  h ← call_head
  t ← value_type l
  f ← callee
  as' ← arguments l
  e ← call_end
  ret (ops.Call t f as')

-- an operation with a result
unfoldable pub op : Limits → Form Op
op l = either call_words (named_call l) (either gep_word (gep_op l) (other_op l))

-- an instruction, but for its place: a result and an operation, or nothing where it is skipped
abbrev pub Line : Type 0
Line = Option (Option LocalId × Op)

-- the result of a call without a name
abbrev pub result_of : IrType → Names → Option LocalId × Names
result_of Void s = (None, s)
result_of t s = (Some (define_next s).0, (define_next s).1)

-- a call, after its GLOBAL
unfoldable pub called : Limits → IrType → List ℕ → Form Line
called l t n = do
  f ← act (symbol n)
  r ← act (result_of t)
  as' ← arguments l
  ret (Some (r, ops.Call t f as'))

-- only so many type names
abbrev pub keep_types : ℕ → Names → Unit {0} × Names
keep_types k s = (tt, record s { types = take k s.types })

-- a call for lifetimes, after its GLOBAL: it is skipped, and so are the type names of its type
unfoldable pub lifetime : ℕ → Form Line
lifetime k = group 40 41 >>= λ g. act (keep_types k) >>= λ u. ret None

abbrev pub types_so_far : Names → ℕ × Names
types_so_far s = (length s.types, s)

-- a call without a name
unfoldable pub unnamed_call : Limits → Form Line
unnamed_call l = do
  h ← call_head
  k ← act types_so_far
  t ← type_form l
  n ← text kinds.Global
  r ← choose (is_lifetime n) (lifetime k) (called l t n)
  e ← call_end
  ret r

-- LOCAL = op
abbrev pub named_line : Limits → Form Line
named_line l = do
  n ← text kinds.Local
  r ← act (define n)
  e ← expect (sign 61)
  o ← op l
  ret (Some (Some r, o))

abbrev pub gep_line : Limits → Form Line
gep_line l = act define_next >>= λ r. gep_op l >>= λ o. ret (Some (Some r, o))

abbrev pub other_op_line : Limits → Form Line
other_op_line l = act define_next >>= λ r. other_op l >>= λ o. ret (Some (Some r, o))

abbrev pub store_line : Limits → Form Line
store_line l = store l >>= λ o. ret (Some (None, o))

abbrev pub other_line_set : Set
other_line_set = call_words ++ store_word ++ other_words

-- an instruction that begins with another word than `getelementptr`
unfoldable pub other_line : Limits → Form Line
other_line l = either call_words (unnamed_call l) (either store_word (store_line l) (other_op_line l))

unfoldable pub line : Limits → Form Line
line l = either (kind kinds.Local) (named_line l) (either gep_word (gep_line l) (other_line l))

abbrev pub line_set : Set
line_set = kind kinds.Local ++ gep_word ++ other_line_set

-- the instruction at a place
abbrev pub instr_at : Place → Line → Option Instr
instr_at p None = None
instr_at p (Some x) = Some (record { place = p; result = x.0; op = x.1 })

-- [ LOCAL = ] op notes
unfoldable pub instr : Limits → Form (Option Instr)
instr l = located (line l) >>= λ x. ret (instr_at x.0 x.1)
