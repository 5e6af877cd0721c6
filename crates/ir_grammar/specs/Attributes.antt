-- Notes and attributes.
use Rattle.std.specs.Prelude.{ℕ, Bool, true, false, ◌||◌, List, [], ◌∷◌, ◌++◌, if◌then◌else◌, codes}
use Rattle.std.specs.Str.{bytes_eq}
use Rattle.ir_lexer.specs.declared.table.Token.{Token}
use Rattle.ir_lexer.specs.declared.table.Token.TheVariants as tokens
use Rattle.ir_core.specs.declared.op.Operand.{Operand}
use Rattle.ir_core.specs.declared.op.Operand.TheVariants as operands
use Rattle.ir_core.specs.declared.op.TypedOperand.{TypedOperand}
use Rattle.ir_core.specs.declared.constant.Const as consts
use Rattle.ir_core.specs.declared.constant.Const.{Const}
use Rattle.ir_grammar.specs.declared.kinds.Kind.TheVariants as kinds
use Rattle.ir_grammar.specs.declared.kinds.Barred.{Barred}
use Rattle.ir_grammar.specs.declared.kinds.Barred.TheVariants as barred
use Rattle.ir_grammar.specs.declared.parts.Attribute.{Attribute}
use Rattle.ir_grammar.specs.declared.parts.Attribute.TheVariants as attributes
use Rattle.ir_grammar.specs.declared.parts.Marks.{Marks}
use Rattle.ir_grammar.specs.declared.parts.Stand.{Stand}
use Rattle.ir_grammar.specs.declared.parts.Stand.TheVariants.{Free, AfterWord, AfterInt}
use Rattle.ir_grammar.specs.Sets.{Set, Other, is_integer_type, among}
use Rattle.ir_grammar.specs.Words.{no_attributes}
use Rattle.ir_grammar.specs.Forms.{Form, ret, token, Verdict, Takes, Refuses, ◌>>=◌, either, rounds}
use Rattle.ir_grammar.specs.Tokens.{Limits, expect, sign, kind, one_word, text, int, skip, after_comma}
use Rattle.ir_grammar.specs.Groups.{group}
use Rattle.ir_grammar.specs.Types.{type_form}
use Rattle.ir_grammar.specs.Values.{address, gep_word, gep, const_words, local_value, value_set, value}

-- ---- notes

abbrev pub meta : Form Unit
meta = expect (kind kinds.Meta)

-- `!` GROUP
unfoldable pub node : Form Unit
node = expect (sign 33) >>= λ e. group 123 125 >>= λ g. ret tt

-- META META, or META `!` GROUP
unfoldable pub note_rest : Form Unit
note_rest = either (sign 33) node meta

unfoldable pub note : Form Unit
note = meta >>= λ m. note_rest

-- { , note }
unfoldable pub notes : Form Unit
notes = skip (sign 44) (after_comma note)

-- ---- attributes

abbrev pub attribute_of : List ℕ → Attribute
attribute_of w =
    if bytes_eq w (codes "internal") || bytes_eq w (codes "private") then attributes.Internal
    else (if bytes_eq w (codes "noinline") then attributes.NoInline else attributes.Other)

abbrev pub attribute_if : Bool → List ℕ → Verdict Attribute
attribute_if true w = Refuses
attribute_if false w = Takes (attribute_of w)

abbrev pub attribute_word_of : Barred → Token → Verdict Attribute
attribute_word_of b (tokens.Word w) = attribute_if (is_integer_type w || among (no_attributes b) w) w
attribute_word_of b t = Refuses

abbrev pub attribute_words : Barred → Set
attribute_words b = Other (no_attributes b) ∷ []

-- AWORD
abbrev pub attribute_word : Barred → Form Attribute
attribute_word b = token (attribute_word_of b)

abbrev pub any_int : Form Unit
any_int = int >>= λ n. ret tt

abbrev pub round_group : Form Unit
round_group = group 40 41 >>= λ g. ret tt

-- [ INT | GROUP ]
unfoldable pub attribute_argument : Form Unit
attribute_argument = either (kind kinds.Int) any_int (either (sign 40) round_group (ret tt))

-- [ `=` STRING ]
unfoldable pub attribute_value : Form Unit
attribute_value = either (sign 61) (expect (sign 61) >>= λ e. text kinds.Str >>= λ s. ret tt) (ret tt)

abbrev pub attribute_set : Barred → Set
attribute_set b = attribute_words b ++ kind kinds.Str ++ kind kinds.Hash

abbrev pub word_attribute : Barred → Form Attribute
word_attribute b = attribute_word b >>= λ a. attribute_argument >>= λ e. ret a

-- AWORD [ INT | GROUP ], STRING [ `=` STRING ], or HASH
unfoldable pub attribute : Barred → Form Attribute
attribute b =
    either (attribute_words b) (word_attribute b)
    (either (kind kinds.Str) (text kinds.Str >>= λ s. attribute_value >>= λ e. ret attributes.Other)
    (text kinds.Hash >>= λ n. ret (attributes.Group n)))

abbrev pub no_marks : Marks
no_marks = record { internal = false; noinline = false; groups = [] }

abbrev pub marked : Marks → Attribute → Marks
marked m attributes.Internal = record m { internal = true }
marked m attributes.NoInline = record m { noinline = true }
marked m (attributes.Group n) = record m { groups = m.groups ++ n ∷ [] }
marked m attributes.Other = m

-- one more attribute
abbrev pub one_mark : Barred → Marks → Form Marks
one_mark b m = attribute b >>= λ a. ret (marked m a)

-- { attr }
unfoldable pub attribute_list : Barred → Marks → Form Marks
attribute_list b = rounds (λ m. attribute_set b) (one_mark b) (λ m. ret m)

abbrev pub mark_or_note_set : Set
mark_or_note_set = kind kinds.Meta ++ attribute_set barred.Nothing

abbrev pub mark_or_note : Marks → Form Marks
mark_or_note m = either (kind kinds.Meta) (note >>= λ n. ret m) (one_mark barred.Nothing m)

-- { attr | note }
unfoldable pub attributes_and_notes : Marks → Form Marks
attributes_and_notes = rounds (λ m. mark_or_note_set) mark_or_note (λ m. ret m)

-- ---- an argument's attributes and value: an integer after a word is the word's, or, where nothing of an argument
-- follows, the value

abbrev pub not_word : Barred → Form Stand
not_word b =
    either (kind kinds.Str) (text kinds.Str >>= λ s. attribute_value >>= λ e. ret Free)
    (text kinds.Hash >>= λ n. ret Free)

abbrev pub any_attribute : Form Stand
any_attribute = either (attribute_words barred.Values) (attribute_word barred.Values >>= λ a. ret AfterWord) (not_word barred.Values)

abbrev pub more_set : Stand → Set
more_set Free = attribute_set barred.Values
more_set AfterWord = kind kinds.Int ++ sign 40 ++ attribute_set barred.Values
more_set (AfterInt n) = attribute_set barred.Values

abbrev pub more : Stand → Form Stand
more Free = any_attribute
more AfterWord = either (kind kinds.Int) (int >>= λ n. ret (AfterInt n)) (either (sign 40) (group 40 41 >>= λ g. ret Free) any_attribute)
more (AfterInt n) = any_attribute

abbrev pub address_value : Form Operand
address_value = address >>= λ c. ret (operands.Const c)

abbrev pub gep_value : Limits → Form Operand
gep_value l = gep l.length l.levels >>= λ c. ret (operands.Const c)

-- a value that is no integer
abbrev pub no_integer : Limits → Form Operand
no_integer l =
    either (kind kinds.Local) local_value
    (either (kind kinds.Global) address_value
    (either gep_word (gep_value l)
    (one_word const_words >>= λ c. ret (operands.Const c))))

abbrev pub last : Limits → Stand → Form Operand
last l Free = value l
last l AfterWord = no_integer l
last l (AfterInt n) = either value_set (value l) (ret (operands.Const (consts.Int n)))

-- { attr } value
unfoldable pub argument_value : Limits → Form Operand
argument_value l = rounds more_set more (last l) Free

-- type { attr } value
unfoldable pub argument : Limits → Form TypedOperand
argument l = type_form l >>= λ t. argument_value l >>= λ v. ret (record { ty = t; value = v })
