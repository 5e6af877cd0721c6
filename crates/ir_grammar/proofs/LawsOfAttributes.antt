-- The laws of notes and attributes.
use Rattle.std.proofs.Common.{◌≡◌, ℕ, ℤ, Bool, true, false, ◌||◌, List, [], ◌∷◌, ◌++◌, refl}
use Rattle.std.specs.Prelude.{codes}
use Rattle.ir_lexer.specs.declared.table.Token.{Token}
use Rattle.ir_lexer.specs.declared.table.Token.TheVariants as tokens
use Rattle.ir_core.specs.declared.ty.IrType.{IrType}
use Rattle.ir_core.specs.declared.constant.Const.{Const}
use Rattle.ir_core.specs.declared.constant.Const as consts
use Rattle.ir_core.specs.declared.op.Operand.{Operand}
use Rattle.ir_core.specs.declared.op.Operand.TheVariants as operands
use Rattle.ir_grammar.specs.declared.kinds.Kind.TheVariants as kinds
use Rattle.ir_grammar.specs.declared.kinds.Barred.{Barred}
use Rattle.ir_grammar.specs.declared.kinds.Barred.TheVariants as barred
use Rattle.ir_grammar.specs.declared.parts.Attribute.{Attribute}
use Rattle.ir_grammar.specs.declared.parts.Attribute.TheVariants as attributes
use Rattle.ir_grammar.specs.declared.parts.Marks.{Marks}
use Rattle.ir_grammar.specs.declared.parts.Stand.{Stand}
use Rattle.ir_grammar.specs.declared.parts.Stand.TheVariants.{Free, AfterWord, AfterInt}
use Rattle.ir_grammar.specs.Pieces.{Piece, Is, Bad}
use Rattle.ir_grammar.specs.Sets.{Set, is_integer_type, among, head_in, apart}
use Rattle.ir_grammar.specs.Words.{no_attributes}
use Rattle.ir_grammar.specs.Tokens.{Limits, sign, kind, words_of, text}
use Rattle.ir_grammar.specs.Types.{type_set}
use Rattle.ir_grammar.specs.Values.{gep_word, const_words, value_set}
use Rattle.ir_grammar.specs.Attributes.{meta, node, note_rest, note, notes, attribute_if, attribute_word_of, attribute_words, attribute_word, attribute_argument, attribute_value, attribute_set, attribute, marked, one_mark, mark_or_note, attribute_list, attributes_and_notes, not_word, any_attribute, more_set, more, no_integer, last, argument_value, argument}
use Rattle.ir_grammar.proofs.FormLaws.{Shape, Law, Fits}
use Rattle.ir_grammar.proofs.LawsOfRounds.{law_rounds, rounds_greedy}
use Rattle.ir_grammar.proofs.Within.{within_head}
use Rattle.ir_grammar.proofs.Rules.{begins_with, goes_on_with, maybe, seq, or, again, done, expects, takes, shaped, going_on}
use Rattle.ir_grammar.proofs.LawsOfTokens.{is_sign, law_text, law_int, law_skip, law_after_comma}
use Rattle.ir_grammar.proofs.LawsOfTypes.{law_type_form}
use Rattle.ir_grammar.proofs.LawsOfValues.{law_address, law_gep, law_const_word, law_local_value, law_value}
use Rattle.ir_grammar.proofs.LawsOfGroups.{law_group}

pub law_meta : {w : Bool} → Law w meta (begins_with (kind kinds.Meta))
law_meta = expects (kind kinds.Meta) (tokens.Meta []) refl

pub law_node : {w : Bool} → Law w node (begins_with (sign 33))
unfolding node
law_node = seq (is_sign 33 refl) (λ (e : Unit). seq (law_group 123 125 refl) (λ (g : Bool). done tt) refl) refl

abbrev pub note_rest_set : Set
note_rest_set = kind kinds.Meta ++ sign 33

pub law_note_rest : {w : Bool} → Law w note_rest (begins_with note_rest_set)
unfolding note_rest
law_note_rest = shaped (or law_node law_meta refl refl) note_rest_set [] refl refl

pub law_note : {w : Bool} → Law w note (begins_with (kind kinds.Meta))
unfolding note
law_note = seq law_meta (λ (m : Unit). law_note_rest) refl

pub law_notes : {w : Bool} → Law w notes (maybe (sign 44) (sign 44))
unfolding notes
law_notes = law_skip (law_after_comma law_note) refl refl refl

-- ---- attributes

attribute_fits : (b : Barred) (n : List ℕ) → Fits (attribute_words b) (tokens.Word n) (attribute_word_of b (tokens.Word n))
attribute_fits b n = at (is_integer_type n || among (no_attributes b) n) refl
  where
    at : (c : Bool) → (is_integer_type n || among (no_attributes b) n) ≡ c → Fits (attribute_words b) (tokens.Word n) (attribute_if c n)
    at true e = tt
    at false e = rw e refl

word_fits : (b : Barred) (t : Token) → Fits (attribute_words b) t (attribute_word_of b t)
word_fits b (tokens.Word n) = attribute_fits b n
word_fits b (tokens.Int n) = tt
word_fits b (tokens.Label n) = tt
word_fits b (tokens.Local n) = tt
word_fits b (tokens.Global n) = tt
word_fits b (tokens.Str n) = tt
word_fits b (tokens.CStr n) = tt
word_fits b (tokens.Meta n) = tt
word_fits b (tokens.Hash n) = tt
word_fits b (tokens.Sign n) = tt
word_fits b tokens.End = tt

pub law_attribute_word : {w : Bool} (b : Barred) → Law w (attribute_word b) (begins_with (attribute_words b))
law_attribute_word barred.Nothing = takes (attribute_word_of barred.Nothing) (attribute_words barred.Nothing) (word_fits barred.Nothing) (tokens.Word (codes "noinline")) attributes.NoInline refl
law_attribute_word barred.Values = takes (attribute_word_of barred.Values) (attribute_words barred.Values) (word_fits barred.Values) (tokens.Word (codes "noinline")) attributes.NoInline refl
law_attribute_word barred.Code = takes (attribute_word_of barred.Code) (attribute_words barred.Code) (word_fits barred.Code) (tokens.Word (codes "noinline")) attributes.NoInline refl

abbrev pub argument_greedy : Set
argument_greedy = kind kinds.Int ++ sign 40

pub law_attribute_argument : {w : Bool} → Law w attribute_argument (maybe argument_greedy argument_greedy)
unfolding attribute_argument
law_attribute_argument = shaped (or (seq law_int (λ (n : ℤ). done tt) refl) (or (seq (law_group 40 41 refl) (λ (g : Bool). done tt) refl) (done tt) refl refl) refl refl) argument_greedy argument_greedy refl refl

pub law_attribute_value : {w : Bool} → Law w attribute_value (maybe (sign 61) (sign 61))
unfolding attribute_value
law_attribute_value = shaped (or (seq (is_sign 61 refl) (λ (e : Unit). seq (law_text kinds.Str (tokens.Str []) refl) (λ (s : List ℕ). done tt) refl) refl) (done tt) refl refl) (sign 61) (sign 61) refl refl

pub law_hash : {w : Bool} → Law w (text kinds.Hash) (begins_with (kind kinds.Hash))
law_hash = law_text kinds.Hash (tokens.Hash (codes "0")) refl

pub law_string : {w : Bool} → Law w (text kinds.Str) (begins_with (kind kinds.Str))
law_string = law_text kinds.Str (tokens.Str []) refl

abbrev pub attribute_greedy : Set
attribute_greedy = kind kinds.Int ++ sign 40 ++ sign 61

pub law_attribute : {w : Bool} (b : Barred) → Law w (attribute b) (goes_on_with (attribute_set b) attribute_greedy)
unfolding attribute
law_attribute b =
    going_on (or (seq (law_attribute_word b) (λ (a : Attribute). seq law_attribute_argument (λ (e : Unit). done a) refl) refl)
    (or (seq law_string (λ (s : List ℕ). seq law_attribute_value (λ (e : Unit). done attributes.Other) refl) refl)
    (seq law_hash (λ (n : List ℕ). done (attributes.Group n)) refl) refl refl) refl refl) attribute_greedy refl

pub law_one_mark : {w : Bool} (b : Barred) (m : Marks) → Law w (one_mark b m) (goes_on_with (attribute_set b) attribute_greedy)
law_one_mark b m = going_on (seq (law_attribute b) (λ (a : Attribute). done (marked m a)) refl) attribute_greedy refl

pub law_mark_or_note : {w : Bool} (m : Marks) → Law w (mark_or_note m) (goes_on_with (kind kinds.Meta ++ attribute_set barred.Nothing) attribute_greedy)
law_mark_or_note m = going_on (or (seq law_note (λ (n : Unit). done m) refl) (law_one_mark barred.Nothing m) refl refl) attribute_greedy refl

pub law_attribute_list : {w : Bool} (b : Barred) (m : Marks) → Law w (attribute_list b m) (maybe (attribute_set b) (attribute_greedy ++ attribute_set b))
unfolding attribute_list
law_attribute_list b m = again (λ (m : Marks). seq (law_attribute b) (λ (a : Attribute). done (marked m a)) refl) (λ (m : Marks). done m) refl refl refl refl m

abbrev pub attribute_or_note_set : Set
attribute_or_note_set = kind kinds.Meta ++ attribute_set barred.Nothing

pub law_attributes_and_notes : {w : Bool} (m : Marks) → Law w (attributes_and_notes m) (maybe attribute_or_note_set (attribute_greedy ++ attribute_or_note_set))
unfolding attributes_and_notes
law_attributes_and_notes m =
    again (λ (m : Marks). or (seq law_note (λ (n : Unit). done m) refl) (seq (law_attribute barred.Nothing) (λ (a : Attribute). done (marked m a)) refl) refl refl) (λ (m : Marks). done m) refl refl refl refl m

-- ---- an argument

pub law_not_word : {w : Bool} (b : Barred) → Law w (not_word b) (goes_on_with (kind kinds.Str ++ kind kinds.Hash) (sign 61))
law_not_word b =
    or (seq law_string (λ (s : List ℕ). seq law_attribute_value (λ (e : Unit). done Free) refl) refl) (seq law_hash (λ (n : List ℕ). done Free) refl) refl refl

pub law_any : {w : Bool} → Law w any_attribute (goes_on_with (attribute_set barred.Values) (sign 61))
law_any = or (seq (law_attribute_word barred.Values) (λ (a : Attribute). done AfterWord) refl) (law_not_word barred.Values) refl refl

abbrev pub z : Stand → Shape
z x = goes_on_with (more_set x) (sign 61)

pub law_more : {w : Bool} (x : Stand) → Law w (more x) (z x)
law_more Free = law_any
law_more AfterWord = or (seq law_int (λ (n : ℤ). done (AfterInt n)) refl) (or (seq (law_group 40 41 refl) (λ (g : Bool). done Free) refl) law_any refl refl) refl refl
law_more (AfterInt n) = law_any

abbrev pub no_integer_set : Set
no_integer_set = kind kinds.Local ++ kind kinds.Global ++ gep_word ++ words_of const_words

pub law_no_integer : {w : Bool} (l : Limits) → Law w (no_integer l) (begins_with no_integer_set)
law_no_integer l =
    let as_value = λ (c : Const). done (operands.Const c) in
    or law_local_value (or (seq law_address as_value refl) (or (seq (law_gep l.length l.levels) as_value refl) (seq law_const_word as_value refl) refl refl) refl refl) refl refl

abbrev pub y : Stand → Shape
y Free = begins_with value_set
y AfterWord = begins_with no_integer_set
y (AfterInt n) = maybe value_set value_set

pub law_last : {w : Bool} (l : Limits) (x : Stand) → Law w (last l x) (y x)
law_last l Free = law_value l
law_last l AfterWord = law_no_integer l
law_last l (AfterInt n) = shaped (or (law_value l) (done (operands.Const (consts.Int n))) refl refl) value_set value_set refl refl

apart_here : (x : Stand) → apart (z x).first (y x).first ≡ true
apart_here Free = refl
apart_here AfterWord = refl
apart_here (AfterInt n) = refl

apart_more : (x : Stand) → apart (sign 61) (more_set x) ≡ true
apart_more Free = refl
apart_more AfterWord = refl
apart_more (AfterInt n) = refl

apart_last : (x : Stand) → apart (sign 61) (y x).first ≡ true
apart_last Free = refl
apart_last AfterWord = refl
apart_last (AfterInt n) = refl

abbrev pub argument_ends : Set
argument_ends = value_set ++ sign 61 ++ attribute_set barred.Values

none : (ts : List Piece) → head_in [] ts ≡ false
none [] = refl
none (Is s ∷ ts) = refl
none (Bad b ∷ ts) = refl

ends_here : (x x2 : Stand) (ts : List Piece) → head_in argument_ends ts ≡ false → head_in (rounds_greedy (z x2) (z x) (y x)) ts ≡ false
ends_here Free x2 ts h = none ts
ends_here AfterWord x2 ts h = none ts
ends_here (AfterInt n) x2 ts h = within_head (rounds_greedy (z x2) (z (AfterInt n)) (y (AfterInt n))) argument_ends ts refl h

pub law_argument_value : {w : Bool} (l : Limits) → Law w (argument_value l) (goes_on_with (more_set Free ++ value_set) argument_ends)
unfolding argument_value
law_argument_value l = law_rounds more_set more (last l) z y argument_ends law_more (law_last l) (λ x. refl) (λ x. refl) apart_here (λ x x2. apart_more x2) (λ x x2. apart_last x2) ends_here Free

pub law_argument : {w : Bool} (l : Limits) → Law w (argument l) (goes_on_with (type_set true) argument_ends)
unfolding argument
law_argument l = shaped (seq (law_type_form l) (λ (t : IrType). seq (law_argument_value l) (λ (v : Operand). done (record { ty = t; value = v })) refl) refl) (type_set true) argument_ends refl refl
