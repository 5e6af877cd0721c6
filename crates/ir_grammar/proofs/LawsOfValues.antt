-- The laws of values and initialisers.
use Rattle.std.proofs.Common.{◌≡◌, ℕ, ℤ, zero, suc, Bool, true, false, nat_eq, ◌||◌, List, [], ◌++◌, refl}
use Rattle.std.specs.Prelude.{if◌then◌else◌, codes, Option}
use Rattle.ir_lexer.specs.declared.table.Token.{Token}
use Rattle.ir_lexer.specs.declared.table.Token.TheVariants as tokens
use Rattle.ir_core.specs.declared.ty.IrType.{IrType}
use Rattle.ir_core.specs.declared.module.SymId.{SymId}
use Rattle.ir_core.specs.declared.constant.Const.{Const}
use Rattle.ir_core.specs.declared.constant.Const as consts
use Rattle.ir_core.specs.declared.constant.TypedConst.{TypedConst}
use Rattle.ir_core.specs.declared.constant.TypedCount.{TypedCount}
use Rattle.ir_core.specs.declared.op.Operand.{Operand}
use Rattle.ir_core.specs.declared.op.Operand.TheVariants as operands
use Rattle.ir_grammar.specs.declared.kinds.Kind.TheVariants as kinds
use Rattle.ir_grammar.specs.declared.which.Which.TheVariants as limits
use Rattle.ir_grammar.specs.Names.{symbol, local}
use Rattle.ir_grammar.specs.Pieces.{Is}
use Rattle.ir_grammar.specs.Sets.{Set}
use Rattle.ir_grammar.specs.Forms.{Form, token, Verdict, Takes, Refuses, Over}
use Rattle.ir_grammar.specs.Tokens.{Limits, sign, word, kind, look, words_of, one_word}
use Rattle.ir_grammar.specs.Types.{brackets, type_set}
use Rattle.ir_grammar.specs.Values.{const_words, gep_word, gep_flag, gep_flags, global, index, gep_rest, gep, address, integer, const_set, const_at, constant, local_value, value_set, value, typed, zero_init, bytes, last_const_of, typed_init, array_init, struct_init, init_at, init}
use Rattle.ir_grammar.proofs.Apart.{in_left, in_right}
use Rattle.ir_grammar.proofs.FormLaws.{Law, Fits}
use Rattle.ir_grammar.proofs.Rules.{spot, begins_with, maybe, seq, or, done, does, expects, takes, looked, law_one_word, shaped, collect}
use Rattle.ir_grammar.proofs.LawsOfTokens.{is_sign, is_word, law_text, law_int, law_skip, law_after_comma, law_listed}
use Rattle.ir_grammar.proofs.LawsOfTypes.{law_type, law_type_form}

pub law_gep_flags : {w : Bool} → Law w gep_flags (maybe gep_flag gep_flag)
unfolding gep_flags
law_gep_flags = shaped (law_skip (expects gep_flag (tokens.Word (codes "inbounds")) refl) refl refl refl) gep_flag gep_flag refl refl

pub law_global : {w : Bool} → Law w global (begins_with (kind kinds.Global))
unfolding global
law_global = seq (law_text kinds.Global (tokens.Global []) refl) (λ (n : List ℕ). does (symbol n)) refl

pub law_index : {w : Bool} (most : Option ℕ) (n : ℕ) → Law w (index most n) (begins_with (type_set true))
law_index most n = seq (law_type true most n) (λ (t : IrType). seq law_int (λ (i : ℤ). done (record { ty = t; count = i })) refl) refl

pub law_gep_rest : {w : Bool} (most : Option ℕ) (n : ℕ) → Law w (gep_rest most n) (begins_with (sign 40))
unfolding gep_rest
law_gep_rest most n =
    seq (is_sign 40 refl) (λ (o : Unit). seq (law_type true most n) (λ (t : IrType). seq (is_sign 44 refl) (λ (c : Unit). seq (is_word (codes "ptr") refl) (λ (p : Unit).
    seq law_global (λ (g : SymId). seq (collect (law_after_comma (law_index most n)) refl refl refl []) (λ (is : List TypedCount). seq (is_sign 41 refl) (λ (d : Unit). done (consts.Gep t g is)) refl) refl) refl) refl) refl) refl) refl

pub law_gep : {w : Bool} (most : Option ℕ) (n : ℕ) → Law w (gep most n) (begins_with gep_word)
unfolding gep
law_gep most n = seq (is_word (codes "getelementptr") refl) (λ (u : Unit). seq law_gep_flags (λ (f : Unit). law_gep_rest most n) refl) refl

pub law_address : {w : Bool} → Law w address (begins_with (kind kinds.Global))
law_address = seq law_global (λ (g : SymId). done (consts.Address g)) refl

pub law_integer : {w : Bool} → Law w integer (begins_with (kind kinds.Int))
law_integer = seq law_int (λ (i : ℤ). done (consts.Int i)) refl

pub law_const_word : {w : Bool} → Law w (one_word const_words) (begins_with (words_of const_words))
law_const_word = law_one_word const_words (codes "true") (consts.Bool true) refl

pub law_const_at : {w : Bool} (most : Option ℕ) (n : ℕ) → Law w (const_at most n) (begins_with const_set)
unfolding const_at
law_const_at most n = shaped (or law_address (or (law_gep most n) (or law_integer law_const_word refl refl) refl refl) refl refl) const_set [] refl refl

pub law_const : {w : Bool} (l : Limits) → Law w (constant l) (begins_with const_set)
unfolding constant
law_const l = law_const_at l.length l.levels

pub law_local_value : {w : Bool} → Law w local_value (begins_with (kind kinds.Local))
unfolding local_value
law_local_value = seq (law_text kinds.Local (tokens.Local []) refl) (λ (n : List ℕ). does (λ s. (operands.Local (local n s).0, (local n s).1))) refl

pub law_value : {w : Bool} (l : Limits) → Law w (value l) (begins_with value_set)
unfolding value
law_value l = shaped (or law_local_value (seq (law_const l) (λ (c : Const). done (operands.Const c)) refl) refl refl) value_set [] refl refl

pub law_typed : {w : Bool} (l : Limits) → Law w (typed l) (begins_with (type_set true))
unfolding typed
law_typed l = seq (law_type_form l) (λ (t : IrType). seq (law_value l) (λ (v : Operand). done (record { ty = t; value = v })) refl) refl

-- ---- initialisers

-- the tokens that are a word of the table, or the bracket of one more level
abbrev last_set : Set
last_set = words_of const_words ++ brackets

bracket_fits : (c : ℕ) → Fits last_set (tokens.Sign c) (last_const_of (tokens.Sign c))
bracket_fits c = at (nat_eq c 91) (nat_eq c 123) refl refl
  where
    at : (a b : Bool) → nat_eq c 91 ≡ a → nat_eq c 123 ≡ b → Fits {A = Const} last_set (tokens.Sign c) (if a || b then Over limits.Nesting else Refuses)
    at true b e f = in_right (words_of const_words) brackets (Is (spot (tokens.Sign c))) (rw e refl)
    at false true e f = in_right (words_of const_words) brackets (Is (spot (tokens.Sign c))) (rw (e, f) refl)
    at false false e f = tt

word_fits : (n : List ℕ) (o : Verdict Const) → Fits (words_of const_words) (tokens.Word n) o → Fits last_set (tokens.Word n) o
word_fits n (Takes a) h = in_left (words_of const_words) brackets (Is (spot (tokens.Word n))) h
word_fits n Refuses h = tt
word_fits n (Over w) h = in_left (words_of const_words) brackets (Is (spot (tokens.Word n))) h

last_fits : (t : Token) → Fits last_set t (last_const_of t)
last_fits (tokens.Word n) = word_fits n (look const_words n) (looked const_words n)
last_fits (tokens.Sign n) = bracket_fits n
last_fits (tokens.Int n) = tt
last_fits (tokens.Label n) = tt
last_fits (tokens.Local n) = tt
last_fits (tokens.Global n) = tt
last_fits (tokens.Str n) = tt
last_fits (tokens.CStr n) = tt
last_fits (tokens.Meta n) = tt
last_fits (tokens.Hash n) = tt
last_fits tokens.End = tt

law_last : {w : Bool} → Law w (token last_const_of) (begins_with last_set)
law_last = takes last_const_of last_set last_fits (tokens.Word (codes "true")) (consts.Bool true) refl

pub law_zero : {w : Bool} → Law w zero_init (begins_with (word (codes "zeroinitializer")))
law_zero = seq (is_word (codes "zeroinitializer") refl) (λ (u : Unit). done consts.Zero) refl

pub law_bytes : {w : Bool} → Law w bytes (begins_with (kind kinds.CStr))
law_bytes = seq (law_text kinds.CStr (tokens.CStr []) refl) (λ (b : List ℕ). done (consts.Bytes b)) refl

abbrev pub init_set : Set
init_set = kind kinds.Global ++ gep_word ++ kind kinds.Int ++ word (codes "zeroinitializer") ++ kind kinds.CStr ++ sign 91 ++ sign 123 ++ words_of const_words

pub law_typed_init : {w : Bool} (f : Form Const) (most : Option ℕ) (n : ℕ) → Law w f (begins_with init_set) → Law w (typed_init f most n) (begins_with (type_set true))
law_typed_init f most n h = seq (law_type true most n) (λ (t : IrType). seq h (λ (c : Const). done (record { ty = t; value = c })) refl) refl

pub law_array_init : {w : Bool} (f : Form TypedConst) → Law w f (begins_with (type_set true)) → Law w (array_init f) (begins_with (sign 91))
law_array_init f h = seq (is_sign 91 refl) (λ (o : Unit). seq (law_listed h refl) (λ (cs : List TypedConst). seq (is_sign 93 refl) (λ (c : Unit). done (consts.Array cs)) refl) refl) refl

pub law_struct_init : {w : Bool} (f : Form TypedConst) → Law w f (begins_with (type_set true)) → Law w (struct_init f) (begins_with (sign 123))
law_struct_init f h = seq (is_sign 123 refl) (λ (o : Unit). seq (law_listed h refl) (λ (cs : List TypedConst). seq (is_sign 125 refl) (λ (c : Unit). done (consts.Struct cs)) refl) refl) refl

pub law_init_at : {w : Bool} (most : Option ℕ) (n : ℕ) → Law w (init_at most n) (begins_with init_set)
unfolding init_at
law_init_at most zero =
    shaped (or law_address (or (law_gep most zero) (or law_integer (or law_zero (or law_bytes law_last refl refl) refl refl) refl refl) refl refl) refl refl) init_set [] refl refl
law_init_at most (suc n) =
    let inner = law_typed_init (init_at most n) most n (law_init_at most n) in
    shaped (or law_address (or (law_gep most (suc n)) (or law_integer (or law_zero (or law_bytes
    (or (law_array_init (typed_init (init_at most n) most n) inner) (or (law_struct_init (typed_init (init_at most n) most n) inner) law_const_word refl refl) refl refl) refl refl) refl refl) refl refl) refl refl) refl refl) init_set [] refl refl

pub law_init : {w : Bool} (l : Limits) → Law w (init l) (begins_with init_set)
unfolding init
law_init l = law_init_at l.length l.levels
