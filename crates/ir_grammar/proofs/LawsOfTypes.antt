-- The laws of types.
use Rattle.std.proofs.Common.{◌≡◌, ℕ, zero, suc, Bool, true, false, nat_eq, ◌||◌, List, [], ◌++◌, refl}
use Rattle.std.specs.Prelude.{if◌then◌else◌, codes, Option}
use Rattle.oi_base.specs.declared.words.Width.TheVariants.{W32}
use Rattle.ir_lexer.specs.declared.table.Token.{Token}
use Rattle.ir_lexer.specs.declared.table.Token.TheVariants as tokens
use Rattle.ir_core.specs.declared.ty.IrType.{IrType}
use Rattle.ir_core.specs.declared.ty.IrType as types
use Rattle.ir_grammar.specs.declared.kinds.Kind.TheVariants as kinds
use Rattle.ir_grammar.specs.declared.which.Which.TheVariants as limits
use Rattle.ir_grammar.specs.Names.{type_name}
use Rattle.ir_grammar.specs.Pieces.{Is}
use Rattle.ir_grammar.specs.Sets.{Set}
use Rattle.ir_grammar.specs.Forms.{Form, token, Verdict, Takes, Refuses, Over}
use Rattle.ir_grammar.specs.Tokens.{Limits, sign, kind, look, words_of}
use Rattle.ir_grammar.specs.Types.{scalars, named, last_of, brackets, type_set, array, struct, type_in, type_form, value_type}
use Rattle.ir_grammar.proofs.Apart.{in_left, in_right}
use Rattle.ir_grammar.proofs.FormLaws.{Law, Fits, token_shape}
use Rattle.ir_grammar.proofs.Rules.{spot, begins_with, seq, or, done, does, takes, looked, law_one_word, shaped}
use Rattle.ir_grammar.proofs.LawsOfTokens.{is_sign, is_word, law_text, law_number, law_listed}

pub law_named : {w : Bool} → Law w named (begins_with (kind kinds.Local))
unfolding named
law_named = seq (law_text kinds.Local (tokens.Local []) refl) (λ (n : List ℕ). does (λ s. (types.Named (type_name n s).0, (type_name n s).1))) refl

law_array : {w : Bool} (most : Option ℕ) (f : Form IrType) → Law w f (begins_with (type_set true)) → Law w (array most f) (begins_with (sign 91))
law_array most f h =
    seq (is_sign 91 refl) (λ (o : Unit). seq (law_number most) (λ (n : ℕ). seq (is_word (codes "x") refl) (λ (x : Unit). seq h (λ (t : IrType). seq (is_sign 93 refl) (λ (c : Unit). done (types.Array n t)) refl) refl) refl) refl) refl

law_struct : {w : Bool} (f : Form IrType) → Law w f (begins_with (type_set true)) → Law w (struct f) (begins_with (sign 123))
law_struct f h =
    seq (is_sign 123 refl) (λ (o : Unit). seq (law_listed h refl) (λ (ts : List IrType). seq (is_sign 125 refl) (λ (c : Unit). done (types.Struct ts)) refl) refl) refl

-- the tokens that are a word of the table, or the bracket of one more level
abbrev last_set : Bool → Set
last_set void = words_of (scalars void) ++ brackets

bracket_fits : (void : Bool) (c : ℕ) → Fits (last_set void) (tokens.Sign c) (last_of void (tokens.Sign c))
bracket_fits void c = at (nat_eq c 91) (nat_eq c 123) refl refl
  where
    at : (a b : Bool) → nat_eq c 91 ≡ a → nat_eq c 123 ≡ b → Fits {A = IrType} (last_set void) (tokens.Sign c) (if a || b then Over limits.Nesting else Refuses)
    at true b e f = in_right (words_of (scalars void)) brackets (Is (spot (tokens.Sign c))) (rw e refl)
    at false true e f = in_right (words_of (scalars void)) brackets (Is (spot (tokens.Sign c))) (rw (e, f) refl)
    at false false e f = tt

word_fits : (void : Bool) (n : List ℕ) (o : Verdict IrType) → Fits (words_of (scalars void)) (tokens.Word n) o → Fits (last_set void) (tokens.Word n) o
word_fits void n (Takes a) h = in_left (words_of (scalars void)) brackets (Is (spot (tokens.Word n))) h
word_fits void n Refuses h = tt
word_fits void n (Over w) h = in_left (words_of (scalars void)) brackets (Is (spot (tokens.Word n))) h

last_fits : (void : Bool) (t : Token) → Fits (last_set void) t (last_of void t)
last_fits void (tokens.Word n) = word_fits void n (look (scalars void) n) (looked (scalars void) n)
last_fits void (tokens.Sign n) = bracket_fits void n
last_fits void (tokens.Int n) = tt
last_fits void (tokens.Label n) = tt
last_fits void (tokens.Local n) = tt
last_fits void (tokens.Global n) = tt
last_fits void (tokens.Str n) = tt
last_fits void (tokens.CStr n) = tt
last_fits void (tokens.Meta n) = tt
last_fits void (tokens.Hash n) = tt
last_fits void tokens.End = tt

law_last : {w : Bool} (void : Bool) → Law w (token (last_of void)) (token_shape (last_set void))
law_last true = takes (last_of true) (last_set true) (last_fits true) (tokens.Word (codes "i32")) (types.Int W32) refl
law_last false = takes (last_of false) (last_set false) (last_fits false) (tokens.Word (codes "i32")) (types.Int W32) refl

pub law_type : {w : Bool} (void : Bool) (most : Option ℕ) (n : ℕ) → Law w (type_in void most n) (begins_with (type_set void))
unfolding type_in
law_type true most zero = shaped (or law_named (law_last true) refl refl) (type_set true) [] refl refl
law_type false most zero = shaped (or law_named (law_last false) refl refl) (type_set false) [] refl refl
law_type true most (suc n) =
    let inner = law_type true most n in
    shaped (or law_named (or (law_one_word (scalars true) (codes "i32") (types.Int W32) refl) (or (law_array most (type_in true most n) inner) (law_struct (type_in true most n) inner) refl refl) refl refl) refl refl) (type_set true) [] refl refl
law_type false most (suc n) =
    let inner = law_type true most n in
    shaped (or law_named (or (law_one_word (scalars false) (codes "i32") (types.Int W32) refl) (or (law_array most (type_in true most n) inner) (law_struct (type_in true most n) inner) refl refl) refl refl) refl refl) (type_set false) [] refl refl

pub law_type_form : {w : Bool} (l : Limits) → Law w (type_form l) (begins_with (type_set true))
unfolding type_form
law_type_form l = law_type true l.length l.levels

pub law_value_type : {w : Bool} (l : Limits) → Law w (value_type l) (begins_with (type_set false))
unfolding value_type
law_value_type l = law_type false l.length l.levels
