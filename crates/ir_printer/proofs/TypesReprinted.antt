-- Types are printed as they are read.
use Rattle.std.proofs.Common.{◌≡◌, refl, ℕ, zero, suc, Bool, true, false, nat_eq, ◌||◌, List, [], ◌∷◌, map}
use Rattle.std.specs.Prelude.{Option, if◌then◌else◌, codes}
use Rattle.oi_base.specs.declared.words.Width.TheVariants.{W1, W8, W16, W32}
use Rattle.ir_lexer.specs.declared.table.Token.{Token}
use Rattle.ir_lexer.specs.declared.table.Token.TheVariants as tokens
use Rattle.ir_core.specs.declared.ty.IrType.{IrType}
use Rattle.ir_core.specs.declared.ty.IrType as types
use Rattle.ir_grammar.specs.declared.kinds.Kind.TheVariants as kinds
use Rattle.ir_grammar.specs.declared.which.Which.TheVariants as limits
use Rattle.ir_grammar.specs.Names.{type_name}
use Rattle.ir_grammar.specs.Forms.{Form, Takes, Refuses, Over}
use Rattle.ir_grammar.specs.Tokens.{Limits, expect, sign, word, kind, look, words_of}
use Rattle.ir_grammar.specs.Types.{scalars, named, last_of, type_set, array, struct, type_in, type_form, value_type}
use Rattle.ir_printer.specs.declared.words.Word.TheVariants as words
use Rattle.ir_printer.specs.declared.marks.Sign.TheVariants as signs
use Rattle.ir_printer.specs.declared.marks.Mark.{Mark}
use Rattle.ir_printer.specs.declared.marks.Mark.TheVariants as marks
use Rattle.ir_printer.specs.Layout.{Tables}
use Rattle.ir_printer.specs.Marks.{last_sign, type_marks}
use Rattle.ir_printer.proofs.Levels.{struct_type, array_type}
use Rattle.ir_printer.proofs.Reprinting.{IndexedTables, Prints, prints_then, prints_done, prints_either}
use Rattle.ir_printer.proofs.NamesReprinted.{prints_type_name, type_mark}
use Rattle.ir_printer.proofs.TokensReprinted.{Entries, prints_expect, prints_look, prints_table, prints_number}
use Rattle.ir_printer.proofs.ListsReprinted.{prints_listed, prints_named_as}

prints_named : {inside : Bool} {n : Tables} → IndexedTables n → Prints inside n named named [] type_marks
unfolding named
prints_named i = prints_named_as kinds.Local type_name types.Named type_mark type_marks (prints_type_name i) (λ a. refl)

type_words : (void : Bool) → Entries (scalars void) type_marks (scalars void)
type_words true = ((words.Void, refl, refl), ((words.Int W32, refl, refl), ((words.Ptr, refl, refl), ((words.Int W8, refl, refl), ((words.Int W1, refl, refl), ((words.Int W16, refl, refl), tt))))))
type_words false = ((words.Int W32, refl, refl), ((words.Ptr, refl, refl), ((words.Int W8, refl, refl), ((words.Int W1, refl, refl), ((words.Int W16, refl, refl), tt)))))

pub never_takes : {A : Type 0} {B : Type 0} (b : Bool) (a : A) → (if b then Over limits.Nesting else Refuses) ≡ Takes a → B
never_takes true a h = absurd cc
never_takes false a h = absurd cc

last_from : (void : Bool) (t : Token) (a : IrType) → last_of void t ≡ Takes a → (w : List ℕ) × (look (scalars void) w ≡ Takes a)
last_from void (tokens.Word w) a h = (w, h)
last_from void (tokens.Sign c) a h = never_takes (nat_eq c 91 || nat_eq c 123) a h
last_from void (tokens.Int x) a h = absurd cc
last_from void (tokens.Label x) a h = absurd cc
last_from void (tokens.Local x) a h = absurd cc
last_from void (tokens.Global x) a h = absurd cc
last_from void (tokens.Str x) a h = absurd cc
last_from void (tokens.CStr x) a h = absurd cc
last_from void (tokens.Meta x) a h = absurd cc
last_from void (tokens.Hash x) a h = absurd cc
last_from void tokens.End a h = absurd cc

prints_array : {inside : Bool} {n : Tables} {f : Form IrType} (most : Option ℕ) → Prints inside n f f [] type_marks → Prints inside n (array most f) (array most f) [] type_marks
prints_array most h =
    prints_then (prints_expect (sign 91) (marks.Opening signs.OpenSquare) (tokens.Sign 91) refl tt refl refl) (λ (c : Unit {0}).
    prints_then (prints_number most) (λ (k : ℕ).
    prints_then (prints_expect (word (codes "x")) (marks.Word words.X) (tokens.Word (codes "x")) refl tt refl refl) (λ (x : Unit {0}).
    prints_then h (λ (t : IrType).
    prints_then (prints_expect (sign 93) (marks.Closing signs.CloseSquare) (tokens.Sign 93) refl tt refl refl) (λ (d : Unit {0}).
    prints_done (array_type k t))))))

-- the last sign of a list in curly brackets
pub prints_close : {inside : Bool} {n : Tables} (parts : List (List Mark)) → Prints inside n (expect (sign 125)) (expect (sign 125)) [] (λ u. last_sign signs.CloseCurly parts ∷ [])
prints_close [] = prints_expect (sign 125) (marks.Closing signs.CloseCurly) (tokens.Sign 125) refl tt refl refl
prints_close (p ∷ ps) = prints_expect (sign 125) (marks.Spaced signs.CloseCurly) (tokens.Sign 125) refl tt refl refl

prints_struct : {inside : Bool} {n : Tables} {f : Form IrType} → Prints inside n f f [] type_marks → Prints inside n (struct f) (struct f) [] type_marks
prints_struct h =
    prints_then (prints_expect (sign 123) (marks.Spaced signs.OpenCurly) (tokens.Sign 123) refl tt refl refl) (λ (c : Unit {0}).
    prints_then (prints_listed (type_set true) type_marks h) (λ (ts : List IrType).
    prints_then (prints_close (map type_marks ts)) (λ (d : Unit {0}).
    prints_done (struct_type ts))))

pub prints_type : {inside : Bool} {n : Tables} → IndexedTables n → (void : Bool) (most : Option ℕ) (k : ℕ) → Prints inside n (type_in void most k) (type_in void most k) [] type_marks
unfolding type_in
prints_type i void most zero = prints_either (kind kinds.Local) (prints_named i) (prints_look (last_of void) (scalars void) type_marks (type_words void) (last_from void) (λ w a h. h))
prints_type i void most (suc k) =
    prints_either (kind kinds.Local) (prints_named i)
    (prints_either (words_of (scalars void)) (prints_table (scalars void) type_marks (type_words void))
    (prints_either (sign 91) (prints_array most (prints_type i true most k)) (prints_struct (prints_type i true most k))))

pub prints_type_form : {inside : Bool} {n : Tables} → IndexedTables n → (l : Limits) → Prints inside n (type_form l) (type_form l) [] type_marks
unfolding type_form
prints_type_form i l = prints_type i true l.length l.levels

pub prints_value_type : {inside : Bool} {n : Tables} → IndexedTables n → (l : Limits) → Prints inside n (value_type l) (value_type l) [] type_marks
unfolding value_type
prints_value_type i l = prints_type i false l.length l.levels
