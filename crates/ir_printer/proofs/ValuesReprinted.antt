-- Values and initialisers are printed as they are read.
use Rattle.std.proofs.Common.{◌≡◌, refl, subst, ℕ, ℤ, zero, suc, Bool, true, false, not, nat_eq, ◌||◌, List, [], ◌∷◌, ◌++◌, map}
use Rattle.std.specs.Prelude.{Option, codes}
use Rattle.std.proofs.lemmas.List.{append_assoc}
use Rattle.ir_lexer.specs.declared.table.Token.{Token}
use Rattle.ir_lexer.specs.declared.table.Token.TheVariants as tokens
use Rattle.ir_core.specs.declared.ty.IrType.{IrType}
use Rattle.ir_core.specs.declared.module.SymId.{SymId}
use Rattle.ir_core.specs.declared.constant.Const.{Const}
use Rattle.ir_core.specs.declared.constant.TypedConst.{TypedConst}
use Rattle.ir_core.specs.declared.constant.TypedCount.{TypedCount}
use Rattle.ir_core.specs.declared.op.Operand.{Operand}
use Rattle.ir_core.specs.declared.op.Operand.TheVariants as operands
use Rattle.ir_grammar.specs.declared.kinds.Kind.TheVariants as kinds
use Rattle.ir_grammar.specs.Names.{local}
use Rattle.ir_grammar.specs.Sets.{is_debug, are_digits, kind_if, kind_fits, OfKind}
use Rattle.ir_grammar.specs.Forms.{Form, Takes}
use Rattle.ir_grammar.specs.Tokens.{Limits, expect, sign, word, kind, look, one_word, text_of, text_if, text}
use Rattle.ir_grammar.specs.Types.{type_set}
use Rattle.ir_grammar.specs.Values.{const_words, gep_word, gep_flags, global, index, gep_rest, gep, address, integer, const_at, constant, local_value, value, typed, zero_init, bytes, last_const_of, typed_init, array_init, struct_init, init_at, init}
use Rattle.ir_printer.specs.declared.words.Word.TheVariants as words
use Rattle.ir_printer.specs.declared.marks.Sign.TheVariants as signs
use Rattle.ir_printer.specs.declared.marks.Mark.{Mark}
use Rattle.ir_printer.specs.declared.marks.Mark.TheVariants as marks
use Rattle.ir_printer.specs.Layout.{Tables}
use Rattle.ir_printer.specs.Marks.{comma, after_commas, last_sign, type_marks, count_marks, const_marks, typed_const_marks, value_marks, typed_marks}
use Rattle.ir_printer.specs.Reprints.{IsSound}
use Rattle.ir_printer.proofs.Levels.{array_const, struct_const}
use Rattle.ir_printer.proofs.Reprinting.{IndexedTables, Prints, prints_token, prints_then, prints_done, prints_either}
use Rattle.ir_printer.proofs.NamesReprinted.{prints_symbol}
use Rattle.ir_printer.proofs.LocalsReprinted.{prints_local}
use Rattle.ir_printer.proofs.TokensReprinted.{Entries, prints_expect, prints_comma, prints_look, prints_table, prints_int, prints_past}
use Rattle.ir_printer.proofs.ListsReprinted.{prints_commas, prints_listed, prints_named_as}
use Rattle.ir_printer.proofs.TypesReprinted.{prints_type, prints_type_form, prints_close, never_takes}
use Rattle.ir_printer.proofs.QuietForms.{quiet_gep_flags, silent_gep_flags}

-- ---- constants

const_entries : Entries const_words const_marks const_words
const_entries = ((words.True, refl, refl), ((words.False, refl, refl), ((words.Null, refl, refl), ((words.Undef, refl, refl), ((words.Poison, refl, refl), tt)))))

pub prints_global : {inside : Bool} {n : Tables} → IndexedTables n → Prints inside n global global [] (λ g. marks.Symbol g ∷ [])
unfolding global
prints_global i = prints_symbol i

pub prints_address : {inside : Bool} {n : Tables} → IndexedTables n → Prints inside n address address [] const_marks
prints_address i = prints_then (prints_global i) (λ (g : SymId). prints_done refl)

pub prints_integer : {inside : Bool} {n : Tables} → Prints inside n integer integer [] const_marks
prints_integer = prints_then prints_int (λ (j : ℤ). prints_done refl)

pub prints_count : {inside : Bool} {n : Tables} → IndexedTables n → (most : Option ℕ) (k : ℕ) → Prints inside n (index most k) (index most k) [] count_marks
prints_count i most k = prints_then (prints_type i true most k) (λ (t : IrType). prints_then prints_int (λ (j : ℤ). prints_done refl))

gep_marks_are : (a b c d e f : Mark) (ts cs : List Mark) → a ∷ b ∷ (ts ++ (c ∷ d ∷ e ∷ (cs ++ f ∷ []))) ≡ (((((((a ∷ []) ++ b ∷ []) ++ ts) ++ c ∷ []) ++ d ∷ []) ++ e ∷ []) ++ cs) ++ f ∷ []
gep_marks_are a b c d e f ts cs = simp append_assoc

-- what stands after the word
pub prints_gep_rest : {inside : Bool} {n : Tables} → IndexedTables n → (most : Option ℕ) (k : ℕ) → Prints inside n (gep_rest most k) (gep_rest most k) (marks.Word words.GetElementPtr ∷ []) const_marks
unfolding gep_rest
prints_gep_rest i most k =
    prints_then (prints_expect (sign 40) (marks.Opening signs.OpenRound) (tokens.Sign 40) refl tt refl refl) (λ (o : Unit {0}).
    prints_then (prints_type i true most k) (λ (t : IrType).
    prints_then prints_comma (λ (c : Unit {0}).
    prints_then (prints_expect (word (codes "ptr")) (marks.Word words.Ptr) (tokens.Word (codes "ptr")) refl tt refl refl) (λ (p : Unit {0}).
    prints_then (prints_global i) (λ (g : SymId).
    prints_then (prints_commas count_marks (prints_count i most k)) (λ (is : List TypedCount).
    prints_then (prints_expect (sign 41) (marks.Closing signs.CloseRound) (tokens.Sign 41) refl tt refl refl) (λ (d : Unit {0}).
    prints_done (gep_marks_are (marks.Word words.GetElementPtr) (marks.Opening signs.OpenRound) comma (marks.Word words.Ptr) (marks.Symbol g) (marks.Closing signs.CloseRound) (type_marks t) (after_commas (map count_marks is))))))))))

pub prints_gep_word : {inside : Bool} {n : Tables} → Prints inside n (expect gep_word) (expect gep_word) [] (λ u. marks.Word words.GetElementPtr ∷ [])
prints_gep_word = prints_expect gep_word (marks.Word words.GetElementPtr) (tokens.Word (codes "getelementptr")) refl tt refl refl

pub prints_gep : {inside : Bool} {n : Tables} → IndexedTables n → (most : Option ℕ) (k : ℕ) → Prints inside n (gep most k) (gep most k) [] const_marks
unfolding gep
prints_gep i most k = prints_then prints_gep_word (λ (w : Unit {0}). prints_past gep_flags tt quiet_gep_flags silent_gep_flags (prints_gep_rest i most k))

pub prints_const_word : {inside : Bool} {n : Tables} → Prints inside n (one_word const_words) (one_word const_words) [] const_marks
prints_const_word = prints_table const_words const_marks const_entries

pub prints_const : {inside : Bool} {n : Tables} → IndexedTables n → (most : Option ℕ) (k : ℕ) → Prints inside n (const_at most k) (const_at most k) [] const_marks
unfolding const_at
prints_const i most k = prints_either (kind kinds.Global) (prints_address i) (prints_either gep_word (prints_gep i most k) (prints_either (kind kinds.Int) prints_integer prints_const_word))

-- ---- values

pub prints_local_value : {n : Tables} → IndexedTables n → Prints true n local_value local_value [] value_marks
unfolding local_value
prints_local_value i = prints_named_as kinds.Local local operands.Local (λ x. marks.Local x ∷ []) value_marks (prints_local i) (λ a. refl)

pub prints_value : {n : Tables} → IndexedTables n → (l : Limits) → Prints true n (value l) (value l) [] value_marks
unfolding value constant
prints_value i l = prints_either (kind kinds.Local) (prints_local_value i) (prints_then (prints_const i l.length l.levels) (λ (c : Const). prints_done refl))

pub prints_typed : {n : Tables} → IndexedTables n → (l : Limits) → Prints true n (typed l) (typed l) [] typed_marks
unfolding typed
prints_typed i l = prints_then (prints_type_form i l) (λ (t : IrType). prints_then (prints_value i l) (λ (v : Operand). prints_done refl))

-- ---- initialisers

cstr_is : (t : Token) (name : List ℕ) → text_of kinds.CStr t ≡ Takes name → t ≡ tokens.CStr name
cstr_is (tokens.Global x) name h = cc
cstr_is (tokens.Meta x) name h = at (is_debug x) h
  where
    at : (b : Bool) → text_if (kind_fits (kind_if (not b) kinds.Meta) (OfKind kinds.CStr) || false) x ≡ Takes name → tokens.Meta x ≡ tokens.CStr name
    at true h = cc
    at false h = cc
cstr_is (tokens.Hash x) name h = at (are_digits x) h
  where
    at : (b : Bool) → text_if (kind_fits (kind_if b kinds.Hash) (OfKind kinds.CStr) || false) x ≡ Takes name → tokens.Hash x ≡ tokens.CStr name
    at true h = cc
    at false h = cc
cstr_is (tokens.Int x) name h = cc
cstr_is (tokens.Word x) name h = cc
cstr_is (tokens.Label x) name h = cc
cstr_is (tokens.Local x) name h = cc
cstr_is (tokens.Str x) name h = cc
cstr_is (tokens.CStr x) name h = cc
cstr_is (tokens.Sign x) name h = cc
cstr_is tokens.End name h = cc

prints_cstr : {inside : Bool} {n : Tables} → Prints inside n (text kinds.CStr) (text kinds.CStr) [] (λ b. marks.CStr b ∷ [])
prints_cstr = prints_token (λ t b e sound. (marks.CStr b, tokens.CStr b, refl, record { plain = refl; spellable = subst IsSound (cstr_is t b e) sound; told = refl; takes = refl }))

prints_zero : {inside : Bool} {n : Tables} → Prints inside n zero_init zero_init [] const_marks
prints_zero = prints_then (prints_expect (word (codes "zeroinitializer")) (marks.Word words.ZeroInitializer) (tokens.Word (codes "zeroinitializer")) refl tt refl refl) (λ (w : Unit {0}). prints_done refl)

prints_bytes : {inside : Bool} {n : Tables} → Prints inside n bytes bytes [] const_marks
prints_bytes = prints_then prints_cstr (λ (b : List ℕ). prints_done refl)

prints_typed_init : {inside : Bool} {n : Tables} {f : Form Const} → IndexedTables n → (most : Option ℕ) (k : ℕ) → Prints inside n f f [] const_marks → Prints inside n (typed_init f most k) (typed_init f most k) [] typed_const_marks
prints_typed_init i most k h = prints_then (prints_type i true most k) (λ (t : IrType). prints_then h (λ (c : Const). prints_done refl))

close_square : {inside : Bool} {n : Tables} (parts : List (List Mark)) → Prints inside n (expect (sign 93)) (expect (sign 93)) [] (λ u. last_sign signs.CloseSquare parts ∷ [])
close_square [] = prints_expect (sign 93) (marks.Closing signs.CloseSquare) (tokens.Sign 93) refl tt refl refl
close_square (p ∷ ps) = prints_expect (sign 93) (marks.Spaced signs.CloseSquare) (tokens.Sign 93) refl tt refl refl

prints_array_init : {inside : Bool} {n : Tables} {f : Form TypedConst} → Prints inside n f f [] typed_const_marks → Prints inside n (array_init f) (array_init f) [] const_marks
prints_array_init h =
    prints_then (prints_expect (sign 91) (marks.Spaced signs.OpenSquare) (tokens.Sign 91) refl tt refl refl) (λ (o : Unit {0}).
    prints_then (prints_listed (type_set true) typed_const_marks h) (λ (cs : List TypedConst).
    prints_then (close_square (map typed_const_marks cs)) (λ (d : Unit {0}).
    prints_done (array_const cs))))

prints_struct_init : {inside : Bool} {n : Tables} {f : Form TypedConst} → Prints inside n f f [] typed_const_marks → Prints inside n (struct_init f) (struct_init f) [] const_marks
prints_struct_init h =
    prints_then (prints_expect (sign 123) (marks.Spaced signs.OpenCurly) (tokens.Sign 123) refl tt refl refl) (λ (o : Unit {0}).
    prints_then (prints_listed (type_set true) typed_const_marks h) (λ (cs : List TypedConst).
    prints_then (prints_close (map typed_const_marks cs)) (λ (d : Unit {0}).
    prints_done (struct_const cs))))

last_from : (t : Token) (a : Const) → last_const_of t ≡ Takes a → (w : List ℕ) × (look const_words w ≡ Takes a)
last_from (tokens.Word w) a h = (w, h)
last_from (tokens.Sign c) a h = never_takes (nat_eq c 91 || nat_eq c 123) a h
last_from (tokens.Int x) a h = absurd cc
last_from (tokens.Label x) a h = absurd cc
last_from (tokens.Local x) a h = absurd cc
last_from (tokens.Global x) a h = absurd cc
last_from (tokens.Str x) a h = absurd cc
last_from (tokens.CStr x) a h = absurd cc
last_from (tokens.Meta x) a h = absurd cc
last_from (tokens.Hash x) a h = absurd cc
last_from tokens.End a h = absurd cc

pub prints_init_at : {inside : Bool} {n : Tables} → IndexedTables n → (most : Option ℕ) (k : ℕ) → Prints inside n (init_at most k) (init_at most k) [] const_marks
unfolding init_at
prints_init_at i most zero =
    prints_either (kind kinds.Global) (prints_address i) (prints_either gep_word (prints_gep i most zero) (prints_either (kind kinds.Int) prints_integer
    (prints_either (word (codes "zeroinitializer")) prints_zero (prints_either (kind kinds.CStr) prints_bytes
    (prints_look last_const_of const_words const_marks const_entries last_from (λ w a h. h))))))
prints_init_at i most (suc k) =
    let items = prints_typed_init i most k (prints_init_at i most k) in
    prints_either (kind kinds.Global) (prints_address i) (prints_either gep_word (prints_gep i most (suc k)) (prints_either (kind kinds.Int) prints_integer
    (prints_either (word (codes "zeroinitializer")) prints_zero (prints_either (kind kinds.CStr) prints_bytes
    (prints_either (sign 91) (prints_array_init items) (prints_either (sign 123) (prints_struct_init items) prints_const_word))))))

pub prints_init : {inside : Bool} {n : Tables} → IndexedTables n → (l : Limits) → Prints inside n (init l) (init l) [] const_marks
unfolding init
prints_init i l = prints_init_at i l.length l.levels
