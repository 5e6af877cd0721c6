-- Calls with a name are printed as they are read.
use Rattle.std.proofs.Common.{◌≡◌, inr, refl, Bool, true, false, List, [], ◌∷◌, ◌++◌, ℕ, map}
use Rattle.std.specs.Prelude.{codes}
use Rattle.std.proofs.lemmas.List.{append_assoc}
use Rattle.ir_lexer.specs.declared.table.Token.{Token}
use Rattle.ir_lexer.specs.declared.table.Token.TheVariants as tokens
use Rattle.ir_core.specs.declared.ty.IrType.{IrType}
use Rattle.ir_core.specs.declared.module.SymId.{SymId}
use Rattle.ir_core.specs.declared.op.TypedOperand.{TypedOperand}
use Rattle.ir_grammar.specs.declared.kinds.Barred.TheVariants as barred
use Rattle.ir_grammar.specs.Forms.{Takes}
use Rattle.ir_grammar.specs.Tokens.{Limits, expect}
use Rattle.ir_grammar.specs.Values.{gep_word}
use Rattle.ir_grammar.specs.Attributes.{no_marks, attribute_list}
use Rattle.ir_grammar.specs.Operations.{tail_word, call_word, call_words, call_words_form, call_head, call_end, is_lifetime, callee_if, callee_of, callee, named_call, op}
use Rattle.ir_printer.specs.declared.words.Word.TheVariants as words
use Rattle.ir_printer.specs.declared.marks.Mark.{Mark}
use Rattle.ir_printer.specs.declared.marks.Mark.TheVariants as marks
use Rattle.ir_printer.specs.Layout.{Tables}
use Rattle.ir_printer.specs.Marks.{in_round, type_marks, typed_marks, op_marks}
use Rattle.ir_printer.proofs.Reprinting.{IndexedTables, Prints, prints_then, prints_done, prints_either, prints_cases, prints_in}
use Rattle.ir_printer.proofs.NamesReprinted.{prints_symbol_by}
use Rattle.ir_printer.proofs.TokensReprinted.{Quiet, Silent, prints_expect, prints_drop, prints_past}
use Rattle.ir_printer.proofs.TypesReprinted.{prints_value_type}
use Rattle.ir_printer.proofs.QuietForms.{quiet_token, quiet_then, quiet_attribute_list, silent_attribute_list, quiet_notes, silent_notes}
use Rattle.ir_printer.proofs.ArgumentsReprinted.{prints_arguments}
use Rattle.ir_printer.proofs.OperationsReprinted.{prints_gep_op, prints_other_op}

-- ---- the callee

callee_by : (b : Bool) (x name : List ℕ) → callee_if b x ≡ Takes name → tokens.Global x ≡ tokens.Global name
callee_by true x name h = absurd cc
callee_by false x name h = cc

pub callee_is : (t : Token) (name : List ℕ) → callee_of t ≡ Takes name → t ≡ tokens.Global name
callee_is (tokens.Global x) name h = callee_by (is_lifetime x) x name h
callee_is (tokens.Int x) name h = absurd cc
callee_is (tokens.Word x) name h = absurd cc
callee_is (tokens.Label x) name h = absurd cc
callee_is (tokens.Local x) name h = absurd cc
callee_is (tokens.Str x) name h = absurd cc
callee_is (tokens.CStr x) name h = absurd cc
callee_is (tokens.Meta x) name h = absurd cc
callee_is (tokens.Hash x) name h = absurd cc
callee_is (tokens.Sign x) name h = absurd cc
callee_is tokens.End name h = absurd cc

pub prints_callee : {inside : Bool} {n : Tables} → IndexedTables n → Prints inside n callee callee [] (λ g. marks.Symbol g ∷ [])
unfolding callee
prints_callee i = prints_symbol_by callee_of callee_is i

-- ---- the head and the end

pub prints_call_word : {inside : Bool} {n : Tables} → Prints inside n (expect call_word) (expect call_word) [] (λ u. marks.Word words.Call ∷ [])
prints_call_word = prints_expect call_word (marks.Word words.Call) (tokens.Word (codes "call")) refl tt refl refl

-- `tail` is left out
pub prints_call_words : {inside : Bool} {n : Tables} → Prints inside n call_words_form (expect call_word) [] (λ u. marks.Word words.Call ∷ [])
prints_call_words = prints_cases tail_word (prints_drop (expect tail_word) (quiet_token _) prints_call_word) prints_call_word

pub prints_call_head : {inside : Bool} {n : Tables} → Prints inside n call_head call_head [] (λ u. marks.Word words.Call ∷ [])
unfolding call_head
prints_call_head = prints_then (prints_in prints_call_words (λ s u a t r. inr r)) (λ (w : Unit {0}). prints_past (attribute_list barred.Values no_marks) no_marks (quiet_attribute_list barred.Values no_marks) (silent_attribute_list barred.Values no_marks) (prints_done refl))

pub quiet_call_end : Quiet call_end
unfolding call_end
quiet_call_end = quiet_then (quiet_attribute_list barred.Code no_marks) (λ m. quiet_notes)

pub silent_call_end : Silent call_end tt
unfolding call_end
silent_call_end s = (no_marks, s, [], [], refl, silent_attribute_list barred.Code no_marks s, silent_notes s)

-- ---- calls

call_marks_are : (w f : Mark) (ts as' : List Mark) → w ∷ (ts ++ (f ∷ as')) ≡ (((w ∷ []) ++ ts) ++ f ∷ []) ++ as'
call_marks_are w f ts as' = simp append_assoc

pub prints_named_call : {n : Tables} → IndexedTables n → (l : Limits) → Prints true n (named_call l) (named_call l) [] op_marks
unfolding named_call
prints_named_call i l =
    prints_then prints_call_head (λ (h : Unit {0}).
    prints_then (prints_value_type i l) (λ (t : IrType).
    prints_then (prints_callee i) (λ (f : SymId).
    prints_then (prints_arguments i l) (λ (as' : List TypedOperand).
    prints_past call_end tt quiet_call_end silent_call_end (prints_done (call_marks_are (marks.Word words.Call) (marks.Symbol f) (type_marks t) (in_round (map typed_marks as'))))))))

-- an operation with a result that has a name
pub prints_op : {n : Tables} → IndexedTables n → (l : Limits) → Prints true n (op l) (op l) [] op_marks
unfolding op
prints_op i l = prints_either call_words (prints_named_call i l) (prints_either gep_word (prints_gep_op i l) (prints_other_op i l))
