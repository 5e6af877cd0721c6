-- The laws of operations and instructions.
use Rattle.std.proofs.Common.{◌≡◌, ℕ, ◌+◌, Bool, true, false, List, [], ◌∷◌, ◌++◌, length, refl}
use Rattle.std.specs.Prelude.{Option, Some, None, codes, pos}
use Rattle.oi_base.specs.declared.ids.Place.{Place}
use Rattle.ir_lexer.specs.declared.table.Token.{Token}
use Rattle.ir_lexer.specs.declared.table.Token.TheVariants as tokens
use Rattle.ir_core.specs.declared.flat.BinOp.{BinOp}
use Rattle.ir_core.specs.declared.flat.BinOp.TheVariants as bins
use Rattle.ir_core.specs.declared.flat.Cmp.{Cmp}
use Rattle.ir_core.specs.declared.flat.Cmp.TheVariants as orders
use Rattle.ir_core.specs.declared.flat.CastOp.{CastOp}
use Rattle.ir_core.specs.declared.flat.CastOp.TheVariants as casts
use Rattle.ir_core.specs.declared.ty.IrType.{IrType}
use Rattle.ir_core.specs.declared.module.SymId.{SymId}
use Rattle.ir_core.specs.declared.constant.TypedCount.{TypedCount}
use Rattle.ir_core.specs.declared.op.LocalId.{LocalId}
use Rattle.ir_core.specs.declared.op.Operand.{Operand}
use Rattle.ir_core.specs.declared.op.TypedOperand.{TypedOperand}
use Rattle.ir_core.specs.declared.op.Pair.{Pair}
use Rattle.ir_core.specs.declared.op.Op.{Op}
use Rattle.ir_core.specs.declared.op.Op.TheVariants as ops
use Rattle.ir_grammar.specs.declared.kinds.Kind.TheVariants as kinds
use Rattle.ir_grammar.specs.declared.kinds.Barred.TheVariants as barred
use Rattle.ir_grammar.specs.declared.parts.Marks.{Marks}
use Rattle.ir_grammar.specs.declared.which.Which.TheVariants as limits
use Rattle.ir_grammar.specs.Names.{local, symbol, define, define_next}
use Rattle.ir_grammar.specs.Sets.{Set, apart}
use Rattle.ir_grammar.specs.Forms.{Form, ◌>>=◌}
use Rattle.ir_grammar.specs.Tokens.{Limits, is_past, sign, kind, words_of, text, expect, skip}
use Rattle.ir_grammar.specs.Types.{type_set}
use Rattle.ir_grammar.specs.Values.{gep_word}
use Rattle.ir_grammar.specs.Attributes.{no_marks, attribute_set}
use Rattle.ir_grammar.specs.Operations.{listing, items_and_notes, align_word, align_then_notes, note_then_notes, align_or_notes, align_and_notes, bin_words, bin_flag, bin, order_words, icmp_word, samesign, may_samesign, icmp, select_word, select, cast_words, cast_flag, cast, alloca_word, count_and_rest, alloca, load_word, load, gep_op_rest, gep_op, pair, phi_word, phi, other_words, other_op, store_word, store, next_item, more_items, tail_word, call_words, call_head, call_end, is_lifetime, callee_if, callee_of, callee, arguments, named_call, op, Line, result_of, called, keep_types, lifetime, types_so_far, unnamed_call, other_line_set, other_line, line, line_set, instr_at, instr}
use Rattle.ir_grammar.proofs.FormLaws.{Shape, Law, Fits, any_token, law_choose}
use Rattle.ir_grammar.proofs.Rules.{begins_with, goes_on_with, maybe, seq, or, again, done, does, placed, expects, takes, law_one_word, shaped, with_any, begun_by_any}
use Rattle.ir_grammar.proofs.LawsOfTokens.{is_sign, is_word, law_text, law_number, law_over, law_skip}
use Rattle.ir_grammar.proofs.LawsOfTypes.{law_type_form, law_value_type}
use Rattle.ir_grammar.proofs.LawsOfValues.{law_gep_flags, law_value, law_typed}
use Rattle.ir_grammar.proofs.LawsOfGroups.{law_group}
use Rattle.ir_grammar.proofs.LawsOfAttributes.{law_note, law_notes, attribute_greedy, law_attribute_list, argument_ends, law_argument}

-- ---- items and then notes

pub law_listing : {A : Type 0} {w : Bool} {f : Form A} {z : Set} → Law w f (begins_with z) → apart (kind kinds.Meta) (z ++ []) ≡ true → (b : Bool) (xs : List A) → Law w (expect (sign 44) >>= λ c. listing f b xs) (begins_with (sign 44))
law_listing law e true xs = seq (is_sign 44 refl) (λ (c : Unit). seq law_note (λ (n : Unit). done (true, xs)) refl) refl
law_listing {A = A} law e false xs = seq (is_sign 44 refl) (λ (c : Unit). or (seq law_note (λ (n : Unit). done (true, xs)) refl) (seq law (λ (a : A). done (false, xs ++ a ∷ [])) refl) refl e) refl

pub law_items_and_notes : {A : Type 0} {w : Bool} {f : Form A} {z : Set} → Law w f (begins_with z) → apart (kind kinds.Meta) (z ++ []) ≡ true → (xs : List A) → Law w (items_and_notes f xs) (maybe (sign 44) (sign 44))
law_items_and_notes {A = A} law e xs = again (λ (x : Bool × List A). law_listing law e x.0 x.1) (λ (x : Bool × List A). done x.1) refl refl refl refl (false, xs)

law_align_then_notes : {w : Bool} (l : Limits) → Law w (align_then_notes l) (goes_on_with align_word (sign 44))
unfolding align_then_notes
law_align_then_notes l = seq (is_word (codes "align") refl) (λ (u : Unit). seq (law_number l.length) (λ (n : ℕ). seq law_notes (λ (e : Unit). done (Some n)) refl) refl) refl

pub law_note_then_notes : {w : Bool} → Law w note_then_notes (goes_on_with (kind kinds.Meta) (sign 44))
unfolding note_then_notes
law_note_then_notes = seq law_note (λ (e : Unit). law_notes) refl

abbrev align_or_note : Set
align_or_note = align_word ++ kind kinds.Meta

law_align_or_notes : {w : Bool} (l : Limits) → Law w (align_or_notes l) (goes_on_with align_or_note (sign 44))
unfolding align_or_notes
law_align_or_notes l = shaped (or (law_align_then_notes l) (seq law_note_then_notes (λ (e : Unit). done None) refl) refl refl) align_or_note (sign 44) refl refl

pub law_align_and_notes : {w : Bool} (l : Limits) → Law w (align_and_notes l) (maybe (sign 44) (sign 44))
unfolding align_and_notes
law_align_and_notes l = shaped (or (seq (is_sign 44 refl) (λ (c : Unit). law_align_or_notes l) refl) (done None) refl refl) (sign 44) (sign 44) refl refl

-- ---- operations

pub law_bin_flags : {w : Bool} → Law w (skip bin_flag (expect bin_flag)) (maybe bin_flag bin_flag)
law_bin_flags = shaped (law_skip (expects bin_flag (tokens.Word (codes "nuw")) refl) refl refl refl) bin_flag bin_flag refl refl

law_bin : {w : Bool} (l : Limits) → Law w (bin l) (goes_on_with (words_of bin_words) (sign 44))
unfolding bin
law_bin l =
    seq (law_one_word bin_words (codes "add") bins.Add refl) (λ (o : BinOp). seq law_bin_flags (λ (f : Unit). seq (law_type_form l) (λ (t : IrType). seq (law_value l) (λ (a : Operand).
    seq (is_sign 44 refl) (λ (c : Unit). seq (law_value l) (λ (b : Operand). seq law_notes (λ (n : Unit). done (ops.Bin o t a b)) refl) refl) refl) refl) refl) refl) refl

pub law_may_samesign : {w : Bool} → Law w may_samesign (maybe samesign samesign)
law_may_samesign = or (is_word (codes "samesign") refl) (done tt) refl refl

law_icmp : {w : Bool} (l : Limits) → Law w (icmp l) (goes_on_with icmp_word (sign 44))
unfolding icmp
law_icmp l =
    seq (is_word (codes "icmp") refl) (λ (u : Unit). seq law_may_samesign (λ (f : Unit). seq (law_one_word order_words (codes "eq") orders.Eq refl) (λ (o : Cmp).
    seq (law_type_form l) (λ (t : IrType). seq (law_value l) (λ (a : Operand). seq (is_sign 44 refl) (λ (c : Unit). seq (law_value l) (λ (b : Operand). seq law_notes (λ (n : Unit). done (ops.Icmp o t a b)) refl) refl) refl) refl) refl) refl) refl) refl

law_select : {w : Bool} (l : Limits) → Law w (select l) (goes_on_with select_word (sign 44))
unfolding select
law_select l =
    seq (is_word (codes "select") refl) (λ (u : Unit). seq (law_typed l) (λ (a : TypedOperand). seq (is_sign 44 refl) (λ (c : Unit). seq (law_typed l) (λ (b : TypedOperand).
    seq (is_sign 44 refl) (λ (d : Unit). seq (law_typed l) (λ (e : TypedOperand). seq law_notes (λ (n : Unit). done (ops.Select a b e)) refl) refl) refl) refl) refl) refl) refl

pub law_cast_flags : {w : Bool} → Law w (skip cast_flag (expect cast_flag)) (maybe cast_flag cast_flag)
law_cast_flags = shaped (law_skip (expects cast_flag (tokens.Word (codes "nuw")) refl) refl refl refl) cast_flag cast_flag refl refl

law_cast : {w : Bool} (l : Limits) → Law w (cast l) (goes_on_with (words_of cast_words) (sign 44))
unfolding cast
law_cast l =
    seq (law_one_word cast_words (codes "zext") casts.Zext refl) (λ (o : CastOp). seq law_cast_flags (λ (f : Unit). seq (law_typed l) (λ (a : TypedOperand). seq (is_word (codes "to") refl) (λ (u : Unit).
    seq (law_type_form l) (λ (t : IrType). seq law_notes (λ (n : Unit). done (ops.Cast o a t)) refl) refl) refl) refl) refl) refl

law_count_and_rest : {w : Bool} (l : Limits) → Law w (count_and_rest l) (goes_on_with (type_set true) (sign 44))
unfolding count_and_rest
law_count_and_rest l =
    seq (law_type_form l) (λ (t : IrType). seq (law_number l.length) (λ (n : ℕ). seq (law_align_and_notes l) (λ (a : Option ℕ). done (Some (record { ty = t; count = pos n }), a)) refl) refl) refl

law_alloca : {w : Bool} (l : Limits) → Law w (alloca l) (goes_on_with alloca_word (sign 44))
unfolding alloca
law_alloca l =
    shaped (seq (is_word (codes "alloca") refl) (λ (u : Unit). seq (law_type_form l) (λ (t : IrType).
    seq (or (seq (is_sign 44 refl) (λ (c : Unit). or (law_count_and_rest l) (seq (law_align_or_notes l) (λ (a : Option ℕ). done (None, a)) refl) refl refl) refl) (done (None, None)) refl refl)
    (λ (x : Option TypedCount × Option ℕ). done (ops.Alloca t x.0 x.1)) refl) refl) refl) alloca_word (sign 44) refl refl

law_load : {w : Bool} (l : Limits) → Law w (load l) (goes_on_with load_word (sign 44))
unfolding load
law_load l =
    seq (is_word (codes "load") refl) (λ (u : Unit). seq (law_type_form l) (λ (t : IrType). seq (is_sign 44 refl) (λ (c : Unit). seq (law_typed l) (λ (a : TypedOperand).
    seq (law_align_and_notes l) (λ (n : Option ℕ). done (ops.Load t a n)) refl) refl) refl) refl) refl

pub law_gep_op_rest : {w : Bool} (l : Limits) → Law w (gep_op_rest l) (goes_on_with (type_set true) (sign 44))
unfolding gep_op_rest
law_gep_op_rest l =
    seq (law_type_form l) (λ (t : IrType). seq (is_sign 44 refl) (λ (c : Unit). seq (law_typed l) (λ (a : TypedOperand).
    seq (law_items_and_notes (law_typed l) refl []) (λ (is : List TypedOperand). done (ops.Gep t a is)) refl) refl) refl) refl

law_gep_op : {w : Bool} (l : Limits) → Law w (gep_op l) (goes_on_with gep_word (sign 44))
unfolding gep_op
law_gep_op l = seq (is_word (codes "getelementptr") refl) (λ (u : Unit). seq law_gep_flags (λ (f : Unit). law_gep_op_rest l) refl) refl

pub law_local_name : {w : Bool} → Law w (text kinds.Local) (begins_with (kind kinds.Local))
law_local_name = law_text kinds.Local (tokens.Local []) refl

pub law_pair : {w : Bool} (l : Limits) → Law w (pair l) (begins_with (sign 91))
unfolding pair
law_pair l =
    seq (is_sign 91 refl) (λ (o : Unit). seq (law_value l) (λ (v : Operand). seq (is_sign 44 refl) (λ (c : Unit). seq law_local_name (λ (n : List ℕ). seq (does (local n)) (λ (b : LocalId).
    seq (is_sign 93 refl) (λ (d : Unit). done (record { value = v; from = b })) refl) refl) refl) refl) refl) refl

law_phi : {w : Bool} (l : Limits) → Law w (phi l) (goes_on_with phi_word (sign 44))
unfolding phi
law_phi l =
    seq (is_word (codes "phi") refl) (λ (u : Unit). seq (law_type_form l) (λ (t : IrType). seq (law_pair l) (λ (p : Pair).
    seq (law_items_and_notes (law_pair l) refl (p ∷ [])) (λ (ps : List Pair). done (ops.Phi t ps)) refl) refl) refl) refl

pub law_other_op : {w : Bool} (l : Limits) → Law w (other_op l) (goes_on_with other_words (sign 44))
unfolding other_op
law_other_op l =
    shaped (or (law_bin l) (or (law_icmp l) (or (law_select l) (or (law_cast l) (or (law_alloca l) (or (law_load l) (law_phi l) refl refl) refl refl) refl refl) refl refl) refl refl) refl refl) other_words (sign 44) refl refl

law_store : {w : Bool} (l : Limits) → Law w (store l) (goes_on_with store_word (sign 44))
unfolding store
law_store l =
    seq (is_word (codes "store") refl) (λ (u : Unit). seq (law_typed l) (λ (a : TypedOperand). seq (is_sign 44 refl) (λ (c : Unit). seq (law_typed l) (λ (p : TypedOperand).
    seq (law_align_and_notes l) (λ (n : Option ℕ). done (ops.Store a p n)) refl) refl) refl) refl) refl

-- ---- items in round brackets

-- no number of items is too many
abbrev pub AnyParams : Bool → Limits → Type 0
AnyParams w l = w ≡ true → (n : ℕ) → is_past l.params n ≡ false

past_not_free : (w b : Bool) → (w ≡ true → b ≡ false) → b ≡ true → w ≡ false
past_not_free true b h e = absurd (cc (h refl))
past_not_free false b h e = refl

pub law_next_item : {A : Type 0} {w : Bool} (l : Limits) {f : Form A} {z : Shape} → AnyParams w l → Law w f z → (xs : List A) → Law w (next_item l f xs) (with_any z)
law_next_item {w = w} l {f = f} {z = z} h law xs =
    law_choose (is_past l.params (length xs + 1)) _ f (with_any z)
    (λ e. law_over limits.Params (with_any z) (past_not_free w (is_past l.params (length xs + 1)) (λ free. h free (length xs + 1)) e) (λ t. any_token z.first t))
    (λ e. begun_by_any law)

pub law_more_items : {A : Type 0} {w : Bool} (l : Limits) {f : Form A} {z g : Set} → AnyParams w l → Law w f (goes_on_with z g) → apart g [] ≡ true → apart g (sign 44) ≡ true → apart (g ++ []) (sign 44) ≡ true → apart (g ++ []) [] ≡ true → (xs : List A) → Law w (more_items l f xs) (maybe (sign 44) ((g ++ []) ++ sign 44))
law_more_items {A = A} l h law e1 e2 e3 e4 xs =
    again (λ (xs : List A). seq (is_sign 44 refl) (λ (c : Unit). seq (law_next_item l h law xs) (λ (x : A). done (xs ++ x ∷ [])) e1) refl) (λ (xs : List A). done xs) refl refl e3 e4 xs

pub law_arguments : {w : Bool} (l : Limits) → AnyParams w l → Law w (arguments l) (begins_with (sign 40))
unfolding arguments
law_arguments l h =
    let more = λ (xs : List TypedOperand). law_more_items l h (law_argument l) refl refl refl refl xs in
    seq (is_sign 40 refl) (λ (o : Unit). seq (or (shaped (seq (law_argument l) (λ (a : TypedOperand). more (a ∷ [])) refl) (type_set true) (sign 44 ++ argument_ends) refl refl) (done []) refl refl) (λ (xs : List TypedOperand).
    seq (is_sign 41 refl) (λ (d : Unit). done xs) refl) refl) refl

-- ---- calls

abbrev values_greedy : Set
values_greedy = attribute_greedy ++ attribute_set barred.Values

pub law_call_head : {w : Bool} → Law w call_head (goes_on_with call_words values_greedy)
unfolding call_head
law_call_head =
    shaped (seq (or (seq (expects tail_word (tokens.Word (codes "tail")) refl) (λ (t : Unit). is_word (codes "call") refl) refl) (is_word (codes "call") refl) refl refl) (λ (u : Unit).
    seq (law_attribute_list barred.Values no_marks) (λ (m : Marks). done tt) refl) refl) call_words values_greedy refl refl

abbrev pub call_greedy : Set
call_greedy = sign 44 ++ attribute_greedy ++ attribute_set barred.Code

pub law_call_end : {w : Bool} → Law w call_end (maybe (sign 44 ++ attribute_set barred.Code) call_greedy)
unfolding call_end
law_call_end = shaped (seq (law_attribute_list barred.Code no_marks) (λ (m : Marks). law_notes) refl) (sign 44 ++ attribute_set barred.Code) call_greedy refl refl

pub law_callee : {w : Bool} → Law w callee (begins_with (kind kinds.Global))
unfolding callee
law_callee = seq (takes callee_of (kind kinds.Global) fit (tokens.Global []) [] refl) (λ (n : List ℕ). does (symbol n)) refl
  where
    global_fits : (n : List ℕ) (b : Bool) → Fits (kind kinds.Global) (tokens.Global n) (callee_if b n)
    global_fits n true = tt
    global_fits n false = refl

    fit : (t : Token) → Fits (kind kinds.Global) t (callee_of t)
    fit (tokens.Global n) = global_fits n (is_lifetime n)
    fit (tokens.Int n) = tt
    fit (tokens.Word n) = tt
    fit (tokens.Label n) = tt
    fit (tokens.Local n) = tt
    fit (tokens.Str n) = tt
    fit (tokens.CStr n) = tt
    fit (tokens.Meta n) = tt
    fit (tokens.Hash n) = tt
    fit (tokens.Sign n) = tt
    fit tokens.End = tt

law_named_call : {w : Bool} (l : Limits) → AnyParams w l → Law w (named_call l) (goes_on_with call_words call_greedy)
unfolding named_call
law_named_call l h =
    seq law_call_head (λ (u : Unit). seq (law_value_type l) (λ (t : IrType). seq law_callee (λ (f : SymId). seq (law_arguments l h) (λ (as' : List TypedOperand).
    seq law_call_end (λ (e : Unit). done (ops.Call t f as')) refl) refl) refl) refl) refl

abbrev pub op_set : Set
op_set = call_words ++ gep_word ++ other_words

pub law_op : {w : Bool} (l : Limits) → AnyParams w l → Law w (op l) (goes_on_with op_set call_greedy)
unfolding op
law_op l h = shaped (or (law_named_call l h) (or (law_gep_op l) (law_other_op l) refl refl) refl refl) op_set call_greedy refl refl

law_called : {w : Bool} (l : Limits) (t : IrType) (n : List ℕ) → AnyParams w l → Law w (called l t n) (begins_with (sign 40))
unfolding called
law_called l t n h =
    seq (does (symbol n)) (λ (f : SymId). seq (does (result_of t)) (λ (r : Option LocalId). seq (law_arguments l h) (λ (as' : List TypedOperand). done (Some (r, ops.Call t f as'))) refl) refl) refl

pub law_lifetime : {w : Bool} (k : ℕ) → Law w (lifetime k) (begins_with (sign 40))
unfolding lifetime
law_lifetime k = seq (law_group 40 41 refl) (λ (g : Bool). seq (does (keep_types k)) (λ (u : Unit {0}). done None) refl) refl

pub law_global_name : {w : Bool} → Law w (text kinds.Global) (begins_with (kind kinds.Global))
law_global_name = law_text kinds.Global (tokens.Global []) refl

law_unnamed_call : {w : Bool} (l : Limits) → AnyParams w l → Law w (unnamed_call l) (goes_on_with call_words call_greedy)
unfolding unnamed_call
law_unnamed_call l h =
    seq law_call_head (λ (u : Unit). seq (does types_so_far) (λ (k : ℕ). seq (law_type_form l) (λ (t : IrType). seq law_global_name (λ (n : List ℕ).
    seq (law_choose (is_lifetime n) _ _ (begins_with (sign 40)) (λ e. law_lifetime k) (λ e. law_called l t n h)) (λ (r : Line). seq law_call_end (λ (e : Unit). done r) refl) refl) refl) refl) refl) refl

-- ---- instructions

pub law_other_line : {w : Bool} (l : Limits) → AnyParams w l → Law w (other_line l) (goes_on_with other_line_set call_greedy)
unfolding other_line
law_other_line l h =
    let stores = seq (law_store l) (λ (o : Op). done (Some (None, o))) refl in
    let other = seq (does define_next) (λ (r : LocalId). seq (law_other_op l) (λ (o : Op). done (Some (Some r, o))) refl) refl in
    shaped (or (law_unnamed_call l h) (or stores other refl refl) refl refl) other_line_set call_greedy refl refl

law_line : {w : Bool} (l : Limits) → AnyParams w l → Law w (line l) (goes_on_with line_set call_greedy)
unfolding line
law_line l h =
    let named = seq law_local_name (λ (n : List ℕ). seq (does (define n)) (λ (r : LocalId). seq (is_sign 61 refl) (λ (e : Unit). seq (law_op l h) (λ (o : Op). done (Some (Some r, o))) refl) refl) refl) refl in
    let gep = seq (does define_next) (λ (r : LocalId). seq (law_gep_op l) (λ (o : Op). done (Some (Some r, o))) refl) refl in
    shaped (or named (or gep (law_other_line l h) refl refl) refl refl) line_set call_greedy refl refl

pub law_instr : {w : Bool} (l : Limits) → AnyParams w l → Law w (instr l) (goes_on_with line_set call_greedy)
unfolding instr
law_instr l h = seq (placed (law_line l h) refl) (λ (x : Place × Line). done (instr_at x.0 x.1)) refl
