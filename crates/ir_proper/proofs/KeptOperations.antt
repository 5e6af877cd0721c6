-- Operations keep the names, and are right.
use Rattle.std.proofs.Common.{◌≡◌, ℕ, pos, Bool, true, false, List, [], ◌∷◌, refl, subst, arith}
use Rattle.std.specs.Prelude.{Option, Some, None, codes}
use Rattle.std.specs.List.{AllByRecursion as Each}
use Rattle.ir_lexer.specs.declared.table.Token.{Token}
use Rattle.ir_lexer.specs.declared.table.Token.TheVariants as tokens
use Rattle.ir_core.specs.declared.flat.BinOp.{BinOp}
use Rattle.ir_core.specs.declared.flat.Cmp.{Cmp}
use Rattle.ir_core.specs.declared.flat.CastOp.{CastOp}
use Rattle.ir_core.specs.declared.ty.IrType.{IrType}
use Rattle.ir_core.specs.declared.module.SymId.{SymId}
use Rattle.ir_core.specs.declared.constant.TypedCount.{TypedCount}
use Rattle.ir_core.specs.declared.op.LocalId.{LocalId}
use Rattle.ir_core.specs.declared.op.Operand.{Operand}
use Rattle.ir_core.specs.declared.op.TypedOperand.{TypedOperand}
use Rattle.ir_core.specs.declared.op.Pair.{Pair}
use Rattle.ir_core.specs.declared.op.Op.{Op}
use Rattle.ir_core.specs.declared.op.Op.TheVariants as ops
use Rattle.ir_core.specs.Parts.{count_type}
use Rattle.ir_grammar.specs.declared.kinds.Kind.TheVariants as kinds
use Rattle.ir_grammar.specs.declared.kinds.Barred.TheVariants as barred
use Rattle.ir_grammar.specs.declared.parts.Marks.{Marks}
use Rattle.ir_grammar.specs.Names.{Names}
use Rattle.ir_grammar.specs.Forms.{Takes}
use Rattle.ir_grammar.specs.Tokens.{Limits, stated, sign, word, words_of}
use Rattle.ir_grammar.specs.Types.{type_set}
use Rattle.ir_grammar.specs.Values.{gep_word}
use Rattle.ir_grammar.specs.Attributes.{no_marks}
use Rattle.ir_grammar.specs.Operations.{align_word, align_then_notes, note_then_notes, align_or_notes, align_and_notes, bin_words, bin_flag, bin, order_words, icmp_word, samesign, icmp, select_word, select, cast_words, cast_flag, cast, alloca_word, count_and_rest, alloca_rest, alloca, load_word, load, gep_op_rest, gep_op, phi_word, pair, phi, other_op, store_word, store, tail_word, call_word, call_words, call_head, call_end, is_lifetime, callee_if, callee_of, callee, arguments, named_call, op}
use Rattle.ir_proper.proofs.Kept.{IsClean, CleanToken, Any, Keeps, keeps_ret, keeps_token, keeps_expect, keeps_then, keeps_either, keeps_skip}
use Rattle.ir_proper.proofs.KeptNames.{KnownSymbol, keeps_symbol, keeps_local}
use Rattle.ir_proper.proofs.KeptTokens.{keeps_any_word, keeps_text, keeps_number, keeps_any_number}
use Rattle.ir_proper.proofs.Good.{GoodType, GoodTyped}
use Rattle.ir_proper.proofs.GoodCode.{GoodOp, ResultOf, GoodWithResult, good_values, good_types, CountFits, its_count, is_count, GoodPair, good_phi, good_call, call_gives}
use Rattle.ir_proper.proofs.KeptTypes.{keeps_type, keeps_value_type}
use Rattle.ir_proper.proofs.KeptValues.{keeps_gep_flags, keeps_value, keeps_typed}
use Rattle.ir_proper.proofs.KeptAttributes.{keeps_note, keeps_notes, keeps_attribute_list, keeps_argument_form}
use Rattle.ir_proper.proofs.KeptLists.{AtMostEight, keeps_items, keeps_in_brackets}

-- ---- alignments and notes

keeps_align_then_notes : {b : Bool} {n : Names} {H : Type 0} (l : Limits) → Keeps b n H (align_then_notes l) Any
unfolding align_then_notes
keeps_align_then_notes l = keeps_then (keeps_expect align_word) (λ (w : Unit). keeps_then (keeps_any_number l.length) (λ (m : ℕ). keeps_then keeps_notes (λ (e : Unit). keeps_ret (Some m) (λ g. tt))))

keeps_note_then_notes : {b : Bool} {n : Names} {H : Type 0} → Keeps b n H note_then_notes Any
unfolding note_then_notes
keeps_note_then_notes = keeps_then keeps_note (λ (e : Unit). keeps_notes)

keeps_align_or_notes : {b : Bool} {n : Names} {H : Type 0} (l : Limits) → Keeps b n H (align_or_notes l) Any
unfolding align_or_notes
keeps_align_or_notes l = keeps_either align_word (keeps_align_then_notes l) (keeps_then keeps_note_then_notes (λ (e : Unit). keeps_ret None (λ g. tt)))

keeps_align_and_notes : {b : Bool} {n : Names} {H : Type 0} (l : Limits) → Keeps b n H (align_and_notes l) Any
unfolding align_and_notes
keeps_align_and_notes l = keeps_either (sign 44) (keeps_then (keeps_expect (sign 44)) (λ (c : Unit). keeps_align_or_notes l)) (keeps_ret None (λ g. tt))

-- ---- operations with a result

keeps_bin : {n : Names} {H : Type 0} (l : Limits) → Keeps true n H (bin l) (GoodWithResult l n)
unfolding bin
keeps_bin {n = n} l =
    keeps_then (keeps_any_word bin_words) (λ (o : BinOp). keeps_then (keeps_skip bin_flag (keeps_expect bin_flag)) (λ (f : Unit). keeps_then (keeps_type l) (λ (t : IrType). keeps_then (keeps_value l) (λ (a : Operand).
    keeps_then (keeps_expect (sign 44)) (λ (c : Unit). keeps_then (keeps_value l) (λ (b : Operand). keeps_then keeps_notes (λ (e : Unit). keeps_ret (ops.Bin o t a b)
    (λ g. (record { values = (g.1.1.1.0, (g.1.0, tt)); types = (g.1.1.1.1.0, tt); labels = tt; callee = tt; entries = tt; few = λ w. tt; count = λ w. tt }, λ r p. refl)))))))))

keeps_icmp : {n : Names} {H : Type 0} (l : Limits) → Keeps true n H (icmp l) (GoodWithResult l n)
unfolding icmp
keeps_icmp {n = n} l =
    keeps_then (keeps_expect icmp_word) (λ (w : Unit). keeps_then (keeps_either samesign (keeps_expect samesign) (keeps_ret tt (λ g. tt))) (λ (f : Unit). keeps_then (keeps_any_word order_words) (λ (o : Cmp). keeps_then (keeps_type l) (λ (t : IrType). keeps_then (keeps_value l) (λ (a : Operand).
    keeps_then (keeps_expect (sign 44)) (λ (c : Unit). keeps_then (keeps_value l) (λ (b : Operand). keeps_then keeps_notes (λ (e : Unit). keeps_ret (ops.Icmp o t a b)
    (λ g. (record { values = (g.1.1.1.0, (g.1.0, tt)); types = (g.1.1.1.1.0, tt); labels = tt; callee = tt; entries = tt; few = λ w. tt; count = λ w. tt }, λ r p. refl))))))))))

keeps_select : {n : Names} {H : Type 0} (l : Limits) → Keeps true n H (select l) (GoodWithResult l n)
unfolding select
keeps_select {n = n} l =
    keeps_then (keeps_expect select_word) (λ (w : Unit). keeps_then (keeps_typed l) (λ (a : TypedOperand). keeps_then (keeps_expect (sign 44)) (λ (c : Unit). keeps_then (keeps_typed l) (λ (b : TypedOperand).
    keeps_then (keeps_expect (sign 44)) (λ (d : Unit). keeps_then (keeps_typed l) (λ (e : TypedOperand). keeps_then keeps_notes (λ (m : Unit). keeps_ret (ops.Select a b e)
    (λ g. let x = g.1.1.1.1.1.0 in let y = g.1.1.1.0 in let z = g.1.0 in
    (record { values = (x.value, (y.value, (z.value, tt))); types = (x.ty, (y.ty, (z.ty, tt))); labels = tt; callee = tt; entries = tt; few = λ w. tt; count = λ w. tt }, λ r p. refl)))))))))

keeps_cast : {n : Names} {H : Type 0} (l : Limits) → Keeps true n H (cast l) (GoodWithResult l n)
unfolding cast
keeps_cast {n = n} l =
    keeps_then (keeps_any_word cast_words) (λ (o : CastOp). keeps_then (keeps_skip cast_flag (keeps_expect cast_flag)) (λ (f : Unit). keeps_then (keeps_typed l) (λ (a : TypedOperand). keeps_then (keeps_expect (word (codes "to"))) (λ (w : Unit).
    keeps_then (keeps_type l) (λ (t : IrType). keeps_then keeps_notes (λ (m : Unit). keeps_ret (ops.Cast o a t)
    (λ g. let x = g.1.1.1.0 in (record { values = (x.value, tt); types = (x.ty, (g.1.0, tt)); labels = tt; callee = tt; entries = tt; few = λ w. tt; count = λ w. tt }, λ r p. refl))))))))

-- the count and the alignment of an alloca
abbrev GoodAlloca : Limits → Names → Option TypedCount × Option ℕ → Type 0
GoodAlloca l n x = Each (GoodType n) (count_type x.0) × (l ≡ stated → CountFits x.0)

keeps_count_and_rest : {b : Bool} {n : Names} {H : Type 0} (l : Limits) → Keeps b n H (count_and_rest l) (GoodAlloca l n)
unfolding count_and_rest
keeps_count_and_rest l =
    keeps_then (keeps_type l) (λ (t : IrType). keeps_then (keeps_number l.length) (λ (m : ℕ). keeps_then (keeps_align_and_notes l) (λ (a : Option ℕ). keeps_ret (Some (record { ty = t; count = pos m }), a)
    (λ g. ((g.1.1.0, tt), is_count l m g.1.0)))))

keeps_alloca_rest : {b : Bool} {n : Names} {H : Type 0} (l : Limits) → Keeps b n H (alloca_rest l) (GoodAlloca l n)
keeps_alloca_rest l =
    keeps_either (sign 44) (keeps_then (keeps_expect (sign 44)) (λ (c : Unit). keeps_either (type_set true) (keeps_count_and_rest l) (keeps_then (keeps_align_or_notes l) (λ (a : Option ℕ). keeps_ret (None, a) (λ g. (tt, λ w. tt))))))
    (keeps_ret (None, None) (λ g. (tt, λ w. tt)))

keeps_alloca : {n : Names} {H : Type 0} (l : Limits) → Keeps true n H (alloca l) (GoodWithResult l n)
unfolding alloca
keeps_alloca {n = n} l =
    keeps_then (keeps_expect alloca_word) (λ (w : Unit). keeps_then (keeps_type l) (λ (t : IrType). keeps_then (keeps_alloca_rest l) (λ (x : Option TypedCount × Option ℕ). keeps_ret (ops.Alloca t x.0 x.1)
    (λ g. (record { values = tt; types = (g.1.0, g.0.0); labels = tt; callee = tt; entries = tt; few = λ w. tt; count = λ w. its_count t x.0 x.1 (g.0.1 w) }, λ r p. refl)))))

keeps_load : {n : Names} {H : Type 0} (l : Limits) → Keeps true n H (load l) (GoodWithResult l n)
unfolding load
keeps_load {n = n} l =
    keeps_then (keeps_expect load_word) (λ (w : Unit). keeps_then (keeps_type l) (λ (t : IrType). keeps_then (keeps_expect (sign 44)) (λ (c : Unit). keeps_then (keeps_typed l) (λ (a : TypedOperand). keeps_then (keeps_align_and_notes l) (λ (m : Option ℕ). keeps_ret (ops.Load t a m)
    (λ g. let x = g.1.0 in (record { values = (x.value, tt); types = (g.1.1.1.0, (x.ty, tt)); labels = tt; callee = tt; entries = tt; few = λ w. tt; count = λ w. tt }, λ r p. refl)))))))

pub keeps_gep_op_rest : {n : Names} {H : Type 0} (l : Limits) → Keeps true n H (gep_op_rest l) (GoodWithResult l n)
unfolding gep_op_rest
keeps_gep_op_rest {n = n} l =
    keeps_then (keeps_type l) (λ (t : IrType). keeps_then (keeps_expect (sign 44)) (λ (c : Unit). keeps_then (keeps_typed l) (λ (a : TypedOperand). keeps_then (keeps_items (GoodTyped n) 0 [] (keeps_typed l) (λ g. (tt, omega arith))) (λ (is : List TypedOperand). keeps_ret (ops.Gep t a is)
    (λ g. let x = g.1.0 in (record { values = (x.value, good_values n is g.0.0); types = (g.1.1.1.0, (x.ty, good_types n is g.0.0)); labels = tt; callee = tt; entries = tt; few = λ w. tt; count = λ w. tt }, λ r p. refl))))))

pub keeps_gep_op : {n : Names} {H : Type 0} (l : Limits) → Keeps true n H (gep_op l) (GoodWithResult l n)
unfolding gep_op
keeps_gep_op l = keeps_then (keeps_expect gep_word) (λ (w : Unit). keeps_then keeps_gep_flags (λ (f : Unit). keeps_gep_op_rest l))

keeps_pair : {n : Names} {H : Type 0} (l : Limits) → Keeps true n H (pair l) (GoodPair n)
unfolding pair
keeps_pair l =
    keeps_then (keeps_expect (sign 91)) (λ (o : Unit). keeps_then (keeps_value l) (λ (v : Operand). keeps_then (keeps_expect (sign 44)) (λ (c : Unit). keeps_then (keeps_text kinds.Local) (λ (name : List ℕ). keeps_then (keeps_local name) (λ (b : LocalId).
    keeps_then (keeps_expect (sign 93)) (λ (d : Unit). keeps_ret (record { value = v; from = b }) (λ g. record { value = g.1.1.1.1.0; label = g.1.0 })))))))

keeps_phi : {n : Names} {H : Type 0} (l : Limits) → Keeps true n H (phi l) (GoodWithResult l n)
unfolding phi
keeps_phi {n = n} l =
    keeps_then (keeps_expect phi_word) (λ (w : Unit). keeps_then (keeps_type l) (λ (t : IrType). keeps_then (keeps_pair l) (λ (p : Pair). keeps_then (keeps_items (GoodPair n) 1 (p ∷ []) (keeps_pair l) (λ g. ((g.0, tt), omega arith))) (λ (ps : List Pair).
    keeps_ret (ops.Phi t ps) (λ g. good_phi l n t ps g.1.1.0 g.0.0 g.0.1)))))

pub keeps_other_op : {n : Names} {H : Type 0} (l : Limits) → Keeps true n H (other_op l) (GoodWithResult l n)
unfolding other_op
keeps_other_op l =
    keeps_either (words_of bin_words) (keeps_bin l) (keeps_either icmp_word (keeps_icmp l) (keeps_either select_word (keeps_select l) (keeps_either (words_of cast_words) (keeps_cast l)
    (keeps_either alloca_word (keeps_alloca l) (keeps_either load_word (keeps_load l) (keeps_phi l))))))

-- ---- stores

-- the operation has no result
abbrev pub GivesNone : Op → Type 0
GivesNone o = ResultOf None o

pub keeps_store : {n : Names} {H : Type 0} (l : Limits) → Keeps true n H (store l) (λ (o : Op). GoodOp l n o × GivesNone o)
unfolding store
keeps_store l =
    keeps_then (keeps_expect store_word) (λ (w : Unit). keeps_then (keeps_typed l) (λ (a : TypedOperand). keeps_then (keeps_expect (sign 44)) (λ (c : Unit). keeps_then (keeps_typed l) (λ (p : TypedOperand). keeps_then (keeps_align_and_notes l) (λ (m : Option ℕ). keeps_ret (ops.Store a p m)
    (λ g. let x = g.1.1.1.0 in let y = g.1.0 in (record { values = (x.value, (y.value, tt)); types = (x.ty, (y.ty, tt)); labels = tt; callee = tt; entries = tt; few = λ w. tt; count = λ w. tt }, λ q. refl)))))))

-- ---- calls

pub keeps_call_head : {b : Bool} {n : Names} {H : Type 0} → Keeps b n H call_head Any
unfolding call_head
keeps_call_head =
    keeps_then (keeps_either tail_word (keeps_then (keeps_expect tail_word) (λ (t : Unit). keeps_expect call_word)) (keeps_expect call_word)) (λ (w : Unit). keeps_then (keeps_attribute_list barred.Values no_marks) (λ (m : Marks). keeps_ret tt (λ g. tt)))

pub keeps_call_end : {b : Bool} {n : Names} {H : Type 0} → Keeps b n H call_end Any
unfolding call_end
keeps_call_end = keeps_then (keeps_attribute_list barred.Code no_marks) (λ (m : Marks). keeps_notes)

callee_clean_if : (name a : List ℕ) (c : Bool) → IsClean name → callee_if c name ≡ Takes a → IsClean a
callee_clean_if name a true h e = absurd cc
callee_clean_if name a false h e = let same : name ≡ a = cc in subst IsClean same h

callee_clean : (t : Token) (a : List ℕ) → CleanToken t → callee_of t ≡ Takes a → IsClean a
callee_clean (tokens.Global name) a c e = callee_clean_if name a (is_lifetime name) c e
callee_clean (tokens.Word w) a c e = absurd cc
callee_clean (tokens.Int n) a c e = absurd cc
callee_clean (tokens.Label n) a c e = absurd cc
callee_clean (tokens.Local n) a c e = absurd cc
callee_clean (tokens.Str n) a c e = absurd cc
callee_clean (tokens.CStr n) a c e = absurd cc
callee_clean (tokens.Meta n) a c e = absurd cc
callee_clean (tokens.Hash n) a c e = absurd cc
callee_clean (tokens.Sign n) a c e = absurd cc
callee_clean tokens.End a c e = absurd cc

keeps_callee : {b : Bool} {n : Names} {H : Type 0} → Keeps b n H callee (KnownSymbol n)
unfolding callee
keeps_callee = keeps_then (keeps_token {P = IsClean} callee_of (λ g t a c e. callee_clean t a c e)) (λ (name : List ℕ). keeps_symbol name (λ g. g.0))

pub keeps_arguments : {n : Names} {H : Type 0} (l : Limits) → Keeps true n H (arguments l) (AtMostEight l (GoodTyped n))
unfolding arguments
keeps_arguments {n = n} l = keeps_in_brackets l (GoodTyped n) (keeps_argument_form l)

keeps_named_call : {n : Names} {H : Type 0} (l : Limits) → Keeps true n H (named_call l) (GoodWithResult l n)
unfolding named_call
keeps_named_call {n = n} l =
    keeps_then keeps_call_head (λ (h : Unit). keeps_then (keeps_value_type l) (λ (t : IrType). keeps_then keeps_callee (λ (f : SymId). keeps_then (keeps_arguments l) (λ (as' : List TypedOperand). keeps_then keeps_call_end (λ (e : Unit). keeps_ret (ops.Call t f as')
    (λ g. (good_call l n t f as' g.1.1.1.0.0 g.1.1.0 g.1.0.0 g.1.0.1, λ r p. call_gives t r g.1.1.1.0.1 f as' p)))))))

pub keeps_op : {n : Names} {H : Type 0} (l : Limits) → Keeps true n H (op l) (GoodWithResult l n)
unfolding op
keeps_op l = keeps_either call_words (keeps_named_call l) (keeps_either gep_word (keeps_gep_op l) (keeps_other_op l))
