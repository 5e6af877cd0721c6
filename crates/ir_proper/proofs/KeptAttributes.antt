-- Groups, notes and attributes keep the names, and an argument is right.
use Rattle.std.proofs.Common.{ℕ, ℤ, Bool, true, List, subst}
use Rattle.ir_core.specs.declared.ty.IrType.{IrType}
use Rattle.ir_core.specs.declared.constant.Const.{Const}
use Rattle.ir_core.specs.declared.constant.Const.TheVariants as consts
use Rattle.ir_core.specs.declared.op.Operand.{Operand}
use Rattle.ir_core.specs.declared.op.Operand.TheVariants as operands
use Rattle.ir_grammar.specs.declared.kinds.Kind.TheVariants as kinds
use Rattle.ir_grammar.specs.declared.kinds.Barred.{Barred}
use Rattle.ir_grammar.specs.declared.kinds.Barred.TheVariants as barred
use Rattle.ir_grammar.specs.declared.parts.Attribute.{Attribute}
use Rattle.ir_grammar.specs.declared.parts.Attribute.TheVariants as attributes
use Rattle.ir_grammar.specs.declared.parts.Marks.{Marks}
use Rattle.ir_grammar.specs.declared.parts.Stand.{Stand}
use Rattle.ir_grammar.specs.declared.parts.Stand.TheVariants.{Free, AfterWord, AfterInt}
use Rattle.ir_grammar.specs.Names.{Names}
use Rattle.ir_grammar.specs.Tokens.{Limits, sign, kind}
use Rattle.ir_grammar.specs.Groups.{inside, group}
use Rattle.ir_grammar.specs.Values.{gep_word, value_set}
use Rattle.ir_grammar.specs.Attributes.{meta, node, note_rest, note, notes, attribute_words, attribute_argument, attribute_value, attribute_set, attribute, marked, one_mark, attribute_list, mark_or_note_set, mark_or_note, attributes_and_notes, not_word, any_attribute, more_set, more, no_integer, last, argument_value, argument}
use Rattle.ir_proper.proofs.Kept.{Fine, Grows, grows_same, Any, Keeps, keeps_ret, keeps_any, keeps_expect, keeps_then, keeps_either, keeps_rounds, keeps_skip, keeps_after_comma}
use Rattle.ir_proper.proofs.KeptTokens.{keeps_text, keeps_int}
use Rattle.ir_proper.proofs.Good.{GoodOperand, GoodTyped}
use Rattle.ir_proper.proofs.KeptTypes.{keeps_type}
use Rattle.ir_proper.proofs.KeptValues.{keeps_address, keeps_gep, keeps_const_word, keeps_local_value, keeps_value}

-- ---- groups

keeps_inside : {b : Bool} {n : Names} {H : Type 0} (a : ℕ) → Keeps b n H (inside a) Any
keeps_inside {b = b} a = record {
  grows = λ s u x t r. subst (λ (y : Names). Grows b s y) r.2 (grows_same b s);
  holds = λ g s u x t c w r k. (tt, subst Fine r.2 w);
}

pub keeps_group : {b : Bool} {n : Names} {H : Type 0} (c a : ℕ) → Keeps b n H (group c a) Any
unfolding group
keeps_group c a = keeps_then (keeps_expect (sign c)) (λ (o : Unit). keeps_inside a)

-- ---- notes

pub keeps_meta : {b : Bool} {n : Names} {H : Type 0} → Keeps b n H meta Any
keeps_meta = keeps_expect (kind kinds.Meta)

pub keeps_node : {b : Bool} {n : Names} {H : Type 0} → Keeps b n H node Any
unfolding node
keeps_node = keeps_then (keeps_expect (sign 33)) (λ (e : Unit). keeps_then (keeps_group 123 125) (λ (g : Bool). keeps_ret tt (λ h. tt)))

pub keeps_note_rest : {b : Bool} {n : Names} {H : Type 0} → Keeps b n H note_rest Any
unfolding note_rest
keeps_note_rest = keeps_either (sign 33) keeps_node keeps_meta

pub keeps_note : {b : Bool} {n : Names} {H : Type 0} → Keeps b n H note Any
unfolding note
keeps_note = keeps_then keeps_meta (λ (m : Unit). keeps_note_rest)

pub keeps_notes : {b : Bool} {n : Names} {H : Type 0} → Keeps b n H notes Any
unfolding notes
keeps_notes = keeps_skip (sign 44) (keeps_after_comma keeps_note)

-- ---- attributes

keeps_argument : {b : Bool} {n : Names} {H : Type 0} → Keeps b n H attribute_argument Any
unfolding attribute_argument
keeps_argument =
    keeps_either (kind kinds.Int) (keeps_then keeps_int (λ (i : ℤ). keeps_ret tt (λ h. tt)))
    (keeps_either (sign 40) (keeps_then (keeps_group 40 41) (λ (g : Bool). keeps_ret tt (λ h. tt))) (keeps_ret tt (λ h. tt)))

keeps_attribute_value : {b : Bool} {n : Names} {H : Type 0} → Keeps b n H attribute_value Any
unfolding attribute_value
keeps_attribute_value = keeps_either (sign 61) (keeps_then (keeps_expect (sign 61)) (λ (e : Unit). keeps_then (keeps_text kinds.Str) (λ (s : List ℕ). keeps_ret tt (λ h. tt)))) (keeps_ret tt (λ h. tt))

pub keeps_attribute : {b : Bool} {n : Names} {H : Type 0} (bars : Barred) → Keeps b n H (attribute bars) Any
unfolding attribute
keeps_attribute bars =
    keeps_either (attribute_words bars) (keeps_then (keeps_any _) (λ (a : Attribute). keeps_then keeps_argument (λ (e : Unit). keeps_ret a (λ h. tt))))
    (keeps_either (kind kinds.Str) (keeps_then (keeps_text kinds.Str) (λ (s : List ℕ). keeps_then keeps_attribute_value (λ (e : Unit). keeps_ret attributes.Other (λ h. tt))))
    (keeps_then (keeps_text kinds.Hash) (λ (name : List ℕ). keeps_ret (attributes.Group name) (λ h. tt))))

keeps_one_mark : {b : Bool} {n : Names} {H : Type 0} (bars : Barred) (m : Marks) → Keeps b n H (one_mark bars m) Any
keeps_one_mark bars m = keeps_then (keeps_attribute bars) (λ (a : Attribute). keeps_ret (marked m a) (λ h. tt))

pub keeps_attribute_list : {b : Bool} {n : Names} {H : Type 0} (bars : Barred) (m : Marks) → Keeps b n H (attribute_list bars m) Any
unfolding attribute_list
keeps_attribute_list bars m = keeps_rounds (λ m. attribute_set bars) Any (λ (m : Marks). keeps_one_mark bars m) (λ (m : Marks). keeps_ret m (λ h. tt)) m (λ h. tt)

keeps_mark_or_note : {b : Bool} {n : Names} {H : Type 0} (m : Marks) → Keeps b n H (mark_or_note m) Any
keeps_mark_or_note m = keeps_either (kind kinds.Meta) (keeps_then keeps_note (λ (e : Unit). keeps_ret m (λ h. tt))) (keeps_one_mark barred.Nothing m)

pub keeps_attributes_and_notes : {b : Bool} {n : Names} {H : Type 0} (m : Marks) → Keeps b n H (attributes_and_notes m) Any
unfolding attributes_and_notes
keeps_attributes_and_notes m = keeps_rounds (λ m. mark_or_note_set) Any (λ (m : Marks). keeps_mark_or_note m) (λ (m : Marks). keeps_ret m (λ h. tt)) m (λ h. tt)

-- ---- arguments

keeps_not_word : {b : Bool} {n : Names} {H : Type 0} (bars : Barred) → Keeps b n H (not_word bars) Any
keeps_not_word bars =
    keeps_either (kind kinds.Str) (keeps_then (keeps_text kinds.Str) (λ (s : List ℕ). keeps_then keeps_attribute_value (λ (e : Unit). keeps_ret Free (λ h. tt))))
    (keeps_then (keeps_text kinds.Hash) (λ (name : List ℕ). keeps_ret Free (λ h. tt)))

keeps_any_attribute : {b : Bool} {n : Names} {H : Type 0} → Keeps b n H any_attribute Any
keeps_any_attribute = keeps_either (attribute_words barred.Values) (keeps_then (keeps_any _) (λ (a : Attribute). keeps_ret AfterWord (λ h. tt))) (keeps_not_word barred.Values)

keeps_more_attributes : {b : Bool} {n : Names} {H : Type 0} (x : Stand) → Keeps b n H (more x) Any
keeps_more_attributes Free = keeps_any_attribute
keeps_more_attributes AfterWord =
    keeps_either (kind kinds.Int) (keeps_then keeps_int (λ (i : ℤ). keeps_ret (AfterInt i) (λ h. tt)))
    (keeps_either (sign 40) (keeps_then (keeps_group 40 41) (λ (g : Bool). keeps_ret Free (λ h. tt))) keeps_any_attribute)
keeps_more_attributes (AfterInt i) = keeps_any_attribute

keeps_no_integer : {n : Names} {H : Type 0} (l : Limits) → Keeps true n H (no_integer l) (GoodOperand n)
keeps_no_integer l =
    keeps_either (kind kinds.Local) keeps_local_value (keeps_either (kind kinds.Global) (keeps_then keeps_address (λ (c : Const). keeps_ret (operands.Const c) (λ h. h.0)))
    (keeps_either gep_word (keeps_then (keeps_gep l.length l.levels) (λ (c : Const). keeps_ret (operands.Const c) (λ h. h.0)))
    (keeps_then keeps_const_word (λ (c : Const). keeps_ret (operands.Const c) (λ h. h.0)))))

keeps_last : {n : Names} {H : Type 0} (l : Limits) (x : Stand) → Keeps true n H (last l x) (GoodOperand n)
keeps_last l Free = keeps_value l
keeps_last l AfterWord = keeps_no_integer l
keeps_last l (AfterInt i) = keeps_either value_set (keeps_value l) (keeps_ret (operands.Const (consts.Int i)) (λ h. (tt, record { symbols = tt; types = tt })))

keeps_argument_value : {n : Names} {H : Type 0} (l : Limits) → Keeps true n H (argument_value l) (GoodOperand n)
unfolding argument_value
keeps_argument_value l = keeps_rounds more_set Any (λ (x : Stand). keeps_more_attributes x) (λ (x : Stand). keeps_last l x) Free (λ h. tt)

pub keeps_argument_form : {n : Names} {H : Type 0} (l : Limits) → Keeps true n H (argument l) (GoodTyped n)
unfolding argument
keeps_argument_form l = keeps_then (keeps_type l) (λ (t : IrType). keeps_then (keeps_argument_value l) (λ (v : Operand). keeps_ret (record { ty = t; value = v }) (λ h. record { ty = h.1.0; value = h.0 })))
