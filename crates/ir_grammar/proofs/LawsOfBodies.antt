-- The laws of blocks and bodies.
use Rattle.std.proofs.Common.{◌≡◌, ℕ, Bool, true, false, List, [], ◌∷◌, ◌++◌, refl}
use Rattle.std.specs.Prelude.{Option, Some, None, codes}
use Rattle.oi_base.specs.declared.ids.Place.{Place}
use Rattle.ir_lexer.specs.declared.table.Token.TheVariants as tokens
use Rattle.ir_core.specs.declared.ty.IrType.{IrType}
use Rattle.ir_core.specs.declared.constant.Const.{Const}
use Rattle.ir_core.specs.declared.op.LocalId.{LocalId}
use Rattle.ir_core.specs.declared.op.Operand.{Operand}
use Rattle.ir_core.specs.declared.op.Operand.TheVariants as operands
use Rattle.ir_core.specs.declared.op.TypedOperand.{TypedOperand}
use Rattle.ir_core.specs.declared.op.SwitchCase.{SwitchCase}
use Rattle.ir_core.specs.declared.op.Op.{Op}
use Rattle.ir_core.specs.declared.op.End.{End}
use Rattle.ir_core.specs.declared.op.End.TheVariants as ends
use Rattle.ir_core.specs.declared.func.Instr.{Instr}
use Rattle.ir_core.specs.declared.func.Block.{Block}
use Rattle.ir_grammar.specs.declared.kinds.Kind.TheVariants as kinds
use Rattle.ir_grammar.specs.declared.parts.Lines.{Lines}
use Rattle.ir_grammar.specs.declared.parts.Progress.{Progress}
use Rattle.ir_grammar.specs.Names.{local, define, define_next}
use Rattle.ir_grammar.specs.Sets.{Set, apart}
use Rattle.ir_grammar.specs.Tokens.{Limits, sign, word, kind, text}
use Rattle.ir_grammar.specs.Types.{type_set}
use Rattle.ir_grammar.specs.Values.{gep_word}
use Rattle.ir_grammar.specs.Operations.{line_set, other_line_set, Line, instr_at}
use Rattle.ir_grammar.specs.Bodies.{label, void_word, Ended, void_end, ret_end, br_end, switch_case, switch_end, unreachable_end, end_form, end_set, with_instr, code, finish, lines, labelled, unlabelled, block_of, grown, block, block_set, settled, begun, local_after, gep_after, plain_value_set, value_after, other_lines, other_unlabelled, other_block, other_block_set, after_void, next_block, next_set, all_blocks, last_blocks, more_blocks, body}
use Rattle.ir_grammar.proofs.FormLaws.{Shape, Law}
use Rattle.ir_grammar.proofs.LawsOfRounds.{law_rounds}
use Rattle.ir_grammar.proofs.Within.{within}
use Rattle.ir_grammar.proofs.Rules.{begins_with, goes_on_with, maybe, seq, or, again, done, does, placed, shaped, collect}
use Rattle.ir_grammar.proofs.LawsOfTokens.{is_sign, is_word, law_text, law_after_comma}
use Rattle.ir_grammar.proofs.LawsOfTypes.{law_value_type}
use Rattle.ir_grammar.proofs.LawsOfValues.{law_address, law_integer, law_const_word, law_gep_flags, law_gep_rest, law_value, law_typed}
use Rattle.ir_grammar.proofs.LawsOfAttributes.{law_note, law_notes}
use Rattle.ir_grammar.proofs.LawsOfOperations.{AnyParams, call_greedy, law_local_name, law_op, law_gep_op_rest, law_other_line, law_instr}

pub law_label : {w : Bool} → Law w label (begins_with (word (codes "label")))
unfolding label
law_label = seq (is_word (codes "label") refl) (λ (u : Unit). seq law_local_name (λ (n : List ℕ). does (local n)) refl) refl

-- ---- terminators

pub law_void_end : {w : Bool} → Law w void_end (goes_on_with void_word (sign 44))
unfolding void_end
law_void_end =
    shaped (seq (is_word (codes "void") refl) (λ (u : Unit). or (seq (law_after_comma law_note) (λ (m : Unit). seq law_notes (λ (n : Unit). done (ends.Ret None, false)) refl) refl) (done (ends.Ret None, true)) refl refl) refl) void_word (sign 44) refl refl

law_ret_end : {w : Bool} (l : Limits) → Law w (ret_end l) (goes_on_with (word (codes "ret")) (sign 44))
unfolding ret_end
law_ret_end l =
    shaped (seq (is_word (codes "ret") refl) (λ (u : Unit). or law_void_end
    (seq (law_value_type l) (λ (t : IrType). seq (law_value l) (λ (v : Operand). seq law_notes (λ (n : Unit). done (ends.Ret (Some (record { ty = t; value = v })), false)) refl) refl) refl) refl refl) refl) (word (codes "ret")) (sign 44) refl refl

law_br_end : {w : Bool} (l : Limits) → Law w (br_end l) (goes_on_with (word (codes "br")) (sign 44))
unfolding br_end
law_br_end l =
    shaped (seq (is_word (codes "br") refl) (λ (u : Unit). or (seq law_label (λ (b : LocalId). seq law_notes (λ (n : Unit). done (ends.Br b)) refl) refl)
    (seq (law_typed l) (λ (c : TypedOperand). seq (is_sign 44 refl) (λ (c1 : Unit). seq law_label (λ (t : LocalId). seq (is_sign 44 refl) (λ (c2 : Unit). seq law_label (λ (f : LocalId).
    seq law_notes (λ (n : Unit). done (ends.Cond c t f)) refl) refl) refl) refl) refl) refl) refl refl) refl) (word (codes "br")) (sign 44) refl refl

pub law_switch_case : {w : Bool} (l : Limits) → Law w (switch_case l) (begins_with (type_set true))
unfolding switch_case
law_switch_case l = seq (law_typed l) (λ (v : TypedOperand). seq (is_sign 44 refl) (λ (c : Unit). seq law_label (λ (b : LocalId). done (record { value = v; to = b })) refl) refl) refl

law_switch_end : {w : Bool} (l : Limits) → Law w (switch_end l) (goes_on_with (word (codes "switch")) (sign 44))
unfolding switch_end
law_switch_end l =
    seq (is_word (codes "switch") refl) (λ (u : Unit). seq (law_typed l) (λ (v : TypedOperand). seq (is_sign 44 refl) (λ (c : Unit). seq law_label (λ (b : LocalId). seq (is_sign 91 refl) (λ (o : Unit).
    seq (collect (law_switch_case l) refl refl refl []) (λ (cs : List SwitchCase). seq (is_sign 93 refl) (λ (d : Unit). seq law_notes (λ (n : Unit). done (ends.Switch v b cs)) refl) refl) refl) refl) refl) refl) refl) refl

pub law_unreachable : {w : Bool} → Law w unreachable_end (goes_on_with (word (codes "unreachable")) (sign 44))
unfolding unreachable_end
law_unreachable = seq (is_word (codes "unreachable") refl) (λ (u : Unit). seq law_notes (λ (n : Unit). done ends.Unreachable) refl) refl

law_end : {w : Bool} (l : Limits) → Law w (end_form l) (goes_on_with end_set (sign 44))
unfolding end_form
law_end l =
    let closed = λ (e : End). done (e, false) in
    shaped (or (law_ret_end l) (or (seq (law_br_end l) closed refl) (or (seq (law_switch_end l) closed refl) (seq law_unreachable closed refl) refl refl) refl refl) refl refl) end_set (sign 44) refl refl

-- ---- blocks

law_code : {w : Bool} (l : Limits) → AnyParams w l → (is : List Instr) → Law w (code l is) (maybe line_set (call_greedy ++ line_set))
unfolding code
law_code l h is = again (λ (is : List Instr). seq (law_instr l h) (λ (i : Option Instr). done (with_instr is i)) refl) (λ (is : List Instr). done is) refl refl refl refl is

law_finish : {w : Bool} (l : Limits) (b : LocalId) (is : List Instr) → Law w (finish l b is) (goes_on_with end_set (sign 44))
unfolding finish
law_finish l b is = seq (placed (law_end l) refl) (λ (e : Place × Ended). done (record { label = b; code = is; end = e.1.0; end_place = e.0; bare = e.1.1 })) refl

abbrev lines_set : Set
lines_set = line_set ++ end_set

law_lines : {w : Bool} (l : Limits) → AnyParams w l → (b : LocalId) (is : List Instr) → Law w (lines l b is) (goes_on_with lines_set (sign 44))
unfolding lines
law_lines l h b is = seq (law_code l h is) (λ (js : List Instr). law_finish l b js) refl

pub law_label_name : {w : Bool} → Law w (text kinds.Label) (begins_with (kind kinds.Label))
law_label_name = law_text kinds.Label (tokens.Label []) refl

law_labelled : {w : Bool} (l : Limits) → AnyParams w l → Law w (labelled l) (goes_on_with (kind kinds.Label) (sign 44))
unfolding labelled
law_labelled l h = seq law_label_name (λ (n : List ℕ). seq (does (define n)) (λ (b : LocalId). law_lines l h b []) refl) refl

law_unlabelled : {w : Bool} (l : Limits) → AnyParams w l → Law w (unlabelled l) (goes_on_with lines_set (sign 44))
unfolding unlabelled
law_unlabelled l h = seq (does define_next) (λ (b : LocalId). law_lines l h b []) refl

law_block : {w : Bool} (l : Limits) → AnyParams w l → (bs : List Block) → Law w (block l bs) (goes_on_with block_set (sign 44))
unfolding block
law_block l h bs = shaped (seq (placed (or (law_labelled l h) (law_unlabelled l h) refl refl) refl) (λ (x : Place × Lines). done (grown bs x.1.bare (block_of x.0 x.1))) refl) block_set (sign 44) refl refl

-- ---- after `ret void`

law_begun : {w : Bool} (l : Limits) → AnyParams w l → (bs : List Block) (p : Place) (x : LocalId × (LocalId × Op)) → Law w (begun l bs p x) (goes_on_with lines_set (sign 44))
law_begun l h bs p x = seq (law_lines l h x.0 (record { place = p; result = Some x.1.0; op = x.1.1 } ∷ [])) (λ (y : Lines). done (grown bs y.bare (block_of p y))) refl

abbrev pub local_greedy : Set
local_greedy = sign 44 ++ sign 61

law_local_after : {w : Bool} (l : Limits) → AnyParams w l → (bs : List Block) (b : Block) → Law w (local_after l bs b) (goes_on_with (kind kinds.Local) local_greedy)
unfolding local_after
law_local_after l h bs b =
    shaped (seq (placed law_local_name refl) (λ (n : Place × List ℕ). or
    (seq (is_sign 61 refl) (λ (e : Unit). seq (does define_next) (λ (k : LocalId). seq (does (define n.1)) (λ (r : LocalId). seq (law_op l h) (λ (o : Op). law_begun l h (bs ++ b ∷ []) n.0 (k, (r, o))) refl) refl) refl) refl)
    (seq (does (local n.1)) (λ (x : LocalId). seq law_notes (λ (e : Unit). done (settled bs b (operands.Local x))) refl) refl) refl refl) refl) (kind kinds.Local) local_greedy refl refl

law_gep_after : {w : Bool} (l : Limits) → AnyParams w l → (bs : List Block) (b : Block) → Law w (gep_after l bs b) (goes_on_with gep_word (sign 44))
unfolding gep_after
law_gep_after l h bs b =
    shaped (seq (placed (is_word (codes "getelementptr") refl) refl) (λ (g : Place × Unit). seq law_gep_flags (λ (f : Unit). or
    (seq (law_gep_rest l.length l.levels) (λ (c : Const). seq law_notes (λ (e : Unit). done (settled bs b (operands.Const c))) refl) refl)
    (seq (does define_next) (λ (k : LocalId). seq (does define_next) (λ (r : LocalId). seq (law_gep_op_rest l) (λ (o : Op). law_begun l h (bs ++ b ∷ []) g.0 (k, (r, o))) refl) refl) refl) refl refl) refl) refl) gep_word (sign 44) refl refl

pub law_value_after : {w : Bool} (bs : List Block) (b : Block) → Law w (value_after bs b) (goes_on_with plain_value_set (sign 44))
unfolding value_after
law_value_after bs b =
    shaped (seq (or law_address (or law_integer law_const_word refl refl) refl refl) (λ (c : Const). seq law_notes (λ (e : Unit). done (settled bs b (operands.Const c))) refl) refl) plain_value_set (sign 44) refl refl

abbrev other_lines_set : Set
other_lines_set = other_line_set ++ end_set

law_other_lines : {w : Bool} (l : Limits) → AnyParams w l → (b : LocalId) → Law w (other_lines l b) (goes_on_with other_lines_set (sign 44))
unfolding other_lines
law_other_lines l h b = shaped (or (seq (placed (law_other_line l h) refl) (λ (x : Place × Line). law_lines l h b (with_instr [] (instr_at x.0 x.1))) refl) (law_finish l b []) refl refl) other_lines_set (sign 44) refl refl

law_other_unlabelled : {w : Bool} (l : Limits) → AnyParams w l → Law w (other_unlabelled l) (goes_on_with other_lines_set (sign 44))
unfolding other_unlabelled
law_other_unlabelled l h = seq (does define_next) (λ (b : LocalId). law_other_lines l h b) refl

law_other_block : {w : Bool} (l : Limits) → AnyParams w l → (bs : List Block) → Law w (other_block l bs) (goes_on_with other_block_set (sign 44))
unfolding other_block
law_other_block l h bs = shaped (seq (placed (or (law_labelled l h) (law_other_unlabelled l h) refl refl) refl) (λ (x : Place × Lines). done (grown bs x.1.bare (block_of x.0 x.1))) refl) other_block_set (sign 44) refl refl

abbrev void_set : Set
void_set = kind kinds.Local ++ gep_word ++ plain_value_set ++ other_block_set

law_after_void : {w : Bool} (l : Limits) → AnyParams w l → (bs : List Block) (b : Block) → Law w (after_void l bs b) (goes_on_with void_set local_greedy)
unfolding after_void
law_after_void l h bs b = shaped (or (law_local_after l h bs b) (or (law_gep_after l h bs b) (or (law_value_after bs b) (law_other_block l h (bs ++ b ∷ [])) refl refl) refl refl) refl refl) void_set local_greedy refl refl

-- ---- bodies

abbrev pub z : Option Block → Shape
z o = goes_on_with (next_set o) local_greedy

pub law_next_block : {w : Bool} (l : Limits) → AnyParams w l → (bs : List Block) (o : Option Block) → Law w (next_block l bs o) (z o)
law_next_block l h bs None = shaped (law_block l h bs) block_set local_greedy refl refl
law_next_block l h bs (Some b) = law_after_void l h bs b

apart_stop : (o : Option Block) → apart (next_set o) (sign 125) ≡ true
apart_stop None = refl
apart_stop (Some b) = refl

apart_next : (o : Option Block) → apart local_greedy (next_set o) ≡ true
apart_next None = refl
apart_next (Some b) = refl

pub law_last_blocks : {w : Bool} (p : Progress) → Law w (last_blocks p) (begins_with (sign 125))
law_last_blocks p = seq (is_sign 125 refl) (λ (c : Unit). done (all_blocks p.done p.waits)) refl

pub law_more_blocks : {w : Bool} (l : Limits) → AnyParams w l → (p : Progress) → Law w (more_blocks l p) (begins_with (next_set p.waits ++ sign 125))
unfolding more_blocks
law_more_blocks l h p =
    law_rounds (λ (p : Progress). next_set p.waits) (λ (p : Progress). next_block l p.done p.waits) (λ (p : Progress). last_blocks p) (λ (p : Progress). z p.waits) (λ (p : Progress). begins_with (sign 125)) []
    (λ (p : Progress). law_next_block l h p.done p.waits) (λ (p : Progress). law_last_blocks p)
    (λ p. refl) (λ p. refl) (λ p. apart_stop p.waits) (λ p p2. apart_next p2.waits) (λ p p2. refl) (λ p p2 ts e. e) p

abbrev more_set : Set
more_set = void_set ++ sign 125

next_within : (o : Option Block) → within (next_set o ++ sign 125) more_set ≡ true
next_within None = refl
next_within (Some b) = refl

pub law_body : {w : Bool} (l : Limits) → AnyParams w l → Law w (body l) (begins_with (sign 123))
unfolding body
law_body l h = seq (is_sign 123 refl) (λ (o : Unit). seq (law_block l h []) (λ (p : Progress). shaped (law_more_blocks l h p) more_set [] (next_within p.waits) refl) refl) refl
