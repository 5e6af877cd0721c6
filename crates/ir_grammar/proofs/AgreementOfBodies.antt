-- Blocks and bodies with wider limits.
use Rattle.std.proofs.Common.{ℕ, true, false, List, [], ◌∷◌, ◌++◌}
use Rattle.std.specs.Prelude.{Option, Some, None, codes}
use Rattle.oi_base.specs.declared.ids.Place.{Place}
use Rattle.ir_core.specs.declared.ty.IrType.{IrType}
use Rattle.ir_core.specs.declared.constant.Const.{Const}
use Rattle.ir_core.specs.declared.op.LocalId.{LocalId}
use Rattle.ir_core.specs.declared.op.Operand.{Operand}
use Rattle.ir_core.specs.declared.op.Operand.TheVariants as operands
use Rattle.ir_core.specs.declared.op.TypedOperand.{TypedOperand}
use Rattle.ir_core.specs.declared.op.SwitchCase.{SwitchCase}
use Rattle.ir_core.specs.declared.op.Op.{Op}
use Rattle.ir_core.specs.declared.op.End.{End}
use Rattle.ir_core.specs.declared.op.End.TheVariants as ends
use Rattle.ir_core.specs.declared.func.Instr.{Instr}
use Rattle.ir_core.specs.declared.func.Block.{Block}
use Rattle.ir_grammar.specs.declared.kinds.Kind.TheVariants as kinds
use Rattle.ir_grammar.specs.declared.parts.Lines.{Lines}
use Rattle.ir_grammar.specs.declared.parts.Progress.{Progress}
use Rattle.ir_grammar.specs.Names.{local, define, define_next}
use Rattle.ir_grammar.specs.Tokens.{Limits, sign, word, kind}
use Rattle.ir_grammar.specs.Types.{type_set}
use Rattle.ir_grammar.specs.Values.{gep_word}
use Rattle.ir_grammar.specs.Operations.{line_set, other_line_set, Line, instr_at}
use Rattle.ir_grammar.specs.Bodies.{void_word, Ended, ret_end, br_end, switch_case, switch_end, end_form, with_instr, code, finish, lines, labelled, unlabelled, block_of, grown, block, settled, begun, local_after, gep_after, plain_value_set, other_lines, other_unlabelled, other_block, after_void, next_block, next_set, more_blocks, body}
use Rattle.ir_grammar.proofs.LawsOfValues.{law_gep_flags}
use Rattle.ir_grammar.proofs.LawsOfAttributes.{law_notes}
use Rattle.ir_grammar.proofs.LawsOfOperations.{law_local_name}
use Rattle.ir_grammar.proofs.LawsOfBodies.{law_label, law_void_end, law_unreachable, law_value_after, law_label_name, law_last_blocks}
use Rattle.ir_grammar.proofs.Agreement.{Agree, agree_same, agree_act, agree_ret, agree_expect, agree_then, agree_either, agree_rounds, agree_located, agree_many}
use Rattle.ir_grammar.proofs.AgreementOfValues.{Wider, agree_value_type, agree_gep_rest, agree_value, agree_typed}
use Rattle.ir_grammar.proofs.AgreementOfOperations.{agree_gep_op_rest, agree_op, agree_other_line, agree_instr}

-- ---- terminators

agree_ret_end : {k : ℕ} (l m : Limits) → Wider k l m → Agree k (ret_end l) (ret_end m)
unfolding ret_end
agree_ret_end l m h =
    agree_then (agree_expect (word (codes "ret"))) (λ (u : Unit). agree_either void_word (agree_same law_void_end) (agree_then (agree_value_type l m h) (λ (t : IrType). agree_then (agree_value l m h) (λ (v : Operand). agree_then (agree_same law_notes) (λ (n : Unit). agree_ret (ends.Ret (Some (record { ty = t; value = v })), false))))))

agree_br_end : {k : ℕ} (l m : Limits) → Wider k l m → Agree k (br_end l) (br_end m)
unfolding br_end
agree_br_end l m h =
    agree_then (agree_expect (word (codes "br"))) (λ (u : Unit). agree_either (word (codes "label")) (agree_then (agree_same law_label) (λ (b : LocalId). agree_then (agree_same law_notes) (λ (n : Unit). agree_ret (ends.Br b))))
    (agree_then (agree_typed l m h) (λ (c : TypedOperand). agree_then (agree_expect (sign 44)) (λ (c1 : Unit). agree_then (agree_same law_label) (λ (t : LocalId). agree_then (agree_expect (sign 44)) (λ (c2 : Unit). agree_then (agree_same law_label) (λ (f : LocalId).
    agree_then (agree_same law_notes) (λ (n : Unit). agree_ret (ends.Cond c t f)))))))))

agree_switch_case : {k : ℕ} (l m : Limits) → Wider k l m → Agree k (switch_case l) (switch_case m)
unfolding switch_case
agree_switch_case l m h = agree_then (agree_typed l m h) (λ (v : TypedOperand). agree_then (agree_expect (sign 44)) (λ (c : Unit). agree_then (agree_same law_label) (λ (b : LocalId). agree_ret (record { value = v; to = b }))))

agree_switch_end : {k : ℕ} (l m : Limits) → Wider k l m → Agree k (switch_end l) (switch_end m)
unfolding switch_end
agree_switch_end l m h =
    agree_then (agree_expect (word (codes "switch"))) (λ (u : Unit). agree_then (agree_typed l m h) (λ (v : TypedOperand). agree_then (agree_expect (sign 44)) (λ (c : Unit). agree_then (agree_same law_label) (λ (b : LocalId). agree_then (agree_expect (sign 91)) (λ (o : Unit).
    agree_then (agree_many (type_set true) (agree_switch_case l m h) []) (λ (cs : List SwitchCase). agree_then (agree_expect (sign 93)) (λ (d : Unit). agree_then (agree_same law_notes) (λ (n : Unit). agree_ret (ends.Switch v b cs)))))))))

agree_end : {k : ℕ} (l m : Limits) → Wider k l m → Agree k (end_form l) (end_form m)
unfolding end_form
agree_end l m h =
    let closed = λ (e : End). agree_ret (e, false) in
    agree_either (word (codes "ret")) (agree_ret_end l m h) (agree_either (word (codes "br")) (agree_then (agree_br_end l m h) closed) (agree_either (word (codes "switch")) (agree_then (agree_switch_end l m h) closed) (agree_then (agree_same law_unreachable) closed)))

-- ---- blocks

agree_code : {k : ℕ} (l m : Limits) → Wider k l m → (is : List Instr) → Agree k (code l is) (code m is)
unfolding code
agree_code l m h is = agree_rounds (λ is. line_set) (λ (is : List Instr). agree_then (agree_instr l m h) (λ (i : Option Instr). agree_ret (with_instr is i))) (λ (is : List Instr). agree_ret is) is

agree_finish : {k : ℕ} (l m : Limits) (b : LocalId) (is : List Instr) → Wider k l m → Agree k (finish l b is) (finish m b is)
unfolding finish
agree_finish l m b is h = agree_then (agree_located (agree_end l m h)) (λ (e : Place × Ended). agree_ret (record { label = b; code = is; end = e.1.0; end_place = e.0; bare = e.1.1 }))

agree_lines : {k : ℕ} (l m : Limits) (b : LocalId) (is : List Instr) → Wider k l m → Agree k (lines l b is) (lines m b is)
unfolding lines
agree_lines l m b is h = agree_then (agree_code l m h is) (λ (js : List Instr). agree_finish l m b js h)

agree_labelled : {k : ℕ} (l m : Limits) → Wider k l m → Agree k (labelled l) (labelled m)
unfolding labelled
agree_labelled l m h = agree_then (agree_same law_label_name) (λ (n : List ℕ). agree_then (agree_act (define n)) (λ (b : LocalId). agree_lines l m b [] h))

agree_unlabelled : {k : ℕ} (l m : Limits) → Wider k l m → Agree k (unlabelled l) (unlabelled m)
unfolding unlabelled
agree_unlabelled l m h = agree_then (agree_act define_next) (λ (b : LocalId). agree_lines l m b [] h)

agree_block : {k : ℕ} (l m : Limits) (bs : List Block) → Wider k l m → Agree k (block l bs) (block m bs)
unfolding block
agree_block l m bs h = agree_then (agree_located (agree_either (kind kinds.Label) (agree_labelled l m h) (agree_unlabelled l m h))) (λ (x : Place × Lines). agree_ret (grown bs x.1.bare (block_of x.0 x.1)))

-- ---- after `ret void`

agree_begun : {k : ℕ} (l m : Limits) (bs : List Block) (p : Place) (x : LocalId × (LocalId × Op)) → Wider k l m → Agree k (begun l bs p x) (begun m bs p x)
agree_begun l m bs p x h = agree_then (agree_lines l m x.0 (record { place = p; result = Some x.1.0; op = x.1.1 } ∷ []) h) (λ (y : Lines). agree_ret (grown bs y.bare (block_of p y)))

agree_local_after : {k : ℕ} (l m : Limits) (bs : List Block) (b : Block) → Wider k l m → Agree k (local_after l bs b) (local_after m bs b)
unfolding local_after
agree_local_after l m bs b h =
    agree_then (agree_located (agree_same law_local_name)) (λ (n : Place × List ℕ). agree_either (sign 61)
    (agree_then (agree_expect (sign 61)) (λ (e : Unit). agree_then (agree_act define_next) (λ (j : LocalId). agree_then (agree_act (define n.1)) (λ (r : LocalId). agree_then (agree_op l m h) (λ (o : Op). agree_begun l m (bs ++ b ∷ []) n.0 (j, (r, o)) h)))))
    (agree_then (agree_act (local n.1)) (λ (x : LocalId). agree_then (agree_same law_notes) (λ (e : Unit). agree_ret (settled bs b (operands.Local x))))))

agree_gep_after : {k : ℕ} (l m : Limits) (bs : List Block) (b : Block) → Wider k l m → Agree k (gep_after l bs b) (gep_after m bs b)
unfolding gep_after
agree_gep_after {k = k} l m bs b h =
    agree_then (agree_located (agree_expect gep_word)) (λ (g : Place × Unit). agree_then (agree_same law_gep_flags) (λ (f : Unit). agree_either (sign 40)
    (agree_then (agree_gep_rest l.length m.length l.levels m.levels k h.lengths h.levels h.deep) (λ (c : Const). agree_then (agree_same law_notes) (λ (e : Unit). agree_ret (settled bs b (operands.Const c)))))
    (agree_then (agree_act define_next) (λ (j : LocalId). agree_then (agree_act define_next) (λ (r : LocalId). agree_then (agree_gep_op_rest l m h) (λ (o : Op). agree_begun l m (bs ++ b ∷ []) g.0 (j, (r, o)) h))))))

agree_other_lines : {k : ℕ} (l m : Limits) (b : LocalId) → Wider k l m → Agree k (other_lines l b) (other_lines m b)
unfolding other_lines
agree_other_lines l m b h = agree_either other_line_set (agree_then (agree_located (agree_other_line l m h)) (λ (x : Place × Line). agree_lines l m b (with_instr [] (instr_at x.0 x.1)) h)) (agree_finish l m b [] h)

agree_other_unlabelled : {k : ℕ} (l m : Limits) → Wider k l m → Agree k (other_unlabelled l) (other_unlabelled m)
unfolding other_unlabelled
agree_other_unlabelled l m h = agree_then (agree_act define_next) (λ (b : LocalId). agree_other_lines l m b h)

agree_other_block : {k : ℕ} (l m : Limits) (bs : List Block) → Wider k l m → Agree k (other_block l bs) (other_block m bs)
unfolding other_block
agree_other_block l m bs h = agree_then (agree_located (agree_either (kind kinds.Label) (agree_labelled l m h) (agree_other_unlabelled l m h))) (λ (x : Place × Lines). agree_ret (grown bs x.1.bare (block_of x.0 x.1)))

agree_after_void : {k : ℕ} (l m : Limits) (bs : List Block) (b : Block) → Wider k l m → Agree k (after_void l bs b) (after_void m bs b)
unfolding after_void
agree_after_void l m bs b h = agree_either (kind kinds.Local) (agree_local_after l m bs b h) (agree_either gep_word (agree_gep_after l m bs b h) (agree_either plain_value_set (agree_same (law_value_after bs b)) (agree_other_block l m (bs ++ b ∷ []) h)))

-- ---- bodies

agree_next_block : {k : ℕ} (l m : Limits) (bs : List Block) (o : Option Block) → Wider k l m → Agree k (next_block l bs o) (next_block m bs o)
agree_next_block l m bs None h = agree_block l m bs h
agree_next_block l m bs (Some b) h = agree_after_void l m bs b h

agree_more_blocks : {k : ℕ} (l m : Limits) (p : Progress) → Wider k l m → Agree k (more_blocks l p) (more_blocks m p)
unfolding more_blocks
agree_more_blocks l m p h = agree_rounds (λ (p : Progress). next_set p.waits) (λ (p : Progress). agree_next_block l m p.done p.waits h) (λ (p : Progress). agree_same (law_last_blocks p)) p

pub agree_body : {k : ℕ} (l m : Limits) → Wider k l m → Agree k (body l) (body m)
unfolding body
agree_body l m h = agree_then (agree_expect (sign 123)) (λ (o : Unit). agree_then (agree_block l m [] h) (λ (p : Progress). agree_more_blocks l m p h))
