-- Instructions, blocks and bodies keep the names, and are right.
use Rattle.std.proofs.Common.{ℕ, ◌≤◌, Bool, true, false, List, [], ◌∷◌, ◌++◌, length, arith}
use Rattle.std.specs.Prelude.{Option, Some, None, codes}
use Rattle.std.specs.List.{AllByRecursion as Each}
use Rattle.std.proofs.lemmas.List.{length_push}
use Rattle.oi_base.specs.declared.ids.Place.{Place}
use Rattle.ir_core.specs.declared.ty.IrType.{IrType}
use Rattle.ir_core.specs.declared.constant.Const.{Const}
use Rattle.ir_core.specs.declared.op.LocalId.{LocalId}
use Rattle.ir_core.specs.declared.op.Operand.{Operand}
use Rattle.ir_core.specs.declared.op.Operand.TheVariants as operands
use Rattle.ir_core.specs.declared.op.TypedOperand.{TypedOperand}
use Rattle.ir_core.specs.declared.op.SwitchCase.{SwitchCase}
use Rattle.ir_core.specs.declared.op.Op.{Op}
use Rattle.ir_core.specs.declared.op.End.{End}
use Rattle.ir_core.specs.declared.op.End.TheVariants as ends
use Rattle.ir_core.specs.declared.func.Instr.{Instr}
use Rattle.ir_core.specs.declared.func.Block.{Block}
use Rattle.ir_grammar.specs.declared.kinds.Kind.TheVariants as kinds
use Rattle.ir_grammar.specs.declared.parts.Lines.{Lines}
use Rattle.ir_grammar.specs.declared.parts.Progress.{Progress}
use Rattle.ir_grammar.specs.Names.{Names}
use Rattle.ir_grammar.specs.Tokens.{Limits, sign, word, kind}
use Rattle.ir_grammar.specs.Types.{type_set}
use Rattle.ir_grammar.specs.Values.{gep_word}
use Rattle.ir_grammar.specs.Operations.{call_words, store_word, Line, other_line, other_line_set, line, line_set, instr_at, instr}
use Rattle.ir_grammar.specs.Bodies.{label, void_word, Ended, void_end, ret_end, label_word, br_end, switch_case, switch_end, unreachable_end, end_form, with_instr, code, finish, lines, labelled, unlabelled, block_of, grown, block, valued, settled, begun, local_after, gep_after, plain_value_set, value_after, other_lines, other_unlabelled, other_block, after_void, next_block, next_set, all_blocks, more_blocks, body}
use Rattle.ir_proper.proofs.Kept.{each_left, each_right, each_push, Keeps, keeps_ret, keeps_expect, keeps_then, keeps_either, keeps_rounds, keeps_located, keeps_after_comma, keeps_many}
use Rattle.ir_proper.proofs.KeptNames.{KnownLocal, keeps_local, keeps_define, keeps_define_next}
use Rattle.ir_proper.proofs.KeptTokens.{keeps_text}
use Rattle.ir_proper.proofs.Good.{each_map, each_more, GoodType, GoodOperand, GoodTyped, GoodValue}
use Rattle.ir_proper.proofs.GoodCode.{GoodWithResult, IfAny, GoodLine, GoodInstr, good_instr, GoodEnd, GoodCase, GoodBlock}
use Rattle.ir_proper.proofs.KeptTypes.{keeps_value_type}
use Rattle.ir_proper.proofs.KeptValues.{keeps_gep_flags, keeps_gep_rest, keeps_address, keeps_integer, keeps_const_word, keeps_value, keeps_typed}
use Rattle.ir_proper.proofs.KeptAttributes.{keeps_note, keeps_notes}
use Rattle.ir_proper.proofs.KeptOperations.{keeps_gep_op_rest, keeps_gep_op, keeps_other_op, keeps_store, keeps_op}
use Rattle.ir_proper.proofs.KeptCalls.{keeps_unnamed_call}

-- ---- instructions

with_result : (l : Limits) (n : Names) (r : LocalId) (o : Op) → GoodWithResult l n o → KnownLocal n r → GoodLine l n (Some r, o)
with_result l n r o h k = record { op = h.0; known = (k, tt); result = h.1 r }

keeps_other_line : {n : Names} {H : Type 0} (l : Limits) → Keeps true n H (other_line l) (IfAny (GoodLine l n))
unfolding other_line
keeps_other_line {n = n} l =
    keeps_either call_words (keeps_unnamed_call l) (keeps_either store_word (keeps_then (keeps_store l) (λ (o : Op). keeps_ret (Some (None, o)) (λ g. record { op = g.0.0; known = tt; result = g.0.1 })))
    (keeps_then keeps_define_next (λ (r : LocalId). keeps_then (keeps_other_op l) (λ (o : Op). keeps_ret (Some (Some r, o)) (λ g. with_result l n r o g.0 g.1.0)))))

keeps_line : {n : Names} {H : Type 0} (l : Limits) → Keeps true n H (line l) (IfAny (GoodLine l n))
unfolding line
keeps_line {n = n} l =
    keeps_either (kind kinds.Local) (keeps_then (keeps_text kinds.Local) (λ (name : List ℕ). keeps_then (keeps_define name) (λ (r : LocalId). keeps_then (keeps_expect (sign 61)) (λ (e : Unit). keeps_then (keeps_op l) (λ (o : Op). keeps_ret (Some (Some r, o)) (λ g. with_result l n r o g.0 g.1.1.0))))))
    (keeps_either gep_word (keeps_then keeps_define_next (λ (r : LocalId). keeps_then (keeps_gep_op l) (λ (o : Op). keeps_ret (Some (Some r, o)) (λ g. with_result l n r o g.0 g.1.0)))) (keeps_other_line l))

keeps_instr : {n : Names} {H : Type 0} (l : Limits) → Keeps true n H (instr l) (IfAny (GoodInstr l n))
unfolding instr
keeps_instr {n = n} l = keeps_then (keeps_located (keeps_line l)) (λ (x : Place × Line). keeps_ret (instr_at x.0 x.1) (λ g. good_instr l n x.0 x.1 g.0))

-- ---- terminators

keeps_label : {n : Names} {H : Type 0} → Keeps true n H label (KnownLocal n)
unfolding label
keeps_label = keeps_then (keeps_expect (word (codes "label"))) (λ (w : Unit). keeps_then (keeps_text kinds.Local) (λ (name : List ℕ). keeps_local name))

abbrev GoodEnded : Names → Ended → Type 0
GoodEnded n e = GoodEnd n e.0

keeps_void_end : {n : Names} {H : Type 0} → Keeps true n H void_end (GoodEnded n)
unfolding void_end
keeps_void_end =
    keeps_then (keeps_expect void_word) (λ (w : Unit). keeps_either (sign 44) (keeps_then (keeps_after_comma keeps_note) (λ (m : Unit). keeps_then keeps_notes (λ (e : Unit). keeps_ret (ends.Ret None, false) (λ g. record { values = tt; types = tt; targets = tt }))))
    (keeps_ret (ends.Ret None, true) (λ g. record { values = tt; types = tt; targets = tt })))

keeps_ret_end : {n : Names} {H : Type 0} (l : Limits) → Keeps true n H (ret_end l) (GoodEnded n)
unfolding ret_end
keeps_ret_end l =
    keeps_then (keeps_expect (word (codes "ret"))) (λ (w : Unit). keeps_either void_word keeps_void_end
    (keeps_then (keeps_value_type l) (λ (t : IrType). keeps_then (keeps_value l) (λ (v : Operand). keeps_then keeps_notes (λ (e : Unit). keeps_ret (ends.Ret (Some (record { ty = t; value = v })), false)
    (λ g. record { values = (g.1.0, tt); types = (g.1.1.0.0, tt); targets = tt }))))))

keeps_br_end : {n : Names} {H : Type 0} (l : Limits) → Keeps true n H (br_end l) (GoodEnd n)
unfolding br_end
keeps_br_end l =
    keeps_then (keeps_expect (word (codes "br"))) (λ (w : Unit). keeps_either label_word (keeps_then keeps_label (λ (b : LocalId). keeps_then keeps_notes (λ (e : Unit). keeps_ret (ends.Br b) (λ g. record { values = tt; types = tt; targets = (g.1.0, tt) }))))
    (keeps_then (keeps_typed l) (λ (c : TypedOperand). keeps_then (keeps_expect (sign 44)) (λ (c1 : Unit). keeps_then keeps_label (λ (t : LocalId). keeps_then (keeps_expect (sign 44)) (λ (c2 : Unit). keeps_then keeps_label (λ (f : LocalId). keeps_then keeps_notes (λ (e : Unit). keeps_ret (ends.Cond c t f)
    (λ g. let x = g.1.1.1.1.1.0 in record { values = (x.value, tt); types = (x.ty, tt); targets = (g.1.1.1.0, (g.1.0, tt)) })))))))))

keeps_case : {n : Names} {H : Type 0} (l : Limits) → Keeps true n H (switch_case l) (GoodCase n)
unfolding switch_case
keeps_case l = keeps_then (keeps_typed l) (λ (v : TypedOperand). keeps_then (keeps_expect (sign 44)) (λ (c : Unit). keeps_then keeps_label (λ (b : LocalId). keeps_ret (record { value = v; to = b }) (λ g. record { value = g.1.1.0; to = g.0 }))))

good_switch : (n : Names) (v : TypedOperand) (b : LocalId) (cs : List SwitchCase) → GoodTyped n v → KnownLocal n b → Each (GoodCase n) cs → GoodEnd n (ends.Switch v b cs)
good_switch n v b cs h k e = record {
  values = (h.value, each_map (GoodOperand n) (λ (c : SwitchCase). c.value.value) cs (each_more (GoodCase n) (λ (c : SwitchCase). GoodOperand n c.value.value) (λ c g. g.value.value) cs e));
  types = (h.ty, each_map (GoodType n) (λ (c : SwitchCase). c.value.ty) cs (each_more (GoodCase n) (λ (c : SwitchCase). GoodType n c.value.ty) (λ c g. g.value.ty) cs e));
  targets = (k, each_map (KnownLocal n) (λ (c : SwitchCase). c.to) cs (each_more (GoodCase n) (λ (c : SwitchCase). KnownLocal n c.to) (λ c g. g.to) cs e));
}

keeps_switch_end : {n : Names} {H : Type 0} (l : Limits) → Keeps true n H (switch_end l) (GoodEnd n)
unfolding switch_end
keeps_switch_end {n = n} l =
    keeps_then (keeps_expect (word (codes "switch"))) (λ (w : Unit). keeps_then (keeps_typed l) (λ (v : TypedOperand). keeps_then (keeps_expect (sign 44)) (λ (c : Unit). keeps_then keeps_label (λ (b : LocalId). keeps_then (keeps_expect (sign 91)) (λ (o : Unit).
    keeps_then (keeps_many (type_set true) (GoodCase n) (keeps_case l) [] (λ g. tt)) (λ (cs : List SwitchCase). keeps_then (keeps_expect (sign 93)) (λ (d : Unit). keeps_then keeps_notes (λ (e : Unit). keeps_ret (ends.Switch v b cs)
    (λ g. good_switch n v b cs g.1.1.1.1.1.1.0 g.1.1.1.1.0 g.1.1.0)))))))))

keeps_unreachable : {n : Names} {H : Type 0} → Keeps true n H unreachable_end (GoodEnd n)
unfolding unreachable_end
keeps_unreachable = keeps_then (keeps_expect (word (codes "unreachable"))) (λ (w : Unit). keeps_then keeps_notes (λ (e : Unit). keeps_ret ends.Unreachable (λ g. record { values = tt; types = tt; targets = tt })))

keeps_end : {n : Names} {H : Type 0} (l : Limits) → Keeps true n H (end_form l) (GoodEnded n)
unfolding end_form
keeps_end l =
    keeps_either (word (codes "ret")) (keeps_ret_end l) (keeps_either (word (codes "br")) (keeps_then (keeps_br_end l) (λ (e : End). keeps_ret (e, false) (λ g. g.0)))
    (keeps_either (word (codes "switch")) (keeps_then (keeps_switch_end l) (λ (e : End). keeps_ret (e, false) (λ g. g.0))) (keeps_then keeps_unreachable (λ (e : End). keeps_ret (e, false) (λ g. g.0)))))

-- ---- blocks

with_good : (l : Limits) (n : Names) (is : List Instr) (i : Option Instr) → Each (GoodInstr l n) is → IfAny (GoodInstr l n) i → Each (GoodInstr l n) (with_instr is i)
with_good l n is None h k = h
with_good l n is (Some i) h k = each_push (GoodInstr l n) is i h k

keeps_code : {n : Names} {H : Type 0} (l : Limits) (is : List Instr) → (H → Each (GoodInstr l n) is) → Keeps true n H (code l is) (Each (GoodInstr l n))
unfolding code
keeps_code {n = n} l is e =
    keeps_rounds (λ is. line_set) (Each (GoodInstr l n)) (λ (is : List Instr). keeps_then (keeps_instr l) (λ (i : Option Instr). keeps_ret (with_instr is i) (λ g. with_good l n is i g.1.0 g.0))) (λ (is : List Instr). keeps_ret is (λ g. g.0)) is e

record GoodLines (l : Limits) (n : Names) (x : Lines) : Type 0 where
  label : KnownLocal n x.label
  code : Each (GoodInstr l n) x.code
  end : GoodEnd n x.end

keeps_finish : {n : Names} {H : Type 0} (l : Limits) (b : LocalId) (is : List Instr) → (H → KnownLocal n b) → (H → Each (GoodInstr l n) is) → Keeps true n H (finish l b is) (GoodLines l n)
unfolding finish
keeps_finish l b is k e = keeps_then (keeps_located (keeps_end l)) (λ (x : Place × Ended). keeps_ret (record { label = b; code = is; end = x.1.0; end_place = x.0; bare = x.1.1 }) (λ g. record { label = k g.1; code = e g.1; end = g.0 }))

keeps_lines : {n : Names} {H : Type 0} (l : Limits) (b : LocalId) (is : List Instr) → (H → KnownLocal n b) → (H → Each (GoodInstr l n) is) → Keeps true n H (lines l b is) (GoodLines l n)
unfolding lines
keeps_lines l b is k e = keeps_then (keeps_code l is e) (λ (js : List Instr). keeps_finish l b js (λ g. k g.1) (λ g. g.0))

keeps_labelled : {n : Names} {H : Type 0} (l : Limits) → Keeps true n H (labelled l) (GoodLines l n)
unfolding labelled
keeps_labelled l = keeps_then (keeps_text kinds.Label) (λ (name : List ℕ). keeps_then (keeps_define name) (λ (b : LocalId). keeps_lines l b [] (λ g. g.0) (λ g. tt)))

keeps_unlabelled : {n : Names} {H : Type 0} (l : Limits) → Keeps true n H (unlabelled l) (GoodLines l n)
unfolding unlabelled
keeps_unlabelled l = keeps_then keeps_define_next (λ (b : LocalId). keeps_lines l b [] (λ g. g.0) (λ g. tt))

-- ---- the blocks so far

-- right blocks, at least one
abbrev pub GoodBlocks : Limits → Names → List Block → Type 0
GoodBlocks l n bs = Each (GoodBlock l n) bs × (1 ≤ length bs)

abbrev GoodProgress : Limits → Names → Progress → Type 0
GoodProgress l n p = GoodBlocks l n (all_blocks p.done p.waits)

blocks_push : (l : Limits) (n : Names) (bs : List Block) (b : Block) → Each (GoodBlock l n) bs → GoodBlock l n b → GoodBlocks l n (bs ++ b ∷ [])
blocks_push l n bs b h k = let e = length_push bs b in (each_push (GoodBlock l n) bs b h k, omega (arith, e))

grown_good : (l : Limits) (n : Names) (bs : List Block) (bare : Bool) (b : Block) → Each (GoodBlock l n) bs → GoodBlock l n b → GoodProgress l n (grown bs bare b)
grown_good l n bs true b h k = blocks_push l n bs b h k
grown_good l n bs false b h k = blocks_push l n bs b h k

good_lines : (l : Limits) (n : Names) (p : Place) (x : Lines) → GoodLines l n x → GoodBlock l n (block_of p x)
good_lines l n p x h = record { label = h.label; code = h.code; end = h.end }

keeps_block : {n : Names} {H : Type 0} (l : Limits) (bs : List Block) → (H → Each (GoodBlock l n) bs) → Keeps true n H (block l bs) (GoodProgress l n)
unfolding block
keeps_block {n = n} l bs e =
    keeps_then (keeps_located (keeps_either (kind kinds.Label) (keeps_labelled l) (keeps_unlabelled l))) (λ (x : Place × Lines). keeps_ret (grown bs x.1.bare (block_of x.0 x.1)) (λ g. grown_good l n bs x.1.bare (block_of x.0 x.1) (e g.1) (good_lines l n x.0 x.1 g.0)))

-- ---- after `ret void`

settled_good : (l : Limits) (n : Names) (bs : List Block) (b : Block) (v : Operand) → Each (GoodBlock l n) (bs ++ b ∷ []) → GoodOperand n v → GoodProgress l n (settled bs b v)
settled_good l n bs b v h k =
    let last = (each_right (GoodBlock l n) bs (b ∷ []) h).0 in
    blocks_push l n bs (valued b v) (each_left (GoodBlock l n) bs (b ∷ []) h) (record { label = last.label; code = last.code; end = record { values = (k, tt); types = (tt, tt); targets = tt } })

keeps_begun : {n : Names} {H : Type 0} (l : Limits) (bs : List Block) (p : Place) (k r : LocalId) (o : Op) → (H → Each (GoodBlock l n) bs) → (H → KnownLocal n k) → (H → GoodLine l n (Some r, o)) → Keeps true n H (begun l bs p (k, (r, o))) (GoodProgress l n)
keeps_begun {n = n} l bs p k r o e h i =
    keeps_then (keeps_lines l k (record { place = p; result = Some r; op = o } ∷ []) h (λ g. (good_instr l n p (Some (Some r, o)) (i g), tt))) (λ (y : Lines). keeps_ret (grown bs y.bare (block_of p y)) (λ g. grown_good l n bs y.bare (block_of p y) (e g.1) (good_lines l n p y g.0)))

keeps_local_after : {n : Names} {H : Type 0} (l : Limits) (bs : List Block) (b : Block) → (H → Each (GoodBlock l n) (bs ++ b ∷ [])) → Keeps true n H (local_after l bs b) (GoodProgress l n)
unfolding local_after
keeps_local_after {n = n} l bs b e =
    keeps_then (keeps_located (keeps_text kinds.Local)) (λ (name : Place × List ℕ). keeps_either (sign 61)
    (keeps_then (keeps_expect (sign 61)) (λ (c : Unit). keeps_then keeps_define_next (λ (k : LocalId). keeps_then (keeps_define name.1) (λ (r : LocalId). keeps_then (keeps_op l) (λ (o : Op).
    keeps_begun l (bs ++ b ∷ []) name.0 k r o (λ g. e g.1.1.1.1.1) (λ g. g.1.1.0) (λ g. with_result l n r o g.0 g.1.0))))))
    (keeps_then (keeps_local name.1) (λ (x : LocalId). keeps_then keeps_notes (λ (m : Unit). keeps_ret (settled bs b (operands.Local x)) (λ g. settled_good l n bs b (operands.Local x) (e g.1.1.1) g.1.0)))))

keeps_gep_after : {n : Names} {H : Type 0} (l : Limits) (bs : List Block) (b : Block) → (H → Each (GoodBlock l n) (bs ++ b ∷ [])) → Keeps true n H (gep_after l bs b) (GoodProgress l n)
unfolding gep_after
keeps_gep_after {n = n} l bs b e =
    keeps_then (keeps_located (keeps_expect gep_word)) (λ (x : Place × Unit). keeps_then keeps_gep_flags (λ (f : Unit). keeps_either (sign 40)
    (keeps_then (keeps_gep_rest l.length l.levels) (λ (c : Const). keeps_then keeps_notes (λ (m : Unit). keeps_ret (settled bs b (operands.Const c)) (λ g. settled_good l n bs b (operands.Const c) (e g.1.1.1.1) g.1.0))))
    (keeps_then keeps_define_next (λ (k : LocalId). keeps_then keeps_define_next (λ (r : LocalId). keeps_then (keeps_gep_op_rest l) (λ (o : Op).
    keeps_begun l (bs ++ b ∷ []) x.0 k r o (λ g. e g.1.1.1.1.1) (λ g. g.1.1.0) (λ g. with_result l n r o g.0 g.1.0)))))))

keeps_value_after : {n : Names} {H : Type 0} (l : Limits) (bs : List Block) (b : Block) → (H → Each (GoodBlock l n) (bs ++ b ∷ [])) → Keeps true n H (value_after bs b) (GoodProgress l n)
unfolding value_after
keeps_value_after {n = n} l bs b e =
    keeps_then (keeps_either (kind kinds.Global) {P = GoodValue n} keeps_address (keeps_either (kind kinds.Int) keeps_integer keeps_const_word)) (λ (c : Const). keeps_then keeps_notes (λ (m : Unit). keeps_ret (settled bs b (operands.Const c)) (λ g. settled_good l n bs b (operands.Const c) (e g.1.1) g.1.0)))

keeps_other_lines : {n : Names} {H : Type 0} (l : Limits) (b : LocalId) → (H → KnownLocal n b) → Keeps true n H (other_lines l b) (GoodLines l n)
unfolding other_lines
keeps_other_lines {n = n} l b k =
    keeps_either other_line_set (keeps_then (keeps_located (keeps_other_line l)) (λ (x : Place × Line). keeps_lines l b (with_instr [] (instr_at x.0 x.1)) (λ g. k g.1) (λ g. with_good l n [] (instr_at x.0 x.1) tt (good_instr l n x.0 x.1 g.0))))
    (keeps_finish l b [] k (λ g. tt))

keeps_other_unlabelled : {n : Names} {H : Type 0} (l : Limits) → Keeps true n H (other_unlabelled l) (GoodLines l n)
unfolding other_unlabelled
keeps_other_unlabelled l = keeps_then keeps_define_next (λ (b : LocalId). keeps_other_lines l b (λ g. g.0))

keeps_other_block : {n : Names} {H : Type 0} (l : Limits) (bs : List Block) → (H → Each (GoodBlock l n) bs) → Keeps true n H (other_block l bs) (GoodProgress l n)
unfolding other_block
keeps_other_block {n = n} l bs e =
    keeps_then (keeps_located (keeps_either (kind kinds.Label) (keeps_labelled l) (keeps_other_unlabelled l))) (λ (x : Place × Lines). keeps_ret (grown bs x.1.bare (block_of x.0 x.1)) (λ g. grown_good l n bs x.1.bare (block_of x.0 x.1) (e g.1) (good_lines l n x.0 x.1 g.0)))

keeps_after_void : {n : Names} {H : Type 0} (l : Limits) (bs : List Block) (b : Block) → (H → Each (GoodBlock l n) (bs ++ b ∷ [])) → Keeps true n H (after_void l bs b) (GoodProgress l n)
unfolding after_void
keeps_after_void l bs b e = keeps_either (kind kinds.Local) (keeps_local_after l bs b e) (keeps_either gep_word (keeps_gep_after l bs b e) (keeps_either plain_value_set (keeps_value_after l bs b e) (keeps_other_block l (bs ++ b ∷ []) e)))

-- ---- bodies

keeps_next_block : {n : Names} {H : Type 0} (l : Limits) (bs : List Block) (o : Option Block) → (H → Each (GoodBlock l n) (all_blocks bs o)) → Keeps true n H (next_block l bs o) (GoodProgress l n)
keeps_next_block l bs None e = keeps_block l bs e
keeps_next_block l bs (Some b) e = keeps_after_void l bs b e

keeps_more_blocks : {n : Names} {H : Type 0} (l : Limits) (p : Progress) → (H → GoodProgress l n p) → Keeps true n H (more_blocks l p) (GoodBlocks l n)
unfolding more_blocks
keeps_more_blocks {n = n} l p e =
    keeps_rounds (λ (p : Progress). next_set p.waits) (GoodProgress l n) (λ (p : Progress). keeps_next_block l p.done p.waits (λ g. g.0.0)) (λ (p : Progress). keeps_then (keeps_expect (sign 125)) (λ (c : Unit). keeps_ret (all_blocks p.done p.waits) (λ g. g.1.0))) p e

pub keeps_body : {n : Names} {H : Type 0} (l : Limits) → Keeps true n H (body l) (GoodBlocks l n)
unfolding body
keeps_body l = keeps_then (keeps_expect (sign 123)) (λ (o : Unit). keeps_then (keeps_block l [] (λ g. tt)) (λ (p : Progress). keeps_more_blocks l p (λ g. g.0)))
