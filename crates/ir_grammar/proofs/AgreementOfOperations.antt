-- Arguments, operations and instructions with wider limits.
use Rattle.std.proofs.Common.{◌≡◌, inl, inr, ℕ, ◌≤◌, ◌+◌, pos, Bool, true, false, nat_lt, List, [], ◌∷◌, ◌++◌, length, Ok, Err, refl, sym, arith}
use Rattle.std.proofs.lemmas.Bool.Decides.{nat_tests}
use Rattle.std.specs.Prelude.{Option, Some, None, codes}
use Rattle.oi_base.specs.declared.ids.Place.{Place}
use Rattle.ir_lexer.specs.declared.fault.LexFault.{LexFault}
use Rattle.ir_core.specs.declared.flat.BinOp.{BinOp}
use Rattle.ir_core.specs.declared.flat.Cmp.{Cmp}
use Rattle.ir_core.specs.declared.flat.CastOp.{CastOp}
use Rattle.ir_core.specs.declared.ty.IrType.{IrType}
use Rattle.ir_core.specs.declared.module.SymId.{SymId}
use Rattle.ir_core.specs.declared.constant.Const.{Const}
use Rattle.ir_core.specs.declared.constant.Const as consts
use Rattle.ir_core.specs.declared.constant.TypedCount.{TypedCount}
use Rattle.ir_core.specs.declared.op.LocalId.{LocalId}
use Rattle.ir_core.specs.declared.op.Operand.{Operand}
use Rattle.ir_core.specs.declared.op.Operand.TheVariants as operands
use Rattle.ir_core.specs.declared.op.TypedOperand.{TypedOperand}
use Rattle.ir_core.specs.declared.op.Pair.{Pair}
use Rattle.ir_core.specs.declared.op.Op.{Op}
use Rattle.ir_core.specs.declared.op.Op.TheVariants as ops
use Rattle.ir_grammar.specs.declared.kinds.Kind.TheVariants as kinds
use Rattle.ir_grammar.specs.declared.parts.Stand.{Stand}
use Rattle.ir_grammar.specs.declared.parts.Stand.TheVariants.{Free, AfterWord, AfterInt}
use Rattle.ir_grammar.specs.declared.which.Which.{Which}
use Rattle.ir_grammar.specs.declared.which.Which.TheVariants as limits
use Rattle.ir_grammar.specs.Pieces.{Piece, Is, Bad}
use Rattle.ir_grammar.specs.Names.{Names, local, symbol, define, define_next}
use Rattle.ir_grammar.specs.Forms.{Why, Refused, Exceeds, Outcome, Form, choose}
use Rattle.ir_grammar.specs.Tokens.{Limits, is_past, sign, word, kind, words_of, over}
use Rattle.ir_grammar.specs.Types.{type_set}
use Rattle.ir_grammar.specs.Values.{gep_word, value_set}
use Rattle.ir_grammar.specs.Attributes.{more_set, no_integer, last, argument_value, argument}
use Rattle.ir_grammar.specs.Operations.{listing, items_and_notes, align_word, align_then_notes, align_or_notes, align_and_notes, bin_words, bin, icmp_word, icmp, select_word, select, cast_words, cast, alloca_word, count_and_rest, alloca, load_word, load, gep_op_rest, gep_op, pair, phi_word, phi, other_op, store_word, store, next_item, in_brackets, call_words, is_lifetime, arguments, named_call, op, Line, result_of, called, lifetime, types_so_far, unnamed_call, other_line, line, instr_at, instr}
use Rattle.ir_grammar.proofs.FormLaws.{Shape, Heads, Traced, Faulted, Exceeded, Law, left, shrinks}
use Rattle.ir_grammar.proofs.LawsOfValues.{law_gep_flags, law_address, law_local_value}
use Rattle.ir_grammar.proofs.LawsOfAttributes.{law_note, law_notes, law_more, law_argument}
use Rattle.ir_grammar.proofs.LawsOfOperations.{law_note_then_notes, law_bin_flags, law_cast_flags, law_may_samesign, law_local_name, law_call_head, law_call_end, law_callee, law_lifetime, law_global_name}
use Rattle.ir_grammar.proofs.Agreement.{Agrees, Agree, agree_same, agree_act, agree_ret, agree_one, agree_expect, agree_then, agree_either, agree_rounds, agree_located}
use Rattle.ir_grammar.proofs.AgreementOfValues.{AtMost, Wider, agree_number, agree_type_form, agree_value_type, agree_gep, agree_value, agree_typed}

-- ---- arguments

agree_no_integer : {k : ℕ} (l m : Limits) → Wider k l m → Agree k (no_integer l) (no_integer m)
agree_no_integer {k = k} l m h =
    let as_value = λ (c : Const). agree_ret (operands.Const c) in
    agree_either (kind kinds.Local) (agree_same law_local_value) (agree_either (kind kinds.Global) (agree_then (agree_same law_address) as_value)
    (agree_either gep_word (agree_then (agree_gep l.length m.length l.levels m.levels k h.lengths h.levels h.deep) as_value) (agree_then (agree_one _) as_value)))

agree_last : {k : ℕ} (l m : Limits) → Wider k l m → (x : Stand) → Agree k (last l x) (last m x)
agree_last l m h Free = agree_value l m h
agree_last l m h AfterWord = agree_no_integer l m h
agree_last l m h (AfterInt n) = agree_either value_set (agree_value l m h) (agree_ret (operands.Const (consts.Int n)))

agree_argument_value : {k : ℕ} (l m : Limits) → Wider k l m → Agree k (argument_value l) (argument_value m)
unfolding argument_value
agree_argument_value l m h = agree_rounds more_set (λ (x : Stand). agree_same (law_more x)) (λ (x : Stand). agree_last l m h x) Free

agree_argument : {k : ℕ} (l m : Limits) → Wider k l m → Agree k (argument l) (argument m)
unfolding argument
agree_argument l m h = agree_then (agree_type_form l m h) (λ (t : IrType). agree_then (agree_argument_value l m h) (λ (v : Operand). agree_ret (record { ty = t; value = v })))

-- ---- items and then notes

agree_listing : {A : Type 0} {k : ℕ} {f g : Form A} → Agree k f g → (b : Bool) (xs : List A) → Agree k (listing f b xs) (listing g b xs)
agree_listing h true xs = agree_then (agree_same law_note) (λ (n : Unit). agree_ret (true, xs))
agree_listing {A = A} h false xs = agree_either (kind kinds.Meta) (agree_then (agree_same law_note) (λ (n : Unit). agree_ret (true, xs))) (agree_then h (λ (a : A). agree_ret (false, xs ++ a ∷ [])))

agree_items_and_notes : {A : Type 0} {k : ℕ} {f g : Form A} → Agree k f g → (xs : List A) → Agree k (items_and_notes f xs) (items_and_notes g xs)
agree_items_and_notes {A = A} h xs = agree_rounds (λ x. sign 44) (λ (x : Bool × List A). agree_then (agree_expect (sign 44)) (λ (c : Unit). agree_listing h x.0 x.1)) (λ (x : Bool × List A). agree_ret x.1) (false, xs)

agree_align_then_notes : {k : ℕ} (l m : Limits) → Wider k l m → Agree k (align_then_notes l) (align_then_notes m)
unfolding align_then_notes
agree_align_then_notes l m h = agree_then (agree_expect align_word) (λ (u : Unit). agree_then (agree_number l.length m.length h.lengths) (λ (n : ℕ). agree_then (agree_same law_notes) (λ (e : Unit). agree_ret (Some n))))

agree_align_or_notes : {k : ℕ} (l m : Limits) → Wider k l m → Agree k (align_or_notes l) (align_or_notes m)
unfolding align_or_notes
agree_align_or_notes l m h = agree_either align_word (agree_align_then_notes l m h) (agree_then (agree_same law_note_then_notes) (λ (e : Unit). agree_ret None))

agree_align_and_notes : {k : ℕ} (l m : Limits) → Wider k l m → Agree k (align_and_notes l) (align_and_notes m)
unfolding align_and_notes
agree_align_and_notes l m h = agree_either (sign 44) (agree_then (agree_expect (sign 44)) (λ (c : Unit). agree_align_or_notes l m h)) (agree_ret None)

-- ---- operations

agree_bin : {k : ℕ} (l m : Limits) → Wider k l m → Agree k (bin l) (bin m)
unfolding bin
agree_bin l m h =
    agree_then (agree_one _) (λ (o : BinOp). agree_then (agree_same law_bin_flags) (λ (f : Unit). agree_then (agree_type_form l m h) (λ (t : IrType). agree_then (agree_value l m h) (λ (a : Operand).
    agree_then (agree_expect (sign 44)) (λ (c : Unit). agree_then (agree_value l m h) (λ (b : Operand). agree_then (agree_same law_notes) (λ (n : Unit). agree_ret (ops.Bin o t a b))))))))

agree_icmp : {k : ℕ} (l m : Limits) → Wider k l m → Agree k (icmp l) (icmp m)
unfolding icmp
agree_icmp l m h =
    agree_then (agree_expect icmp_word) (λ (u : Unit). agree_then (agree_same law_may_samesign) (λ (f : Unit). agree_then (agree_one _) (λ (o : Cmp). agree_then (agree_type_form l m h) (λ (t : IrType). agree_then (agree_value l m h) (λ (a : Operand).
    agree_then (agree_expect (sign 44)) (λ (c : Unit). agree_then (agree_value l m h) (λ (b : Operand). agree_then (agree_same law_notes) (λ (n : Unit). agree_ret (ops.Icmp o t a b)))))))))

agree_select : {k : ℕ} (l m : Limits) → Wider k l m → Agree k (select l) (select m)
unfolding select
agree_select l m h =
    agree_then (agree_expect select_word) (λ (u : Unit). agree_then (agree_typed l m h) (λ (a : TypedOperand). agree_then (agree_expect (sign 44)) (λ (c : Unit). agree_then (agree_typed l m h) (λ (b : TypedOperand).
    agree_then (agree_expect (sign 44)) (λ (d : Unit). agree_then (agree_typed l m h) (λ (e : TypedOperand). agree_then (agree_same law_notes) (λ (n : Unit). agree_ret (ops.Select a b e))))))))

agree_cast : {k : ℕ} (l m : Limits) → Wider k l m → Agree k (cast l) (cast m)
unfolding cast
agree_cast l m h =
    agree_then (agree_one _) (λ (o : CastOp). agree_then (agree_same law_cast_flags) (λ (f : Unit). agree_then (agree_typed l m h) (λ (a : TypedOperand). agree_then (agree_expect (word (codes "to"))) (λ (u : Unit).
    agree_then (agree_type_form l m h) (λ (t : IrType). agree_then (agree_same law_notes) (λ (n : Unit). agree_ret (ops.Cast o a t)))))))

agree_count_and_rest : {k : ℕ} (l m : Limits) → Wider k l m → Agree k (count_and_rest l) (count_and_rest m)
unfolding count_and_rest
agree_count_and_rest l m h =
    agree_then (agree_type_form l m h) (λ (t : IrType). agree_then (agree_number l.length m.length h.lengths) (λ (n : ℕ). agree_then (agree_align_and_notes l m h) (λ (a : Option ℕ). agree_ret (Some (record { ty = t; count = pos n }), a))))

agree_alloca : {k : ℕ} (l m : Limits) → Wider k l m → Agree k (alloca l) (alloca m)
unfolding alloca
agree_alloca l m h =
    let after = agree_either (type_set true) (agree_count_and_rest l m h) (agree_then (agree_align_or_notes l m h) (λ (a : Option ℕ). agree_ret (None, a))) in
    agree_then (agree_expect alloca_word) (λ (u : Unit). agree_then (agree_type_form l m h) (λ (t : IrType).
    agree_then (agree_either (sign 44) (agree_then (agree_expect (sign 44)) (λ (c : Unit). after)) (agree_ret (None, None))) (λ (x : Option TypedCount × Option ℕ). agree_ret (ops.Alloca t x.0 x.1))))

agree_load : {k : ℕ} (l m : Limits) → Wider k l m → Agree k (load l) (load m)
unfolding load
agree_load l m h =
    agree_then (agree_expect load_word) (λ (u : Unit). agree_then (agree_type_form l m h) (λ (t : IrType). agree_then (agree_expect (sign 44)) (λ (c : Unit). agree_then (agree_typed l m h) (λ (a : TypedOperand).
    agree_then (agree_align_and_notes l m h) (λ (n : Option ℕ). agree_ret (ops.Load t a n))))))

pub agree_gep_op_rest : {k : ℕ} (l m : Limits) → Wider k l m → Agree k (gep_op_rest l) (gep_op_rest m)
unfolding gep_op_rest
agree_gep_op_rest l m h =
    agree_then (agree_type_form l m h) (λ (t : IrType). agree_then (agree_expect (sign 44)) (λ (c : Unit). agree_then (agree_typed l m h) (λ (a : TypedOperand).
    agree_then (agree_items_and_notes (agree_typed l m h) []) (λ (is : List TypedOperand). agree_ret (ops.Gep t a is)))))

agree_gep_op : {k : ℕ} (l m : Limits) → Wider k l m → Agree k (gep_op l) (gep_op m)
unfolding gep_op
agree_gep_op l m h = agree_then (agree_expect gep_word) (λ (u : Unit). agree_then (agree_same law_gep_flags) (λ (f : Unit). agree_gep_op_rest l m h))

agree_pair : {k : ℕ} (l m : Limits) → Wider k l m → Agree k (pair l) (pair m)
unfolding pair
agree_pair l m h =
    agree_then (agree_expect (sign 91)) (λ (o : Unit). agree_then (agree_value l m h) (λ (v : Operand). agree_then (agree_expect (sign 44)) (λ (c : Unit). agree_then (agree_same law_local_name) (λ (n : List ℕ). agree_then (agree_act (local n)) (λ (b : LocalId).
    agree_then (agree_expect (sign 93)) (λ (d : Unit). agree_ret (record { value = v; from = b })))))))

agree_phi : {k : ℕ} (l m : Limits) → Wider k l m → Agree k (phi l) (phi m)
unfolding phi
agree_phi l m h =
    agree_then (agree_expect phi_word) (λ (u : Unit). agree_then (agree_type_form l m h) (λ (t : IrType). agree_then (agree_pair l m h) (λ (p : Pair). agree_then (agree_items_and_notes (agree_pair l m h) (p ∷ [])) (λ (ps : List Pair). agree_ret (ops.Phi t ps)))))

agree_other_op : {k : ℕ} (l m : Limits) → Wider k l m → Agree k (other_op l) (other_op m)
unfolding other_op
agree_other_op l m h =
    agree_either (words_of bin_words) (agree_bin l m h) (agree_either icmp_word (agree_icmp l m h) (agree_either select_word (agree_select l m h) (agree_either (words_of cast_words) (agree_cast l m h)
    (agree_either alloca_word (agree_alloca l m h) (agree_either load_word (agree_load l m h) (agree_phi l m h))))))

agree_store : {k : ℕ} (l m : Limits) → Wider k l m → Agree k (store l) (store m)
unfolding store
agree_store l m h =
    agree_then (agree_expect store_word) (λ (u : Unit). agree_then (agree_typed l m h) (λ (a : TypedOperand). agree_then (agree_expect (sign 44)) (λ (c : Unit). agree_then (agree_typed l m h) (λ (p : TypedOperand).
    agree_then (agree_align_and_notes l m h) (λ (n : Option ℕ). agree_ret (ops.Store a p n))))))

-- ---- items in round brackets

-- where no token stands, a form that is not empty refuses what comes
refuses_at_end : {A : Type 0} (f : Form A) (z : Shape) → Law true f z → z.empty ≡ false → (s : Names) → f.parse (left s []) ≡ Err (record { at = []; why = Refused })
refuses_at_end {A = A} f z law some s = at (f.parse (left s [])) (law.traced (left s [])) (law.excess (left s []))
  where
    taken : (u v : List Piece) (a : A) (s' : Names) → [] ≡ u ++ v → f.reads s u a s' → ⊥
    taken [] v a s' e r = let h = law.heads s [] a s' r in cc (h, some)
    taken (t ∷ u) v a s' e r = cc

    kept : (u at : List Piece) → [] ≡ u ++ at → at ≡ []
    kept [] at e = sym e
    kept (t ∷ u) at e = absurd cc

    because : (at : List Piece) (y : Why) → at ≡ [] → Exceeded f (left s []) at y → y ≡ Refused
    because at Refused e h = refl
    because at (Exceeds w) e h = absurd (cc (e, h.4))

    at : (o : Outcome A) → Traced true f (left s []) o → Faulted f (left s []) o → o ≡ Err (record { at = []; why = Refused })
    at (Ok r) h k = absurd (taken h.0 r.1.tokens r.0 r.1.names h.1 h.2)
    at (Err d) h k = let e = kept h.0 d.at h.1 in rw (e, because d.at d.why e k) refl

refuses_bad : {A : Type 0} (f : Form A) (z : Shape) → Law true f z → z.empty ≡ false → (s : Names) (b : LexFault) (ts : List Piece) → f.parse (left s (Bad b ∷ ts)) ≡ Err (record { at = Bad b ∷ ts; why = Refused })
refuses_bad {A = A} f z law some s b ts = at (f.parse (left s (Bad b ∷ ts))) (law.traced (left s (Bad b ∷ ts))) (law.excess (left s (Bad b ∷ ts)))
  where
    bad_head : (t : Piece) (u : List Piece) → t ≡ Bad b → Heads z (t ∷ u) → ⊥
    bad_head (Is q) u e h = cc
    bad_head (Bad c) u e h = cc

    taken : (u v : List Piece) (a : A) (s' : Names) → Bad b ∷ ts ≡ u ++ v → f.reads s u a s' → ⊥
    taken [] v a s' e r = let h = law.heads s [] a s' r in cc (h, some)
    taken (t ∷ u) v a s' e r = let same : t ≡ Bad b = cc in bad_head t u same (law.heads s (t ∷ u) a s' r)

    kept : (u at : List Piece) → Bad b ∷ ts ≡ u ++ at → ((v : List Piece) × (a : A) × (s' : Names) × f.reads s (u ++ v) a s') → at ≡ Bad b ∷ ts
    kept [] at e r = sym e
    kept (t ∷ u) at e r = let same : t ≡ Bad b = cc in absurd (bad_head t (u ++ r.0) same (law.heads s ((t ∷ u) ++ r.0) r.1 r.2 r.3))

    because : (at : List Piece) (y : Why) → at ≡ Bad b ∷ ts → Exceeded f (left s (Bad b ∷ ts)) at y → y ≡ Refused
    because at Refused e h = refl
    because at (Exceeds w) e h = absurd (cc (e, h.4))

    at : (o : Outcome A) → Traced true f (left s (Bad b ∷ ts)) o → Faulted f (left s (Bad b ∷ ts)) o → o ≡ Err (record { at = Bad b ∷ ts; why = Refused })
    at (Ok r) h k = absurd (taken h.0 r.1.tokens r.0 r.1.names h.1 h.2)
    at (Err d) h k = let e = kept h.0 d.at h.1 (h.2 refl) in rw (e, because d.at d.why e k) refl

-- one item too many, and an item
agree_over : {A : Type 0} {k : ℕ} (w : Which) (f : Form A) (z : Shape) → Law true f z → z.empty ≡ false → k ≤ 1 → Agree k (over w) f
agree_over {A = A} {k = k} w f z law some few = record { shrinking = λ l. shrinks f z law l; agree = λ l. at l.names l.tokens }
  where
    at : (s : Names) (ts : List Piece) → Agrees k (left s ts) ((over {A = A} w).parse (left s ts)) (f.parse (left s ts))
    at s [] = inl (sym (refuses_at_end f z law some s))
    at s (Bad b ∷ ts) = inl (sym (refuses_bad f z law some s b ts))
    at s (Is t ∷ ts) = inr (tt, shrinks f z law (left s (Is t ∷ ts)), omega (arith, few))

-- as many items, with wider limits
agree_next_item : {A : Type 0} {k : ℕ} (l m : Limits) {f g : Form A} {z : Shape} → Wider k l m → Law true g z → z.empty ≡ false → Agree k f g → (xs : List A) → Agree k (next_item l f xs) (next_item m g xs)
agree_next_item {A = A} {k = k} l m {f = f} {g = g} {z = z} wide law some h xs = by_limits l.params m.params wide.params
  where
    n : ℕ
    n = length xs + 1

    past : (c : Bool) → k ≤ 1 → Agree k (choose c (over limits.Params) f) g
    past true few = agree_over limits.Params g z law some few
    past false few = h

    both : (a b : ℕ) (c d : Bool) → a ≤ b → k ≤ 1 → nat_lt a n ≡ c → nat_lt b n ≡ d → Agree k (choose c (over limits.Params) f) (choose d (over limits.Params) g)
    both a b true true e few p q = agree_one _
    both a b true false e few p q = agree_over limits.Params g z law some few
    both a b false false e few p q = h
    both a b false true e few p q = absurd (grind (arith, nat_tests))

    by_limits : (a b : Option ℕ) → AtMost k a b → Agree k (choose (is_past a n) (over limits.Params) f) (choose (is_past b n) (over limits.Params) g)
    by_limits None None e = h
    by_limits None (Some b) e = absurd e
    by_limits (Some a) None e = past (nat_lt a n) e
    by_limits (Some a) (Some b) e = both a b (nat_lt a n) (nat_lt b n) e.0 e.1 refl refl

pub agree_in_brackets : {A : Type 0} {k : ℕ} (l m : Limits) {f g : Form A} {z : Shape} → Wider k l m → Law true g z → z.empty ≡ false → Agree k f g → Agree k (in_brackets l f) (in_brackets m g)
agree_in_brackets {A = A} l m wide law some h =
    let more = λ (a : A). agree_rounds (λ xs. sign 44) (λ (xs : List A). agree_then (agree_expect (sign 44)) (λ (c : Unit). agree_then (agree_next_item l m wide law some h xs) (λ (x : A). agree_ret (xs ++ x ∷ [])))) (λ (xs : List A). agree_ret xs) (a ∷ []) in
    agree_then (agree_expect (sign 40)) (λ (o : Unit). agree_then (agree_either (type_set true) (agree_then h more) (agree_ret [])) (λ (xs : List A). agree_then (agree_expect (sign 41)) (λ (d : Unit). agree_ret xs)))

agree_arguments : {k : ℕ} (l m : Limits) → Wider k l m → Agree k (arguments l) (arguments m)
unfolding arguments
agree_arguments l m h = agree_in_brackets l m h (law_argument m) refl (agree_argument l m h)

-- ---- calls

agree_named_call : {k : ℕ} (l m : Limits) → Wider k l m → Agree k (named_call l) (named_call m)
unfolding named_call
agree_named_call l m h =
    agree_then (agree_same law_call_head) (λ (u : Unit). agree_then (agree_value_type l m h) (λ (t : IrType). agree_then (agree_same law_callee) (λ (f : SymId). agree_then (agree_arguments l m h) (λ (as' : List TypedOperand).
    agree_then (agree_same law_call_end) (λ (e : Unit). agree_ret (ops.Call t f as'))))))

pub agree_op : {k : ℕ} (l m : Limits) → Wider k l m → Agree k (op l) (op m)
unfolding op
agree_op l m h = agree_either call_words (agree_named_call l m h) (agree_either gep_word (agree_gep_op l m h) (agree_other_op l m h))

agree_called : {k : ℕ} (l m : Limits) (t : IrType) (n : List ℕ) → Wider k l m → Agree k (called l t n) (called m t n)
unfolding called
agree_called l m t n h = agree_then (agree_act (symbol n)) (λ (f : SymId). agree_then (agree_act (result_of t)) (λ (r : Option LocalId). agree_then (agree_arguments l m h) (λ (as' : List TypedOperand). agree_ret (Some (r, ops.Call t f as')))))

agree_call : {k : ℕ} (l m : Limits) (j : ℕ) (t : IrType) (n : List ℕ) (c : Bool) → Wider k l m → Agree k (choose c (lifetime j) (called l t n)) (choose c (lifetime j) (called m t n))
agree_call l m j t n true h = agree_same (law_lifetime j)
agree_call l m j t n false h = agree_called l m t n h

agree_unnamed_call : {k : ℕ} (l m : Limits) → Wider k l m → Agree k (unnamed_call l) (unnamed_call m)
unfolding unnamed_call
agree_unnamed_call l m h =
    agree_then (agree_same law_call_head) (λ (u : Unit). agree_then (agree_act types_so_far) (λ (j : ℕ). agree_then (agree_type_form l m h) (λ (t : IrType). agree_then (agree_same law_global_name) (λ (n : List ℕ).
    agree_then (agree_call l m j t n (is_lifetime n) h) (λ (r : Line). agree_then (agree_same law_call_end) (λ (e : Unit). agree_ret r))))))

-- ---- instructions

pub agree_other_line : {k : ℕ} (l m : Limits) → Wider k l m → Agree k (other_line l) (other_line m)
unfolding other_line
agree_other_line l m h =
    agree_either call_words (agree_unnamed_call l m h) (agree_either store_word (agree_then (agree_store l m h) (λ (o : Op). agree_ret (Some (None, o))))
    (agree_then (agree_act define_next) (λ (r : LocalId). agree_then (agree_other_op l m h) (λ (o : Op). agree_ret (Some (Some r, o))))))

agree_line : {k : ℕ} (l m : Limits) → Wider k l m → Agree k (line l) (line m)
unfolding line
agree_line l m h =
    let named = agree_then (agree_same law_local_name) (λ (n : List ℕ). agree_then (agree_act (define n)) (λ (r : LocalId). agree_then (agree_expect (sign 61)) (λ (e : Unit). agree_then (agree_op l m h) (λ (o : Op). agree_ret (Some (Some r, o)))))) in
    agree_either (kind kinds.Local) named (agree_either gep_word (agree_then (agree_act define_next) (λ (r : LocalId). agree_then (agree_gep_op l m h) (λ (o : Op). agree_ret (Some (Some r, o))))) (agree_other_line l m h))

pub agree_instr : {k : ℕ} (l m : Limits) → Wider k l m → Agree k (instr l) (instr m)
unfolding instr
agree_instr l m h = agree_then (agree_located (agree_line l m h)) (λ (x : Place × Line). agree_ret (instr_at x.0 x.1))
