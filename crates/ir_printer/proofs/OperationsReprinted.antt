-- Operations are printed as they are read.
use Rattle.std.proofs.Common.{◌≡◌, ◌⊎◌, inl, inr, refl, sym, ap, ◌∙◌, subst, ℕ, Bool, true, List, [], ◌∷◌, ◌++◌, map}
use Rattle.std.specs.Prelude.{Option, Some, None, codes}
use Rattle.std.proofs.lemmas.List.{append_assoc, append-nil}
use Rattle.ir_lexer.specs.declared.table.Token.TheVariants as tokens
use Rattle.ir_core.specs.declared.flat.BinOp.{BinOp}
use Rattle.ir_core.specs.declared.flat.BinOp.TheVariants as bins
use Rattle.ir_core.specs.declared.flat.Cmp.{Cmp}
use Rattle.ir_core.specs.declared.flat.Cmp.TheVariants as orders
use Rattle.ir_core.specs.declared.flat.CastOp.{CastOp}
use Rattle.ir_core.specs.declared.flat.CastOp.TheVariants as casts
use Rattle.ir_core.specs.declared.ty.IrType.{IrType}
use Rattle.ir_core.specs.declared.constant.TypedCount.{TypedCount}
use Rattle.ir_core.specs.declared.op.LocalId.{LocalId}
use Rattle.ir_core.specs.declared.op.Operand.{Operand}
use Rattle.ir_core.specs.declared.op.TypedOperand.{TypedOperand}
use Rattle.ir_core.specs.declared.op.Pair.{Pair}
use Rattle.ir_grammar.specs.declared.kinds.Kind.TheVariants as kinds
use Rattle.ir_grammar.specs.Pieces.{Piece}
use Rattle.ir_grammar.specs.Names.{Names, local}
use Rattle.ir_grammar.specs.Sets.{Set}
use Rattle.ir_grammar.specs.Forms.{Form, act, ret, ◌>>=◌, either}
use Rattle.ir_grammar.specs.Tokens.{Limits, expect, sign, word, one_word, words_of, skip, text, number}
use Rattle.ir_grammar.specs.Types.{type_set}
use Rattle.ir_grammar.specs.Values.{gep_flags, typed}
use Rattle.ir_grammar.specs.Attributes.{notes}
use Rattle.ir_grammar.specs.Operations.{align_word, align_then_notes, note_then_notes, align_or_notes, align_and_notes, bin_words, bin_flag, bin, order_words, icmp_word, samesign, may_samesign, icmp, select_word, select, cast_words, cast_flag, cast, load_word, load, store_word, store, items_and_notes, gep_op_rest, gep_op, phi_word, pair, phi, alloca_word, count_and_rest, align_alone, alloca_rest, alloca, other_op}
use Rattle.ir_printer.specs.declared.words.Word.TheVariants as words
use Rattle.ir_printer.specs.declared.marks.Sign.TheVariants as signs
use Rattle.ir_printer.specs.declared.marks.Mark.{Mark}
use Rattle.ir_printer.specs.declared.marks.Mark.TheVariants as marks
use Rattle.ir_printer.specs.Layout.{Tables}
use Rattle.ir_printer.specs.Marks.{comma, separated, after_commas, type_marks, value_marks, typed_marks, align_marks, alloca_count_marks, pair_marks, op_marks}
use Rattle.ir_printer.proofs.Reprinting.{IndexedTables, Prints, prints_then, prints_joined, prints_done, prints_either, prints_cases, prints_in, prints_from}
use Rattle.ir_printer.proofs.LocalsReprinted.{prints_local}
use Rattle.ir_printer.proofs.TokensReprinted.{Quiet, prints_expect, prints_comma, prints_table, prints_number, prints_past, prints_nothing}
use Rattle.ir_printer.proofs.ListsReprinted.{IsSome, some_more, separated_more, commas_more}
use Rattle.ir_printer.proofs.ListingsReprinted.{prints_listing}
use Rattle.ir_printer.proofs.TypesReprinted.{prints_type_form}
use Rattle.ir_printer.proofs.ValuesReprinted.{prints_value, prints_typed, prints_gep_word}
use Rattle.ir_printer.proofs.QuietForms.{quiet_token, quiet_ret, quiet_then, quiet_either, quiet_skip, silent_skip, quiet_note, quiet_notes, silent_notes, quiet_gep_flags, silent_gep_flags}

-- ---- what is said of forms with a choice in them

-- a choice after a form is a choice of two forms
cut_choice : {A B : Type 0} (z : Set) (f : Form A) (g h : A → Form B) (s : Names) (u : List Piece) (b : B) (t : Names) → (f >>= λ a. either z (g a) (h a)).reads s u b t → (either z (f >>= g) (f >>= h)).reads s u b t
cut_choice {A = A} {B = B} z f g h s u b t r = at r.6
  where
    at : ((g r.0).reads r.1 r.3 b t ⊎ (h r.0).reads r.1 r.3 b t) → (f >>= g).reads s u b t ⊎ (f >>= h).reads s u b t
    at (inl k) = inl (r.0, r.1, r.2, r.3, r.4, r.5, k)
    at (inr k) = inr (r.0, r.1, r.2, r.3, r.4, r.5, k)

-- notes after the last part
pub prints_noted : {A : Type 0} {inside : Bool} {n : Tables} {a : A} {before : List Mark} {all : A → List Mark} → all a ≡ before → Prints inside n (notes >>= λ e. ret a) (notes >>= λ e. ret a) before all
prints_noted e = prints_past notes tt quiet_notes silent_notes (prints_done e)

-- ---- `align`

prints_align_word : {inside : Bool} {n : Tables} → Prints inside n (expect align_word) (expect align_word) [] (λ u. marks.Word words.Align ∷ [])
prints_align_word = prints_expect align_word (marks.Word words.Align) (tokens.Word (codes "align")) refl tt refl refl

quiet_note_then : Quiet note_then_notes
unfolding note_then_notes
quiet_note_then = quiet_then quiet_note (λ (e : Unit {0}). quiet_notes)

pub prints_align : {inside : Bool} {n : Tables} (l : Limits) → Prints inside n (align_and_notes l) (align_and_notes l) [] align_marks
unfolding align_and_notes align_or_notes align_then_notes
prints_align l =
    prints_cases (sign 44)
    (prints_from (λ s u a t r. cut_choice align_word (expect (sign 44)) (λ c. expect align_word >>= λ w. number l.length >>= λ x. notes >>= λ e. ret (Some x)) (λ c. note_then_notes >>= λ e. ret None) s u a t r)
    (prints_cases align_word
    (prints_in (prints_then prints_comma (λ (c : Unit {0}). prints_then prints_align_word (λ (w : Unit {0}). prints_then (prints_number l.length) (λ (x : ℕ). prints_noted refl))))
    (λ s u a t r. inl (r.0, r.1, r.2, r.3, r.4, r.5, inl r.6)))
    (prints_nothing _ _ (quiet_then (quiet_token _) (λ (c : Unit {0}). quiet_then quiet_note_then (λ (e : Unit {0}). quiet_ret)))
    (λ s u a t r. (ap (λ (x : Option ℕ × Names). align_marks x.0) (sym r.6.6.1), λ s2. inr (refl, ap (λ (x : Option ℕ × Names). (x.0, s2)) r.6.6.1))))))
    (prints_in (prints_done refl) (λ s u a t r. inr r))

-- ---- operations with a result

prints_bin_word : {inside : Bool} {n : Tables} → Prints inside n (one_word bin_words) (one_word bin_words) [] (λ o. marks.Word (words.Bin o) ∷ [])
prints_bin_word = prints_table bin_words (λ o. marks.Word (words.Bin o) ∷ []) ((words.Bin bins.Add, refl, refl), ((words.Bin bins.Sub, refl, refl), ((words.Bin bins.Mul, refl, refl), ((words.Bin bins.Udiv, refl, refl), ((words.Bin bins.Sdiv, refl, refl), ((words.Bin bins.Urem, refl, refl), ((words.Bin bins.Srem, refl, refl), ((words.Bin bins.Shl, refl, refl), ((words.Bin bins.Lshr, refl, refl), ((words.Bin bins.Ashr, refl, refl), ((words.Bin bins.And, refl, refl), ((words.Bin bins.Or, refl, refl), ((words.Bin bins.Xor, refl, refl), tt)))))))))))))

two_marks_are : (a : Mark) (ts as' bs : List Mark) → a ∷ (ts ++ (as' ++ (comma ∷ bs))) ≡ ((((a ∷ []) ++ ts) ++ as') ++ comma ∷ []) ++ bs
two_marks_are a ts as' bs = simp append_assoc

pub prints_bin : {n : Tables} → IndexedTables n → (l : Limits) → Prints true n (bin l) (bin l) [] op_marks
unfolding bin
prints_bin i l =
    prints_then prints_bin_word (λ (o : BinOp).
    prints_past (skip bin_flag (expect bin_flag)) tt (quiet_skip bin_flag (quiet_token _)) (silent_skip bin_flag (expect bin_flag)) (
    prints_then (prints_type_form i l) (λ (t : IrType).
    prints_then (prints_value i l) (λ (a : Operand).
    prints_then prints_comma (λ (c : Unit {0}).
    prints_then (prints_value i l) (λ (b : Operand).
    prints_noted (two_marks_are (marks.Word (words.Bin o)) (type_marks t) (value_marks a) (value_marks b))))))))

prints_order : {inside : Bool} {n : Tables} → Prints inside n (one_word order_words) (one_word order_words) [] (λ o. marks.Word (words.Order o) ∷ [])
prints_order = prints_table order_words (λ o. marks.Word (words.Order o) ∷ []) ((words.Order orders.Eq, refl, refl), ((words.Order orders.Ne, refl, refl), ((words.Order orders.Ugt, refl, refl), ((words.Order orders.Uge, refl, refl), ((words.Order orders.Ult, refl, refl), ((words.Order orders.Ule, refl, refl), ((words.Order orders.Sgt, refl, refl), ((words.Order orders.Sge, refl, refl), ((words.Order orders.Slt, refl, refl), ((words.Order orders.Sle, refl, refl), tt))))))))))

quiet_samesign : Quiet may_samesign
quiet_samesign = quiet_either samesign (quiet_token _) quiet_ret

icmp_marks_are : (w o : Mark) (ts as' bs : List Mark) → w ∷ o ∷ (ts ++ (as' ++ (comma ∷ bs))) ≡ (((((w ∷ []) ++ o ∷ []) ++ ts) ++ as') ++ comma ∷ []) ++ bs
icmp_marks_are w o ts as' bs = simp append_assoc

pub prints_icmp : {n : Tables} → IndexedTables n → (l : Limits) → Prints true n (icmp l) (icmp l) [] op_marks
unfolding icmp
prints_icmp i l =
    prints_then (prints_expect icmp_word (marks.Word words.Icmp) (tokens.Word (codes "icmp")) refl tt refl refl) (λ (w : Unit {0}).
    prints_past may_samesign tt quiet_samesign (λ s. inr (refl, refl)) (
    prints_then prints_order (λ (o : Cmp).
    prints_then (prints_type_form i l) (λ (t : IrType).
    prints_then (prints_value i l) (λ (a : Operand).
    prints_then prints_comma (λ (c : Unit {0}).
    prints_then (prints_value i l) (λ (b : Operand).
    prints_noted (icmp_marks_are (marks.Word words.Icmp) (marks.Word (words.Order o)) (type_marks t) (value_marks a) (value_marks b)))))))))

select_marks_are : (w : Mark) (as' bs cs : List Mark) → w ∷ (as' ++ (comma ∷ (bs ++ (comma ∷ cs)))) ≡ (((((w ∷ []) ++ as') ++ comma ∷ []) ++ bs) ++ comma ∷ []) ++ cs
select_marks_are w as' bs cs = simp append_assoc

pub prints_select : {n : Tables} → IndexedTables n → (l : Limits) → Prints true n (select l) (select l) [] op_marks
unfolding select
prints_select i l =
    prints_then (prints_expect select_word (marks.Word words.Select) (tokens.Word (codes "select")) refl tt refl refl) (λ (w : Unit {0}).
    prints_then (prints_typed i l) (λ (a : TypedOperand).
    prints_then prints_comma (λ (c : Unit {0}).
    prints_then (prints_typed i l) (λ (b : TypedOperand).
    prints_then prints_comma (λ (d : Unit {0}).
    prints_then (prints_typed i l) (λ (e : TypedOperand).
    prints_noted (select_marks_are (marks.Word words.Select) (typed_marks a) (typed_marks b) (typed_marks e))))))))

prints_cast_word : {inside : Bool} {n : Tables} → Prints inside n (one_word cast_words) (one_word cast_words) [] (λ o. marks.Word (words.Cast o) ∷ [])
prints_cast_word = prints_table cast_words (λ o. marks.Word (words.Cast o) ∷ []) ((words.Cast casts.Zext, refl, refl), ((words.Cast casts.Sext, refl, refl), ((words.Cast casts.Trunc, refl, refl), tt)))

cast_marks_are : (w o : Mark) (as' ts : List Mark) → w ∷ (as' ++ (o ∷ ts)) ≡ (((w ∷ []) ++ as') ++ o ∷ []) ++ ts
cast_marks_are w o as' ts = simp append_assoc

pub prints_cast : {n : Tables} → IndexedTables n → (l : Limits) → Prints true n (cast l) (cast l) [] op_marks
unfolding cast
prints_cast i l =
    prints_then prints_cast_word (λ (o : CastOp).
    prints_past (skip cast_flag (expect cast_flag)) tt (quiet_skip cast_flag (quiet_token _)) (silent_skip cast_flag (expect cast_flag)) (
    prints_then (prints_typed i l) (λ (a : TypedOperand).
    prints_then (prints_expect (word (codes "to")) (marks.Word words.To) (tokens.Word (codes "to")) refl tt refl refl) (λ (w : Unit {0}).
    prints_then (prints_type_form i l) (λ (t : IrType).
    prints_noted (cast_marks_are (marks.Word (words.Cast o)) (marks.Word words.To) (typed_marks a) (type_marks t)))))))

load_marks_are : (w : Mark) (ts as' es : List Mark) → w ∷ (ts ++ (comma ∷ (as' ++ es))) ≡ ((((w ∷ []) ++ ts) ++ comma ∷ []) ++ as') ++ es
load_marks_are w ts as' es = simp append_assoc

pub prints_load : {n : Tables} → IndexedTables n → (l : Limits) → Prints true n (load l) (load l) [] op_marks
unfolding load
prints_load i l =
    prints_then (prints_expect load_word (marks.Word words.Load) (tokens.Word (codes "load")) refl tt refl refl) (λ (w : Unit {0}).
    prints_then (prints_type_form i l) (λ (t : IrType).
    prints_then prints_comma (λ (c : Unit {0}).
    prints_then (prints_typed i l) (λ (a : TypedOperand).
    prints_then (prints_align l) (λ (m : Option ℕ).
    prints_done (load_marks_are (marks.Word words.Load) (type_marks t) (typed_marks a) (align_marks m)))))))

pub prints_store : {n : Tables} → IndexedTables n → (l : Limits) → Prints true n (store l) (store l) [] op_marks
unfolding store
prints_store i l =
    prints_then (prints_expect store_word (marks.Word words.Store) (tokens.Word (codes "store")) refl tt refl refl) (λ (w : Unit {0}).
    prints_then (prints_typed i l) (λ (a : TypedOperand).
    prints_then prints_comma (λ (c : Unit {0}).
    prints_then (prints_typed i l) (λ (p : TypedOperand).
    prints_then (prints_align l) (λ (m : Option ℕ).
    prints_done (load_marks_are (marks.Word words.Store) (typed_marks a) (typed_marks p) (align_marks m)))))))

-- ---- lists of operands

gep_op_marks_are : (w : Mark) (ts as' es : List Mark) → w ∷ (ts ++ (comma ∷ (as' ++ es))) ≡ ((((w ∷ []) ++ ts) ++ comma ∷ []) ++ as') ++ es
gep_op_marks_are w ts as' es = simp append_assoc

-- what stands after the word
pub prints_gep_op_rest : {n : Tables} → IndexedTables n → (l : Limits) → Prints true n (gep_op_rest l) (gep_op_rest l) (marks.Word words.GetElementPtr ∷ []) op_marks
unfolding gep_op_rest
prints_gep_op_rest {n = n} i l =
    prints_then (prints_type_form i l) (λ (t : IrType).
    prints_then prints_comma (λ (c : Unit {0}).
    prints_then (prints_typed i l) (λ (a : TypedOperand).
    prints_then (prints_listing true n (typed l) typed_marks (prints_typed i l) (λ xs. after_commas (map typed_marks xs)) (λ xs. Unit {0}) (λ xs x. tt) (λ xs x ok. commas_more typed_marks xs x) [] tt) (λ (is : List TypedOperand).
    prints_done (gep_op_marks_are (marks.Word words.GetElementPtr) (type_marks t) (typed_marks a) (after_commas (map typed_marks is)))))))

pub prints_gep_op : {n : Tables} → IndexedTables n → (l : Limits) → Prints true n (gep_op l) (gep_op l) [] op_marks
unfolding gep_op
prints_gep_op i l = prints_then prints_gep_word (λ (w : Unit {0}). prints_past gep_flags tt quiet_gep_flags silent_gep_flags (prints_gep_op_rest i l))

pair_marks_are : (a b c : Mark) (vs : List Mark) → a ∷ (vs ++ (comma ∷ b ∷ c ∷ [])) ≡ ((((a ∷ []) ++ vs) ++ comma ∷ []) ++ b ∷ []) ++ c ∷ []
pair_marks_are a b c vs = simp append_assoc

prints_pair : {n : Tables} → IndexedTables n → (l : Limits) → Prints true n (pair l) (pair l) [] pair_marks
unfolding pair
prints_pair i l =
    prints_then (prints_expect (sign 91) (marks.Spaced signs.OpenSquare) (tokens.Sign 91) refl tt refl refl) (λ (o : Unit {0}).
    prints_then (prints_value i l) (λ (v : Operand).
    prints_then prints_comma (λ (c : Unit {0}).
    prints_joined (text kinds.Local) (λ name. act (local name)) (prints_local i) (λ (b : LocalId).
    prints_then (prints_expect (sign 93) (marks.Spaced signs.CloseSquare) (tokens.Sign 93) refl tt refl refl) (λ (d : Unit {0}).
    prints_done (pair_marks_are (marks.Spaced signs.OpenSquare) (marks.Local b) (marks.Spaced signs.CloseSquare) (value_marks v)))))))

prints_pairs : {n : Tables} → IndexedTables n → (l : Limits) → Prints true n (pair l >>= λ p. items_and_notes (pair l) (p ∷ [])) (pair l >>= λ p. items_and_notes (pair l) (p ∷ [])) [] (λ ps. separated (map pair_marks ps))
prints_pairs {n = n} i l = prints_then (prints_pair i l) (λ (p : Pair).
    subst (λ (before : List Mark). Prints true n (items_and_notes (pair l) (p ∷ [])) (items_and_notes (pair l) (p ∷ [])) before (λ ps. separated (map pair_marks ps))) (append-nil (pair_marks p))
    (prints_listing true n (pair l) pair_marks (prints_pair i l) (λ ps. separated (map pair_marks ps)) IsSome some_more (λ xs x ok. separated_more pair_marks xs x ok) (p ∷ []) tt))

pub prints_phi : {n : Tables} → IndexedTables n → (l : Limits) → Prints true n (phi l) (phi l) [] op_marks
unfolding phi
prints_phi i l =
    prints_then (prints_expect phi_word (marks.Word words.Phi) (tokens.Word (codes "phi")) refl tt refl refl) (λ (w : Unit {0}).
    prints_then (prints_type_form i l) (λ (t : IrType).
    prints_joined (pair l) (λ p. items_and_notes (pair l) (p ∷ [])) (prints_pairs i l) (λ (ps : List Pair).
    prints_done refl)))

-- ---- allocas

abbrev Rest : Type 0
Rest = Option TypedCount × Option ℕ

abbrev rest_marks : Rest → List Mark
rest_marks x = alloca_count_marks x.0 ++ align_marks x.1

-- `, i32 4, align 4`
prints_count_and_rest : {inside : Bool} {n : Tables} → IndexedTables n → (l : Limits) → Prints inside n (count_and_rest l) (count_and_rest l) (comma ∷ []) rest_marks
unfolding count_and_rest
prints_count_and_rest i l =
    prints_then (prints_type_form i l) (λ (t : IrType).
    prints_then (prints_number l.length) (λ (x : ℕ).
    prints_then (prints_align l) (λ (a : Option ℕ).
    prints_done refl)))

abbrev aligned : Limits → Form Rest
aligned l = expect align_word >>= λ w. number l.length >>= λ x. notes >>= λ e. ret (None, Some x)

abbrev noted : Form Rest
noted = note_then_notes >>= λ e. ret (None, None)

split_alone : (l : Limits) (s : Names) (u : List Piece) (a : Rest) (t : Names) → (align_alone l).reads s u a t → (either align_word (aligned l) noted).reads s u a t
unfolding align_or_notes align_then_notes
split_alone l s u a t q = at q.5
  where
    at : ((expect align_word >>= λ w. number l.length >>= λ x. notes >>= λ e. ret (Some x)).reads s q.2 q.0 q.1) ⊎ ((note_then_notes >>= λ e. ret {A = Option ℕ} None).reads s q.2 q.0 q.1) → (either align_word (aligned l) noted).reads s u a t
    at (inl w) =
        let y = w.6 in let z = y.6 in
        inl (w.0, w.1, w.2, w.3, q.4 ∙ ap (λ (v : List Piece). q.2 ++ v) q.6.0 ∙ append-nil q.2 ∙ w.4, w.5, (y.0, y.1, y.2, y.3, y.4, y.5, (z.0, z.1, z.2, z.3, z.4, z.5, (z.6.0, ap (λ (x : Option ℕ × Names). ((None, x.0), x.1)) z.6.1 ∙ q.6.1))))
    at (inr w) = inr (w.0, w.1, w.2, w.3, q.4 ∙ ap (λ (v : List Piece). q.2 ++ v) q.6.0 ∙ append-nil q.2 ∙ w.4, w.5, (w.6.0, ap (λ (x : Option ℕ × Names). ((None, x.0), x.1)) w.6.1 ∙ q.6.1))

join_aligned : (l : Limits) (s : Names) (u : List Piece) (a : Rest) (t : Names) → (aligned l).reads s u a t → (align_alone l).reads s u a t
unfolding align_or_notes align_then_notes
join_aligned l s u a t w =
    let y = w.6 in let z = y.6 in
    (Some y.0, z.1, u, [], sym (append-nil u), inl (w.0, w.1, w.2, w.3, w.4, w.5, (y.0, y.1, y.2, y.3, y.4, y.5, (z.0, z.1, z.2, z.3, z.4, z.5, (z.6.0, refl)))), (refl, z.6.1))

-- `, align 4` alone, or notes
prints_align_alone : {inside : Bool} {n : Tables} (l : Limits) → Prints inside n (expect (sign 44) >>= λ c. align_alone l) (alloca_rest l) [] rest_marks
prints_align_alone l =
    prints_from (λ s u a t r. cut_choice align_word (expect (sign 44)) (λ c. aligned l) (λ c. noted) s u a t (r.0, r.1, r.2, r.3, r.4, r.5, split_alone l r.1 r.3 a t r.6))
    (prints_cases align_word
    (prints_in (prints_then prints_comma (λ (c : Unit {0}). prints_then prints_align_word (λ (w : Unit {0}). prints_then (prints_number l.length) (λ (x : ℕ). prints_past notes tt quiet_notes silent_notes (prints_done refl)))))
    (λ s u a t r. inl (r.0, r.1, r.2, r.3, r.4, r.5, inr (join_aligned l r.1 r.3 a t r.6))))
    (prints_nothing (expect (sign 44) >>= λ c. noted) (alloca_rest l) (quiet_then (quiet_token _) (λ (c : Unit {0}). quiet_then quiet_note_then (λ (e : Unit {0}). quiet_ret)))
    (λ s u a t r. (ap (λ (x : Rest × Names). rest_marks x.0) (sym r.6.6.1), λ s2. inr (refl, ap (λ (x : Rest × Names). (x.0, s2)) r.6.6.1)))))

prints_alloca_rest : {inside : Bool} {n : Tables} → IndexedTables n → (l : Limits) → Prints inside n (alloca_rest l) (alloca_rest l) [] rest_marks
prints_alloca_rest i l =
    prints_cases (sign 44)
    (prints_from (λ s u a t r. cut_choice (type_set true) (expect (sign 44)) (λ c. count_and_rest l) (λ c. align_alone l) s u a t r)
    (prints_cases (type_set true)
    (prints_in (prints_then prints_comma (λ (c : Unit {0}). prints_count_and_rest i l)) (λ s u a t r. inl (r.0, r.1, r.2, r.3, r.4, r.5, inl r.6)))
    (prints_align_alone l)))
    (prints_in (prints_done refl) (λ s u a t r. inr r))

pub prints_alloca : {inside : Bool} {n : Tables} → IndexedTables n → (l : Limits) → Prints inside n (alloca l) (alloca l) [] op_marks
unfolding alloca
prints_alloca i l =
    prints_then (prints_expect alloca_word (marks.Word words.Alloca) (tokens.Word (codes "alloca")) refl tt refl refl) (λ (w : Unit {0}).
    prints_then (prints_type_form i l) (λ (t : IrType).
    prints_then (prints_alloca_rest i l) (λ (x : Rest).
    prints_done refl)))

-- ---- all operations but calls

pub prints_other_op : {n : Tables} → IndexedTables n → (l : Limits) → Prints true n (other_op l) (other_op l) [] op_marks
unfolding other_op
prints_other_op i l =
    prints_either (words_of bin_words) (prints_bin i l) (prints_either icmp_word (prints_icmp i l) (prints_either select_word (prints_select i l)
    (prints_either (words_of cast_words) (prints_cast i l) (prints_either alloca_word (prints_alloca i l) (prints_either load_word (prints_load i l) (prints_phi i l))))))
