-- Terminators are printed as they are read, without notes.
use Rattle.std.proofs.Common.{◌≡◌, ◌⊎◌, inl, inr, refl, sym, ap, ◌∙◌, subst, ℕ, Bool, true, false, List, [], ◌∷◌, ◌++◌}
use Rattle.std.specs.Prelude.{Some, None, codes}
use Rattle.std.specs.List.{flat_map}
use Rattle.std.proofs.lemmas.List.{append_assoc, append-nil}
use Rattle.ir_lexer.specs.declared.table.Token.TheVariants as tokens
use Rattle.ir_core.specs.declared.ty.IrType.{IrType}
use Rattle.ir_core.specs.declared.op.LocalId.{LocalId}
use Rattle.ir_core.specs.declared.op.Operand.{Operand}
use Rattle.ir_core.specs.declared.op.TypedOperand.{TypedOperand}
use Rattle.ir_core.specs.declared.op.SwitchCase.{SwitchCase}
use Rattle.ir_core.specs.declared.op.End.{End}
use Rattle.ir_core.specs.declared.op.End.TheVariants as ends
use Rattle.ir_grammar.specs.Pieces.{Piece}
use Rattle.ir_grammar.specs.Names.{Names}
use Rattle.ir_grammar.specs.Forms.{Form, ret, ◌>>=◌}
use Rattle.ir_grammar.specs.Tokens.{Limits, expect, sign, word, after_comma}
use Rattle.ir_grammar.specs.Types.{value_type, type_set}
use Rattle.ir_grammar.specs.Values.{value}
use Rattle.ir_grammar.specs.Attributes.{note, notes}
use Rattle.ir_grammar.specs.Bodies.{label, void_word, Ended, after_void_word, void_end, value_end, ret_end, label_word, label_end, cond_end, br_end, switch_case, switch_end, unreachable_end, closed_end, end_form}
use Rattle.ir_printer.specs.declared.words.Word.TheVariants as words
use Rattle.ir_printer.specs.declared.marks.Sign.TheVariants as signs
use Rattle.ir_printer.specs.declared.marks.Mark.{Mark}
use Rattle.ir_printer.specs.declared.marks.Mark.TheVariants as marks
use Rattle.ir_printer.specs.Layout.{Tables}
use Rattle.ir_printer.specs.Marks.{comma, type_marks, value_marks, typed_marks, target_marks, case_marks, end_marks}
use Rattle.ir_printer.proofs.Reprinting.{IndexedTables, Prints, prints_then, prints_done, prints_either, prints_as}
use Rattle.ir_printer.proofs.Images.{PrintsAs, as_from, as_next, as_done, as_cases, as_either, as_past}
use Rattle.ir_printer.proofs.LocalsReprinted.{prints_local}
use Rattle.ir_printer.proofs.RoundsReprinted.{prints_many}
use Rattle.ir_printer.proofs.TokensReprinted.{prints_expect, prints_comma}
use Rattle.ir_printer.proofs.TypesReprinted.{prints_value_type}
use Rattle.ir_printer.proofs.ValuesReprinted.{prints_value, prints_typed}
use Rattle.ir_printer.proofs.QuietForms.{quiet_after, quiet_note, quiet_notes, silent_notes}
use Rattle.ir_printer.proofs.PrintedForms.{printed_ret, printed_end, is_bare}
use Rattle.ir_printer.proofs.OperationsReprinted.{prints_noted}

-- ---- branches

prints_target : {n : Tables} → IndexedTables n → Prints true n label label [] target_marks
unfolding label
prints_target i = prints_then (prints_expect label_word (marks.Word words.Label) (tokens.Word (codes "label")) refl tt refl refl) (λ (w : Unit {0}). prints_as (prints_local i) (λ b. refl))

cond_marks_are : (w : Mark) (cs ts fs : List Mark) → w ∷ (cs ++ (comma ∷ (ts ++ (comma ∷ fs)))) ≡ (((((w ∷ []) ++ cs) ++ comma ∷ []) ++ ts) ++ comma ∷ []) ++ fs
cond_marks_are w cs ts fs = simp append_assoc

prints_br : {n : Tables} → IndexedTables n → (l : Limits) → Prints true n (br_end l) (br_end l) [] end_marks
unfolding br_end
prints_br i l =
    prints_then (prints_expect (word (codes "br")) (marks.Word words.Br) (tokens.Word (codes "br")) refl tt refl refl) (λ (w : Unit {0}).
    prints_either label_word
    (prints_then (prints_target i) (λ (b : LocalId). prints_noted refl))
    (prints_then (prints_typed i l) (λ (c : TypedOperand).
    prints_then prints_comma (λ (c1 : Unit {0}).
    prints_then (prints_target i) (λ (t : LocalId).
    prints_then prints_comma (λ (c2 : Unit {0}).
    prints_then (prints_target i) (λ (f : LocalId).
    prints_noted (cond_marks_are (marks.Word words.Br) (typed_marks c) (target_marks t) (target_marks f)))))))))

case_marks_are : (vs bs : List Mark) → vs ++ (comma ∷ bs) ≡ (vs ++ comma ∷ []) ++ bs
case_marks_are vs bs = simp append_assoc

prints_case : {n : Tables} → IndexedTables n → (l : Limits) → Prints true n (switch_case l) (switch_case l) [] case_marks
unfolding switch_case
prints_case i l =
    prints_then (prints_typed i l) (λ (v : TypedOperand).
    prints_then prints_comma (λ (c : Unit {0}).
    prints_then (prints_target i) (λ (b : LocalId).
    prints_done (case_marks_are (typed_marks v) (target_marks b)))))

switch_marks_are : (w o c : Mark) (vs bs cs : List Mark) → w ∷ (vs ++ (comma ∷ (bs ++ (o ∷ (cs ++ c ∷ []))))) ≡ ((((((w ∷ []) ++ vs) ++ comma ∷ []) ++ bs) ++ o ∷ []) ++ cs) ++ c ∷ []
switch_marks_are w o c vs bs cs = simp append_assoc

prints_switch : {n : Tables} → IndexedTables n → (l : Limits) → Prints true n (switch_end l) (switch_end l) [] end_marks
unfolding switch_end
prints_switch i l =
    prints_then (prints_expect (word (codes "switch")) (marks.Word words.Switch) (tokens.Word (codes "switch")) refl tt refl refl) (λ (w : Unit {0}).
    prints_then (prints_typed i l) (λ (v : TypedOperand).
    prints_then prints_comma (λ (c : Unit {0}).
    prints_then (prints_target i) (λ (b : LocalId).
    prints_then (prints_expect (sign 91) (marks.Spaced signs.OpenSquare) (tokens.Sign 91) refl tt refl refl) (λ (o : Unit {0}).
    prints_then (prints_many (type_set true) case_marks (prints_case i l)) (λ (cs : List SwitchCase).
    prints_then (prints_expect (sign 93) (marks.Spaced signs.CloseSquare) (tokens.Sign 93) refl tt refl refl) (λ (d : Unit {0}).
    prints_noted (switch_marks_are (marks.Word words.Switch) (marks.Spaced signs.OpenSquare) (marks.Spaced signs.CloseSquare) (typed_marks v) (target_marks b) (flat_map case_marks cs)))))))))

prints_unreachable : {inside : Bool} {n : Tables} → Prints inside n unreachable_end unreachable_end [] end_marks
unfolding unreachable_end
prints_unreachable = prints_then (prints_expect (word (codes "unreachable")) (marks.Word words.Unreachable) (tokens.Word (codes "unreachable")) refl tt refl refl) (λ (w : Unit {0}). prints_noted refl)

-- ---- returns

ret_marks_are : (w : Mark) (ts vs : List Mark) → w ∷ (ts ++ vs) ≡ ((w ∷ []) ++ ts) ++ vs
ret_marks_are w ts vs = refl

prints_ret : {n : Tables} → IndexedTables n → (l : Limits) → PrintsAs true n (λ (e : Ended). e.0) (ret_end l) (printed_ret l) [] end_marks
unfolding ret_end void_end
prints_ret i l =
    as_next (prints_expect (word (codes "ret")) (marks.Word words.Ret) (tokens.Word (codes "ret")) refl tt refl refl) (λ (w : Unit {0}).
    as_either void_word
    (as_next (prints_expect void_word (marks.Word words.Void) (tokens.Word (codes "void")) refl tt refl refl) (λ (v : Unit {0}).
    as_cases (sign 44) (as_past (after_comma note) (quiet_after quiet_note) (as_past notes quiet_notes (as_done refl refl))) (as_done refl refl)))
    (as_next (prints_value_type i l) (λ (t : IrType).
    as_next (prints_value i l) (λ (v : Operand).
    as_past notes quiet_notes (as_done refl (ret_marks_are (marks.Word words.Ret) (type_marks t) (value_marks v)))))))

-- ---- all terminators

closed_is : (f : Form End) (s : Names) (u : List Piece) (e : Ended) (t : Names) → (closed_end f).reads s u e t → f.reads s u e.0 t
closed_is f s u e t r =
    let whole : u ≡ r.2 = r.4 ∙ ap (λ (v : List Piece). r.2 ++ v) r.6.0 ∙ append-nil r.2 in
    subst (λ (v : List Piece). f.reads s v e.0 t) (sym whole) (subst (λ (x : Ended × Names). f.reads s r.2 x.0.0 x.1) r.6.1 r.5)

prints_closed : {n : Tables} {f : Form End} → Prints true n f f [] end_marks → PrintsAs true n (λ (e : Ended). e.0) (closed_end f) f [] end_marks
prints_closed {f = f} p = as_from (closed_is f) p

pub prints_end : {n : Tables} → IndexedTables n → (l : Limits) → PrintsAs true n (λ (e : Ended). e.0) (end_form l) (printed_end l) [] end_marks
unfolding end_form
prints_end i l =
    as_either (word (codes "ret")) (prints_ret i l) (as_either (word (codes "br")) (prints_closed (prints_br i l))
    (as_either (word (codes "switch")) (prints_closed (prints_switch i l)) (prints_closed prints_unreachable)))

-- ---- what is read as a printed terminator is one of the grammar

printed_ret_in : (l : Limits) (s : Names) (u : List Piece) (e : End) (t : Names) → (printed_ret l).reads s u e t → (ret_end l).reads s u (e, is_bare e) t
unfolding ret_end void_end
printed_ret_in l s u e t r = at r.6
  where
    at : ((expect void_word >>= λ v. ret (ends.Ret None)).reads r.1 r.3 e t ⊎ (value_type l >>= λ t2. value l >>= λ v. ret (ends.Ret (Some (record { ty = t2; value = v })))).reads r.1 r.3 e t) → (ret_end l).reads s u (e, is_bare e) t
    at (inl q) = (r.0, r.1, r.2, r.3, r.4, r.5, inl (q.0, q.1, q.2, q.3, q.4, q.5, inr (q.6.0, ap (λ (x : End × Names). ((x.0, is_bare x.0), x.1)) q.6.1)))
    at (inr q) =
        let v = q.6 in
        (r.0, r.1, r.2, r.3, r.4, r.5, inr (q.0, q.1, q.2, q.3, q.4, q.5, (v.0, v.1, v.2, v.3, v.4, v.5, (tt, v.1, [], v.3, refl, silent_notes v.1, (v.6.0, ap (λ (x : End × Names). ((x.0, is_bare x.0), x.1)) v.6.1)))))

-- no branch is `ret void`
br_bare : (l : Limits) (s : Names) (u : List Piece) (e : End) (t : Names) → (br_end l).reads s u e t → is_bare e ≡ false
unfolding br_end
br_bare l s u e t r = at r.6
  where
    at : (label_end.reads r.1 r.3 e t ⊎ (cond_end l).reads r.1 r.3 e t) → is_bare e ≡ false
    at (inl q) = ap (λ (x : End × Names). is_bare x.0) (sym q.6.6.1)
    at (inr q) = ap (λ (x : End × Names). is_bare x.0) (sym q.6.6.6.6.6.6.1)

switch_bare : (l : Limits) (s : Names) (u : List Piece) (e : End) (t : Names) → (switch_end l).reads s u e t → is_bare e ≡ false
unfolding switch_end
switch_bare l s u e t r = ap (λ (x : End × Names). is_bare x.0) (sym r.6.6.6.6.6.6.6.6.1)

unreachable_bare : (s : Names) (u : List Piece) (e : End) (t : Names) → unreachable_end.reads s u e t → is_bare e ≡ false
unfolding unreachable_end
unreachable_bare s u e t r = ap (λ (x : End × Names). is_bare x.0) (sym r.6.6.1)

closed_in : (f : Form End) (s : Names) (u : List Piece) (e : End) (t : Names) → f.reads s u e t → is_bare e ≡ false → (closed_end f).reads s u (e, is_bare e) t
closed_in f s u e t r h = (e, t, u, [], sym (append-nil u), r, (refl, ap (λ (b : Bool). ((e, b), t)) (sym h)))

pub printed_end_in : (l : Limits) (s : Names) (u : List Piece) (e : End) (t : Names) → (printed_end l).reads s u e t → (end_form l).reads s u (e, is_bare e) t
unfolding end_form
printed_end_in l s u e t (inl r) = inl (printed_ret_in l s u e t r)
printed_end_in l s u e t (inr (inl r)) = inr (inl (closed_in (br_end l) s u e t r (br_bare l s u e t r)))
printed_end_in l s u e t (inr (inr (inl r))) = inr (inr (inl (closed_in (switch_end l) s u e t r (switch_bare l s u e t r))))
printed_end_in l s u e t (inr (inr (inr r))) = inr (inr (inr (closed_in unreachable_end s u e t r (unreachable_bare s u e t r))))

-- ---- where a value may stand after a terminator, it is `ret void`

void_bare : (s : Names) (u : List Piece) (e : Ended) (t : Names) → after_void_word.reads s u e t → e.1 ≡ true → e.0 ≡ ends.Ret None
void_bare s u e t (inl r) h = sym (ap (λ (x : Ended × Names). x.0.0) r.6.6.1)
void_bare s u e t (inr r) h = sym (ap (λ (x : Ended × Names). x.0.0) r.1)

ret_bare : (l : Limits) (s : Names) (u : List Piece) (e : Ended) (t : Names) → (ret_end l).reads s u e t → e.1 ≡ true → e.0 ≡ ends.Ret None
unfolding ret_end void_end
ret_bare l s u e t r h = at r.6
  where
    at : (void_end.reads r.1 r.3 e t ⊎ (value_end l).reads r.1 r.3 e t) → e.0 ≡ ends.Ret None
    at (inl q) = void_bare q.1 q.3 e t q.6 h
    at (inr q) = let never : false ≡ e.1 = ap (λ (x : Ended × Names). x.0.1) q.6.6.6.1 in absurd cc

closed_bare : (f : Form End) (s : Names) (u : List Piece) (e : Ended) (t : Names) → (closed_end f).reads s u e t → e.1 ≡ true → e.0 ≡ ends.Ret None
closed_bare f s u e t r h = let never : false ≡ e.1 = ap (λ (x : Ended × Names). x.0.1) r.6.1 in absurd cc

pub end_bare : (l : Limits) (s : Names) (u : List Piece) (e : Ended) (t : Names) → (end_form l).reads s u e t → e.1 ≡ true → e.0 ≡ ends.Ret None
unfolding end_form
end_bare l s u e t (inl r) h = ret_bare l s u e t r h
end_bare l s u e t (inr (inl r)) h = closed_bare (br_end l) s u e t r h
end_bare l s u e t (inr (inr (inl r))) h = closed_bare (switch_end l) s u e t r h
end_bare l s u e t (inr (inr (inr r))) h = closed_bare unreachable_end s u e t r h
