-- Lines are printed with their results, and calls for lifetimes are left out.
use Rattle.std.proofs.Common.{◌≡◌, ◌⊎◌, inl, inr, refl, sym, ap, ◌∙◌, subst, ℕ, Bool, true, List, [], ◌∷◌, ◌++◌, map}
use Rattle.std.specs.Prelude.{Option, Some, None, codes}
use Rattle.std.specs.List.{flat_map}
use Rattle.std.proofs.lemmas.List.{append_assoc, append-nil}
use Rattle.ir_lexer.specs.declared.table.Token.{Token}
use Rattle.ir_lexer.specs.declared.table.Token.TheVariants as tokens
use Rattle.ir_core.specs.declared.module.SymId.{SymId}
use Rattle.ir_core.specs.declared.op.LocalId.{LocalId}
use Rattle.ir_core.specs.declared.op.TypedOperand.{TypedOperand}
use Rattle.ir_core.specs.declared.op.Op.{Op}
use Rattle.ir_core.specs.declared.func.Instr.{Instr}
use Rattle.ir_core.specs.Places.{unplaced_instr}
use Rattle.ir_grammar.specs.declared.kinds.Barred.TheVariants as barred
use Rattle.ir_grammar.specs.declared.kinds.Kind.TheVariants as kinds
use Rattle.ir_grammar.specs.Pieces.{Piece}
use Rattle.ir_grammar.specs.Names.{Names, define}
use Rattle.ir_grammar.specs.Sets.{Set, has}
use Rattle.ir_grammar.specs.Forms.{Form, act, ret, ◌>>=◌, either}
use Rattle.ir_grammar.specs.Tokens.{Limits, allows, expect, sign, kind, text}
use Rattle.ir_grammar.specs.Values.{gep_word}
use Rattle.ir_grammar.specs.Attributes.{no_marks, attribute_list}
use Rattle.ir_grammar.specs.Operations.{call_word, call_head, call_end, store_word, op, Line, instr_at, instr, other_line, line_set, line}
use Rattle.ir_grammar.specs.Bodies.{void_word, with_instr, one_more_instr, code}
use Rattle.ir_printer.specs.declared.words.Word.TheVariants as words
use Rattle.ir_printer.specs.declared.marks.Mark.{Mark}
use Rattle.ir_printer.specs.declared.marks.Mark.TheVariants as marks
use Rattle.ir_printer.specs.Layout.{Tables}
use Rattle.ir_printer.specs.Tokens.{tokens_of, IsSpellable}
use Rattle.ir_printer.specs.Marks.{equals, instr_marks}
use Rattle.ir_printer.specs.Reprints.{Front, AreSound, IsReprinted}
use Rattle.ir_printer.proofs.Reprinting.{Indexed, IndexedTables, Prints, is_plain, reprinted_token, reprinted_then, prints_then, prints_joined, prints_done, prints_cases, prints_in, assoc_back, sound_first}
use Rattle.ir_printer.proofs.TokensReprinted.{prints_expect, prints_drop}
use Rattle.ir_printer.proofs.QuietForms.{quiet_attribute_list}
use Rattle.ir_printer.proofs.LocalsReprinted.{prints_define, prints_next_local}
use Rattle.ir_printer.proofs.ArgumentsReprinted.{prints_arguments}
use Rattle.ir_printer.proofs.OperationsReprinted.{prints_store}
use Rattle.ir_printer.proofs.CallsReprinted.{prints_callee, quiet_call_end, prints_op, prints_call_words}
use Rattle.ir_printer.proofs.Images.{reprinted_after_layout, Round, as_done, as_rounds}
use Rattle.ir_printer.proofs.PrintedForms.{printed_named, printed_store, printed_call, printed_line, line_marks, unplaced_line, IsPrintedLine, PrintsLines, PrintsCode}
use Rattle.ir_printer.proofs.CallLines.{void_call, next_line, reads_call}

-- ---- a mark that only the printed text has

-- a token that is printed before a form, and not read
pub prints_put : {A : Type 0} {inside : Bool} {n : Tables} {f g : Form A} {before : List Mark} {all : A → List Mark} (z : Set) (m : Mark) (x : Token) →
    is_plain m ≡ true → IsSpellable n m → tokens_of n (m ∷ []) ≡ x ∷ [] → has z x ≡ true → Prints inside n f g (before ++ m ∷ []) all → Prints inside n f (expect z >>= λ e. g) before all
prints_put {A = A} {inside = inside} {n = n} {f = f} {g = g} {before = before} {all = all} z m x plain spellable told taken p = record {
  indexed = p.indexed;
  fronts = p.fronts;
  prints = λ s u a t r front sound.
      (let h = p.prints s u a t r front sound in
      (m ∷ h.0, h.1 ∙ append_assoc before (m ∷ []) h.0, reprinted_then inside n (expect z) (λ (e : Unit {0}). g) s tt s a t (m ∷ []) h.0 (put s) h.2));
}
  where
    put : (s : Names) → IsReprinted inside n (expect z) s tt s (m ∷ [])
    put s = reprinted_token inside n (λ (y : Token). allows (has z y)) s tt m x (record { plain = plain; spellable = spellable; told = told; takes = ap allows taken })

-- ---- lines

prints_named_line : {n : Tables} → IndexedTables n → (l : Limits) → Prints true n (printed_named l) (printed_named l) [] line_marks
prints_named_line i l =
    prints_joined (text kinds.Local) (λ name. act (define name)) (prints_define i) (λ (r : LocalId).
    prints_then (prints_expect (sign 61) equals (tokens.Sign 61) refl tt refl refl) (λ (e : Unit {0}).
    prints_then (prints_op i l) (λ (o : Op). prints_done refl)))

-- what has no name gets its number
prints_next_line : {n : Tables} → IndexedTables n → (l : Limits) → Prints true n (next_line l) (printed_named l) [] line_marks
prints_next_line i l =
    prints_in
    (prints_then (prints_next_local i) (λ (r : LocalId). prints_put (sign 61) equals (tokens.Sign 61) refl tt refl refl (prints_then (prints_op i l) (λ (o : Op). prints_done refl))))
    (assoc_back (text kinds.Local) (λ name. act (define name)) (λ (r : LocalId). expect (sign 61) >>= λ e. op l >>= λ o. ret (Some r, o)))

prints_store_line : {n : Tables} → IndexedTables n → (l : Limits) → Prints true n (printed_store l) (printed_store l) [] line_marks
prints_store_line i l = prints_then (prints_store i l) (λ (o : Op). prints_done refl)

-- ---- calls of `void`

-- a word, and then nothing
word_alone : (z : Set) (s : Names) (u : List Piece) (a : Unit {0}) (t : Names) → (expect z >>= λ w. ret {A = Unit {0}} tt).reads s u a t → (expect z).reads s u a t
word_alone z s u a t r = (r.5.0, r.4 ∙ ap (λ (v : List Piece). r.2 ++ v) r.6.0 ∙ append-nil r.2 ∙ r.5.1, r.5.2, r.5.3 ∙ ap (λ (x : Unit {0} × Names). x.1) r.6.1)

-- the word `call` alone
prints_head : {inside : Bool} {n : Tables} → Prints inside n call_head (expect call_word) [] (λ u. marks.Word words.Call ∷ [])
unfolding call_head
prints_head = prints_in (prints_then prints_call_words (λ (w : Unit {0}). prints_drop (attribute_list barred.Values no_marks) (quiet_attribute_list barred.Values no_marks) (prints_done refl))) (word_alone call_word)

prints_void_call : {n : Tables} → IndexedTables n → (l : Limits) → Prints true n (void_call l) (printed_call l) [] line_marks
prints_void_call i l =
    prints_then prints_head (λ (h : Unit {0}).
    prints_then (prints_expect void_word (marks.Word words.Void) (tokens.Word (codes "void")) refl tt refl refl) (λ (v : Unit {0}).
    prints_then (prints_callee i) (λ (f : SymId).
    prints_then (prints_arguments i l) (λ (as' : List TypedOperand).
    prints_drop call_end quiet_call_end (prints_done refl)))))

-- ---- all lines

-- a line that is not skipped, as it is printed
abbrev told_line : Limits → Form (Option LocalId × Op)
told_line l = either (kind kinds.Local) (printed_named l) (either gep_word (next_line l) (either store_word (printed_store l) (void_call l)))

prints_told : {n : Tables} → IndexedTables n → (l : Limits) → Prints true n (told_line l) (printed_line l) [] line_marks
prints_told i l =
    prints_cases (kind kinds.Local) (prints_in (prints_named_line i l) (λ s u a t r. inl r))
    (prints_cases gep_word (prints_in (prints_next_line i l) (λ s u a t r. inl r))
    (prints_cases store_word (prints_in (prints_store_line i l) (λ s u a t r. inr (inl r)))
    (prints_in (prints_void_call i l) (λ s u a t r. inr (inr r)))))

abbrev IsTold : Limits → Names → List Piece → Line → Names → Type 0
IsTold l s u x t = (y : Option LocalId × Op) × (x ≡ Some y) × (told_line l).reads s u y t

-- a line that was read is skipped, or read so
reads_line : (l : Limits) (s : Names) (u : List Piece) (x : Line) (t : Names) → (line l).reads s u x t → ((x ≡ None) × (s ≡ t)) ⊎ IsTold l s u x t
unfolding line other_line op
reads_line l s u x t (inl r) =
    let a = r.6 in let b = a.6 in let c = b.6 in
    inr ((Some a.0, c.0), ap (λ (y : Line × Names). y.0) (sym c.6.1), inl (r.0, r.1, r.2, r.3, r.4, r.5, (a.0, a.1, a.2, a.3, a.4, a.5, (b.0, b.1, b.2, b.3, b.4, b.5, (c.0, c.1, c.2, c.3, c.4, c.5, (c.6.0, ap (λ (y : Line × Names). ((Some a.0, c.0), y.1)) c.6.1))))))
reads_line l s u x t (inr (inl r)) =
    let a = r.6 in
    inr ((Some r.0, a.0), ap (λ (y : Line × Names). y.0) (sym a.6.1), inr (inl (r.0, r.1, r.2, r.3, r.4, r.5, (a.0, a.1, a.2, a.3, a.4, inr (inl a.5), (a.6.0, ap (λ (y : Line × Names). ((Some r.0, a.0), y.1)) a.6.1)))))
reads_line l s u x t (inr (inr (inl r))) = at (reads_call l s u x t r)
  where
    at : ((x ≡ None) × (s ≡ t)) ⊎ ((y : Option LocalId × Op) × (x ≡ Some y) × ((void_call l).reads s u y t ⊎ (next_line l).reads s u y t)) → ((x ≡ None) × (s ≡ t)) ⊎ IsTold l s u x t
    at (inl h) = inl h
    at (inr h) = inr (h.0, h.1, told h.2)
      where
        told : ((void_call l).reads s u h.0 t ⊎ (next_line l).reads s u h.0 t) → (told_line l).reads s u h.0 t
        told (inl g) = inr (inr (inr g))
        told (inr g) = inr (inl g)
reads_line l s u x t (inr (inr (inr (inl r)))) = inr ((None, r.0), ap (λ (y : Line × Names). y.0) (sym r.6.1), inr (inr (inl (r.0, r.1, r.2, r.3, r.4, r.5, (r.6.0, ap (λ (y : Line × Names). ((None, r.0), y.1)) r.6.1)))))
reads_line l s u x t (inr (inr (inr (inr r)))) =
    let a = r.6 in
    inr ((Some r.0, a.0), ap (λ (y : Line × Names). y.0) (sym a.6.1), inr (inl (r.0, r.1, r.2, r.3, r.4, r.5, (a.0, a.1, a.2, a.3, a.4, inr (inr a.5), (a.6.0, ap (λ (y : Line × Names). ((Some r.0, a.0), y.1)) a.6.1)))))

pub prints_lines : {n : Tables} → IndexedTables n → (l : Limits) → PrintsLines n l
prints_lines {n = n} i l s u x t r = at (reads_line l s u x t r)
  where
    at : ((x ≡ None) × (s ≡ t)) ⊎ IsTold l s u x t → ((x ≡ None) × (s ≡ t)) ⊎ IsPrintedLine n l s u x t
    at (inl h) = inl h
    at (inr h) = inr (record {
      line = h.0;
      told = h.1;
      indexed = λ g. (prints_told i l).indexed s u h.0 t h.2 g;
      fronts = λ f. (prints_told i l).fronts s u h.0 t h.2 f;
      prints = λ f sound. (let m = (prints_told i l).prints s u h.0 t h.2 f sound in subst (λ (ms : List Mark). IsReprinted true n (printed_line l) s h.0 t ms) (sym m.1) m.2);
    })

-- ---- code

-- instructions stand for the same without places
abbrev Stands : List Instr → List Instr → Type 0
Stands is js = map unplaced_instr is ≡ js

pub unplaced_more : (is : List Instr) (i : Instr) → map unplaced_instr (is ++ i ∷ []) ≡ map unplaced_instr is ++ unplaced_instr i ∷ []
unplaced_more [] i = refl
unplaced_more (j ∷ is) i = ap (λ (js : List Instr). unplaced_instr j ∷ js) (unplaced_more is i)

code_more : (is : List Instr) (i : Instr) → flat_map instr_marks (is ++ i ∷ []) ≡ flat_map instr_marks is ++ instr_marks i
code_more [] i = append-nil (instr_marks i)
code_more (j ∷ is) i = ap (λ (ms : List Mark). instr_marks j ++ ms) (code_more is i) ∙ sym (append_assoc (instr_marks j) (flat_map instr_marks is) (instr_marks i))

-- one more printed line
abbrev pub next_printed : Limits → List Instr → Form (List Instr)
next_printed l is = printed_line l >>= λ x. ret (is ++ unplaced_line x ∷ [])

printed_more : (n : Tables) (l : Limits) (is : List Instr) (s : Names) (y : Option LocalId × Op) (t : Names) → IsReprinted true n (printed_line l) s y t (line_marks y) → IsReprinted true n (next_printed l is) s (is ++ unplaced_line y ∷ []) t (instr_marks (unplaced_line y))
printed_more n l is s y t h = reprinted_after_layout true n marks.Indented refl (next_printed l is) s (is ++ unplaced_line y ∷ []) t (line_marks y) (record {
  ready = h.ready;
  counted = h.counted;
  spellable = h.spellable;
  rereads = λ s2 us front ready are. (let r = h.rereads s2 us front ready are in (r.0, (y, r.0, us, [], sym (append-nil us), r.1, (refl, refl)), r.2, r.3));
})

-- one more instruction
code_round : {n : Tables} → IndexedTables n → (l : Limits) (is js : List Instr) (s : Names) (u : List Piece) (more : List Instr) (t : Names) → Stands is js → (one_more_instr l is).reads s u more t → (Stands more js × (s ≡ t)) ⊎ Round true n (next_printed l) (λ xs. flat_map instr_marks xs) Stands s u js more t
unfolding instr
code_round {n = n} i l is js s u more t stands r = at (prints_lines i l s r.5.2 r.5.0.1 r.5.1 r.5.5.1)
  where
    names : r.5.1 ≡ t
    names = ap (λ (y : Option Instr × Names). y.1) r.5.6.1 ∙ ap (λ (y : List Instr × Names). y.1) r.6.1

    is_more : (x : Line) → r.5.0.1 ≡ x → with_instr is (instr_at r.5.0.0 x) ≡ more
    is_more x e = ap (λ (y : Line). with_instr is (instr_at r.5.0.0 y)) (sym e) ∙ ap (λ (y : Option Instr × Names). with_instr is y.0) r.5.6.1 ∙ ap (λ (y : List Instr × Names). y.0) r.6.1

    sound_line : AreSound u → AreSound r.5.2
    sound_line sound = sound_first r.5.2 r.5.3 (subst AreSound r.5.4 (sound_first r.2 r.3 (subst AreSound r.4 sound)))

    at : ((r.5.0.1 ≡ None) × (s ≡ r.5.1)) ⊎ IsPrintedLine n l s r.5.2 r.5.0.1 r.5.1 → (Stands more js × (s ≡ t)) ⊎ Round true n (next_printed l) (λ xs. flat_map instr_marks xs) Stands s u js more t
    at (inl h) = inl (ap (map unplaced_instr) (sym (is_more None h.0)) ∙ stands, h.1 ∙ names)
    at (inr h) = inr (record {
      state = js ++ unplaced_line h.line ∷ [];
      stands = ap (map unplaced_instr) (sym (is_more (Some h.line) h.told)) ∙ unplaced_more is (record { place = r.5.0.0; result = h.line.0; op = h.line.1 }) ∙ ap (λ (xs : List Instr). xs ++ unplaced_line h.line ∷ []) stands;
      indexed = λ g. subst Indexed names (h.indexed g);
      fronts = λ f. h.fronts (subst (λ (y : Names). Front true n y) (sym names) f);
      prints = λ f sound. (
        instr_marks (unplaced_line h.line),
        code_more js (unplaced_line h.line),
        subst (λ (y : Names). IsReprinted true n (next_printed l js) s (js ++ unplaced_line h.line ∷ []) y (instr_marks (unplaced_line h.line))) names
            (printed_more n l js s h.line r.5.1 (h.prints (subst (λ (y : Names). Front true n y) (sym names) f) (sound_line sound))),
      );
    })

pub prints_code : {n : Tables} → IndexedTables n → (l : Limits) → PrintsCode n l
unfolding code
prints_code i l is =
    as_rounds (one_more_instr l) (λ xs. ret xs) (next_printed l) (λ xs. ret xs) (λ xs. line_set) (λ xs. line_set) (λ xs. flat_map instr_marks xs) Stands
    (code_round i l) (λ xs ys stands. as_done stands refl) is (map unplaced_instr is) refl
