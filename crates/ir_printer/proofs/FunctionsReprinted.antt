-- Definitions are printed as they are read.
use Rattle.std.proofs.Common.{◌≡◌, inl, inr, refl, sym, ap, ◌∙◌, subst, ℕ, ◌+◌, ◌||◌, Bool, true, false, List, [], ◌∷◌, ◌++◌, length, map, cond, not, ◌<◌, suc, arith}
use Rattle.std.specs.Prelude.{Some, None, codes}
use Rattle.std.specs.List.{list_any, position_or_len}
use Rattle.std.specs.Str.{bytes_eq}
use Rattle.std.proofs.lemmas.List.{append_assoc, append-nil, length-append}
use Rattle.oi_base.specs.declared.ids.Place.{Place}
use Rattle.ir_lexer.specs.declared.table.Token.{Token}
use Rattle.ir_lexer.specs.declared.table.Token.TheVariants as tokens
use Rattle.ir_lexer.specs.declared.table.Spot.{Spot}
use Rattle.ir_core.specs.declared.ty.IrType.{IrType}
use Rattle.ir_core.specs.declared.module.SymId.{SymId}
use Rattle.ir_core.specs.declared.op.LocalId.{LocalId}
use Rattle.ir_core.specs.declared.func.Block.{Block}
use Rattle.ir_core.specs.declared.func.Param.{Param}
use Rattle.ir_core.specs.declared.func.Func.{Func}
use Rattle.ir_core.specs.Places.{no_place, unplaced_block, unplaced_func}
use Rattle.ir_grammar.specs.declared.kinds.Kind.TheVariants as kinds
use Rattle.ir_grammar.specs.declared.kinds.Barred.TheVariants as barred
use Rattle.ir_grammar.specs.declared.parts.Marks.{Marks}
use Rattle.ir_grammar.specs.declared.parts.Definition.{Definition}
use Rattle.ir_grammar.specs.declared.parts.Entity as read_entities
use Rattle.ir_grammar.specs.declared.parts.Entity.TheVariants as entities
use Rattle.ir_grammar.specs.Pieces.{Piece, Is, Bad}
use Rattle.ir_grammar.specs.Names.{Names, Begins, define, no_locals}
use Rattle.ir_grammar.specs.Sets.{has, among}
use Rattle.ir_grammar.specs.Forms.{Form, act, ret, ◌>>=◌}
use Rattle.ir_grammar.specs.Tokens.{Limits, allows, kind, text}
use Rattle.ir_grammar.specs.Types.{type_form}
use Rattle.ir_grammar.specs.Values.{global}
use Rattle.ir_grammar.specs.Attributes.{no_marks, attribute_list, mark_or_note_set, attributes_and_notes}
use Rattle.ir_grammar.specs.Operations.{in_brackets}
use Rattle.ir_grammar.specs.Bodies.{body}
use Rattle.ir_grammar.specs.Entities.{param_name, param, without_groups, locals_so_far, define_word, function_of, definition}
use Rattle.ir_proper.proofs.Kept.{begins_then}
use Rattle.ir_proper.proofs.KeptDefinitions.{keeps_definition}
use Rattle.ir_printer.specs.declared.words.Word.TheVariants as words
use Rattle.ir_printer.specs.declared.marks.Mark.{Mark}
use Rattle.ir_printer.specs.declared.marks.Mark.TheVariants as marks
use Rattle.ir_printer.specs.Layout.{Tables, tables, name_at}
use Rattle.ir_printer.specs.Marks.{type_marks, param_marks, in_round, word_if, body_marks, func_marks}
use Rattle.ir_printer.specs.Order.{demand, known_beyond, fits}
use Rattle.ir_printer.specs.Printed.{Entity}
use Rattle.ir_printer.specs.Printed as printed_entities
use Rattle.ir_printer.specs.Tokens.{tokens_of, Are, AreSpellable}
use Rattle.ir_printer.specs.Reprints.{counts, after, Front, AreSound, IsReprinted}
use Rattle.ir_printer.proofs.Positions.{IsIndexed, none_indexed, name_front, all_names}
use Rattle.ir_printer.proofs.Reprinting.{Indexed, IndexedTables, Prints, reprinted_then, assoc_back, prints_then, prints_done, prints_cases, prints_in, sound_last}
use Rattle.ir_printer.proofs.Images.{PrintsAs, as_then, as_next, as_done}
use Rattle.ir_printer.proofs.TokensReprinted.{Quiet, prints_drop}
use Rattle.ir_printer.proofs.QuietForms.{quiet_ret, quiet_then, quiet_either, quiet_rounds, quiet_note, quiet_one_mark, quiet_attribute_list}
use Rattle.ir_printer.proofs.LocalsReprinted.{prints_define, prints_next_local}
use Rattle.ir_printer.proofs.TypesReprinted.{prints_type_form}
use Rattle.ir_printer.proofs.ValuesReprinted.{prints_global}
use Rattle.ir_printer.proofs.ArgumentsReprinted.{prints_in_brackets}
use Rattle.ir_printer.proofs.PrintedForms.{may_stand, printed_param, printed_body, printed_entity, PrintsBody, known, IsEntityReprinted, printed_of, IsReadEntity}
use Rattle.ir_printer.proofs.DemandsReady.{known_of, ready_fits, ready_locals, fits_ready, known_beyond_marks, locals_after_marks}
use Rattle.ir_printer.proofs.GlobalsReprinted.{as_quiet, reprinted_flag}

-- ---- parameters

prints_param_name : {n : Tables} → IndexedTables n → Prints true n param_name (text kinds.Local >>= λ name. act (define name)) [] (λ x. marks.Local x ∷ [])
unfolding param_name
prints_param_name i = prints_cases (kind kinds.Local) (prints_define i) (prints_next_local i)

prints_param : {n : Tables} → IndexedTables n → (l : Limits) → Prints true n (param l) (printed_param l) [] param_marks
unfolding param
prints_param i l =
    prints_then (prints_type_form i l) (λ (t : IrType).
    prints_drop (attribute_list barred.Values no_marks) (quiet_attribute_list barred.Values no_marks)
    (prints_in (prints_then (prints_param_name i) (λ (x : LocalId). prints_done refl)) (assoc_back (text kinds.Local) (λ name. act (define name)) (λ (x : LocalId). ret (record { ty = t; name = x })))))

-- ---- a definition after its first attributes, where these are the names at its end

abbrev read_rest : Limits → List (List ℕ) → Place → Marks → Form Definition
read_rest l names place m1 = do
  t ← type_form l
  f ← global
  ps ← in_brackets l (param l)
  m ← attributes_and_notes (without_groups m1)
  bs ← body l
  ret (record {
    func = record { place = place; name = f; internal = m.internal; noinline = m.noinline; result = t; params = ps; locals = names; blocks = bs };
    groups = m.groups;
  })

abbrev printed_rest : Limits → List (List ℕ) → Bool → Form Func
printed_rest l names internal = do
  t ← type_form l
  f ← global
  ps ← in_brackets l (printed_param l)
  is_noinline ← may_stand (codes "noinline")
  bs ← printed_body l
  ret (record { place = no_place; name = f; internal = internal; noinline = is_noinline; result = t; params = ps; locals = names; blocks = bs })

-- a definition as it is printed, internal or not
abbrev image_with : List (List ℕ) → Bool → Definition → Func
image_with noinline internal d = record (unplaced_func (function_of noinline d)) { internal = internal }

abbrev is_noinline_in : List (List ℕ) → Marks → Bool
is_noinline_in noinline m = m.noinline || list_any (λ n. among noinline n) m.groups

quiet_attributes : (m : Marks) → Quiet (attributes_and_notes m)
unfolding attributes_and_notes
quiet_attributes m = quiet_rounds (λ x. mark_or_note_set) m (λ x. quiet_either (kind kinds.Meta) (quiet_then quiet_note (λ (e : Unit {0}). quiet_ret)) (quiet_one_mark barred.Nothing x)) (λ x. quiet_ret)

func_marks_are : (w f : Mark) (is ts ps ns bs : List Mark) → (w ∷ (is ++ (ts ++ (f ∷ (ps ++ ns))))) ++ bs ≡ ((((((w ∷ []) ++ is) ++ ts) ++ f ∷ []) ++ ps) ++ ns) ++ bs
func_marks_are w f is ts ps ns bs = simp append_assoc

pub prints_rest : (n : Tables) (l : Limits) (noinline names : List (List ℕ)) (place : Place) (m1 : Marks) (internal : Bool) → IndexedTables n → PrintsBody n l →
    PrintsAs true n (image_with noinline internal) (read_rest l names place m1) (printed_rest l names internal) ((marks.Word words.Define ∷ []) ++ word_if internal words.Internal) func_marks
prints_rest n l noinline names place m1 internal i h =
    as_next (prints_type_form i l) (λ (t : IrType).
    as_next (prints_global i) (λ (f : SymId).
    as_next (prints_in_brackets l param_marks (prints_param i l)) (λ (ps : List Param).
    as_then {first = is_noinline_in noinline} {own = λ b. word_if b words.NoInline}
    (λ (b : Bool). printed_body l >>= λ bs. ret (record { place = no_place; name = f; internal = internal; noinline = b; result = t; params = ps; locals = names; blocks = bs }))
    (as_quiet {image = is_noinline_in noinline} (attributes_and_notes (without_groups m1)) (quiet_attributes (without_groups m1)) (λ s u a t2 r sound. reprinted_flag true n words.NoInline refl s (is_noinline_in noinline a))) (λ (m : Marks).
    as_then (λ (bs : List Block). ret (record { place = no_place; name = f; internal = internal; noinline = is_noinline_in noinline m; result = t; params = ps; locals = names; blocks = bs })) h (λ (bs : List Block).
    as_done refl (func_marks_are (marks.Word words.Define) (marks.Symbol f) (word_if internal words.Internal) (type_marks t) (in_round (map param_marks ps)) (word_if (is_noinline_in noinline m) words.NoInline) (body_marks (map unplaced_block bs))))))))

-- ---- the names at the end

-- what is read to names with these local names is read by another form too, as what stands for it
record Within {A B : Type 0} (names : List (List ℕ)) (h : B → A) (f : Form A) (g : Form B) : Type 0 where
  to : (s : Names) (u : List Piece) (a : A) (t : Names) → f.reads s u a t → t.locals ≡ names → (b : B) × g.reads s u b t × (h b ≡ a)

within_then : {A B C : Type 0} {names : List (List ℕ)} {h : C → B} {g : A → Form B} {g2 : A → Form C} (f : Form A) → ((a : A) → Within names h (g a) (g2 a)) → Within names h (f >>= g) (f >>= g2)
within_then f k = record { to = λ s u b t r e. (let q = (k r.0).to r.1 r.3 b t r.6 e in (q.0, (r.0, r.1, r.2, r.3, r.4, r.5, q.1), q.2)) }

-- the names are those at the end
with_names : {A B : Type 0} (names : List (List ℕ)) (h : B → A) (make : List (List ℕ) → B) → Within names h (act locals_so_far >>= λ n. ret (h (make n))) (ret (make names))
with_names {A = A} {B = B} names h make = record { to = λ s u a t r e. at s u a t r.1 r.3 r.4 r.5.0 r.6.0 (ap (λ (x : List (List ℕ) × Names). x.0) r.5.1) (ap (λ (x : List (List ℕ) × Names). x.1) r.5.1) (ap (λ (x : A × Names). x.0) r.6.1) (ap (λ (x : A × Names). x.1) r.6.1) e }
  where
    at : {n : List (List ℕ)} {u1 : List Piece} (s : Names) (u : List Piece) (a : A) (t s1 : Names) (u2 : List Piece) → u ≡ u1 ++ u2 → u1 ≡ [] → u2 ≡ [] → s.locals ≡ n → s ≡ s1 → h (make n) ≡ a → s1 ≡ t → t.locals ≡ names → (b : B) × (ret (make names)).reads s u b t × (h b ≡ a)
    at {n = n} s u a t s1 u2 e1 e2 e3 e4 e5 e6 e7 e8 =
        let same : n ≡ names = sym e4 ∙ ap (λ (x : Names). x.locals) (e5 ∙ e7) ∙ e8 in
        (make names, (e1 ∙ ap (λ (v : List Piece). v ++ u2) e2 ∙ e3, ap (λ (x : Names). (make names, x)) (e5 ∙ e7)), ap (λ (x : List (List ℕ)). h (make x)) (sym same) ∙ e6)

-- names that are known are those at the end
without_names : {A : Type 0} (names : List (List ℕ)) (make : List (List ℕ) → A) → Within names (λ (a : A). a) (ret (make names)) (act locals_so_far >>= λ n. ret (make n))
without_names {A = A} names make = record { to = λ s u a t r e. (make t.locals, (t.locals, t, u, [], sym (append-nil u), (r.0, ap (λ (x : A × Names). (x.1.locals, x.1)) r.1), (refl, refl)), ap make e ∙ ap (λ (x : A × Names). x.0) r.1) }

-- ---- definitions

-- a list of names in which none stands twice begins with such a list
by_front : (b : Bool) (i j k n : ℕ) → ((m : ℕ) → m < n → j ≡ m → i ≡ m) → k < suc n → cond (not b) (1 + j) 0 ≡ k → cond (not b) (1 + i) 0 ≡ k
by_front true i j k n h l e = e
by_front false i j k n h l e = let g : i ≡ j = h j (omega arith) refl in omega arith

first_front : {A : Type 0} (p : A → Bool) (xs ys : List A) (k : ℕ) → k < length xs → position_or_len p (xs ++ ys) ≡ k → position_or_len p xs ≡ k
first_front p [] ys k l e = absurd (omega arith)
first_front p (x ∷ xs) ys k l e = by_front (p x) (position_or_len p xs) (position_or_len p (xs ++ ys)) k (length xs) (first_front p xs ys) l e

indexed_front : (all xs : List (List ℕ)) → Begins all xs → IsIndexed all → IsIndexed xs
indexed_front all xs b i k l =
    let both : IsIndexed (xs ++ b.0) = subst IsIndexed (sym b.1) i in
    let longer : k < length (xs ++ b.0) = (let e = length-append xs b.0 in omega arith) in
    first_front (bytes_eq (name_at xs k)) xs b.0 k l (ap (λ (name : List ℕ). position_or_len (bytes_eq name) (xs ++ b.0)) (sym (name_front xs b.0 k l)) ∙ both k longer)

named_front : (n : Tables) (s : Names) (names : List (List ℕ)) → s.locals ≡ names → Front false n s → Front true (tables n.symbols n.types names) s
named_front n s names e front = (front.0, front.1, λ i. ([], append-nil s.locals ∙ e))

-- a printed function from its first word
abbrev after_define : Limits → List (List ℕ) → Form Func
after_define l names = may_stand (codes "internal") >>= λ b. printed_rest l names b

-- the word `define` before a function
printed_again : (l : Limits) (names : List (List ℕ)) (s : Names) (q : Spot) (us : List Piece) (f : Func) (t : Names) → q.token ≡ tokens.Word (codes "define") → (after_define l names).reads (no_locals s) us f t → t.locals ≡ names →
    (printed_entity l).reads s (Is q ∷ us) (printed_entities.Definition f) t
printed_again l names s q us f t is r e =
    let w = (with_end r.0).to r.1 r.3 f t r.6 e in
    inr (inr (inr (inl (
      f,
      t,
      Is q ∷ us,
      [],
      sym (append-nil (Is q ∷ us)),
      (
        tt,
        s,
        Is q ∷ [],
        us,
        refl,
        (q, refl, ap (λ (x : Token). allows (has define_word x)) is, refl),
        (tt, no_locals s, [], us, refl, (refl, refl), (r.0, r.1, r.2, r.3, r.4, r.5, subst (λ (y : Func). (whole_rest r.0).reads r.1 r.3 y t) w.2 w.1)),
      ),
      (refl, refl),
    ))))
  where
    whole_rest : Bool → Form Func
    whole_rest b =
        type_form l >>= λ t. global >>= λ f. in_brackets l (printed_param l) >>= λ ps. may_stand (codes "noinline") >>= λ is_noinline. printed_body l >>= λ bs. act locals_so_far >>= λ names.
        ret (record { place = no_place; name = f; internal = b; noinline = is_noinline; result = t; params = ps; locals = names; blocks = bs })

    with_end : (b : Bool) → Within names (λ (y : Func). y) (printed_rest l names b) (whole_rest b)
    with_end b =
        within_then (type_form l) (λ (t : IrType).
        within_then global (λ (f : SymId).
        within_then (in_brackets l (printed_param l)) (λ (ps : List Param).
        within_then (may_stand (codes "noinline")) (λ (is_noinline : Bool).
        within_then (printed_body l) (λ (bs : List Block).
        without_names names (λ x. record { place = no_place; name = f; internal = b; noinline = is_noinline; result = t; params = ps; locals = x; blocks = bs }))))))

-- a function that is reprinted from its first word
func_reprinted : (n : Tables) (l : Limits) (s : Names) (f : Func) (t : Names) (ms : List Mark) → func_marks f ≡ marks.Word words.Define ∷ ms → t.locals ≡ f.locals → IsReprinted true (tables n.symbols n.types f.locals) (after_define l f.locals) (no_locals s) f t ms → IsEntityReprinted n l s (printed_entities.Definition f) t
func_reprinted n l s f t ms e own h = record {
  fitting = subst (λ (xs : List Mark). fits (known s) (demand xs) ≡ true) (sym e) (ready_fits (counts (no_locals s)) ms h.ready);
  counted = subst (λ (xs : List Mark). known t ≡ known_beyond (known s) (demand xs)) (sym e) (ap known_of h.counted ∙ known_beyond_marks (counts (no_locals s)) ms);
  spellable = subst (λ (xs : List Mark). AreSpellable m xs) (sym e) (tt, h.spellable);
  rereads = λ s2 us front fit are. subst (λ (xs : List Mark). (t2 : Names) × (printed_entity l).reads s2 us (printed_entities.Definition f) t2 × Front false n t2 × (known t2 ≡ known_beyond (known s2) (demand xs))) (sym e)
      (again s2 us front (subst (λ (xs : List Mark). fits (known s2) (demand xs) ≡ true) e fit) (subst (λ (xs : List Mark). Are us (tokens_of m xs)) e are));
}
  where
    m : Tables
    m = tables n.symbols n.types f.locals

    as_many : (t2 : Names) (s2 : Names) → counts t2 ≡ after (counts (no_locals s2)) ms → length t2.locals ≡ length f.locals
    as_many t2 s2 c = ap (λ b. b.locals) c ∙ locals_after_marks (counts (no_locals s2)) ms ∙ sym (ap (λ b. b.locals) h.counted ∙ locals_after_marks (counts (no_locals s)) ms) ∙ ap length own

    again : (s2 : Names) (us : List Piece) → Front false n s2 → fits (known s2) (demand ms) ≡ true → Are us (tokens.Word (codes "define") ∷ tokens_of m ms) →
        (t2 : Names) × (printed_entity l).reads s2 us (printed_entities.Definition f) t2 × Front false n t2 × (known t2 ≡ known_beyond (known s2) (demand ms))
    again s2 [] front fit are = absurd are
    again s2 (Bad x ∷ us) front fit are = absurd are
    again s2 (Is q ∷ us) front fit are =
        let r = h.rereads (no_locals s2) us (front.0, front.1, λ i. (f.locals, refl)) (fits_ready (counts (no_locals s2)) ms fit (ready_locals (counts (no_locals s)) ms h.ready)) are.1 in
        (r.0, printed_again l f.locals s2 q us f r.0 are.0 r.1 (all_names r.0.locals (r.2.2 refl).0 f.locals (r.2.2 refl).1 (as_many r.0 s2 r.3)), (r.2.0, r.2.1, λ i. absurd cc), ap known_of r.3 ∙ known_beyond_marks (counts (no_locals s2)) ms)

-- ---- definitions that were read

-- a definition after the word and its first attributes
abbrev attributed : Limits → Place → Form read_entities.Entity
attributed l place = do
  m1 ← attribute_list barred.Values no_marks
  t ← type_form l
  f ← global
  ps ← in_brackets l (param l)
  m ← attributes_and_notes (without_groups m1)
  bs ← body l
  names ← act locals_so_far
  ret (entities.Define (record {
    func = record { place = place; name = f; internal = m.internal; noinline = m.noinline; result = t; params = ps; locals = names; blocks = bs };
    groups = m.groups;
  }))

-- what a definition that was read has
record IsDefinition (l : Limits) (s : Names) (u : List Piece) (x : read_entities.Entity) (t : Names) : Type 0 where
  place : Place
  marks : Marks
  def : Definition
  told : entities.Define def ≡ x
  named : t.locals ≡ def.func.locals
  pieces : List Piece
  sound : AreSound u → AreSound pieces
  reads : (read_rest l t.locals place marks).reads (no_locals s) pieces def t

locals_of_rest : (l : Limits) (names : List (List ℕ)) (place : Place) (m1 : Marks) (s : Names) (u : List Piece) (d : Definition) (t : Names) → (read_rest l names place m1).reads s u d t → names ≡ d.func.locals
locals_of_rest l names place m1 s u d t r = ap (λ (x : Definition × Names). x.0.func.locals) r.6.6.6.6.6.1

attributed_rest : (l : Limits) (names : List (List ℕ)) (place : Place) (m1 : Marks) → Within names entities.Define
    (type_form l >>= λ t. global >>= λ f. in_brackets l (param l) >>= λ ps. attributes_and_notes (without_groups m1) >>= λ m. body l >>= λ bs. act locals_so_far >>= λ ns.
    ret (entities.Define (record { func = record { place = place; name = f; internal = m.internal; noinline = m.noinline; result = t; params = ps; locals = ns; blocks = bs }; groups = m.groups })))
    (read_rest l names place m1)
attributed_rest l names place m1 =
    within_then (type_form l) (λ (t : IrType).
    within_then global (λ (f : SymId).
    within_then (in_brackets l (param l)) (λ (ps : List Param).
    within_then (attributes_and_notes (without_groups m1)) (λ (m : Marks).
    within_then (body l) (λ (bs : List Block).
    with_names names entities.Define (λ ns. record { func = record { place = place; name = f; internal = m.internal; noinline = m.noinline; result = t; params = ps; locals = ns; blocks = bs }; groups = m.groups }))))))

is_definition : (l : Limits) (count : ℕ) (s : Names) (u : List Piece) (x : read_entities.Entity) (t : Names) → (definition l count).reads s u x t → IsDefinition l s u x t
unfolding definition
is_definition l count s u x t r =
    let q = r.6 in
    let a = q.6 in
    let w = (attributed_rest l t.locals r.0.0 a.0).to a.1 a.3 x t a.6 refl in
    let start : a.1 ≡ no_locals s = sym ((quiet_attribute_list barred.Values no_marks).same q.1 a.2 a.0 a.1 a.5) ∙ sym (ap (λ (y : Unit {0} × Names). y.1) q.5.1) ∙ ap no_locals (sym r.5.1.3) in
    record {
      place = r.0.0;
      marks = a.0;
      def = w.0;
      told = w.2;
      named = locals_of_rest l t.locals r.0.0 a.0 a.1 a.3 w.0 t w.1;
      pieces = a.3;
      sound = λ sound. sound_last a.2 a.3 (subst AreSound a.4 (sound_last q.2 q.3 (subst AreSound q.4 (sound_last r.2 r.3 (subst AreSound r.4 sound)))));
      reads = subst (λ (y : Names). (read_rest l t.locals r.0.0 a.0).reads y a.3 w.0 t) start w.1;
    }

none_some : {A : Type 0} (e : A) → None ≡ Some e → ⊥
none_some e h = absurd cc

-- no name stands twice at the end of a definition where none does at its begin
definition_indexed : (l : Limits) (s : Names) (u : List Piece) (x : read_entities.Entity) (t : Names) → ((m : Tables) → IndexedTables m → PrintsBody m l) → IsDefinition l s u x t → IsIndexed s.symbols → IsIndexed s.types → Indexed t
definition_indexed l s u x t bodies d i j =
    let none : IndexedTables (tables [] [] []) = (none_indexed, none_indexed, none_indexed) in
    (prints_rest (tables [] [] []) l [] t.locals d.place d.marks false none (bodies (tables [] [] []) none)).indexed (no_locals s) d.pieces d.def t d.reads (i, j, none_indexed)

-- names are only put after those before a definition
definition_front : (n : Tables) (l : Limits) (count : ℕ) (s : Names) (u : List Piece) (x : read_entities.Entity) (t : Names) → (definition l count).reads s u x t → Front false n t → Front false n s
definition_front n l count s u x t r front =
    let more = (keeps_definition {n = t} {H = Unit {0}} l count).grows s u x t r in
    (begins_then s.symbols t.symbols n.symbols more.symbols front.0, begins_then s.types t.types n.types more.types front.1, λ e. absurd cc)

-- a definition that was read is printed, where no local name stands twice at its end
definition_prints : (n : Tables) (l : Limits) (noinline : List (List ℕ)) (s : Names) (u : List Piece) (x : read_entities.Entity) (t : Names) → IsIndexed n.symbols → IsIndexed n.types → IsIndexed t.locals → ((m : Tables) → IndexedTables m → PrintsBody m l) → (d : IsDefinition l s u x t) → Front false n t → AreSound u →
    IsEntityReprinted n l s (printed_entities.Definition (unplaced_func (function_of noinline d.def))) t
definition_prints n l noinline s u x t i j own bodies d front sound = made (rest.prints (no_locals s) d.pieces d.def t d.reads (named_front n t t.locals refl front) (d.sound sound))
  where
    m : Tables
    m = tables n.symbols n.types t.locals

    f : Func
    f = unplaced_func (function_of noinline d.def)

    rest : PrintsAs true m (image_with noinline d.def.func.internal) (read_rest l t.locals d.place d.marks) (printed_rest l t.locals d.def.func.internal) ((marks.Word words.Define ∷ []) ++ word_if d.def.func.internal words.Internal) func_marks
    rest = prints_rest m l noinline t.locals d.place d.marks d.def.func.internal (i, j, own) (bodies m (i, j, own))

    made : (ms : List Mark) × (func_marks f ≡ ((marks.Word words.Define ∷ []) ++ word_if d.def.func.internal words.Internal) ++ ms) × IsReprinted true m (printed_rest l t.locals d.def.func.internal) (no_locals s) f t ms → IsEntityReprinted n l s (printed_entities.Definition f) t
    made q = func_reprinted n l s f t (word_if d.def.func.internal words.Internal ++ q.0) q.1 d.named
        (subst (λ (names : List (List ℕ)). IsReprinted true (tables n.symbols n.types names) (after_define l names) (no_locals s) f t (word_if d.def.func.internal words.Internal ++ q.0)) d.named
        (reprinted_then true m (may_stand (codes "internal")) (λ (b : Bool). printed_rest l t.locals b) (no_locals s) d.def.func.internal (no_locals s) f t (word_if d.def.func.internal words.Internal) q.0
        (reprinted_flag true m words.Internal refl (no_locals s) d.def.func.internal) q.2))

pub read_definition : (n : Tables) (l : Limits) (noinline : List (List ℕ)) → IsIndexed n.symbols → IsIndexed n.types → ((m : Tables) → IndexedTables m → PrintsBody m l) →
    (count : ℕ) (s : Names) (u : List Piece) (x : read_entities.Entity) (t : Names) → (definition l count).reads s u x t → IsReadEntity n l noinline s u x t
read_definition n l noinline i j bodies count s u x t r = record {
  indexed = λ all. definition_indexed l s u x t bodies d all.0 all.1;
  fronts = definition_front n l count s u x t r;
  left_out = λ h. absurd (none_some func (sym h ∙ ap (printed_of noinline) (sym d.told)));
  prints = λ front sound e h. subst (λ (y : Entity). IsEntityReprinted n l s y t) (some_entity e (ap (printed_of noinline) d.told ∙ h)) (definition_prints n l noinline s u x t i j (locals_indexed front) bodies d front sound);
}
  where
    d : IsDefinition l s u x t
    d = is_definition l count s u x t r

    func : Entity
    func = printed_entities.Definition (unplaced_func (function_of noinline d.def))

    some_entity : (e : Entity) → Some func ≡ Some e → func ≡ e
    some_entity e h = cc

    locals_indexed : Front false n t → IsIndexed t.locals
    locals_indexed front =
        let start = definition_front n l count s u x t r front in
        (definition_indexed l s u x t bodies d (indexed_front n.symbols s.symbols start.0 i) (indexed_front n.types s.types start.1 j)).2
