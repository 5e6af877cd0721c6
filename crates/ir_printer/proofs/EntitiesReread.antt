-- What a printed entity is read as, the grammar reads as an entity too, with places.
use Rattle.std.proofs.Common.{◌≡◌, ◌⊎◌, inl, inr, refl, sym, ap, ◌∙◌, subst, ℕ, zero, suc, Bool, true, false, ◌||◌, List, [], ◌∷◌, ◌++◌, ◌+◌, length, map}
use Rattle.std.specs.Prelude.{Option, Some, None, codes, if◌then◌else◌}
use Rattle.std.specs.Str.{bytes_eq}
use Rattle.std.proofs.lemmas.List.{append-nil}
use Rattle.oi_base.specs.declared.ids.Place.{Place}
use Rattle.ir_lexer.specs.declared.table.Token.{Token}
use Rattle.ir_lexer.specs.declared.table.Token.TheVariants as tokens
use Rattle.ir_core.specs.declared.ty.IrType.{IrType}
use Rattle.ir_core.specs.declared.ty.TypeName.{TypeName}
use Rattle.ir_core.specs.declared.constant.Const.{Const}
use Rattle.ir_core.specs.declared.module.SymId.{SymId}
use Rattle.ir_core.specs.declared.op.LocalId.{LocalId}
use Rattle.ir_core.specs.declared.func.Block.{Block}
use Rattle.ir_core.specs.declared.func.Param.{Param}
use Rattle.ir_core.specs.declared.func.Func.{Func}
use Rattle.ir_core.specs.Places.{no_place, unplaced_block}
use Rattle.ir_grammar.specs.declared.kinds.Kind.TheVariants as kinds
use Rattle.ir_grammar.specs.declared.kinds.Barred.TheVariants as barred
use Rattle.ir_grammar.specs.declared.which.Which.TheVariants as limits
use Rattle.ir_grammar.specs.declared.parts.Attribute.TheVariants as attributes
use Rattle.ir_grammar.specs.declared.parts.Marks.{Marks}
use Rattle.ir_grammar.specs.declared.parts.Entity as read_entities
use Rattle.ir_grammar.specs.declared.parts.Entity.TheVariants as entities
use Rattle.ir_grammar.specs.Pieces.{Piece}
use Rattle.ir_grammar.specs.Names.{Names, type_name, define}
use Rattle.ir_grammar.specs.Sets.{has}
use Rattle.ir_grammar.specs.Forms.{Form, act, ret, token, Takes, Refuses, ◌>>=◌, choose, Rounds, located, place_of}
use Rattle.ir_grammar.specs.Tokens.{Limits, is_past, over, allows, expect, word, word_of, one_word, text, skip}
use Rattle.ir_grammar.specs.Groups.{group}
use Rattle.ir_grammar.specs.Types.{type_form}
use Rattle.ir_grammar.specs.Values.{global, init}
use Rattle.ir_grammar.specs.Attributes.{attribute_word_of, attribute_argument, attribute, no_marks, attribute_list, attributes_and_notes}
use Rattle.ir_grammar.specs.Operations.{more_items, one_more_item, in_brackets}
use Rattle.ir_grammar.specs.Bodies.{body}
use Rattle.ir_grammar.specs.Entities.{equals, target_words, target_word, target_of, target, type_def, global_words, linkage, storage_words, global_end, global_var, param_name, param, define_if, define_of, define_word, without_groups, locals_so_far, forget_locals, definition, declare_word, before_name, declaration, other_entity}
use Rattle.ir_grammar.proofs.Apart.{bytes_same}
use Rattle.ir_printer.specs.declared.words.Word.{Word}
use Rattle.ir_printer.specs.declared.words.Word.TheVariants as words
use Rattle.ir_printer.specs.Printed.{Entity, TargetLine, Definition}
use Rattle.ir_printer.proofs.Reprinting.{assoc_to}
use Rattle.ir_printer.proofs.QuietForms.{silent_attribute_list}
use Rattle.ir_printer.proofs.PrintedForms.{may_stand, line_words, printed_param, printed_body, printed_func, printed_target, printed_type, printed_align, printed_global, printed_declaration, printed_of, RereadsBody, HasRoom, RereadsEntities}
use Rattle.ir_printer.proofs.EntitiesReprinted.{line_word}

-- ---- a form is read as another one, with a value that stands for its own

record Comes {A B : Type 0} (Stands : B → A → Type 0) (f : Form A) (g : Form B) : Type 0 where
  from : (s : Names) (u : List Piece) (a : A) (t : Names) → f.reads s u a t → (b : B) × g.reads s u b t × Stands b a

comes_then : {A B C : Type 0} {Stands : C → B → Type 0} {g : A → Form B} {g2 : A → Form C} (f : Form A) → ((a : A) → Comes Stands (g a) (g2 a)) → Comes Stands (f >>= g) (f >>= g2)
comes_then f h = record { from = λ s u b t r. (let q = (h r.0).from r.1 r.3 b t r.6 in (q.0, (r.0, r.1, r.2, r.3, r.4, r.5, q.1), q.2)) }

-- with the place of its first token
comes_located : {A B C : Type 0} {Stands : C → B → Type 0} {g : A → Form B} (g2 : Place × A → Form C) (f : Form A) → ((p : Place) (a : A) → Comes Stands (g a) (g2 (p, a))) → Comes Stands (f >>= g) (located f >>= g2)
comes_located g2 f h = record { from = λ s u b t r. (let q = (h (place_of r.2) r.0).from r.1 r.3 b t r.6 in (q.0, ((place_of r.2, r.0), r.1, r.2, r.3, r.4, (refl, r.5), q.1), q.2)) }

-- the first form is read as another one, whose value is made from its own
comes_as : {A A2 B C : Type 0} {Stands : C → B → Type 0} {g : A → Form B} (g2 : A2 → Form C) (f : Form A) (f2 : Form A2) (made : List Piece → A → A2) → ((s : Names) (u : List Piece) (a : A) (t : Names) → f.reads s u a t → f2.reads s u (made u a) t) →
    ((u : List Piece) (a : A) → Comes Stands (g a) (g2 (made u a))) → Comes Stands (f >>= g) (f2 >>= g2)
comes_as g2 f f2 made k h = record { from = λ s u b t r. (let q = (h r.2 r.0).from r.1 r.3 b t r.6 in (q.0, (made r.2 r.0, r.1, r.2, r.3, r.4, k s r.2 r.0 r.1 r.5, q.1), q.2)) }

-- the first form is read as another one, whose value says its own
comes_first : {A A2 B C : Type 0} {Stands : C → B → Type 0} {g2 : A2 → Form C} (g : A → Form B) (f : Form A) (f2 : Form A2) (first : A2 → A) → Comes (λ y a. first y ≡ a) f f2 → ((y : A2) → Comes Stands (g (first y)) (g2 y)) → Comes Stands (f >>= g) (f2 >>= g2)
comes_first g f f2 first k h = record {
  from = λ s u b t r.
      (let p = k.from s r.2 r.0 r.1 r.5 in
      let q = (h p.0).from r.1 r.3 b t (subst (λ a. (g a).reads r.1 r.3 b t) (sym p.2) r.6) in
      (q.0, (p.0, r.1, r.2, r.3, r.4, p.1, q.1), q.2));
}

comes_ret : {A B : Type 0} {Stands : B → A → Type 0} {a : A} (b : B) → Stands b a → Comes Stands (ret a) (ret b)
comes_ret {A = A} {B = B} {Stands = Stands} b h = record { from = λ s u x t r. (b, (r.0, ap (λ (y : A × Names). (b, y.1)) r.1), subst (λ (y : A × Names). Stands b y.0) r.1 h) }

-- another value
comes_mapped : {A B C : Type 0} {Stands : C → A → Type 0} {Means : C → B → Type 0} {f : Form A} {g : Form C} (h : A → B) → Comes Stands f g → ((c : C) (a : A) → Stands c a → Means c (h a)) → Comes Means (f >>= λ a. ret (h a)) g
comes_mapped {A = A} {B = B} {C = C} {Stands = Stands} {Means = Means} {f = f} {g = g} h k e = record { from = λ s u b t r. at s u b t r (k.from s r.2 r.0 r.1 r.5) }
  where
    at : (s : Names) (u : List Piece) (b : B) (t : Names) (r : (f >>= λ a. ret (h a)).reads s u b t) → (c : C) × g.reads s r.2 c r.1 × Stands c r.0 → (c : C) × g.reads s u c t × Means c b
    at s u b t r q =
        let whole : r.2 ≡ u = sym (append-nil r.2) ∙ ap (λ (v : List Piece). r.2 ++ v) (sym r.6.0) ∙ sym r.4 in
        (q.0, subst (λ (v : List Piece). g.reads s v q.0 t) whole (subst (λ (y : B × Names). g.reads s r.2 q.0 y.1) r.6.1 q.1), subst (λ (y : B × Names). Means q.0 y.0) r.6.1 (e q.0 r.0 q.2))

-- ---- words

word_by : (b : Bool) → allows (b || false) ≡ Takes tt → b ≡ true
word_by true h = refl
word_by false h = absurd cc

word_is : (w : List ℕ) (t : Token) → allows (has (word w) t) ≡ Takes tt → t ≡ tokens.Word w
word_is w (tokens.Word x) h = ap tokens.Word (bytes_same x w (word_by (bytes_eq x w) h))
word_is w (tokens.Int x) h = absurd cc
word_is w (tokens.Label x) h = absurd cc
word_is w (tokens.Local x) h = absurd cc
word_is w (tokens.Global x) h = absurd cc
word_is w (tokens.Str x) h = absurd cc
word_is w (tokens.CStr x) h = absurd cc
word_is w (tokens.Meta x) h = absurd cc
word_is w (tokens.Hash x) h = absurd cc
word_is w (tokens.Sign x) h = absurd cc
word_is w tokens.End h = absurd cc

-- ---- target lines

line_by : (b c : Bool) (w : Word) → (if b then Takes words.DataLayout else (if c then Takes words.Triple else Refuses)) ≡ Takes w → (x : Bool) × ((if b then Takes true else (if c then Takes false else Refuses)) ≡ Takes x) × (line_word x ≡ w)
line_by true c w h = (true, refl, cc)
line_by false true w h = (false, refl, cc)
line_by false false w h = absurd cc

line_from : (t : Token) (w : Word) → word_of line_words t ≡ Takes w → (x : Bool) × (word_of target_words t ≡ Takes x) × (line_word x ≡ w)
line_from (tokens.Word x) w h = line_by (bytes_eq x (codes "datalayout")) (bytes_eq x (codes "triple")) w h
line_from (tokens.Int x) w h = absurd cc
line_from (tokens.Label x) w h = absurd cc
line_from (tokens.Local x) w h = absurd cc
line_from (tokens.Global x) w h = absurd cc
line_from (tokens.Str x) w h = absurd cc
line_from (tokens.CStr x) w h = absurd cc
line_from (tokens.Meta x) w h = absurd cc
line_from (tokens.Hash x) w h = absurd cc
line_from (tokens.Sign x) w h = absurd cc
line_from tokens.End w h = absurd cc

-- an entity that was read is printed so
abbrev IsOf : read_entities.Entity → Entity → Type 0
IsOf x e = printed_of [] x ≡ Some e

line_is : (b : Bool) (said : List ℕ) → IsOf (target_of b said) (TargetLine (line_word b) said)
line_is true said = refl
line_is false said = refl

comes_target : Comes IsOf printed_target target
unfolding target
comes_target =
    comes_then (expect target_word) (λ (w : Unit {0}).
    comes_first (λ x. equals >>= λ e. text kinds.Str >>= λ said. ret (TargetLine x said)) (one_word line_words) (one_word target_words) line_word (record { from = λ s u a t r. (let q = line_from r.0.token a r.2 in (q.0, (r.0, r.1, q.1, r.3), q.2)) }) (λ (b : Bool).
    comes_then equals (λ (e : Unit {0}).
    comes_then (text kinds.Str) (λ (said : List ℕ).
    comes_ret (target_of b said) (line_is b said)))))

-- ---- type definitions and globals

comes_type : (l : Limits) → Comes IsOf (printed_type l) (type_def l)
unfolding type_def
comes_type l =
    comes_located (λ (n : Place × List ℕ). act (type_name n.1) >>= λ x. equals >>= λ e. expect (word (codes "type")) >>= λ w. type_form l >>= λ t. ret (entities.Type (record { place = n.0; name = x; ty = t }))) (text kinds.Local) (λ p name.
    comes_then (act (type_name name)) (λ (x : TypeName).
    comes_then equals (λ (e : Unit {0}).
    comes_then (expect (word (codes "type"))) (λ (w : Unit {0}).
    comes_then (type_form l) (λ (t : IrType).
    comes_ret (entities.Type (record { place = p; name = x; ty = t })) refl)))))

-- a word of a global, or none
linkage_from : (s : Names) (u : List Piece) (b : Bool) (t : Names) → (may_stand (codes "internal")).reads s u b t → (linkage false).reads s u b t
unfolding linkage
linkage_from s u b t (inl r) =
    let taken : word_of global_words r.5.0.token ≡ Takes true = ap (word_of global_words) (word_is (codes "internal") r.5.0.token r.5.2) in
    (suc zero, (true, r.1, r.2, r.3, r.4, (true, r.1, r.2, [], sym (append-nil r.2), (r.5.0, r.5.1, taken, r.5.3), (refl, refl)), r.6))
linkage_from s u b t (inr r) = (zero, r)

end_from : (l : Limits) (s : Names) (u : List Piece) (a : Option ℕ) (t : Names) → (printed_align l).reads s u a t → (global_end l None).reads s u a t
unfolding global_end
end_from l s u a t (inl r) = (suc zero, (a, t, u, [], sym (append-nil u), (r.0, r.1, r.2, r.3, r.4, r.5, inl r.6), (refl, refl)))
end_from l s u a t (inr r) = (zero, r)

comes_global : (l : Limits) → Comes IsOf (printed_global l) (global_var l)
unfolding global_var
comes_global l =
    comes_located (λ (g : Place × SymId). equals >>= λ e. linkage false >>= λ i. one_word storage_words >>= λ c. type_form l >>= λ t. init l >>= λ v. global_end l None >>= λ a. ret (entities.Global (record { place = g.0; name = g.1; internal = i; constant = c; ty = t; init = v; align = a })))
    global (λ p g.
    comes_then equals (λ (e : Unit {0}).
    comes_as (λ i. one_word storage_words >>= λ c. type_form l >>= λ t. init l >>= λ v. global_end l None >>= λ a. ret (entities.Global (record { place = p; name = g; internal = i; constant = c; ty = t; init = v; align = a })))
    (may_stand (codes "internal")) (linkage false) (λ v b. b) linkage_from (λ v (i : Bool).
    comes_then (one_word storage_words) (λ (c : Bool).
    comes_then (type_form l) (λ (t : IrType).
    comes_then (init l) (λ (v : Const).
    comes_as (λ a. ret (entities.Global (record { place = p; name = g; internal = i; constant = c; ty = t; init = v; align = a }))) (printed_align l) (global_end l None) (λ v2 b. b) (end_from l) (λ v2 (a : Option ℕ).
    comes_ret (entities.Global (record { place = p; name = g; internal = i; constant = c; ty = t; init = v; align = a })) refl)))))))

comes_declaration : Comes IsOf printed_declaration declaration
unfolding declaration
comes_declaration =
    comes_located (λ (w : Place × Unit {0}). skip before_name (expect before_name) >>= λ s. global >>= λ f. group 40 41 >>= λ g. ret (entities.Declare (record { place = w.0; name = f }))) (expect declare_word) (λ p w.
    comes_then (skip before_name (expect before_name)) (λ (s : Unit {0}).
    comes_then global (λ (f : SymId).
    comes_then (group 40 41) (λ (g : Bool).
    comes_ret (entities.Declare (record { place = p; name = f })) refl))))

-- ---- parameters

-- what a form reads another one reads as the same
abbrev Into : {A : Type 0} → Form A → Form A → Type 0
Into {A = A} f g = (s : Names) (u : List Piece) (a : A) (t : Names) → f.reads s u a t → g.reads s u a t

param_from : (l : Limits) → Into (printed_param l) (param l)
unfolding param param_name
param_from l s u a t r =
    let q = assoc_to (text kinds.Local) (λ name. act (define name)) (λ (x : LocalId). ret (record { ty = r.0; name = x })) r.1 r.3 a t r.6 in
    (r.0, r.1, r.2, r.3, r.4, r.5, (no_marks, r.1, [], r.3, refl, silent_attribute_list barred.Values no_marks r.1, (q.0, q.1, q.2, q.3, q.4, inl q.5, q.6)))

-- also where what exceeds a limit reads nothing
unless_past : {A : Type 0} (past : Bool) (f g : Form A) → Into f g → Into (choose past (over limits.Params) f) (choose past (over limits.Params) g)
unless_past true f g h s u a t r = r
unless_past false f g h s u a t r = h s u a t r

items_from : {A : Type 0} (l : Limits) (f g : Form A) → Into f g → (c : ℕ) (xs : List A) (s : Names) (u : List Piece) (ys : List A) (t : Names) → Rounds (one_more_item l f) (λ x. ret x) c xs s u ys t → Rounds (one_more_item l g) (λ x. ret x) c xs s u ys t
items_from l f g h zero xs s u ys t r = r
items_from l f g h (suc c) xs s u ys t r =
    let q = r.5 in
    let p = q.6 in
    (r.0, r.1, r.2, r.3, r.4, (q.0, q.1, q.2, q.3, q.4, q.5, (p.0, p.1, p.2, p.3, p.4, unless_past (is_past l.params (length xs + 1)) f g h q.1 p.2 p.0 p.1 p.5, p.6)), items_from l f g h c r.0 r.1 r.3 ys t r.6)

brackets_from : {A : Type 0} (l : Limits) (f g : Form A) → Into f g → Into (in_brackets l f) (in_brackets l g)
brackets_from {A = A} l f g h s u ys t r = let q = r.6 in (r.0, r.1, r.2, r.3, r.4, r.5, (q.0, q.1, q.2, q.3, q.4, at r.1 q.2 q.0 q.1 q.5, q.6))
  where
    at : (s : Names) (u : List Piece) (xs : List A) (t : Names) → (f >>= λ a. more_items l f (a ∷ [])).reads s u xs t ⊎ (ret {A = List A} []).reads s u xs t → (g >>= λ a. more_items l g (a ∷ [])).reads s u xs t ⊎ (ret {A = List A} []).reads s u xs t
    at s u xs t (inl r) = inl (r.0, r.1, r.2, r.3, r.4, h s r.2 r.0 r.1 r.5, (r.6.0, items_from l f g h r.6.0 (r.0 ∷ []) r.1 r.3 xs t r.6.1))
    at s u xs t (inr r) = inr r

-- ---- definitions

abbrev marks_before : Bool → Marks
marks_before b = record no_marks { internal = b }

abbrev marks_after : Bool → Bool → Marks
marks_after i b = record (no_marks) { internal = i; noinline = b }

define_from : (l : Limits) (count : ℕ) → is_past l.functions (count + 1) ≡ false → (s : Names) (u : List Piece) (a : Unit {0}) (t : Names) → (expect define_word).reads s u a t → (located (token (define_of l count))).reads s u (place_of u, tt) t
define_from l count room s u a t r = (refl, (r.0, r.1, ap (define_of l count) (word_is (codes "define") r.0.token r.2) ∙ ap (λ (b : Bool). define_if true b) room, r.3))

internal_from : (s : Names) (u : List Piece) (b : Bool) (t : Names) → (may_stand (codes "internal")).reads s u b t → (attribute_list barred.Values no_marks).reads s u (marks_before b) t
unfolding attribute_list attribute attribute_argument
internal_from s u b t (inl r) =
    let taken : attribute_word_of barred.Values r.5.0.token ≡ Takes attributes.Internal = ap (attribute_word_of barred.Values) (word_is (codes "internal") r.5.0.token r.5.2) in (
      suc zero,
      (
        marks_before true,
        r.1,
        r.2,
        r.3,
        r.4,
        (attributes.Internal, r.1, r.2, [], sym (append-nil r.2), inl (attributes.Internal, r.1, r.2, [], sym (append-nil r.2), (r.5.0, r.5.1, taken, r.5.3), (tt, r.1, [], [], refl, inr (inr (refl, refl)), (refl, refl))), (refl, refl)),
        (r.6.0, ap (λ (x : Bool × Names). (marks_before x.0, x.1)) r.6.1),
      ),
    )
internal_from s u b t (inr r) = (zero, (r.0, ap (λ (x : Bool × Names). (marks_before x.0, x.1)) r.1))

noinline_from : (i : Bool) (s : Names) (u : List Piece) (b : Bool) (t : Names) → (may_stand (codes "noinline")).reads s u b t → (attributes_and_notes (marks_before i)).reads s u (marks_after i b) t
unfolding attributes_and_notes attribute attribute_argument
noinline_from i s u b t (inl r) =
    let taken : attribute_word_of barred.Nothing r.5.0.token ≡ Takes attributes.NoInline = ap (attribute_word_of barred.Nothing) (word_is (codes "noinline") r.5.0.token r.5.2) in (
      suc zero,
      (
        marks_after i true,
        r.1,
        r.2,
        r.3,
        r.4,
        inr (attributes.NoInline, r.1, r.2, [], sym (append-nil r.2), inl (attributes.NoInline, r.1, r.2, [], sym (append-nil r.2), (r.5.0, r.5.1, taken, r.5.3), (tt, r.1, [], [], refl, inr (inr (refl, refl)), (refl, refl))), (refl, refl)),
        (r.6.0, ap (λ (x : Bool × Names). (marks_after i x.0, x.1)) r.6.1),
      ),
    )
noinline_from i s u b t (inr r) = (zero, (r.0, ap (λ (x : Bool × Names). (marks_after i x.0, x.1)) r.1))

or_false : (b : Bool) → (b || false) ≡ b
or_false true = refl
or_false false = refl

-- a definition that was read is printed so
abbrev IsOfFunc : read_entities.Entity → Func → Type 0
IsOfFunc x f = printed_of [] x ≡ Some (Definition f)

abbrev definition_end : Place → SymId → Marks → IrType → List Param → List Block → List (List ℕ) → read_entities.Entity
definition_end p f m t ps bs names = entities.Define (record {
  func = record { place = p; name = f; internal = m.internal; noinline = m.noinline; result = t; params = ps; locals = names; blocks = bs };
  groups = m.groups;
})

func_is : (p : Place) (f : SymId) (i b : Bool) (t : IrType) (ps : List Param) (bs : List Block) (names : List (List ℕ)) →
    IsOfFunc (definition_end p f (marks_after i b) t ps bs names) (record { place = no_place; name = f; internal = i; noinline = b; result = t; params = ps; locals = names; blocks = map unplaced_block bs })
func_is p f i b t ps bs names = ap (λ (x : Bool). Some (Definition (record { place = no_place; name = f; internal = i; noinline = x; result = t; params = ps; locals = names; blocks = map unplaced_block bs }))) (or_false b)

-- what is read after the parts of a definition
abbrev after_params : Limits → Place → IrType → SymId → List Param → Marks → Form read_entities.Entity
after_params l p t f ps m = body l >>= λ bs. act locals_so_far >>= λ names. ret (definition_end p f m t ps bs names)

abbrev after_attributes : Limits → Place → Marks → Form read_entities.Entity
after_attributes l p m1 = type_form l >>= λ t. global >>= λ f. in_brackets l (param l) >>= λ ps. attributes_and_notes (without_groups m1) >>= λ m. after_params l p t f ps m

comes_func : (l : Limits) (count : ℕ) → is_past l.functions (count + 1) ≡ false → RereadsBody l → Comes IsOfFunc (printed_func l) (definition l count)
unfolding definition
comes_func l count room h =
    comes_as (λ (w : Place × Unit {0}). act forget_locals >>= λ u. attribute_list barred.Values no_marks >>= λ m1. after_attributes l w.0 m1) (expect define_word) (located (token (define_of l count))) (λ v w. (place_of v, tt)) (define_from l count room) (λ v w.
    comes_then (act forget_locals) (λ (x : Unit {0}).
    comes_as (λ m1. after_attributes l (place_of v) m1) (may_stand (codes "internal")) (attribute_list barred.Values no_marks) (λ v2 b. marks_before b) internal_from (λ v2 (i : Bool).
    comes_then (type_form l) (λ (t : IrType).
    comes_then global (λ (f : SymId).
    comes_as (λ ps. attributes_and_notes (marks_before i) >>= λ m. after_params l (place_of v) t f ps m) (in_brackets l (printed_param l)) (in_brackets l (param l)) (λ v3 ps. ps) (brackets_from l (printed_param l) (param l) (param_from l)) (λ v3 (ps : List Param).
    comes_as (λ m. after_params l (place_of v) t f ps m) (may_stand (codes "noinline")) (attributes_and_notes (marks_before i)) (λ v4 b. marks_after i b) (noinline_from i) (λ v4 (b : Bool).
    comes_first (λ bs. act locals_so_far >>= λ names. ret (record { place = no_place; name = f; internal = i; noinline = b; result = t; params = ps; locals = names; blocks = bs })) (printed_body l) (body l) (map unplaced_block) (record { from = h }) (λ (bs : List Block).
    comes_then (act locals_so_far) (λ (names : List (List ℕ)).
    comes_ret (definition_end (place_of v) f (marks_after i b) t ps bs names) (func_is (place_of v) f i b t ps bs names))))))))))

comes_definition : (l : Limits) (count : ℕ) → is_past l.functions (count + 1) ≡ false → RereadsBody l → Comes IsOf (printed_func l >>= λ f. ret (Definition f)) (definition l count)
comes_definition l count room h = comes_mapped Definition (comes_func l count room h) (λ x f e. e)

-- ---- entities

-- a printed entity is read as an entity, where that is so of the bodies of functions
pub rereads_entities : (l : Limits) → RereadsBody l → RereadsEntities l
unfolding other_entity
rereads_entities l h count s u e t room (inl r) = let q = comes_target.from s u e t r in (q.0, inr (inl q.1), q.2)
rereads_entities l h count s u e t room (inr (inl r)) = let q = (comes_type l).from s u e t r in (q.0, inr (inr (inr (inl q.1))), q.2)
rereads_entities l h count s u e t room (inr (inr (inl r))) = let q = (comes_global l).from s u e t r in (q.0, inr (inr (inr (inr (inl q.1)))), q.2)
rereads_entities l h count s u e t room (inr (inr (inr (inl r)))) = let q = (comes_definition l count (subst (λ (x : Entity). HasRoom l count x) (sym (ap (λ (y : Entity × Names). y.0) r.6.1)) room) h).from s u e t r in (q.0, inr (inr (inr (inr (inr (inl q.1))))), q.2)
rereads_entities l h count s u e t room (inr (inr (inr (inr r)))) = let q = comes_declaration.from s u e t r in (q.0, inr (inr (inr (inr (inr (inr q.1))))), q.2)
