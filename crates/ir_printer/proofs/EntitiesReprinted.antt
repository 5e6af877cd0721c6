-- Entities but definitions are printed as they are read.
use Rattle.std.proofs.Common.{◌≡◌, inl, inr, refl, sym, ap, ◌∙◌, subst, ℕ, Bool, true, false, not, ◌||◌, List, [], ◌∷◌, ◌++◌, length}
use Rattle.std.specs.Prelude.{Option, Some, None, codes, unwrap_or, if◌then◌else◌}
use Rattle.std.specs.Str.{bytes_eq}
use Rattle.oi_base.specs.declared.ids.Place.{Place}
use Rattle.ir_lexer.specs.declared.table.Token.{Token}
use Rattle.ir_lexer.specs.declared.table.Token.TheVariants as tokens
use Rattle.ir_core.specs.declared.ty.IrType.{IrType}
use Rattle.ir_core.specs.declared.ty.TypeName.{TypeName}
use Rattle.ir_grammar.specs.declared.kinds.Kind.TheVariants as kinds
use Rattle.ir_grammar.specs.declared.parts.Entity as read_entities
use Rattle.ir_grammar.specs.declared.parts.Entity.TheVariants as entities
use Rattle.ir_grammar.specs.Pieces.{Piece}
use Rattle.ir_grammar.specs.Names.{Names, type_name}
use Rattle.ir_grammar.specs.Sets.{OfKind, kind_fits, kind_if, is_debug, are_digits}
use Rattle.ir_grammar.specs.Forms.{Form, act, ret, Takes, Refuses, ◌>>=◌, located}
use Rattle.ir_grammar.specs.Tokens.{Limits, expect, sign, word, word_of, one_word, text_if, text_of, text}
use Rattle.ir_grammar.specs.Types.{type_form}
use Rattle.ir_grammar.specs.Entities.{equals, source_filename, target_word, target_words, target_of, target, attributes, group_of, metadata, type_def}
use Rattle.ir_printer.specs.declared.words.Word.{Word}
use Rattle.ir_printer.specs.declared.words.Word.TheVariants as words
use Rattle.ir_printer.specs.declared.marks.Sign.TheVariants as signs
use Rattle.ir_printer.specs.declared.marks.Mark.{Mark}
use Rattle.ir_printer.specs.declared.marks.Mark.TheVariants as marks
use Rattle.ir_printer.specs.Layout.{Tables, tables}
use Rattle.ir_printer.specs.Printed.{Entity, TargetLine, entity_marks, locals_of}
use Rattle.ir_printer.specs.Tokens.{tokens_of, Are, AreSpellable}
use Rattle.ir_printer.specs.Reprints.{counts, Front, IsSound, IsReprinted}
use Rattle.ir_printer.proofs.Positions.{IsIndexed, none_indexed}
use Rattle.ir_printer.proofs.Reprinting.{Indexed, IndexedTables, Prints, reprinted_in, prints_token, prints_then, prints_done, prints_joined}
use Rattle.ir_printer.proofs.Images.{PrintsAs, as_from, as_then, as_next, as_done}
use Rattle.ir_printer.proofs.NamesReprinted.{prints_type_name}
use Rattle.ir_printer.proofs.TokensReprinted.{Quiet, prints_expect, prints_table}
use Rattle.ir_printer.proofs.QuietForms.{quiet_token, quiet_ret, quiet_then, quiet_group, quiet_metadata_rest}
use Rattle.ir_printer.proofs.TypesReprinted.{prints_type_form}
use Rattle.ir_printer.proofs.PrintedForms.{line_words, printed_target, printed_type, printed_entity, IsEntityReprinted, printed_of, IsReadEntity}
use Rattle.ir_printer.proofs.DemandsReady.{known_of, ready_fits, fits_ready, known_beyond_marks, spellable_locals}

-- ---- what a form reads is of a kind

-- what is read, and the names after it, are so
abbrev pub Always : {A : Type 0} → (A → Names → Type 0) → Form A → Type 0
Always {A = A} P f = (s : Names) (u : List Piece) (a : A) (t : Names) → f.reads s u a t → P a t

-- where a form ends
pub ends : {A : Type 0} (P : A → Names → Type 0) {x y : A × Names} → x ≡ y → P x.0 x.1 → P y.0 y.1
ends {A = A} P e h = subst (λ (x : A × Names). P x.0 x.1) e h

-- ---- a form is read as another one, without places

pub record Becomes {A B : Type 0} (image : A → B) (f : Form A) (g : Form B) : Type 0 where
  pub reads : (s : Names) (u : List Piece) (a : A) (t : Names) → f.reads s u a t → g.reads s u (image a) t

pub becomes_then : {A B B2 : Type 0} {image : B → B2} {g : A → Form B} {g2 : A → Form B2} (f : Form A) → ((a : A) → Becomes image (g a) (g2 a)) → Becomes image (f >>= g) (f >>= g2)
becomes_then f h = record { reads = λ s u b t r. (r.0, r.1, r.2, r.3, r.4, r.5, (h r.0).reads r.1 r.3 b t r.6) }

pub becomes_located : {A B B2 : Type 0} {image : B → B2} {g2 : A → Form B2} (f : Form A) (g : Place × A → Form B) → ((p : Place) (a : A) → Becomes image (g (p, a)) (g2 a)) → Becomes image (located f >>= g) (f >>= g2)
becomes_located f g h = record { reads = λ s u b t r. (r.0.1, r.1, r.2, r.3, r.4, r.5.1, (h r.0.0 r.0.1).reads r.1 r.3 b t r.6) }

pub becomes_ret : {A B : Type 0} {image : A → B} {a : A} {b : B} → image a ≡ b → Becomes image (ret a) (ret b)
becomes_ret {A = A} {image = image} e = record { reads = λ s u x t r. (r.0, ap (λ y. (y, s)) (sym e) ∙ ap (λ (y : A × Names). (image y.0, y.1)) r.1) }

-- ---- from forms to entities

-- what stands for an entity that is left out
abbrev left_out : Entity
left_out = TargetLine words.Triple []

abbrev pub image_of : List (List ℕ) → read_entities.Entity → Entity
image_of noinline x = unwrap_or (printed_of noinline x) left_out

-- an entity that is printed, and has no local names
abbrev pub IsFlat : List (List ℕ) → read_entities.Entity → Names → Type 0
IsFlat noinline x t = (printed_of noinline x ≡ Some (image_of noinline x)) × (locals_of (image_of noinline x) ≡ [])

-- outside of functions local names do not count
any_front : (n : Tables) (locals : List (List ℕ)) (s : Names) → Front false n s → Front false (tables n.symbols n.types locals) s
any_front n locals s front = (front.0, front.1, λ i. absurd cc)

entity_reprinted : (n : Tables) (l : Limits) (s : Names) (e : Entity) (t : Names) → locals_of e ≡ [] → IsReprinted false (tables n.symbols n.types []) (printed_entity l) s e t (entity_marks n.symbols e) → IsEntityReprinted n l s e t
entity_reprinted n l s e t o h = record {
  fitting = ready_fits (counts s) ms h.ready;
  counted = ap known_of h.counted ∙ known_beyond_marks (counts s) ms;
  spellable = subst (λ (xs : List (List ℕ)). AreSpellable (tables n.symbols n.types xs) ms) (sym o) h.spellable;
  rereads = λ s2 us front fit are.
      (let r = h.rereads s2 us (any_front n [] s2 front) (fits_ready (counts s2) ms fit (spellable_locals n.symbols n.types ms h.spellable (length s2.locals))) (subst (λ (xs : List (List ℕ)). Are us (tokens_of (tables n.symbols n.types xs) ms)) o are) in
      (r.0, r.1, any_front (tables n.symbols n.types []) n.locals r.0 r.2, ap known_of r.3 ∙ known_beyond_marks (counts s2) ms));
}
  where
    ms : List Mark
    ms = entity_marks n.symbols e

some_is : {A : Type 0} {o : Option A} {a b : A} → o ≡ Some a → o ≡ Some b → a ≡ b
some_is {A = A} {a = a} h g = ap (λ (o : Option A). unwrap_or o a) (sym h ∙ g)

-- an entity without local names that was read
pub read_flat : (n : Tables) (l : Limits) (noinline : List (List ℕ)) (f : Form read_entities.Entity) (g : Form Entity) (all : Entity → List Mark) → PrintsAs false (tables n.symbols n.types []) (image_of noinline) f g [] all →
    ((s : Names) (u : List Piece) (e : Entity) (t : Names) → g.reads s u e t → (printed_entity l).reads s u e t) →
    (s : Names) (u : List Piece) (x : read_entities.Entity) (t : Names) → f.reads s u x t → IsFlat noinline x t → all (image_of noinline x) ≡ entity_marks n.symbols (image_of noinline x) → IsReadEntity n l noinline s u x t
read_flat n l noinline f g all p into s u x t r flat same = record {
  indexed = p.indexed s u x t r;
  fronts = λ front. any_front m n.locals s (p.fronts s u x t r (any_front n [] t front));
  left_out = λ h. absurd (none_some (image_of noinline x) (sym h ∙ flat.0));
  prints = λ front sound e h. made e (some_is flat.0 h) (p.prints s u x t r (any_front n [] t front) sound);
}
  where
    m : Tables
    m = tables n.symbols n.types []

    none_some : (e : Entity) → None ≡ Some e → ⊥
    none_some e h = absurd cc

    made : (e : Entity) → image_of noinline x ≡ e → ((ms : List Mark) × (all (image_of noinline x) ≡ [] ++ ms) × IsReprinted false (tables n.symbols n.types []) g s (image_of noinline x) t ms) → IsEntityReprinted n l s e t
    made e is q = subst (λ (y : Entity). IsEntityReprinted n l s y t) is
        (entity_reprinted n l s (image_of noinline x) t flat.1 (reprinted_in false m g (printed_entity l) into s (image_of noinline x) t (entity_marks n.symbols (image_of noinline x))
        (subst (λ (ms : List Mark). IsReprinted false m g s (image_of noinline x) t ms) (sym q.1 ∙ same) q.2)))

-- a form of entities that are left out
read_nothing : (n : Tables) (l : Limits) (noinline : List (List ℕ)) (f : Form read_entities.Entity) → Quiet f → Always (λ x t. printed_of noinline x ≡ None) f →
    (s : Names) (u : List Piece) (x : read_entities.Entity) (t : Names) → f.reads s u x t → IsReadEntity n l noinline s u x t
read_nothing n l noinline f quiet always s u x t r = record {
  indexed = λ i. subst Indexed (quiet.same s u x t r) i;
  fronts = λ front. subst (λ (y : Names). Front false n y) (sym (quiet.same s u x t r)) front;
  left_out = λ h. quiet.same s u x t r;
  prints = λ front sound e h. absurd (none_some e (sym (always s u x t r) ∙ h));
}
  where
    none_some : (e : Entity) → None ≡ Some e → ⊥
    none_some e h = absurd cc

-- ---- what is left out

quiet_equals : Quiet equals
quiet_equals = quiet_token _

pub read_source : (n : Tables) (l : Limits) (noinline : List (List ℕ)) (s : Names) (u : List Piece) (x : read_entities.Entity) (t : Names) → source_filename.reads s u x t → IsReadEntity n l noinline s u x t
unfolding source_filename
read_source n l noinline = read_nothing n l noinline source_filename
    (quiet_then (quiet_token _) (λ (w : Unit {0}). quiet_then quiet_equals (λ (e : Unit {0}). quiet_then (quiet_token _) (λ (said : List ℕ). quiet_ret))))
    (λ s u x t r. ends (λ y z. printed_of noinline y ≡ None) r.6.6.6.1 refl)

group_left_out : (noinline : List (List ℕ)) (b : Bool) (name : List ℕ) → printed_of noinline (group_of b name) ≡ None
group_left_out noinline true name = refl
group_left_out noinline false name = refl

pub read_attributes : (n : Tables) (l : Limits) (noinline : List (List ℕ)) (s : Names) (u : List Piece) (x : read_entities.Entity) (t : Names) → attributes.reads s u x t → IsReadEntity n l noinline s u x t
unfolding attributes
read_attributes n l noinline = read_nothing n l noinline attributes
    (quiet_then (quiet_token _) (λ (w : Unit {0}). quiet_then (quiet_token _) (λ (name : List ℕ). quiet_then quiet_equals (λ (e : Unit {0}). quiet_then (quiet_group 123 125) (λ (b : Bool). quiet_ret)))))
    (λ s u x t r. ends (λ y z. printed_of noinline y ≡ None) r.6.6.6.6.1 (group_left_out noinline r.6.6.6.0 r.6.0))

pub read_metadata : (n : Tables) (l : Limits) (noinline : List (List ℕ)) (s : Names) (u : List Piece) (x : read_entities.Entity) (t : Names) → metadata.reads s u x t → IsReadEntity n l noinline s u x t
unfolding metadata
read_metadata n l noinline = read_nothing n l noinline metadata
    (quiet_then (quiet_token _) (λ (m : Unit {0}). quiet_then quiet_metadata_rest (λ (e : Unit {0}). quiet_ret)))
    (λ s u x t r. ends (λ y z. printed_of noinline y ≡ None) r.6.6.1 refl)

-- ---- target lines

str_is : (t : Token) (name : List ℕ) → text_of kinds.Str t ≡ Takes name → t ≡ tokens.Str name
str_is (tokens.Global x) name h = cc
str_is (tokens.Meta x) name h = at (is_debug x) h
  where
    at : (b : Bool) → text_if (kind_fits (kind_if (not b) kinds.Meta) (OfKind kinds.Str) || false) x ≡ Takes name → tokens.Meta x ≡ tokens.Str name
    at true h = cc
    at false h = cc
str_is (tokens.Hash x) name h = at (are_digits x) h
  where
    at : (b : Bool) → text_if (kind_fits (kind_if b kinds.Hash) (OfKind kinds.Str) || false) x ≡ Takes name → tokens.Hash x ≡ tokens.Str name
    at true h = cc
    at false h = cc
str_is (tokens.Int x) name h = cc
str_is (tokens.Word x) name h = cc
str_is (tokens.Label x) name h = cc
str_is (tokens.Local x) name h = cc
str_is (tokens.Str x) name h = cc
str_is (tokens.CStr x) name h = cc
str_is (tokens.Sign x) name h = cc
str_is tokens.End name h = cc

prints_str : {inside : Bool} {n : Tables} → Prints inside n (text kinds.Str) (text kinds.Str) [] (λ b. marks.Str b ∷ [])
prints_str = prints_token (λ t b e sound. (marks.Str b, tokens.Str b, refl, record { plain = refl; spellable = subst IsSound (str_is t b e) sound; told = refl; takes = refl }))

pub prints_equals : {inside : Bool} {n : Tables} → Prints inside n equals equals [] (λ u. marks.Spaced signs.Equals ∷ [])
prints_equals = prints_expect (sign 61) (marks.Spaced signs.Equals) (tokens.Sign 61) refl tt refl refl

abbrev pub line_word : Bool → Word
line_word true = words.DataLayout
line_word false = words.Triple

line_look : (b c a : Bool) → (if b then Takes true else (if c then Takes false else Refuses)) ≡ Takes a → (if b then Takes words.DataLayout else (if c then Takes words.Triple else Refuses)) ≡ Takes (line_word a)
line_look true c a h = let same : true ≡ a = cc in ap (λ (x : Bool). Takes (line_word x)) same
line_look false true a h = let same : false ≡ a = cc in ap (λ (x : Bool). Takes (line_word x)) same
line_look false false a h = absurd cc

line_taken : (t : Token) (a : Bool) → word_of target_words t ≡ Takes a → word_of line_words t ≡ Takes (line_word a)
line_taken (tokens.Word w) a h = line_look (bytes_eq w (codes "datalayout")) (bytes_eq w (codes "triple")) a h
line_taken (tokens.Int x) a h = absurd cc
line_taken (tokens.Label x) a h = absurd cc
line_taken (tokens.Local x) a h = absurd cc
line_taken (tokens.Global x) a h = absurd cc
line_taken (tokens.Str x) a h = absurd cc
line_taken (tokens.CStr x) a h = absurd cc
line_taken (tokens.Meta x) a h = absurd cc
line_taken (tokens.Hash x) a h = absurd cc
line_taken (tokens.Sign x) a h = absurd cc
line_taken tokens.End a h = absurd cc

line_image : (noinline : List (List ℕ)) (b : Bool) (said : List ℕ) → image_of noinline (target_of b said) ≡ TargetLine (line_word b) said
line_image noinline true said = refl
line_image noinline false said = refl

line_flat : (noinline : List (List ℕ)) (b : Bool) (said : List ℕ) (s : Names) → IsFlat noinline (target_of b said) s
line_flat noinline true said s = (refl, refl)
line_flat noinline false said s = (refl, refl)

prints_target : (n : Tables) (noinline : List (List ℕ)) → PrintsAs false n (image_of noinline) target printed_target [] (entity_marks n.symbols)
unfolding target
prints_target n noinline =
    as_next (prints_expect target_word (marks.Word words.Target) (tokens.Word (codes "target")) refl tt refl refl) (λ (w : Unit {0}).
    as_then {f = one_word target_words} (λ (x : Word). equals >>= λ e. text kinds.Str >>= λ said. ret (TargetLine x said)) (as_from (λ s u a t r. (r.0, r.1, line_taken r.0.token a r.2, r.3)) (prints_table line_words (λ x. marks.Word x ∷ []) ((words.DataLayout, refl, refl), ((words.Triple, refl, refl), tt)))) (λ (b : Bool).
    as_next prints_equals (λ (e : Unit {0}).
    as_next prints_str (λ (said : List ℕ).
    as_done (line_image noinline b said) refl))))

pub read_target : (n : Tables) (l : Limits) (noinline : List (List ℕ)) (s : Names) (u : List Piece) (x : read_entities.Entity) (t : Names) → target.reads s u x t → IsReadEntity n l noinline s u x t
unfolding target
read_target n l noinline s u x t r = read_flat n l noinline target printed_target (entity_marks n.symbols) (prints_target (tables n.symbols n.types []) noinline) (λ s2 v e t2 q. inl q) s u x t r
    (ends (IsFlat noinline) r.6.6.6.6.1 (line_flat noinline r.6.0 r.6.6.6.0 r.6.6.6.1)) refl

-- ---- type definitions

type_becomes : (l : Limits) (noinline : List (List ℕ)) → Becomes (image_of noinline) (type_def l) (printed_type l)
unfolding type_def
type_becomes l noinline =
    becomes_located (text kinds.Local) (λ (n : Place × List ℕ). act (type_name n.1) >>= λ x. equals >>= λ e. expect (word (codes "type")) >>= λ w. type_form l >>= λ t. ret (entities.Type (record { place = n.0; name = x; ty = t }))) (λ p name.
    becomes_then (act (type_name name)) (λ (x : TypeName).
    becomes_then equals (λ (e : Unit {0}).
    becomes_then (expect (word (codes "type"))) (λ (w : Unit {0}).
    becomes_then (type_form l) (λ (t : IrType).
    becomes_ret refl)))))

prints_printed_type : (n : Tables) (l : Limits) → IndexedTables n → Prints false n (printed_type l) (printed_type l) [] (entity_marks n.symbols)
prints_printed_type n l i =
    prints_joined (text kinds.Local) (λ name. act (type_name name)) (prints_type_name i) (λ (x : TypeName).
    prints_then prints_equals (λ (e : Unit {0}).
    prints_then (prints_expect (word (codes "type")) (marks.Word words.Type) (tokens.Word (codes "type")) refl tt refl refl) (λ (w : Unit {0}).
    prints_then (prints_type_form i l) (λ (t : IrType).
    prints_done refl))))

pub read_type_def : (n : Tables) (l : Limits) (noinline : List (List ℕ)) → IsIndexed n.symbols → IsIndexed n.types → (s : Names) (u : List Piece) (x : read_entities.Entity) (t : Names) → (type_def l).reads s u x t → IsReadEntity n l noinline s u x t
unfolding type_def
read_type_def n l noinline i j s u x t r =
    read_flat n l noinline (type_def l) (printed_type l) (entity_marks n.symbols)
    (as_from (type_becomes l noinline).reads (prints_printed_type (tables n.symbols n.types []) l (i, j, none_indexed))) (λ s2 v e t2 q. inr (inl q)) s u x t r
    (ends (IsFlat noinline) r.6.6.6.6.6.1 (refl, refl)) refl
