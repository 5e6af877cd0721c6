-- The laws of entities and of whole texts.
use Rattle.std.proofs.Common.{◌≡◌, ℕ, ◌+◌, Bool, true, false, ◌||◌, List, [], ◌∷◌, ◌++◌, length, refl}
use Rattle.std.specs.Prelude.{Option, Some, None, codes}
use Rattle.std.specs.Str.{bytes_eq}
use Rattle.oi_base.specs.declared.ids.Place.{Place}
use Rattle.ir_lexer.specs.declared.table.Token.{Token}
use Rattle.ir_lexer.specs.declared.table.Token.TheVariants as tokens
use Rattle.ir_core.specs.declared.ty.IrType.{IrType}
use Rattle.ir_core.specs.declared.ty.TypeName.{TypeName}
use Rattle.ir_core.specs.declared.constant.Const.{Const}
use Rattle.ir_core.specs.declared.op.LocalId.{LocalId}
use Rattle.ir_core.specs.declared.func.Block.{Block}
use Rattle.ir_core.specs.declared.func.Param.{Param}
use Rattle.ir_core.specs.declared.module.SymId.{SymId}
use Rattle.ir_grammar.specs.declared.kinds.Kind.TheVariants as kinds
use Rattle.ir_grammar.specs.declared.kinds.Barred.TheVariants as barred
use Rattle.ir_grammar.specs.declared.parts.Attribute.{Attribute}
use Rattle.ir_grammar.specs.declared.parts.Marks.{Marks}
use Rattle.ir_grammar.specs.declared.parts.Entity.{Entity}
use Rattle.ir_grammar.specs.declared.parts.Entity.TheVariants as entities
use Rattle.ir_grammar.specs.declared.parts.Draft.{Draft}
use Rattle.ir_grammar.specs.Names.{type_name, define, define_next}
use Rattle.ir_grammar.specs.Sets.{Set, Any, apart}
use Rattle.ir_grammar.specs.Forms.{token}
use Rattle.ir_grammar.specs.Tokens.{Limits, is_past, sign, kind, words_of}
use Rattle.ir_grammar.specs.Types.{type_set}
use Rattle.ir_grammar.specs.Attributes.{no_marks, attribute_set}
use Rattle.ir_grammar.specs.Operations.{in_brackets}
use Rattle.ir_grammar.specs.Entities.{equals, source_word, source_filename, target_word, target_words, target_of, target, attributes_word, group_of, attributes, metadata_rest, metadata, type_def, global_words, linkage, storage_words, global_end, global_var, param_name, param, define_if, define_of, define_word, without_groups, locals_so_far, forget_locals, definition, declare_word, before_name, declaration, other_entity_set, other_entity, entity_set, entity, no_entities, added, module_of, note_or_metadata, after_declaration, next_entity, next_set, text_end, text_form}
use Rattle.ir_grammar.proofs.FormLaws.{Shape, Law, Fits, law_token}
use Rattle.ir_grammar.proofs.LawsOfRounds.{law_rounds}
use Rattle.ir_grammar.proofs.Rules.{spot, begins_with, goes_on_with, maybe, seq, or, again, done, does, placed, expects, law_one_word, shaped}
use Rattle.ir_grammar.proofs.LawsOfTokens.{is_sign, is_word, law_text, law_number, law_skip}
use Rattle.ir_grammar.proofs.LawsOfTypes.{law_type_form}
use Rattle.ir_grammar.proofs.LawsOfValues.{law_global, law_init}
use Rattle.ir_grammar.proofs.LawsOfGroups.{law_group}
use Rattle.ir_grammar.proofs.LawsOfAttributes.{law_meta, law_node, law_note_rest, law_note, law_string, law_hash, attribute_greedy, law_attribute, law_attribute_list, law_attributes_and_notes}
use Rattle.ir_grammar.proofs.LawsOfOperations.{AnyParams, law_more_items}
use Rattle.ir_grammar.proofs.LawsOfBodies.{law_body}

law_equals : {w : Bool} → Law w equals (begins_with (sign 61))
law_equals = is_sign 61 refl

pub law_source : {w : Bool} → Law w source_filename (begins_with source_word)
unfolding source_filename
law_source = seq (is_word (codes "source_filename") refl) (λ (u : Unit). seq law_equals (λ (e : Unit). seq law_string (λ (s : List ℕ). done entities.Nothing) refl) refl) refl

pub law_target : {w : Bool} → Law w target (begins_with target_word)
unfolding target
law_target =
    seq (is_word (codes "target") refl) (λ (u : Unit). seq (law_one_word target_words (codes "triple") false refl) (λ (is_layout : Bool).
    seq law_equals (λ (e : Unit). seq law_string (λ (s : List ℕ). done (target_of is_layout s)) refl) refl) refl) refl

pub law_attributes : {w : Bool} → Law w attributes (begins_with attributes_word)
unfolding attributes
law_attributes =
    seq (is_word (codes "attributes") refl) (λ (u : Unit). seq law_hash (λ (n : List ℕ). seq law_equals (λ (e : Unit).
    seq (law_group 123 125 refl) (λ (noinline : Bool). done (group_of noinline n)) refl) refl) refl) refl

law_metadata_rest : {w : Bool} → Law w metadata_rest (begins_with (sign 61))
unfolding metadata_rest
law_metadata_rest = seq law_equals (λ (e : Unit). seq (or (is_word (codes "distinct") refl) (done tt) refl refl) (λ (d : Unit). law_node) refl) refl

pub law_metadata : {w : Bool} → Law w metadata (begins_with (kind kinds.Meta))
unfolding metadata
law_metadata = seq law_meta (λ (m : Unit). seq law_metadata_rest (λ (r : Unit). done entities.Nothing) refl) refl

law_type_def : {w : Bool} (l : Limits) → Law w (type_def l) (begins_with (kind kinds.Local))
unfolding type_def
law_type_def l =
    seq (placed (law_text kinds.Local (tokens.Local []) refl) refl) (λ (n : Place × List ℕ). seq (does (type_name n.1)) (λ (x : TypeName). seq law_equals (λ (e : Unit). seq (is_word (codes "type") refl) (λ (u : Unit).
    seq (law_type_form l) (λ (t : IrType). done (entities.Type (record { place = n.0; name = x; ty = t }))) refl) refl) refl) refl) refl

pub law_linkage : {w : Bool} (b : Bool) → Law w (linkage b) (maybe (words_of global_words) (words_of global_words))
unfolding linkage
law_linkage b = again (λ (b : Bool). seq (law_one_word global_words (codes "internal") true refl) (λ (i : Bool). done (b || i)) refl) (λ (b : Bool). done b) refl refl refl refl b

law_global_end : {w : Bool} (l : Limits) (a : Option ℕ) → Law w (global_end l a) (maybe (sign 44) (sign 44))
unfolding global_end
law_global_end l a =
    again (λ (a : Option ℕ). seq (is_sign 44 refl) (λ (c : Unit). or (seq (is_word (codes "align") refl) (λ (u : Unit). seq (law_number l.length) (λ (n : ℕ). done (Some n)) refl) refl) (seq law_note (λ (n : Unit). done a) refl) refl refl) refl) (λ (a : Option ℕ). done a) refl refl refl refl a

law_global_var : {w : Bool} (l : Limits) → Law w (global_var l) (goes_on_with (kind kinds.Global) (sign 44))
unfolding global_var
law_global_var l =
    seq (placed law_global refl) (λ (g : Place × SymId). seq law_equals (λ (e : Unit). seq (law_linkage false) (λ (i : Bool).
    seq (law_one_word storage_words (codes "global") false refl) (λ (c : Bool). seq (law_type_form l) (λ (t : IrType). seq (law_init l) (λ (v : Const).
    seq (law_global_end l None) (λ (a : Option ℕ). done (entities.Global (record { place = g.0; name = g.1; internal = i; constant = c; ty = t; init = v; align = a }))) refl) refl) refl) refl) refl) refl) refl

-- ---- functions

pub law_param_name : {w : Bool} → Law w param_name (maybe (kind kinds.Local) (kind kinds.Local))
unfolding param_name
law_param_name = shaped (or (seq (law_text kinds.Local (tokens.Local []) refl) (λ (n : List ℕ). does (define n)) refl) (does define_next) refl refl) (kind kinds.Local) (kind kinds.Local) refl refl

abbrev param_ends : Set
param_ends = kind kinds.Local ++ attribute_greedy ++ attribute_set barred.Values

pub law_param : {w : Bool} (l : Limits) → Law w (param l) (goes_on_with (type_set true) param_ends)
unfolding param
law_param l =
    shaped (seq (law_type_form l) (λ (t : IrType). seq (law_attribute_list barred.Values no_marks) (λ (m : Marks). seq law_param_name (λ (n : LocalId). done (record { ty = t; name = n })) refl) refl) refl) (type_set true) param_ends refl refl

law_params : {w : Bool} (l : Limits) → AnyParams w l → Law w (in_brackets l (param l)) (begins_with (sign 40))
law_params l h =
    let more = λ (xs : List Param). law_more_items l h (law_param l) refl refl refl refl xs in
    seq (is_sign 40 refl) (λ (o : Unit). seq (or (shaped (seq (law_param l) (λ (a : Param). more (a ∷ [])) refl) (type_set true) (sign 44 ++ param_ends) refl refl) (done []) refl refl) (λ (xs : List Param).
    seq (is_sign 41 refl) (λ (d : Unit). done xs) refl) refl) refl

-- no number of definitions is too many
abbrev pub AnyFunctions : Bool → Limits → Type 0
AnyFunctions w l = w ≡ true → (n : ℕ) → is_past l.functions n ≡ false

law_define : {w : Bool} (l : Limits) (count : ℕ) → AnyFunctions w l → Law w (token (define_of l count)) (begins_with define_word)
law_define l count h = law_token (define_of l count) define_word fit (λ free. (spot (tokens.Word (codes "define")), tt, rw (h free (count + 1)) refl))
  where
    define_fits : (n : List ℕ) (b past : Bool) → bytes_eq n (codes "define") ≡ b → Fits define_word (tokens.Word n) (define_if b past)
    define_fits n true true e = rw e refl
    define_fits n true false e = rw e refl
    define_fits n false past e = tt

    fit : (t : Token) → Fits define_word t (define_of l count t)
    fit (tokens.Word n) = define_fits n (bytes_eq n (codes "define")) (is_past l.functions (count + 1)) refl
    fit (tokens.Int n) = tt
    fit (tokens.Label n) = tt
    fit (tokens.Local n) = tt
    fit (tokens.Global n) = tt
    fit (tokens.Str n) = tt
    fit (tokens.CStr n) = tt
    fit (tokens.Meta n) = tt
    fit (tokens.Hash n) = tt
    fit (tokens.Sign n) = tt
    fit tokens.End = tt

law_definition : {w : Bool} (l : Limits) (count : ℕ) → AnyParams w l → AnyFunctions w l → Law w (definition l count) (begins_with define_word)
unfolding definition
law_definition l count h k =
    seq (placed (law_define l count k) refl) (λ (d : Place × Unit). seq (does forget_locals) (λ (u : Unit {0}). seq (law_attribute_list barred.Values no_marks) (λ (m1 : Marks). seq (law_type_form l) (λ (t : IrType).
    seq law_global (λ (f : SymId). seq (law_params l h) (λ (ps : List Param). seq (law_attributes_and_notes (without_groups m1)) (λ (m : Marks). seq (law_body l h) (λ (bs : List Block).
    seq (does locals_so_far) (λ (names : List (List ℕ)). done (entities.Define (record {
      func = record { place = d.0; name = f; internal = m.internal; noinline = m.noinline; result = t; params = ps; locals = names; blocks = bs };
      groups = m.groups;
    }))) refl) refl) refl) refl) refl) refl) refl) refl) refl

pub law_declaration : {w : Bool} → Law w declaration (begins_with declare_word)
unfolding declaration
law_declaration =
    seq (placed (is_word (codes "declare") refl) refl) (λ (d : Place × Unit). seq (law_skip (expects before_name (tokens.Word []) refl) refl refl refl) (λ (s : Unit). seq law_global (λ (f : SymId).
    seq (law_group 40 41 refl) (λ (g : Bool). done (entities.Declare (record { place = d.0; name = f }))) refl) refl) refl) refl

-- ---- texts

abbrev entity_greedy : Set
entity_greedy = sign 44

law_other_entity : {w : Bool} (l : Limits) (count : ℕ) → AnyParams w l → AnyFunctions w l → Law w (other_entity l count) (goes_on_with other_entity_set entity_greedy)
unfolding other_entity
law_other_entity l count h k =
    shaped (or law_source (or law_target (or law_attributes (or (law_type_def l) (or (law_global_var l) (or (law_definition l count h k) law_declaration refl refl) refl refl) refl refl) refl refl) refl refl) refl refl) other_entity_set entity_greedy refl refl

law_entity : {w : Bool} (l : Limits) (count : ℕ) → AnyParams w l → AnyFunctions w l → Law w (entity l count) (goes_on_with entity_set entity_greedy)
unfolding entity
law_entity l count h k = or law_metadata (law_other_entity l count h k) refl refl

pub law_note_or_metadata : {w : Bool} (d : Draft) → Law w (note_or_metadata d) (begins_with (kind kinds.Meta))
unfolding note_or_metadata
law_note_or_metadata d = seq law_meta (λ (m : Unit). or (seq law_note_rest (λ (n : Unit). done d) refl) (seq law_metadata_rest (λ (r : Unit). done (added d entities.Nothing)) refl) refl refl) refl

abbrev pub step_greedy : Set
step_greedy = entity_greedy ++ attribute_greedy

law_after_declaration : {w : Bool} (l : Limits) (d : Draft) → AnyParams w l → AnyFunctions w l → Law w (after_declaration l d) (goes_on_with (next_set true) step_greedy)
unfolding after_declaration
law_after_declaration l d h k =
    shaped (or (law_note_or_metadata d) (or (seq (law_attribute barred.Nothing) (λ (a : Attribute). done d) refl) (seq (law_other_entity l (length d.definitions) h k) (λ (e : Entity). done (added d e)) refl) refl refl) refl refl) (next_set true) step_greedy refl refl

abbrev pub z : Bool → Shape
z b = goes_on_with (next_set b) step_greedy

pub law_next_entity : {w : Bool} (l : Limits) (d : Draft) (b : Bool) → AnyParams w l → AnyFunctions w l → Law w (next_entity l d b) (z b)
law_next_entity l d true h k = law_after_declaration l d h k
law_next_entity l d false h k = shaped (seq (law_entity l (length d.definitions) h k) (λ (e : Entity). done (added d e)) refl) entity_set step_greedy refl refl

-- after the end of a text nothing stands
abbrev pub any_more : Set
any_more = Any ∷ []

pub law_text_end : {w : Bool} (d : Draft) → Law w (text_end d) (goes_on_with (kind kinds.End) any_more)
law_text_end d = seq (expects (kind kinds.End) tokens.End refl) (λ (e : Unit). does (λ s. (module_of d s, s))) refl

apart_end : (b : Bool) → apart (next_set b) (kind kinds.End) ≡ true
apart_end true = refl
apart_end false = refl

apart_next : (b : Bool) → apart step_greedy (next_set b) ≡ true
apart_next true = refl
apart_next false = refl

abbrev pub text_shape : Shape
text_shape = goes_on_with (entity_set ++ kind kinds.End) any_more

pub law_text_form : {w : Bool} (l : Limits) → AnyParams w l → AnyFunctions w l → Law w (text_form l) text_shape
unfolding text_form
law_text_form l h k =
    law_rounds (λ (d : Draft). next_set d.declares) (λ (d : Draft). next_entity l d d.declares) (λ (d : Draft). text_end d) (λ (d : Draft). z d.declares) (λ (d : Draft). goes_on_with (kind kinds.End) any_more) any_more
    (λ (d : Draft). law_next_entity l d d.declares h k) (λ (d : Draft). law_text_end d) (λ d. refl) (λ d. refl) (λ d. apart_end d.declares) (λ d d2. apart_next d2.declares) (λ d d2. refl) (λ d d2 ts e. e) no_entities
