-- Entities keep the names, and are right.
use Rattle.std.proofs.Common.{◌≡◌, ℕ, ◌≤◌, ◌+◌, Bool, true, false, List, ◌++◌, length, refl, arith}
use Rattle.std.specs.Prelude.{⊤, ◌||◌, Option, Some, None, codes}
use Rattle.std.specs.List.{AllByRecursion as Each}
use Rattle.std.proofs.lemmas.List.{length_push}
use Rattle.oi_base.specs.declared.ids.Place.{Place}
use Rattle.ir_core.specs.declared.limits.TheConstants.{MOST_FUNCTIONS}
use Rattle.ir_core.specs.declared.ty.IrType.{IrType}
use Rattle.ir_core.specs.declared.ty.TypeName.{TypeName}
use Rattle.ir_core.specs.declared.ty.TypeDef.{TypeDef}
use Rattle.ir_core.specs.declared.module.SymId.{SymId}
use Rattle.ir_core.specs.declared.module.GlobalVar.{GlobalVar}
use Rattle.ir_core.specs.declared.module.Declaration.{Declaration}
use Rattle.ir_core.specs.declared.module.Module as modules
use Rattle.ir_core.specs.declared.constant.Const.{Const}
use Rattle.ir_grammar.specs.declared.kinds.Kind.TheVariants as kinds
use Rattle.ir_grammar.specs.declared.kinds.Barred.TheVariants as barred
use Rattle.ir_grammar.specs.declared.parts.Attribute.{Attribute}
use Rattle.ir_grammar.specs.declared.parts.Definition.{Definition}
use Rattle.ir_grammar.specs.declared.parts.Entity.{Entity}
use Rattle.ir_grammar.specs.declared.parts.Entity.TheVariants as entities
use Rattle.ir_grammar.specs.declared.parts.Draft.{Draft}
use Rattle.ir_grammar.specs.Names.{Names}
use Rattle.ir_grammar.specs.Tokens.{stated, sign, word, kind, words_of}
use Rattle.ir_grammar.specs.Attributes.{attribute_set}
use Rattle.ir_grammar.specs.Operations.{align_word}
use Rattle.ir_grammar.specs.Entities.{equals, source_word, source_filename, target_word, target_words, target_of, target, attributes_word, group_of, attributes, distinct_word, metadata_rest, metadata, type_def, global_words, linkage, storage_words, global_end, global_var, define_word, declare_word, before_name, declaration, other_entity, entity, no_entities, added, module_of, note_or_metadata, after_declaration, next_entity, next_set, text_end, text_form}
use Rattle.ir_proper.proofs.Kept.{each_push, grows_same, Any, Keeps, keeps_more, keeps_ret, keeps_act, keeps_expect, keeps_then, keeps_either, keeps_rounds, keeps_located, keeps_skip}
use Rattle.ir_proper.proofs.KeptNames.{KnownSymbol, KnownType, keeps_type_name}
use Rattle.ir_proper.proofs.KeptTokens.{keeps_any_word, keeps_text, keeps_any_number}
use Rattle.ir_proper.proofs.Good.{GoodType, GoodConst}
use Rattle.ir_proper.proofs.KeptTypes.{keeps_type}
use Rattle.ir_proper.proofs.KeptValues.{keeps_global, keeps_init}
use Rattle.ir_proper.proofs.KeptAttributes.{keeps_group, keeps_meta, keeps_node, keeps_note_rest, keeps_note, keeps_attribute}
use Rattle.ir_proper.proofs.KeptDefinitions.{GoodFunc, GoodDefine, keeps_definition}

-- ---- entities

pub record GoodTypeDef (n : Names) (d : TypeDef) : Type 0 where
  pub name : KnownType n d.name
  pub ty : GoodType n d.ty

pub record GoodGlobal (n : Names) (g : GlobalVar) : Type 0 where
  pub name : KnownSymbol n g.name
  pub ty : GoodType n g.ty
  pub init : GoodConst n g.init

-- so many definitions came before
abbrev pub GoodEntity : Names → ℕ → Entity → Type 0
GoodEntity n k entities.Nothing = ⊤
GoodEntity n k (entities.Layout s) = ⊤
GoodEntity n k (entities.Triple s) = ⊤
GoodEntity n k (entities.NoInline s) = ⊤
GoodEntity n k (entities.Type d) = GoodTypeDef n d
GoodEntity n k (entities.Global g) = GoodGlobal n g
GoodEntity n k (entities.Define d) = GoodFunc n d.func × (k + 1 ≤ MOST_FUNCTIONS)
GoodEntity n k (entities.Declare d) = KnownSymbol n d.name

keeps_equals : {b : Bool} {n : Names} {H : Type 0} → Keeps b n H equals Any
keeps_equals = keeps_expect (sign 61)

keeps_source : {b : Bool} {n : Names} {H : Type 0} (k : ℕ) → Keeps b n H source_filename (GoodEntity n k)
unfolding source_filename
keeps_source k = keeps_then (keeps_expect source_word) (λ (w : Unit). keeps_then keeps_equals (λ (e : Unit). keeps_then (keeps_text kinds.Str) (λ (s : List ℕ). keeps_ret entities.Nothing (λ g. tt))))

target_good : (n : Names) (k : ℕ) (c : Bool) (s : List ℕ) → GoodEntity n k (target_of c s)
target_good n k true s = tt
target_good n k false s = tt

keeps_target : {b : Bool} {n : Names} {H : Type 0} (k : ℕ) → Keeps b n H target (GoodEntity n k)
unfolding target
keeps_target {n = n} k =
    keeps_then (keeps_expect target_word) (λ (w : Unit). keeps_then (keeps_any_word target_words) (λ (c : Bool). keeps_then keeps_equals (λ (e : Unit). keeps_then (keeps_text kinds.Str) (λ (s : List ℕ). keeps_ret (target_of c s) (λ g. target_good n k c s)))))

group_good : (n : Names) (k : ℕ) (c : Bool) (s : List ℕ) → GoodEntity n k (group_of c s)
group_good n k true s = tt
group_good n k false s = tt

keeps_attributes : {b : Bool} {n : Names} {H : Type 0} (k : ℕ) → Keeps b n H attributes (GoodEntity n k)
unfolding attributes
keeps_attributes {n = n} k =
    keeps_then (keeps_expect attributes_word) (λ (w : Unit). keeps_then (keeps_text kinds.Hash) (λ (s : List ℕ). keeps_then keeps_equals (λ (e : Unit). keeps_then (keeps_group 123 125) (λ (c : Bool). keeps_ret (group_of c s) (λ g. group_good n k c s)))))

keeps_metadata_rest : {b : Bool} {n : Names} {H : Type 0} → Keeps b n H metadata_rest Any
unfolding metadata_rest
keeps_metadata_rest = keeps_then keeps_equals (λ (e : Unit). keeps_then (keeps_either distinct_word (keeps_expect distinct_word) (keeps_ret tt (λ g. tt))) (λ (d : Unit). keeps_node))

keeps_metadata : {b : Bool} {n : Names} {H : Type 0} (k : ℕ) → Keeps b n H metadata (GoodEntity n k)
unfolding metadata
keeps_metadata k = keeps_then keeps_meta (λ (m : Unit). keeps_then keeps_metadata_rest (λ (r : Unit). keeps_ret entities.Nothing (λ g. tt)))

keeps_type_def : {b : Bool} {n : Names} {H : Type 0} (k : ℕ) → Keeps b n H (type_def stated) (GoodEntity n k)
unfolding type_def
keeps_type_def k =
    keeps_then (keeps_located (keeps_text kinds.Local)) (λ (name : Place × List ℕ). keeps_then (keeps_type_name name.1) (λ (x : TypeName). keeps_then keeps_equals (λ (e : Unit). keeps_then (keeps_expect (word (codes "type"))) (λ (w : Unit).
    keeps_then (keeps_type stated) (λ (t : IrType). keeps_ret (entities.Type (record { place = name.0; name = x; ty = t })) (λ g. record { name = g.1.1.1.0; ty = g.0 }))))))

keeps_linkage : {b : Bool} {n : Names} {H : Type 0} (i : Bool) → Keeps b n H (linkage i) Any
unfolding linkage
keeps_linkage i = keeps_rounds (λ b. words_of global_words) Any (λ (c : Bool). keeps_then (keeps_any_word global_words) (λ (d : Bool). keeps_ret (c || d) (λ g. tt))) (λ (c : Bool). keeps_ret c (λ g. tt)) i (λ g. tt)

keeps_global_end : {b : Bool} {n : Names} {H : Type 0} (a : Option ℕ) → Keeps b n H (global_end stated a) Any
unfolding global_end
keeps_global_end a =
    keeps_rounds (λ a. sign 44) Any (λ (x : Option ℕ). keeps_then (keeps_expect (sign 44)) (λ (c : Unit). keeps_either align_word
    (keeps_then (keeps_expect align_word) (λ (w : Unit). keeps_then (keeps_any_number stated.length) (λ (m : ℕ). keeps_ret (Some m) (λ g. tt)))) (keeps_then keeps_note (λ (e : Unit). keeps_ret x (λ g. tt)))))
    (λ (x : Option ℕ). keeps_ret x (λ g. tt)) a (λ g. tt)

keeps_global_var : {b : Bool} {n : Names} {H : Type 0} (k : ℕ) → Keeps b n H (global_var stated) (GoodEntity n k)
unfolding global_var
keeps_global_var k =
    keeps_then (keeps_located keeps_global) (λ (x : Place × SymId). keeps_then keeps_equals (λ (e : Unit). keeps_then (keeps_linkage false) (λ (i : Bool). keeps_then (keeps_any_word storage_words) (λ (c : Bool). keeps_then (keeps_type stated) (λ (t : IrType).
    keeps_then (keeps_init stated) (λ (v : Const). keeps_then (keeps_global_end None) (λ (a : Option ℕ). keeps_ret (entities.Global (record { place = x.0; name = x.1; internal = i; constant = c; ty = t; init = v; align = a }))
    (λ g. record { name = g.1.1.1.1.1.1.0; ty = g.1.1.0; init = g.1.0 }))))))))

keeps_declaration : {b : Bool} {n : Names} {H : Type 0} (k : ℕ) → Keeps b n H declaration (GoodEntity n k)
unfolding declaration
keeps_declaration k =
    keeps_then (keeps_located (keeps_expect declare_word)) (λ (w : Place × Unit). keeps_then (keeps_skip before_name (keeps_expect before_name)) (λ (s : Unit). keeps_then keeps_global (λ (f : SymId). keeps_then (keeps_group 40 41) (λ (c : Bool).
    keeps_ret (entities.Declare (record { place = w.0; name = f })) (λ g. g.1.0)))))

define_entity : (n : Names) (k : ℕ) (e : Entity) → GoodDefine n k e → GoodEntity n k e
define_entity n k (entities.Define d) h = h
define_entity n k entities.Nothing h = absurd h
define_entity n k (entities.Layout s) h = absurd h
define_entity n k (entities.Triple s) h = absurd h
define_entity n k (entities.NoInline s) h = absurd h
define_entity n k (entities.Type d) h = absurd h
define_entity n k (entities.Global g) h = absurd h
define_entity n k (entities.Declare d) h = absurd h

keeps_other_entity : {n : Names} {H : Type 0} (k : ℕ) → Keeps false n H (other_entity stated k) (GoodEntity n k)
unfolding other_entity
keeps_other_entity {n = n} k =
    keeps_either source_word (keeps_source k) (keeps_either target_word (keeps_target k) (keeps_either attributes_word (keeps_attributes k)
    (keeps_either (kind kinds.Local) (keeps_type_def k) (keeps_either (kind kinds.Global) (keeps_global_var k) (keeps_either define_word (keeps_more (keeps_definition stated k) (λ h e g. define_entity n k e (g refl))) (keeps_declaration k))))))

keeps_entity : {n : Names} {H : Type 0} (k : ℕ) → Keeps false n H (entity stated k) (GoodEntity n k)
unfolding entity
keeps_entity k = keeps_either (kind kinds.Meta) (keeps_metadata k) (keeps_other_entity k)

-- ---- the entities so far

pub record GoodDraft (n : Names) (d : Draft) : Type 0 where
  pub types : Each (GoodTypeDef n) d.types
  pub globals : Each (GoodGlobal n) d.globals
  pub definitions : Each (λ (x : Definition). GoodFunc n x.func) d.definitions
  pub declared : Each (λ (x : Declaration). KnownSymbol n x.name) d.declared
  pub few : length d.definitions ≤ MOST_FUNCTIONS

added_good : (n : Names) (d : Draft) (e : Entity) → GoodDraft n d → GoodEntity n (length d.definitions) e → GoodDraft n (added d e)
added_good n d entities.Nothing h k = record { types = h.types; globals = h.globals; definitions = h.definitions; declared = h.declared; few = h.few }
added_good n d (entities.Layout s) h k = record { types = h.types; globals = h.globals; definitions = h.definitions; declared = h.declared; few = h.few }
added_good n d (entities.Triple s) h k = record { types = h.types; globals = h.globals; definitions = h.definitions; declared = h.declared; few = h.few }
added_good n d (entities.NoInline s) h k = record { types = h.types; globals = h.globals; definitions = h.definitions; declared = h.declared; few = h.few }
added_good n d (entities.Type t) h k = record { types = each_push (GoodTypeDef n) d.types t h.types k; globals = h.globals; definitions = h.definitions; declared = h.declared; few = h.few }
added_good n d (entities.Global g) h k = record { types = h.types; globals = each_push (GoodGlobal n) d.globals g h.globals k; definitions = h.definitions; declared = h.declared; few = h.few }
added_good n d (entities.Define f) h k = record {
  types = h.types;
  globals = h.globals;
  definitions = each_push (λ (x : Definition). GoodFunc n x.func) d.definitions f h.definitions k.0;
  declared = h.declared;
  few = let e = length_push d.definitions f in let less = k.1 in omega (arith, e, less);
}
added_good n d (entities.Declare f) h k = record { types = h.types; globals = h.globals; definitions = h.definitions; declared = each_push (λ (x : Declaration). KnownSymbol n x.name) d.declared f h.declared k; few = h.few }

keeps_note_or_metadata : {n : Names} {H : Type 0} (d : Draft) → (H → GoodDraft n d) → Keeps false n H (note_or_metadata d) (GoodDraft n)
unfolding note_or_metadata
keeps_note_or_metadata {n = n} d h =
    keeps_then keeps_meta (λ (m : Unit). keeps_either (kind kinds.Meta ++ sign 33) (keeps_then keeps_note_rest (λ (e : Unit). keeps_ret d (λ g. h g.1.1)))
    (keeps_then keeps_metadata_rest (λ (r : Unit). keeps_ret (added d entities.Nothing) (λ g. added_good n d entities.Nothing (h g.1.1) tt))))

keeps_after_declaration : {n : Names} {H : Type 0} (d : Draft) → (H → GoodDraft n d) → Keeps false n H (after_declaration stated d) (GoodDraft n)
unfolding after_declaration
keeps_after_declaration {n = n} d h =
    keeps_either (kind kinds.Meta) (keeps_note_or_metadata d h) (keeps_either (attribute_set barred.Nothing) (keeps_then (keeps_attribute barred.Nothing) (λ (a : Attribute). keeps_ret d (λ g. h g.1)))
    (keeps_then (keeps_other_entity (length d.definitions)) (λ (e : Entity). keeps_ret (added d e) (λ g. added_good n d e (h g.1) g.0))))

keeps_next_entity : {n : Names} {H : Type 0} (d : Draft) (c : Bool) → (H → GoodDraft n d) → Keeps false n H (next_entity stated d c) (GoodDraft n)
keeps_next_entity d true h = keeps_after_declaration d h
keeps_next_entity {n = n} d false h = keeps_then (keeps_entity (length d.definitions)) (λ (e : Entity). keeps_ret (added d e) (λ g. added_good n d e (h g.1) g.0))

-- ---- texts

-- the module is made of right entities and names of some time
abbrev pub GoodText : Names → modules.Module → Type 0
GoodText n m = (d : Draft) × (s : Names) × GoodDraft n d × (m ≡ module_of d s)

keeps_text_end : {n : Names} {H : Type 0} (d : Draft) → (H → GoodDraft n d) → Keeps false n H (text_end d) (GoodText n)
keeps_text_end {n = n} d h =
    keeps_then (keeps_expect (kind kinds.End)) (λ (e : Unit). keeps_act {P = GoodText n} (λ s. (module_of d s, s)) (grows_same false) (λ g s w k. ((d, s, h g.1, refl), w)))

pub keeps_text_form : {n : Names} {H : Type 0} → Keeps false n H (text_form stated) (GoodText n)
unfolding text_form
keeps_text_form {n = n} =
    keeps_rounds (λ (d : Draft). next_set d.declares) (GoodDraft n) (λ (d : Draft). keeps_next_entity d d.declares (λ g. g.0)) (λ (d : Draft). keeps_text_end d (λ g. g.0)) no_entities
    (λ g. record { types = tt; globals = tt; definitions = tt; declared = tt; few = omega arith })
