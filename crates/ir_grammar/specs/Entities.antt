-- Entities and modules.
use Rattle.std.specs.Prelude.{ℕ, ◌+◌, Bool, true, false, ◌||◌, List, [], ◌∷◌, ◌++◌, map, length, Option, Some, None, codes}
use Rattle.std.specs.List.{list_any}
use Rattle.std.specs.Str.{bytes_eq}
use Rattle.ir_lexer.specs.declared.table.Token.{Token}
use Rattle.ir_lexer.specs.declared.table.Token.TheVariants as tokens
use Rattle.ir_core.specs.declared.op.LocalId.{LocalId}
use Rattle.ir_core.specs.declared.func.Param.{Param}
use Rattle.ir_core.specs.declared.func.Func.{Func}
use Rattle.ir_core.specs.declared.module.Module as modules
use Rattle.ir_grammar.specs.declared.kinds.Kind.TheVariants as kinds
use Rattle.ir_grammar.specs.declared.kinds.Barred.TheVariants as barred
use Rattle.ir_grammar.specs.declared.which.Which.TheVariants as limits
use Rattle.ir_grammar.specs.declared.parts.Marks.{Marks}
use Rattle.ir_grammar.specs.declared.parts.Definition.{Definition}
use Rattle.ir_grammar.specs.declared.parts.Entity.{Entity}
use Rattle.ir_grammar.specs.declared.parts.Entity.TheVariants as entities
use Rattle.ir_grammar.specs.declared.parts.Draft.{Draft}
use Rattle.ir_grammar.specs.Names.{Names, type_name, define, define_next, no_locals}
use Rattle.ir_grammar.specs.Sets.{Set, BeforeName, among}
use Rattle.ir_grammar.specs.Forms.{Form, act, ret, token, Verdict, Takes, Refuses, Over, ◌>>=◌, either, rounds, located}
use Rattle.ir_grammar.specs.Tokens.{Limits, is_past, expect, sign, word, kind, words_of, one_word, text, number, skip}
use Rattle.ir_grammar.specs.Types.{type_form}
use Rattle.ir_grammar.specs.Values.{global, init}
use Rattle.ir_grammar.specs.Groups.{group}
use Rattle.ir_grammar.specs.Attributes.{meta, node, note_rest, note, no_marks, attribute, attribute_set, attribute_list, attributes_and_notes}
use Rattle.ir_grammar.specs.Operations.{in_brackets, align_word}
use Rattle.ir_grammar.specs.Bodies.{body}

-- ---- what says little of the module

abbrev pub equals : Form Unit
equals = expect (sign 61)

abbrev pub source_word : Set
source_word = word (codes "source_filename")

-- source_filename = STRING
unfoldable pub source_filename : Form Entity
source_filename = expect source_word >>= λ w. equals >>= λ e. text kinds.Str >>= λ s. ret entities.Nothing

abbrev pub target_word : Set
target_word = word (codes "target")

-- the words after `target`, each with whether it is `datalayout`
abbrev pub target_words : List (List ℕ × Bool)
target_words = (codes "datalayout", true) ∷ (codes "triple", false) ∷ []

abbrev pub target_of : Bool → List ℕ → Entity
target_of true s = entities.Layout s
target_of false s = entities.Triple s

-- target (datalayout | triple) = STRING
unfoldable pub target : Form Entity
target = do
  w ← expect target_word
  is_layout ← one_word target_words
  e ← equals
  s ← text kinds.Str
  ret (target_of is_layout s)

abbrev pub attributes_word : Set
attributes_word = word (codes "attributes")

abbrev pub group_of : Bool → List ℕ → Entity
group_of true n = entities.NoInline n
group_of false n = entities.Nothing

-- attributes HASH = GROUP
unfoldable pub attributes : Form Entity
attributes = do
  w ← expect attributes_word
  n ← text kinds.Hash
  e ← equals
  noinline ← group 123 125
  ret (group_of noinline n)

abbrev pub distinct_word : Set
distinct_word = word (codes "distinct")

-- = [ distinct ] ! GROUP
unfoldable pub metadata_rest : Form Unit
metadata_rest = equals >>= λ e. either distinct_word (expect distinct_word) (ret tt) >>= λ d. node

-- META = [ distinct ] ! GROUP
unfoldable pub metadata : Form Entity
metadata = meta >>= λ m. metadata_rest >>= λ r. ret entities.Nothing

-- ---- types and globals

-- LOCAL = type type
unfoldable pub type_def : Limits → Form Entity
type_def l = do
  n ← located (text kinds.Local)
  x ← act (type_name n.1)
  e ← equals
  w ← expect (word (codes "type"))
  t ← type_form l
  ret (entities.Type (record { place = n.0; name = x; ty = t }))

-- the words of a global, each with whether it makes the global internal
abbrev pub global_words : List (List ℕ × Bool)
global_words = (codes "internal", true) ∷ (codes "private", true) ∷ (codes "dso_local", false) ∷ (codes "dso_preemptable", false) ∷ (codes "default", false)
    ∷ (codes "hidden", false) ∷ (codes "protected", false) ∷ (codes "unnamed_addr", false) ∷ (codes "local_unnamed_addr", false) ∷ []

abbrev pub one_linkage : Bool → Form Bool
one_linkage b = one_word global_words >>= λ i. ret (b || i)

-- { gword }
unfoldable pub linkage : Bool → Form Bool
linkage = rounds (λ b. words_of global_words) one_linkage (λ b. ret b)

-- the words before a global's type, each with whether the global is constant
abbrev pub storage_words : List (List ℕ × Bool)
storage_words = (codes "global", false) ∷ (codes "constant", true) ∷ []

-- `align` INT, or a note where this is the `align` so far
abbrev pub align_or_note : Limits → Option ℕ → Form (Option ℕ)
align_or_note l a = either align_word (expect align_word >>= λ w. number l.length >>= λ n. ret (Some n)) (note >>= λ n. ret a)

abbrev pub one_global_end : Limits → Option ℕ → Form (Option ℕ)
one_global_end l a = expect (sign 44) >>= λ c. align_or_note l a

-- { , gend }; the last `align` counts
unfoldable pub global_end : Limits → Option ℕ → Form (Option ℕ)
global_end l = rounds (λ a. sign 44) (one_global_end l) (λ a. ret a)

-- GLOBAL = { gword } (global | constant) type init { , gend }
unfoldable pub global_var : Limits → Form Entity
global_var l = do
  g ← located global
  e ← equals
  i ← linkage false
  c ← one_word storage_words
  t ← type_form l
  v ← init l
  a ← global_end l None
  ret (entities.Global (record { place = g.0; name = g.1; internal = i; constant = c; ty = t; init = v; align = a }))

-- ---- functions

-- [ LOCAL ]
unfoldable pub param_name : Form LocalId
param_name = either (kind kinds.Local) (text kinds.Local >>= λ n. act (define n)) (act define_next)

-- type { attr } [ LOCAL ]
unfoldable pub param : Limits → Form Param
param l = type_form l >>= λ t. attribute_list barred.Values no_marks >>= λ m. param_name >>= λ n. ret (record { ty = t; name = n })

-- the word `define`, where so many definitions came before
abbrev pub define_if : Bool → Bool → Verdict Unit
define_if true true = Over limits.Functions
define_if true false = Takes tt
define_if false past = Refuses

abbrev pub define_of : Limits → ℕ → Token → Verdict Unit
define_of l n (tokens.Word w) = define_if (bytes_eq w (codes "define")) (is_past l.functions (n + 1))
define_of l n t = Refuses

abbrev pub define_word : Set
define_word = word (codes "define")

-- the marks of a definition without its groups
abbrev pub without_groups : Marks → Marks
without_groups m = record m { groups = [] }

abbrev pub locals_so_far : Names → List (List ℕ) × Names
locals_so_far s = (s.locals, s)

abbrev pub forget_locals : Names → Unit {0} × Names
forget_locals s = (tt, no_locals s)

-- define { attr } type GLOBAL `(` [ param { , param } ] `)` { attr | note } `{` block { block } `}`
unfoldable pub definition : Limits → ℕ → Form Entity
definition l count = do
  w ← located (token (define_of l count))
  u ← act forget_locals
  m1 ← attribute_list barred.Values no_marks
  t ← type_form l
  f ← global
  ps ← in_brackets l (param l)
  m ← attributes_and_notes (without_groups m1)
  bs ← body l
  names ← act locals_so_far
  ret (entities.Define (record {
    func = record { place = w.0; name = f; internal = m.internal; noinline = m.noinline; result = t; params = ps; locals = names; blocks = bs };
    groups = m.groups;
  }))

abbrev pub declare_word : Set
declare_word = word (codes "declare")

abbrev pub before_name : Set
before_name = BeforeName ∷ []

-- declare { any token but GLOBAL } GLOBAL GROUP, but for the attributes and notes after it
unfoldable pub declaration : Form Entity
declaration = do
  w ← located (expect declare_word)
  s ← skip before_name (expect before_name)
  f ← global
  g ← group 40 41
  ret (entities.Declare (record { place = w.0; name = f }))

-- ---- modules

abbrev pub other_entity_set : Set
other_entity_set = source_word ++ target_word ++ attributes_word ++ kind kinds.Local ++ kind kinds.Global ++ define_word ++ declare_word

-- an entity that begins with no META, where so many definitions came before
unfoldable pub other_entity : Limits → ℕ → Form Entity
other_entity l count =
    either source_word source_filename (either target_word target (either attributes_word attributes
    (either (kind kinds.Local) (type_def l) (either (kind kinds.Global) (global_var l) (either define_word (definition l count) declaration)))))

abbrev pub entity_set : Set
entity_set = kind kinds.Meta ++ other_entity_set

unfoldable pub entity : Limits → ℕ → Form Entity
entity l count = either (kind kinds.Meta) metadata (other_entity l count)

abbrev pub no_entities : Draft
no_entities = record { layout = None; triple = None; noinline = []; types = []; globals = []; definitions = []; declared = []; declares = false }

-- of several `target` lines of one kind the last one counts
abbrev pub added : Draft → Entity → Draft
added d entities.Nothing = record d { declares = false }
added d (entities.Layout s) = record d { layout = Some s; declares = false }
added d (entities.Triple s) = record d { triple = Some s; declares = false }
added d (entities.NoInline n) = record d { noinline = d.noinline ++ n ∷ []; declares = false }
added d (entities.Type t) = record d { types = d.types ++ t ∷ []; declares = false }
added d (entities.Global g) = record d { globals = d.globals ++ g ∷ []; declares = false }
added d (entities.Define f) = record d { definitions = d.definitions ++ f ∷ []; declares = false }
added d (entities.Declare f) = record d { declared = d.declared ++ f ∷ []; declares = true }

-- the function of a definition, where these groups have the word `noinline`
abbrev pub function_of : List (List ℕ) → Definition → Func
function_of noinline d = record d.func { noinline = d.func.noinline || list_any (λ n. among noinline n) d.groups }

abbrev pub module_of : Draft → Names → modules.Module
module_of d s = record {
  symbols = s.symbols;
  types = record { names = s.types; defs = d.types };
  globals = d.globals;
  funcs = map (function_of d.noinline) d.definitions;
  declared = d.declared;
  layout = d.layout;
  triple = d.triple;
}

abbrev pub rest_of_note_or_metadata : Draft → Form Draft
rest_of_note_or_metadata d = either (kind kinds.Meta ++ sign 33) (note_rest >>= λ n. ret d) (metadata_rest >>= λ r. ret (added d entities.Nothing))

-- After a declaration a META begins a note of it, or with `=` a metadata entity
unfoldable pub note_or_metadata : Draft → Form Draft
note_or_metadata d = meta >>= λ m. rest_of_note_or_metadata d

-- the entities with the next one, which begins with no META
abbrev pub with_other_entity : Limits → Draft → Form Draft
with_other_entity l d = other_entity l (length d.definitions) >>= λ e. ret (added d e)

abbrev pub with_entity : Limits → Draft → Form Draft
with_entity l d = entity l (length d.definitions) >>= λ e. ret (added d e)

-- After a declaration: an attribute or a note of it, or the next entity
unfoldable pub after_declaration : Limits → Draft → Form Draft
after_declaration l d =
    either (kind kinds.Meta) (note_or_metadata d)
    (either (attribute_set barred.Nothing) (attribute barred.Nothing >>= λ a. ret d)
    (with_other_entity l d))

abbrev pub next_entity : Limits → Draft → Bool → Form Draft
next_entity l d true = after_declaration l d
next_entity l d false = with_entity l d

abbrev pub next_set : Bool → Set
next_set true = attribute_set barred.Nothing ++ entity_set
next_set false = entity_set

abbrev pub text_end : Draft → Form modules.Module
text_end d = expect (kind kinds.End) >>= λ e. act (λ s. (module_of d s, s))

-- { entity } END
unfoldable pub text_form : Limits → Form modules.Module
text_form l = rounds (λ d. next_set d.declares) (λ d. next_entity l d d.declares) (λ d. text_end d) no_entities
