-- The text of a module.
use Rattle.std.specs.Prelude.{ℕ, Bool, true, false, List, [], ◌∷◌, ◌++◌, map, Option, Some, None, if◌then◌else◌}
use Rattle.ir_core.specs.declared.ty.TypeDef.{TypeDef}
use Rattle.ir_core.specs.declared.func.Func.{Func}
use Rattle.ir_core.specs.declared.module.GlobalVar.{GlobalVar}
use Rattle.ir_core.specs.declared.module.Declaration.{Declaration}
use Rattle.ir_core.specs.declared.module.Module as modules
use Rattle.ir_printer.specs.declared.words.Word.{Word}
use Rattle.ir_printer.specs.declared.words.Word.TheVariants as words
use Rattle.ir_printer.specs.declared.marks.Mark.{Mark}
use Rattle.ir_printer.specs.declared.demands.Demand.{Demand}
use Rattle.ir_printer.specs.declared.demands.Demands.{Demands}
use Rattle.ir_printer.specs.declared.order.Kind.{Kind}
use Rattle.ir_printer.specs.declared.order.Kind.TheVariants as kinds
use Rattle.ir_printer.specs.Marks.{type_def_marks, global_marks, func_marks, declared_marks, target_line_marks}
use Rattle.ir_printer.specs.Layout.{tables, name_at, marks_text}
use Rattle.ir_printer.specs.Order.{demand, order}

-- an entity, or a line that says the layout or the triple
pub data Entity : Type 0 where
  TargetLine : (word : Word) (said : List ℕ) → Entity
  DefinedType : (def : TypeDef) → Entity
  Variable : (global : GlobalVar) → Entity
  Definition : (func : Func) → Entity
  Declared : (declaration : Declaration) → Entity

abbrev pub kind_of : Entity → Kind
kind_of (TargetLine w said) = kinds.Target
kind_of (DefinedType d) = kinds.Type
kind_of (Variable g) = kinds.Global
kind_of (Definition f) = kinds.Func
kind_of (Declared d) = kinds.Declared

abbrev pub declaration_marks : List (List ℕ) → Declaration → List Mark
declaration_marks symbols d = declared_marks (name_at symbols d.name.0) d

abbrev pub entity_marks : List (List ℕ) → Entity → List Mark
entity_marks symbols (TargetLine w said) = target_line_marks w said
entity_marks symbols (DefinedType d) = type_def_marks d
entity_marks symbols (Variable g) = global_marks g
entity_marks symbols (Definition f) = func_marks f
entity_marks symbols (Declared d) = declaration_marks symbols d

abbrev pub locals_of : Entity → List (List ℕ)
locals_of (TargetLine w said) = []
locals_of (DefinedType d) = []
locals_of (Variable g) = []
locals_of (Definition f) = f.locals
locals_of (Declared d) = []

-- the lines of an entity of a module with these symbols and type names
abbrev pub entity_text : List (List ℕ) → List (List ℕ) → Entity → List ℕ
entity_text symbols types e = marks_text (tables symbols types (locals_of e)) [] (entity_marks symbols e) ++ 10 ∷ []

-- ---- the entities of a module

-- those that are not placed yet
pub record Left : Type 0 where
  pub types : List TypeDef
  pub globals : List GlobalVar
  pub funcs : List Func
  pub declared : List Declaration

abbrev pub all_of : modules.Module → Left
all_of m = record { types = m.types.defs; globals = m.globals; funcs = m.funcs; declared = m.declared }

abbrev pub first_and_rest : {A B : Type 0} → List A → (A → List A → List B) → List B → List B
first_and_rest [] go stop = stop
first_and_rest (a ∷ as') go stop = go a as'

-- the entities in the order of these kinds
abbrev pub placed : List Kind → Left → List Entity
placed [] l = []
placed (kinds.Target ∷ ks) l = placed ks l
placed (kinds.Type ∷ ks) l = first_and_rest l.types (λ d ds. DefinedType d ∷ placed ks (record l { types = ds })) (placed ks l)
placed (kinds.Global ∷ ks) l = first_and_rest l.globals (λ g gs. Variable g ∷ placed ks (record l { globals = gs })) (placed ks l)
placed (kinds.Func ∷ ks) l = first_and_rest l.funcs (λ f fs. Definition f ∷ placed ks (record l { funcs = fs })) (placed ks l)
placed (kinds.Declared ∷ ks) l = first_and_rest l.declared (λ d ds. Declared d ∷ placed ks (record l { declared = ds })) (placed ks l)

abbrev pub type_demand : TypeDef → Demand
type_demand d = demand (type_def_marks d)

abbrev pub global_demand : GlobalVar → Demand
global_demand g = demand (global_marks g)

abbrev pub func_demand : Func → Demand
func_demand f = demand (func_marks f)

abbrev pub declaration_demand : List (List ℕ) → Declaration → Demand
declaration_demand symbols d = demand (declaration_marks symbols d)

abbrev pub demands_of : modules.Module → Demands
demands_of m = record {
  types = map type_demand m.types.defs;
  globals = map global_demand m.globals;
  funcs = map func_demand m.funcs;
  declared = map (declaration_demand m.symbols) m.declared;
}

-- ---- the text

abbrev pub target_line : Word → Option (List ℕ) → List Entity
target_line w None = []
target_line w (Some said) = TargetLine w said ∷ []

abbrev pub entities_of : modules.Module → List Entity
entities_of m = target_line words.DataLayout m.layout ++ (target_line words.Triple m.triple ++ placed (order (demands_of m)) (all_of m))

-- a blank line stands before each function, and where the kind changes
abbrev pub is_apart : Option Kind → Kind → Bool
is_apart None k = false
is_apart (Some before) kinds.Func = true
is_apart (Some kinds.Target) kinds.Target = false
is_apart (Some kinds.Type) kinds.Type = false
is_apart (Some kinds.Global) kinds.Global = false
is_apart (Some kinds.Declared) kinds.Declared = false
is_apart (Some before) k = true

abbrev pub blank_line : Option Kind → Kind → List ℕ
blank_line before k = if is_apart before k then 10 ∷ [] else []

-- the text of entities after one of this kind
abbrev pub page : List (List ℕ) → List (List ℕ) → Option Kind → List Entity → List ℕ
page symbols types before [] = []
page symbols types before (e ∷ es) = blank_line before (kind_of e) ++ (entity_text symbols types e ++ page symbols types (Some (kind_of e)) es)

unfoldable pub printed : modules.Module → List ℕ
printed m = page m.symbols m.types.names None (entities_of m)
