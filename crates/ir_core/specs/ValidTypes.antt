-- The rules of a module's types: names, sizes and alignments.
use Rattle.std.specs.Prelude.{◌≡◌, ◌⊎◌, ℕ, ◌*◌, ◌<◌, ◌≤◌, Bool, true, false, pos, List, [], ◌∷◌, ◌++◌, length, map, Option, Some, None, slice_get, Contains}
use Rattle.std.specs.List.{flat_map}
use Rattle.oi_base.specs.declared.ids.Place.{Place}
use Rattle.ir_core.specs.declared.limits.TheConstants.{LARGEST}
use Rattle.ir_core.specs.declared.ty.TypeName.{TypeName}
use Rattle.ir_core.specs.declared.ty.TypeDef.{TypeDef}
use Rattle.ir_core.specs.declared.ty.IrType.{IrType, Void, Named, out-IrType}
use Rattle.ir_core.specs.declared.ty.IrType.TheOpen.{IrType-F}
use Rattle.ir_core.specs.declared.module.GlobalVar.{GlobalVar}
use Rattle.ir_core.specs.declared.module.Module.{Module}
use Rattle.ir_core.specs.declared.constant.Const.{Const, Row_of-TypedConst, end_of-TypedConst, more_of-TypedConst}
use Rattle.ir_core.specs.declared.constant.Const as consts
use Rattle.ir_core.specs.declared.constant.TypedCount.{TypedCount}
use Rattle.ir_core.specs.declared.op.Operand.{Operand}
use Rattle.ir_core.specs.declared.op.Op.{Op}
use Rattle.ir_core.specs.declared.op.Op.TheVariants.{Alloca, Load, Store, Gep, Call}
use Rattle.ir_core.specs.declared.func.Instr.{Instr}
use Rattle.ir_core.specs.declared.func.Func.{Func}
use Rattle.ir_core.specs.declared.func.Param.{Param}
use Rattle.ir_core.specs.Parts.{listed, names_in_type, types_of, op_types, end_types, op_values, end_values, operand_consts, const_types, typed_consts}
use Rattle.ir_core.specs.Sizes.{definition, resolved, size, align}
use Rattle.ir_core.specs.Acyclic.{HasNoVoid, HoldsItself}
use Rattle.ir_core.specs.Formed.{IsAlign}
use Rattle.ir_core.specs.Operands.{Step, Does, Ends, steps, AtStep, AtInstr, AtGlobal}

-- ---- the types that stand in a module, with their places

-- a type, and whether it is a function's or a call's result
pub record TypeUse : Type 0 where
  pub place : Place
  pub ty : IrType
  pub is_result : Bool

abbrev pub value_use : Place → IrType → TypeUse
value_use p t = record { place = p; ty = t; is_result = false }

abbrev pub result_use : Place → IrType → TypeUse
result_use p t = record { place = p; ty = t; is_result = true }

abbrev pub value_uses : Place → List IrType → List TypeUse
value_uses p ts = map (value_use p) ts

abbrev pub op_uses : Place → Op → List TypeUse
op_uses p (Call t f as') = result_use p t ∷ value_uses p (types_of as')
op_uses p op = value_uses p (op_types op)

-- the types in constants that are operands
abbrev pub types_in_values : List Operand → List IrType
types_in_values vs = typed_consts (flat_map operand_consts vs)

abbrev pub step_uses : Step → List TypeUse
step_uses (Does i) = op_uses i.place i.op ++ value_uses i.place (types_in_values (op_values i.op))
step_uses (Ends b) = value_uses b.end_place (end_types b.end ++ types_in_values (end_values b.end))

abbrev pub func_uses : Func → List TypeUse
func_uses f = result_use f.place f.result ∷ value_uses f.place (map (λ (q : Param). q.ty) f.params) ++ flat_map step_uses (steps f)

abbrev pub type_uses : Module → List TypeUse
type_uses m =
    map (λ (d : TypeDef). value_use d.place d.ty) m.types.defs
    ++ flat_map (λ (g : GlobalVar). value_uses g.place (g.ty ∷ const_types g.init)) m.globals
    ++ flat_map func_uses m.funcs

abbrev pub AtType : Module → Place → (TypeUse → Type 0) → Type 0
AtType m p Is = (u : TypeUse) × Contains (type_uses m) u × (u.place ≡ p) × Is u

-- ---- names

-- the type that a name stands for, through further names, is a struct
abbrev pub StandsForStruct : List TypeDef → TypeName → Type 0
StandsForStruct defs x = (fields : List IrType) × (out-IrType (resolved (length defs) defs (Named x)) ≡ IrType-F.Struct fields)

-- `void` stands in the type, which isn't itself the `void` of a result
abbrev pub HasVoid : TypeUse → Type 0
HasVoid u = (HasNoVoid u.ty → ⊥) × ((u.is_result ≡ true) × (u.ty ≡ Void) → ⊥)

abbrev pub NamesNoStruct : List TypeDef → TypeUse → Type 0
NamesNoStruct defs u = (x : TypeName) × Contains (names_in_type u.ty) x × (StandsForStruct defs x → ⊥)

-- the name stands in a type of the module
abbrev pub IsUsed : Module → TypeName → Type 0
IsUsed m x = (u : TypeUse) × Contains (type_uses m) u × Contains (names_in_type u.ty) x

-- a used name has a definition before this one
abbrev pub IsDefinedAgain : Module → Place → Type 0
IsDefinedAgain m p =
    (i j : ℕ) × (d e : TypeDef) × (i < j) × (slice_get m.types.defs i ≡ Some d) × (slice_get m.types.defs j ≡ Some e)
    × (d.name ≡ e.name) × (e.place ≡ p) × IsUsed m e.name

abbrev pub IsDefinedByItself : Module → Place → Type 0
IsDefinedByItself m p = (d : TypeDef) × Contains m.types.defs d × (d.place ≡ p) × HoldsItself m.types.defs d.name

-- Rule 3. Each type name that is used is defined exactly once and stands for a struct, no type holds itself by value,
-- and `void` is only a function's or a call's result.
abbrev pub BreaksTypeNames : Module → Place → Type 0
BreaksTypeNames m p = AtType m p HasVoid ⊎ (AtType m p (NamesNoStruct m.types.defs) ⊎ (IsDefinedAgain m p ⊎ IsDefinedByItself m p))

-- ---- sizes

-- an array's elements, a struct's fields, what a name stands for
abbrev pub directly_in : List TypeDef → IrType → List IrType
directly_in defs t = of_level (out-IrType t)
  where
    of_level : IrType-F IrType → List IrType
    of_level IrType-F.Void = []
    of_level (IrType-F.Int w) = []
    of_level IrType-F.Ptr = []
    of_level (IrType-F.Array n item) = item ∷ []
    of_level (IrType-F.Struct fields) = fields
    of_level (IrType-F.Named x) = map (λ (d : TypeDef). d.ty) (listed (definition defs x))

-- each type stands directly in the one before
abbrev pub LeadsInto : List TypeDef → IrType → List IrType → IrType → Type 0
LeadsInto defs t [] u = Contains (directly_in defs t) u
LeadsInto defs t (v ∷ vs) u = Contains (directly_in defs t) v × LeadsInto defs v vs u

-- the second type is the first or stands inside it, also through a type name
abbrev pub StandsIn : List TypeDef → IrType → IrType → Type 0
StandsIn defs t u = (t ≡ u) ⊎ ((between : List IrType) × LeadsInto defs t between u)

abbrev pub IsTooLarge : List TypeDef → IrType → Type 0
IsTooLarge defs t = (u : IrType) × StandsIn defs t u × (LARGEST < size defs u)

abbrev pub OneIsTooLarge : List TypeDef → List IrType → Type 0
OneIsTooLarge defs ts = (t : IrType) × Contains ts t × IsTooLarge defs t

-- the source types of the `getelementptr`s in a constant
abbrev mutual
  pub const_sources : Const → List IrType
  const_sources (consts.Gep t s is) = t ∷ []
  const_sources (consts.Array' _ items) = consts_sources items
  const_sources (consts.Struct' _ fields) = consts_sources fields
  const_sources _ = []

  pub consts_sources : {m : _} → Row_of-TypedConst m → List IrType
  consts_sources end_of-TypedConst = []
  consts_sources (more_of-TypedConst t c cs) = const_sources c ++ consts_sources cs

abbrev pub sources_in_values : List Operand → List IrType
sources_in_values vs = flat_map const_sources (flat_map operand_consts vs)

abbrev pub op_sized : Op → List IrType
op_sized (Alloca t count align) = t ∷ []
op_sized (Gep t a is) = t ∷ []
op_sized _ = []

-- the types of an instruction or a terminator that have a greatest size
abbrev pub step_sized : Step → List IrType
step_sized (Does i) = op_sized i.op ++ sources_in_values (op_values i.op)
step_sized (Ends b) = sources_in_values (end_values b.end)

-- an alloca of more than one element
abbrev pub MakesTooMuch : List TypeDef → Instr → Type 0
MakesTooMuch defs i =
    (t : IrType) × (n : TypedCount) × (a : Option ℕ) × (k : ℕ) × (i.op ≡ Alloca t (Some n) a) × (n.count ≡ pos k)
    × (LARGEST < k * size defs t)

-- Rule 4. Each global's type, alloca's type, alloca's size with its count, and source type of a `getelementptr` has a
-- size of at most 16,777,216, and so has every type that stands inside one of these types, also through a type name.
abbrev pub BreaksSizes : Module → Place → Type 0
BreaksSizes m p =
    AtGlobal m p (λ g. OneIsTooLarge m.types.defs (g.ty ∷ const_sources g.init))
    ⊎ ((f : Func) × Contains m.funcs f × (AtStep f p (λ s. OneIsTooLarge m.types.defs (step_sized s)) ⊎ AtInstr f p (MakesTooMuch m.types.defs)))

-- ---- alignments

-- a promised alignment is 1, 2, 4, 8 or 16, and not below the type's
abbrev pub IsGoodAlign : List TypeDef → IrType → Option ℕ → Type 0
IsGoodAlign defs t None = Unit {0}
IsGoodAlign defs t (Some a) = IsAlign a × (align defs t ≤ a)

abbrev pub PromisesWell : List TypeDef → Op → Type 0
PromisesWell defs (Alloca t count a) = IsGoodAlign defs t a
PromisesWell defs (Load t from a) = IsGoodAlign defs t a
PromisesWell defs (Store v to a) = IsGoodAlign defs v.ty a
PromisesWell defs _ = Unit {0}

-- Rule 7. Each `align` of a global, alloca, load or store is 1, 2, 4, 8 or 16 and not below the type's own alignment.
abbrev pub BreaksAlignments : Module → Place → Type 0
BreaksAlignments m p =
    AtGlobal m p (λ g. IsGoodAlign m.types.defs g.ty g.align → ⊥)
    ⊎ ((f : Func) × Contains m.funcs f × AtInstr f p (λ i. PromisesWell m.types.defs i.op → ⊥))
