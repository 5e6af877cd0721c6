-- Where the rule of type names is broken.
use Rattle.std.specs.Prelude.{◌⊎◌, nat_eq, ℕ, Bool, true, false, not, ◌&&◌, ◌||◌, List, [], ◌∷◌, ◌++◌, map, fold, Option, None, is_some}
use Rattle.std.specs.List.{flat_map, list_any, list_all}
use Rattle.oi_base.specs.declared.ids.Place.{Place}
use Rattle.ir_core.specs.declared.ty.TypeName.{TypeName}
use Rattle.ir_core.specs.declared.ty.TypeDef.{TypeDef}
use Rattle.ir_core.specs.declared.ty.IrType.{IrType, Void, Int, Ptr, Array', Struct', Named, Row_of-IrType, end_of-IrType, more_of-IrType}
use Rattle.ir_core.specs.declared.ty.IrType.TheVariants as types
use Rattle.ir_core.specs.declared.constant.TypedConst.{TypedConst}
use Rattle.ir_core.specs.declared.module.GlobalVar.{GlobalVar}
use Rattle.ir_core.specs.declared.module.Module.{Module}
use Rattle.ir_core.specs.declared.func.Instr.{Instr}
use Rattle.ir_core.specs.declared.func.Block.{Block}
use Rattle.ir_core.specs.declared.func.Func.{Func}
use Rattle.ir_core.specs.declared.func.Param.{Param}
use Rattle.ir_core.specs.Parts.{names_in_type, const_types}
use Rattle.ir_core.specs.Sizes.{layout}
use Rattle.ir_core.specs.Operands.{Does, Ends}
use Rattle.ir_core.specs.ValidTypes.{TypeUse, AtType, HasVoid, NamesNoStruct, IsDefinedAgain, value_use, result_use, value_uses, step_uses}
use Rattle.module_rules.specs.declared.type_uses.Uses.{Uses}
use Rattle.module_rules.specs.First.{earliest}
use Rattle.module_rules.specs.Faults.{place_if, with_number, with_numbers}

-- ---- `void`

abbrev mutual
  pub has_void : IrType → Bool
  has_void Void = true
  has_void (Int w) = false
  has_void Ptr = false
  has_void (Array' n _ items) = have_void items
  has_void (Struct' _ fields) = have_void fields
  has_void (Named x) = false

  pub have_void : {m : _} → Row_of-IrType m → Bool
  have_void end_of-IrType = false
  have_void (more_of-IrType t ts) = has_void t || have_void ts

abbrev pub is_void : IrType → Bool
is_void Void = true
is_void _ = false

-- `void` stands in the type, which isn't itself the `void` of a result
abbrev pub is_void_wrongly : IrType → Bool → Bool
is_void_wrongly t is_result = has_void t && not (is_result && is_void t)

-- ---- names that stand for structs

-- a struct without its fields, and `void` for what is neither a struct nor a name
abbrev pub emptied : IrType → IrType
emptied (Struct' _ fields) = types.Struct []
emptied (Named x) = Named x
emptied _ = Void

abbrev pub emptied_def : TypeDef → TypeDef
emptied_def d = record { place = d.place; name = d.name; ty = emptied d.ty }

-- By these definitions a name has a layout exactly where it stands for a struct.
abbrev pub emptied_defs : List TypeDef → List TypeDef
emptied_defs defs = map emptied_def defs

abbrev pub is_laid_name : List TypeDef → TypeName → Bool
is_laid_name defs x = is_some (layout defs (Named x))

-- ---- the types that stand in a module

-- the emptied definitions, the names that stood so far, and the first place at which a type was wrong
pub record Seen : Type 0 where
  pub emptied : List TypeDef
  pub used : List ℕ
  pub first : Option Place

abbrev pub state : Uses → Seen
state s = record { emptied = s.emptied; used = s.used; first = s.first }

abbrev pub type_number : TypeName → ℕ
type_number x = x.0

abbrev pub is_bad_use : List TypeDef → TypeUse → Bool
is_bad_use emptied u = is_void_wrongly u.ty u.is_result || not (list_all (is_laid_name emptied) (names_in_type u.ty))

abbrev pub with_use : Seen → TypeUse → Seen
with_use s u = record {
  emptied = s.emptied;
  used = with_numbers s.used (map type_number (names_in_type u.ty));
  first = earliest s.first (place_if (is_bad_use s.emptied u) u.place);
}

abbrev pub with_uses : Seen → List TypeUse → Seen
with_uses s us = fold with_use s us

abbrev pub no_uses : List TypeDef → Seen
no_uses emptied = record { emptied = emptied; used = []; first = None }

abbrev pub def_use : TypeDef → TypeUse
def_use d = value_use d.place d.ty

-- the types in a constant that is written with its type
abbrev pub typed_const_types : TypedConst → List IrType
typed_const_types c = c.ty ∷ const_types c.value

abbrev pub global_uses : GlobalVar → List TypeUse
global_uses g = value_uses g.place (g.ty ∷ const_types g.init)

abbrev pub code_uses : Block → List TypeUse
code_uses b = flat_map (λ (i : Instr). step_uses (Does i)) b.code

abbrev pub block_uses : Block → List TypeUse
block_uses b = code_uses b ++ step_uses (Ends b)

abbrev pub param_types : Func → List IrType
param_types f = map (λ (q : Param). q.ty) f.params

abbrev pub func_uses_by_block : Func → List TypeUse
func_uses_by_block f = result_use f.place f.result ∷ value_uses f.place (param_types f) ++ flat_map block_uses f.blocks

abbrev pub uses_of : Module → Seen
uses_of m = with_uses (with_uses (with_uses (no_uses (emptied_defs m.types.defs)) (map def_use m.types.defs)) (flat_map global_uses m.globals)) (flat_map func_uses_by_block m.funcs)

-- ---- definitions

abbrev pub def_number : TypeDef → ℕ
def_number d = d.name.0

-- the rule but for types that hold themselves
abbrev pub BreaksUses : Module → Place → Type 0
BreaksUses m p = AtType m p HasVoid ⊎ (AtType m p (NamesNoStruct m.types.defs) ⊎ IsDefinedAgain m p)

-- the definitions of used names that are among these or stand before them
abbrev pub again_faults : List ℕ → List ℕ → List TypeDef → List Place
again_faults used names [] = []
again_faults used names (d ∷ ds) = place_if (list_any (nat_eq d.name.0) names && list_any (nat_eq d.name.0) used) d.place ++ again_faults used (with_number names d.name.0) ds
