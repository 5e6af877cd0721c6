-- Where the rule of sizes is broken.
use Rattle.std.specs.Prelude.{ℕ, ◌*◌, nat_lt, ℤ, pos, negsuc, Bool, false, not, ◌||◌, if◌then◌else◌, List, ◌∷◌, ◌++◌, map, Some}
use Rattle.std.specs.List.{flat_map, list_any, list_all}
use Rattle.ir_core.specs.declared.limits.TheConstants.{LARGEST}
use Rattle.oi_base.specs.declared.ids.Place.{Place}
use Rattle.ir_core.specs.declared.ty.TypeName.{TypeName}
use Rattle.ir_core.specs.declared.ty.TypeDef.{TypeDef}
use Rattle.ir_core.specs.declared.ty.IrType.{IrType, Void, Int, Ptr, Array', Struct', Named, Row_of-IrType, end_of-IrType, more_of-IrType}
use Rattle.ir_core.specs.declared.ty.IrType.TheVariants as types
use Rattle.ir_core.specs.declared.constant.TypedConst.{TypedConst}
use Rattle.ir_core.specs.declared.module.GlobalVar.{GlobalVar}
use Rattle.ir_core.specs.declared.module.Module.{Module}
use Rattle.ir_core.specs.declared.op.Op.{Op}
use Rattle.ir_core.specs.declared.op.Op.TheVariants.{Alloca}
use Rattle.ir_core.specs.declared.op.End.{End}
use Rattle.ir_core.specs.declared.func.Func.{Func}
use Rattle.ir_core.specs.Parts.{names_in_type, op_values, end_values}
use Rattle.ir_core.specs.Sizes.{size}
use Rattle.ir_core.specs.Operands.{Step, Does, Ends}
use Rattle.ir_core.specs.ValidTypes.{const_sources, sources_in_values, op_sized}
use Rattle.module_rules.specs.Faults.{place_if, step_faults}
use Rattle.module_rules.specs.TypeFaults.{is_laid_name}

-- ---- types

abbrev pub is_above : List TypeDef → IrType → Bool
is_above defs t = nat_lt LARGEST (size defs t)

-- the type or one that stands in it is too large; not so through names
abbrev mutual
  pub has_above : List TypeDef → IrType → Bool
  has_above defs Void = is_above defs Void || false
  has_above defs (Int w) = is_above defs (Int w) || false
  has_above defs Ptr = is_above defs Ptr || false
  has_above defs (Array' n m items) = is_above defs (Array' n m items) || have_above defs items
  has_above defs (Struct' m fields) = is_above defs (Struct' m fields) || have_above defs fields
  has_above defs (Named x) = is_above defs (Named x) || false

  pub have_above : List TypeDef → {m : _} → Row_of-IrType m → Bool
  have_above defs end_of-IrType = false
  have_above defs (more_of-IrType t ts) = has_above defs t || have_above defs ts

-- a struct of the names in a type, and `void` for a type in which one is too large
abbrev pub small_type : List TypeDef → IrType → IrType
small_type defs t = if has_above defs t then Void else types.Struct (map (λ (x : TypeName). Named x) (names_in_type t))

abbrev pub small_def : List TypeDef → TypeDef → TypeDef
small_def defs d = record { place = d.place; name = d.name; ty = small_type defs d.ty }

-- By these definitions a name has a layout exactly where none of the types to which it leads is too large.
abbrev pub small_defs : List TypeDef → List TypeDef
small_defs defs = map (small_def defs) defs

abbrev pub is_too_large : (defs small : List TypeDef) → IrType → Bool
is_too_large defs small t = has_above defs t || not (list_all (is_laid_name small) (names_in_type t))

-- ---- instructions

abbrev pub typed_const_sources : TypedConst → List IrType
typed_const_sources c = const_sources c.value

abbrev pub count_is_above : ℤ → ℕ → Bool
count_is_above (pos k) size = nat_lt LARGEST (k * size)
count_is_above (negsuc k) size = false

abbrev pub makes_too_much : List TypeDef → Op → Bool
makes_too_much defs (Alloca t (Some n) a) = count_is_above n.count (size defs t)
makes_too_much defs _ = false

abbrev pub op_is_too_large : (defs small : List TypeDef) → Op → Bool
op_is_too_large defs small op = list_any (is_too_large defs small) (op_sized op ++ sources_in_values (op_values op)) || makes_too_much defs op

abbrev pub end_is_too_large : (defs small : List TypeDef) → End → Bool
end_is_too_large defs small e = list_any (is_too_large defs small) (sources_in_values (end_values e))

abbrev pub step_is_too_large : (defs small : List TypeDef) → Step → Bool
step_is_too_large defs small (Does i) = op_is_too_large defs small i.op
step_is_too_large defs small (Ends b) = end_is_too_large defs small b.end

abbrev pub global_is_too_large : (defs small : List TypeDef) → GlobalVar → Bool
global_is_too_large defs small g = list_any (is_too_large defs small) (g.ty ∷ const_sources g.init)

abbrev pub global_size_fault : (defs small : List TypeDef) → GlobalVar → List Place
global_size_fault defs small g = place_if (global_is_too_large defs small g) g.place

abbrev pub func_size_faults : (defs small : List TypeDef) → Func → List Place
func_size_faults defs small f = step_faults (step_is_too_large defs small) f

abbrev pub size_faults : Module → List TypeDef → List Place
size_faults m small = flat_map (global_size_fault m.types.defs small) m.globals ++ flat_map (func_size_faults m.types.defs small) m.funcs
