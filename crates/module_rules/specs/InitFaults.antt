-- Where the rule of initialisers is broken.
use Rattle.std.specs.Prelude.{ℕ, Bool, true, false, not, ◌&&◌, nat_eq, List, [], ◌∷◌, length, map}
use Rattle.std.specs.List.{flat_map, list_any, list_all}
use Rattle.oi_base.specs.declared.ids.Place.{Place}
use Rattle.oi_base.specs.declared.words.Width.TheVariants.{W8}
use Rattle.ir_core.specs.declared.ty.TypeDef.{TypeDef}
use Rattle.ir_core.specs.declared.ty.IrType.{IrType, Int, out-IrType}
use Rattle.ir_core.specs.declared.ty.IrType.TheOpen.{IrType-F}
use Rattle.ir_core.specs.declared.module.SymId.{SymId}
use Rattle.ir_core.specs.declared.module.GlobalVar.{GlobalVar}
use Rattle.ir_core.specs.declared.module.Module.{Module}
use Rattle.ir_core.specs.declared.constant.Const.{Const, Row_of-TypedConst, end_of-TypedConst, more_of-TypedConst}
use Rattle.ir_core.specs.declared.constant.Const as consts
use Rattle.ir_core.specs.declared.constant.TypedConst.{TypedConst}
use Rattle.ir_core.specs.ValidConsts.{const_index, plain}
use Rattle.ir_core.specs.Types.{is_bit, is_pointer}
use Rattle.module_rules.specs.Faults.{place_if, global_numbers, fits_type, count_fits}
use Rattle.module_rules.specs.Walks.{walks}
use Rattle.module_rules.specs.SameTypes.{same_type}

-- ---- one level of a type

abbrev pub is_byte : IrType → Bool
is_byte (Int W8) = true
is_byte _ = false

-- an array of so many `i8`
abbrev pub is_string : ℕ → IrType-F IrType → Bool
is_string n (IrType-F.Array k item) = nat_eq k n && is_byte item
is_string n _ = false

-- an array of so many elements, whose type passes
abbrev pub is_array_of : ℕ → (IrType → Bool) → IrType-F IrType → Bool
is_array_of n test (IrType-F.Array k item) = nat_eq k n && test item
is_array_of n test _ = false

-- a struct whose fields' types pass
abbrev pub is_struct_of : (List IrType → Bool) → IrType-F IrType → Bool
is_struct_of test (IrType-F.Struct types) = test types
is_struct_of test _ = false

-- ---- initialisers

-- one of the names
abbrev pub is_among : List ℕ → SymId → Bool
is_among names s = list_any (nat_eq s.0) names

-- the constant has the type, by the definitions of type names and the names of the global variables
abbrev mutual
  pub has_type : List TypeDef → List ℕ → Const → IrType → Bool
  has_type defs names (consts.Int n) t = fits_type (plain defs t) n
  has_type defs names (consts.Bool b) t = is_bit (plain defs t)
  has_type defs names consts.Null t = is_pointer (plain defs t)
  has_type defs names consts.Undef t = true
  has_type defs names consts.Poison t = true
  has_type defs names consts.Zero t = true
  has_type defs names (consts.Bytes b) t = is_string (length b) (out-IrType (plain defs t))
  has_type defs names (consts.Address s) t = is_pointer (plain defs t) && is_among names s
  has_type defs names (consts.Gep source s is) t =
      is_pointer (plain defs t) && (is_among names s && (walks defs source (map const_index is) && list_all count_fits is))
  has_type defs names (consts.Array' each items) t = is_array_of (length each) (are_items defs names items) (out-IrType (plain defs t))
  has_type defs names (consts.Struct' _ values) t = is_struct_of (are_fields defs names values) (out-IrType (plain defs t))

  -- each is written with the type, which it has
  pub are_items : List TypeDef → List ℕ → {n : _} → Row_of-TypedConst n → IrType → Bool
  are_items defs names end_of-TypedConst item = true
  are_items defs names (more_of-TypedConst t c cs) item = (same_type t item && has_type defs names c t) && are_items defs names cs item

  -- as many as there are types, and each written with its own, which it has
  pub are_fields : List TypeDef → List ℕ → {n : _} → Row_of-TypedConst n → List IrType → Bool
  are_fields defs names end_of-TypedConst [] = true
  are_fields defs names end_of-TypedConst (u ∷ us) = false
  are_fields defs names (more_of-TypedConst t c cs) [] = false
  are_fields defs names (more_of-TypedConst t c cs) (u ∷ us) = (same_type t u && has_type defs names c t) && are_fields defs names cs us

-- written with the type, which it has
abbrev pub is_item : List TypeDef → List ℕ → IrType → TypedConst → Bool
is_item defs names u c = same_type c.ty u && has_type defs names c.value c.ty

abbrev pub are_fields_of : List TypeDef → List ℕ → List TypedConst → List IrType → Bool
are_fields_of defs names [] [] = true
are_fields_of defs names (c ∷ cs) (u ∷ us) = is_item defs names u c && are_fields_of defs names cs us
are_fields_of defs names _ _ = false

abbrev pub has_its_type : Module → GlobalVar → Bool
has_its_type m g = has_type m.types.defs (global_numbers m) g.init g.ty

abbrev pub init_faults : Module → List Place
init_faults m = flat_map (λ (g : GlobalVar). place_if (not (has_its_type m g)) g.place) m.globals
