-- Modules that are proper: what every module that was read from a text is.
use Rattle.std.specs.Prelude.{◌≢◌, ℕ, ◌<◌, ◌≤◌, ℤ, pos, negsuc, List, [], length, All, AllPairs, Some, IsSome, IsNone, ⊤}
use Rattle.ir_core.specs.declared.limits.TheConstants.{MOST_FUNCTIONS, MOST_LENGTH, MOST_PARAMS, MOST_SITES}
use Rattle.ir_core.specs.declared.ty.TypeName.{TypeName}
use Rattle.ir_core.specs.declared.ty.IrType.{IrType, Void}
use Rattle.ir_core.specs.declared.module.SymId.{SymId}
use Rattle.ir_core.specs.declared.module.Module.{Module}
use Rattle.ir_core.specs.declared.constant.Const.{Const}
use Rattle.ir_core.specs.declared.constant.Const as consts
use Rattle.ir_core.specs.declared.op.LocalId.{LocalId}
use Rattle.ir_core.specs.declared.op.Op.{Op}
use Rattle.ir_core.specs.declared.op.Op.TheVariants.{Alloca, Store, Phi, Call}
use Rattle.ir_core.specs.declared.func.Instr.{Instr}
use Rattle.ir_core.specs.declared.func.Func.{Func}
use Rattle.ir_core.specs.Parts.{instrs, func_consts, func_locals, module_symbols, module_type_names, sites}

-- a constant that may stand as an operand: no `zeroinitializer`, string, array or struct
abbrev pub IsValue : Const → Type 0
IsValue consts.Zero = ⊥
IsValue (consts.Bytes b) = ⊥
IsValue (consts.Array' _ _) = ⊥
IsValue (consts.Struct' _ _) = ⊥
IsValue _ = ⊤

-- every instruction has a result but a store and a call of type `void`
abbrev pub HasItsResult : Instr → Type 0
HasItsResult i = for_op i.op
  where
    for_type : IrType → Type 0
    for_type Void = IsNone i.result
    for_type _ = IsSome i.result

    for_op : Op → Type 0
    for_op (Store a p align) = IsNone i.result
    for_op (Call t f as') = for_type t
    for_op _ = IsSome i.result

abbrev pub HasEntries : Op → Type 0
HasEntries (Phi t es) = 0 < length es
HasEntries _ = ⊤

abbrev pub HasFewArguments : Op → Type 0
HasFewArguments (Call t f as') = length as' ≤ MOST_PARAMS
HasFewArguments _ = ⊤

abbrev pub IsCount : ℤ → Type 0
IsCount (pos n) = n ≤ MOST_LENGTH
IsCount (negsuc n) = ⊥

abbrev pub HasItsCount : Op → Type 0
HasItsCount (Alloca t (Some n) align) = IsCount n.count
HasItsCount _ = ⊤

-- no element stands twice
abbrev pub AllDiffer : {A : Type 0} → List A → Type 0
AllDiffer xs = AllPairs (λ x y. x ≢ y) xs

-- a symbol that is not empty and holds no zero byte
abbrev pub IsSymbol : List ℕ → Type 0
IsSymbol bytes = (bytes ≢ []) × All (λ (b : ℕ). b ≢ 0) bytes

pub record IsProperFunc (f : Func) : Type 0 where
  pub has_blocks : 0 < length f.blocks
  pub entries : All (λ (i : Instr). HasEntries i.op) (instrs f)
  pub values : All IsValue (func_consts f)
  pub results : All HasItsResult (instrs f)
  pub locals_known : All (λ (x : LocalId). x.0 < length f.locals) (func_locals f)
  pub locals_once : AllDiffer f.locals
  pub params : length f.params ≤ MOST_PARAMS
  pub arguments : All (λ (i : Instr). HasFewArguments i.op) (instrs f)
  pub counts : All (λ (i : Instr). HasItsCount i.op) (instrs f)

pub record IsProper (m : Module) : Type 0 where
  pub each_func : All IsProperFunc m.funcs
  pub symbols_known : All (λ (s : SymId). s.0 < length m.symbols) (module_symbols m)
  pub type_names_known : All (λ (x : TypeName). x.0 < length m.types.names) (module_type_names m)
  pub symbols_once : AllDiffer m.symbols
  pub type_names_once : AllDiffer m.types.names
  pub symbols : All IsSymbol m.symbols
  pub funcs : length m.funcs ≤ MOST_FUNCTIONS
  pub site_count : length (sites m) ≤ MOST_SITES
