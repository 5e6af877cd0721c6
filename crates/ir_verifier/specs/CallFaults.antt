-- The places at which the rule of calls is broken, in text order.
use Rattle.std.specs.Prelude.{ℕ, Bool, true, false, not, ◌&&◌, ◌||◌, nat_eq, bytes_eq, List, [], ◌∷◌, map, codes, Option, Some, None, slice_get}
use Rattle.std.specs.List.{flat_map, list_any, position}
use Rattle.std.specs.Option.{option_and_then}
use Rattle.oi_base.specs.declared.ids.Place.{Place}
use Rattle.ir_core.specs.declared.ty.IrType.{IrType, Void, Int, Ptr}
use Rattle.ir_core.specs.declared.module.SymId.{SymId}
use Rattle.ir_core.specs.declared.module.Declaration.{Declaration}
use Rattle.ir_core.specs.declared.module.Module.{Module}
use Rattle.ir_core.specs.declared.op.TypedOperand.{TypedOperand}
use Rattle.ir_core.specs.declared.op.Op.{Op}
use Rattle.ir_core.specs.declared.op.Op.TheVariants.{Call}
use Rattle.ir_core.specs.declared.func.Instr.{Instr}
use Rattle.ir_core.specs.declared.func.Block.{Block}
use Rattle.ir_core.specs.declared.func.Func.{Func}
use Rattle.ir_core.specs.declared.func.Param.{Param}
use Rattle.ir_core.specs.Operands.{symbol_text}
use Rattle.ir_core.specs.Types.{is_word}
use Rattle.module_rules.specs.Faults.{place_if, numbers_of}
use Rattle.module_rules.specs.SameTypes.{same_width}

-- ---- kinds of types

-- both are `void`, `ptr`, or integers of one width
abbrev pub same_kind : IrType → IrType → Bool
same_kind Void Void = true
same_kind Ptr Ptr = true
same_kind (Int v) (Int w) = same_width v w
same_kind _ _ = false

abbrev pub same_kinds : List Param → List TypedOperand → Bool
same_kinds [] [] = true
same_kinds (q ∷ qs) (a ∷ as') = same_kind q.ty a.ty && same_kinds qs as'
same_kinds _ _ = false

-- ---- functions

abbrev pub func_number : Func → ℕ
func_number f = f.name.0

abbrev pub declared_number : Declaration → ℕ
declared_number d = d.name.0

-- the functions that the module defines and declares, by the numbers of their names
abbrev pub func_numbers : Module → List ℕ
func_numbers m = numbers_of (map func_number m.funcs)

abbrev pub declared_numbers : Module → List ℕ
declared_numbers m = numbers_of (map declared_number m.declared)

-- the function of a name
abbrev pub callee : Module → SymId → Option Func
callee m s = option_and_then (slice_get m.funcs) (position (nat_eq s.0) (func_numbers m))

-- ---- calls

abbrev pub is_void : IrType → Bool
is_void t = same_kind t Void

abbrev pub is_one_word : List TypedOperand → Bool
is_one_word (a ∷ []) = is_word a.ty
is_one_word _ = false

abbrev pub is_none : List TypedOperand → Bool
is_none [] = true
is_none _ = false

abbrev pub is_putchar : List ℕ → IrType → List TypedOperand → Bool
is_putchar name t as' = bytes_eq name (codes "putchar") && is_word t && is_one_word as'

abbrev pub is_getchar : List ℕ → IrType → List TypedOperand → Bool
is_getchar name t as' = bytes_eq name (codes "getchar") && is_word t && is_none as'

abbrev pub is_exit : List ℕ → IrType → List TypedOperand → Bool
is_exit name t as' = bytes_eq name (codes "exit") && is_void t && is_one_word as'

abbrev pub fits_external : List ℕ → IrType → List TypedOperand → Bool
fits_external name t as' = is_putchar name t as' || (is_getchar name t as' || is_exit name t as')

abbrev pub fits_func : Func → IrType → List TypedOperand → Bool
fits_func f t as' = same_kind f.result t && same_kinds f.params as'

abbrev pub fits_callee : Module → Option Func → SymId → IrType → List TypedOperand → Bool
fits_callee m (Some f) s t as' = fits_func f t as'
fits_callee m None s t as' = list_any (nat_eq s.0) (declared_numbers m) && fits_external (symbol_text m s) t as'

abbrev pub op_calls_well : Module → Op → Bool
op_calls_well m (Call t s as') = fits_callee m (callee m s) s t as'
op_calls_well m _ = true

abbrev pub call_fault : Module → Instr → List Place
call_fault m i = place_if (not (op_calls_well m i.op)) i.place

abbrev pub block_call_faults : Module → Block → List Place
block_call_faults m b = flat_map (call_fault m) b.code

abbrev pub call_faults : Module → Func → List Place
call_faults m f = flat_map (block_call_faults m) f.blocks
