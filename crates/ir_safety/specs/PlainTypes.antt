-- The types of the registers of a module's plain bodies, and those of its functions.
use Rattle.std.specs.Prelude.{ℕ, ◌<◌, List, [], ◌++◌, map, length, All, Option, Some, None, slice_get, unwrap_or}
use Rattle.std.specs.List.{flat_map, filter_map}
use Rattle.std.specs.Option.{option_map, option_map_or}
use Rattle.ir_core.specs.declared.flat.Scalar.{Scalar}
use Rattle.ir_core.specs.declared.ty.IrType.{IrType, Void, Int, Ptr, Array', Struct', Named}
use Rattle.ir_core.specs.declared.op.LocalId.{LocalId}
use Rattle.ir_core.specs.declared.func.Instr.{Instr}
use Rattle.ir_core.specs.declared.func.Block.{Block}
use Rattle.ir_core.specs.declared.func.Func.{Func}
use Rattle.ir_core.specs.declared.func.Param.{Param}
use Rattle.ir_core.specs.declared.module.Module.{Module}
use Rattle.ir_core.specs.Constants.{scalar_of}
use Rattle.ir_core.specs.Formed.{FuncType}
use Rattle.ir_core.specs.Plain.{registers}
use Rattle.ir_core.specs.ValidOps.{op_result}

-- the type of an instruction's result, if it has one
abbrev pub result_type : Instr → Option IrType
result_type i = option_map (λ (x : LocalId). op_result i.op) i.result

abbrev pub result_types : Block → List IrType
result_types b = filter_map result_type b.code

-- the types of a function's registers, in the order of their numbers
abbrev pub register_types : Func → List IrType
register_types f = map (λ (q : Param). q.ty) f.params ++ flat_map result_types f.blocks

abbrev pub func_types : Func → ℕ → Scalar
func_types f r = scalar_of (unwrap_or (slice_get (register_types f) r) Void)

-- what a function of this result type gives
abbrev pub result_scalar : IrType → Option Scalar
result_scalar Void = None
result_scalar (Int w) = Some (scalar_of (Int w))
result_scalar Ptr = Some (scalar_of Ptr)
result_scalar (Array' n _ items) = Some (scalar_of (Array' n _ items))
result_scalar (Struct' n fields) = Some (scalar_of (Struct' n fields))
result_scalar (Named x) = Some (scalar_of (Named x))

abbrev pub func_type : Func → FuncType
func_type f = record { params = map (λ (q : Param). scalar_of q.ty) f.params; result = result_scalar f.result }

-- by the functions' numbers
abbrev pub plain_types : Module → ℕ → ℕ → Scalar
plain_types m g = option_map_or func_types (slice_get m.funcs g) (λ (r : ℕ). scalar_of Void)

abbrev pub plain_funcs : Module → ℕ → FuncType
plain_funcs m g = option_map_or func_type (slice_get m.funcs g) (record { params = []; result = None })

-- registers and blocks of a function have numbers of 32 bits
abbrev pub HasFewOwn : Func → Type 0
HasFewOwn f = (length (registers f) < 4294967296) × (length f.blocks < 4294967296)

-- those of each function
abbrev pub HasFewNumbers : Module → Type 0
HasFewNumbers m = All HasFewOwn m.funcs
