-- The symbols of an object: a function's has its address and the length of its code, a global's its address and its size.
use Rattle.std.specs.Prelude.{ℕ, ◌+◌, ◌*◌, Bool, true, false, not, if◌then◌else◌, List, [], ◌∷◌, ◌++◌, length, filter, Option, Some, None, slice_get}
use Rattle.std.specs.List.{flat_map}
use Rattle.oi_base.specs.declared.ids.FuncId.{FuncId}
use Rattle.ir_core.specs.declared.func.Func.{Func}
use Rattle.ir_core.specs.declared.module.GlobalVar.{GlobalVar}
use Rattle.ir_core.specs.declared.module.Module.{Module}
use Rattle.ir_core.specs.Constants.{initial_bytes}
use Rattle.ir_core.specs.Operands.{symbol_text}
use Rattle.elf_object.specs.declared.symbol.Symbol.{Symbol}
use Rattle.elf_object.specs.declared.symbol.SymKind.TheVariants.{Func as Function, Object}
use Rattle.rv_select.specs.declared.item.Item.{Item}
use Rattle.rv_select.specs.Linked.{Link}
use Rattle.image_layout.specs.Addresses.{Codes}

-- of a definition with this number and this code
abbrev pub function_symbol : Module → Link → ℕ → List Item → Option Func → List Symbol
function_symbol m l n code None = []
function_symbol m l n code (Some f) =
    record { name = symbol_text m f.name; value = l.entry n; size = 4 * length code; kind = Function; global = not f.internal } ∷ []

abbrev pub function_symbols : Module → Link → Codes → List Symbol
function_symbols m l codes = flat_map (λ (c : FuncId × List Item). function_symbol m l c.0.0 c.1 (slice_get m.funcs c.0.0)) codes

-- of globals that are numbered from this number on
abbrev pub global_symbols : Module → Link → ℕ → List GlobalVar → List Symbol
global_symbols m l n [] = []
global_symbols m l n (g ∷ gs) =
    record { name = symbol_text m g.name; value = l.global_at n; size = length (initial_bytes m g.ty g.init); kind = Object; global = not g.internal } ∷ global_symbols m l (n + 1) gs

-- the global ones of symbols, or the local ones
abbrev pub with_linkage : Bool → List Symbol → List Symbol
with_linkage global symbols = filter (λ s. if global then s.global else not s.global) symbols

-- local symbols before global ones, each kind in its order
abbrev pub local_first : List Symbol → List Symbol
local_first symbols = with_linkage false symbols ++ with_linkage true symbols
