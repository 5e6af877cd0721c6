-- What serves every rule: lists of places, sets of numbers, and which integers fit their types.
use Rattle.std.specs.Prelude.{ℕ, ◌/◌, ◌==◌, nat_eq, nat_lt, ℤ, pos, negsuc, Bool, false, if◌then◌else◌, List, [], ◌∷◌, ◌++◌, map, fold}
use Rattle.std.specs.List.{flat_map, list_any}
use Rattle.oi_base.specs.declared.ids.Place.{Place}
use Rattle.oi_base.specs.declared.words.Width.{Width}
use Rattle.oi_base.specs.Words.{modulus}
use Rattle.ir_core.specs.declared.ty.IrType.{IrType, Int}
use Rattle.ir_core.specs.declared.constant.TypedCount.{TypedCount}
use Rattle.ir_core.specs.declared.op.LocalId.{LocalId}
use Rattle.ir_core.specs.declared.func.Instr.{Instr}
use Rattle.ir_core.specs.declared.func.Block.{Block}
use Rattle.ir_core.specs.declared.func.Func.{Func}
use Rattle.ir_core.specs.declared.module.GlobalVar.{GlobalVar}
use Rattle.ir_core.specs.declared.module.Module.{Module}
use Rattle.ir_core.specs.Operands.{Step, Does, Ends}

-- a place where something is so
abbrev pub place_if : Bool → Place → List Place
place_if t p = if t then (p ∷ []) else []

abbrev pub is_local : LocalId → LocalId → Bool
is_local x y = x.0 == y.0

-- ---- instructions and terminators

-- where a test finds instructions and the terminator of a block
abbrev pub block_faults : (Step → Bool) → Block → List Place
block_faults bad b = flat_map (λ (i : Instr). place_if (bad (Does i)) i.place) b.code ++ place_if (bad (Ends b)) b.end_place

abbrev pub step_faults : (Step → Bool) → Func → List Place
step_faults bad f = flat_map (block_faults bad) f.blocks

-- ---- sets of numbers

-- a set of numbers, in the order in which they were added, with one more
abbrev pub with_number : List ℕ → ℕ → List ℕ
with_number ns n = if list_any (nat_eq n) ns then ns else ns ++ n ∷ []

-- a set of numbers with more
abbrev pub with_numbers : List ℕ → List ℕ → List ℕ
with_numbers ns more = fold with_number ns more

abbrev pub numbers_of : List ℕ → List ℕ
numbers_of ns = with_numbers [] ns

-- ---- global variables

abbrev pub global_number : GlobalVar → ℕ
global_number g = g.name.0

abbrev pub global_numbers : Module → List ℕ
global_numbers m = numbers_of (map global_number m.globals)

-- ---- integers

-- an integer of a width w lies in -2^(w-1) to 2^w - 1
abbrev pub fits : Width → ℤ → Bool
fits w (pos a) = nat_lt a (modulus w)
fits w (negsuc a) = nat_lt a (modulus w / 2)

abbrev pub fits_type : IrType → ℤ → Bool
fits_type (Int w) n = fits w n
fits_type _ n = false

abbrev pub count_fits : TypedCount → Bool
count_fits n = fits_type n.ty n.count
