-- What a build does not take yet of a module that breaks no rule. It takes a `main` of one block of at most `MOST_OPS` sums and
-- differences of words of 32 bits, which returns such a word, and neither another definition nor a global variable.
use Rattle.optinline.specs.declared.unbuilt.TheConstants.{MOST_OPS}
use Rattle.std.specs.Prelude.{Bool, true, false, not, ◌&&◌, if◌then◌else◌, List, [], ◌∷◌, ◌++◌, drop, Some}
use Rattle.std.specs.List.{flat_map}
use Rattle.oi_base.specs.declared.ids.Place.{Place}
use Rattle.ir_core.specs.declared.flat.BinOp.{BinOp}
use Rattle.ir_core.specs.declared.flat.BinOp.TheVariants.{Add, Sub}
use Rattle.ir_core.specs.declared.constant.Const as consts
use Rattle.ir_core.specs.declared.op.Operand.{Operand}
use Rattle.ir_core.specs.declared.op.Operand.TheVariants.{Local, Const}
use Rattle.ir_core.specs.declared.op.Op.{Op}
use Rattle.ir_core.specs.declared.op.Op.TheVariants.{Bin}
use Rattle.ir_core.specs.declared.op.End.{End}
use Rattle.ir_core.specs.declared.op.End.TheVariants.{Ret}
use Rattle.ir_core.specs.declared.func.Instr.{Instr}
use Rattle.ir_core.specs.declared.func.Block.{Block}
use Rattle.ir_core.specs.declared.func.Func.{Func}
use Rattle.ir_core.specs.declared.module.GlobalVar.{GlobalVar}
use Rattle.ir_core.specs.declared.module.Module.{Module}
use Rattle.ir_core.specs.Source.{is_main}
use Rattle.module_rules.specs.Faults.{place_if}
use Rattle.ir_core.specs.Types.{is_word}

-- ---- forms

-- a register, or an integer
abbrev pub is_simple : Operand → Bool
is_simple (Local x) = true
is_simple (Const (consts.Int n)) = true
is_simple _ = false

abbrev pub adds_or_subtracts : BinOp → Bool
adds_or_subtracts Add = true
adds_or_subtracts Sub = true
adds_or_subtracts _ = false

-- `add i32 v, v` or `sub i32 v, v`
abbrev pub is_sum : Op → Bool
is_sum (Bin kind t a b) = adds_or_subtracts kind && (is_word t && (is_simple a && is_simple b))
is_sum _ = false

-- `ret i32 v`
abbrev pub returns_simple : End → Bool
returns_simple (Ret (Some v)) = is_word v.ty && is_simple v.value
returns_simple _ = false

-- ---- places of what isn't built

abbrev pub instr_places : Instr → List Place
instr_places i = i.place ∷ []

abbrev pub block_places : Block → List Place
block_places b = b.place ∷ []

abbrev pub instr_unbuilt : Instr → List Place
instr_unbuilt i = place_if (not (is_sum i.op)) i.place

-- a block's instructions and terminator of other forms, and its operations after the first `MOST_OPS`
abbrev pub block_unbuilt : Block → List Place
block_unbuilt b =
    flat_map instr_unbuilt b.code ++ flat_map instr_places (drop MOST_OPS b.code) ++ place_if (not (returns_simple b.end)) b.end_place

-- each block of `main` but the first, and what isn't built in a block
abbrev pub main_unbuilt : List Block → List Place
main_unbuilt blocks = flat_map block_places (drop 1 blocks) ++ flat_map block_unbuilt blocks

-- each definition but `main`
abbrev pub func_unbuilt : Module → Func → List Place
func_unbuilt m f = if is_main m f then main_unbuilt f.blocks else f.place ∷ []

abbrev pub global_unbuilt : GlobalVar → List Place
global_unbuilt g = g.place ∷ []

-- the places of all of it, each global variable's among them
abbrev pub unbuilt : Module → List Place
unbuilt m = flat_map global_unbuilt m.globals ++ flat_map (func_unbuilt m) m.funcs
