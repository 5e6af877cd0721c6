-- Where the rule of alignments is broken.
use Rattle.std.specs.Prelude.{ℕ, nat_eq, nat_le, Bool, true, not, ◌&&◌, List, [], ◌∷◌, ◌++◌, Option, Some, None}
use Rattle.std.specs.List.{flat_map, list_any}
use Rattle.oi_base.specs.declared.ids.Place.{Place}
use Rattle.ir_core.specs.declared.ty.TypeDef.{TypeDef}
use Rattle.ir_core.specs.declared.ty.IrType.{IrType}
use Rattle.ir_core.specs.declared.module.GlobalVar.{GlobalVar}
use Rattle.ir_core.specs.declared.module.Module.{Module}
use Rattle.ir_core.specs.declared.op.Op.{Op}
use Rattle.ir_core.specs.declared.op.Op.TheVariants.{Alloca, Load, Store}
use Rattle.ir_core.specs.declared.func.Instr.{Instr}
use Rattle.ir_core.specs.declared.func.Block.{Block}
use Rattle.ir_core.specs.declared.func.Func.{Func}
use Rattle.ir_core.specs.Sizes.{align}
use Rattle.module_rules.specs.Faults.{place_if}

abbrev pub is_align : ℕ → Bool
is_align a = list_any (nat_eq a) (1 ∷ 2 ∷ 4 ∷ 8 ∷ 16 ∷ [])

abbrev pub is_good_align : List TypeDef → IrType → Option ℕ → Bool
is_good_align defs t None = true
is_good_align defs t (Some a) = is_align a && nat_le (align defs t) a

abbrev pub promises_well : List TypeDef → Op → Bool
promises_well defs (Alloca t count a) = is_good_align defs t a
promises_well defs (Load t from a) = is_good_align defs t a
promises_well defs (Store v to a) = is_good_align defs v.ty a
promises_well defs _ = true

abbrev pub global_align_fault : List TypeDef → GlobalVar → List Place
global_align_fault defs g = place_if (not (is_good_align defs g.ty g.align)) g.place

abbrev pub code_align_faults : List TypeDef → Block → List Place
code_align_faults defs b = flat_map (λ (i : Instr). place_if (not (promises_well defs i.op)) i.place) b.code

abbrev pub func_align_faults : List TypeDef → Func → List Place
func_align_faults defs f = flat_map (code_align_faults defs) f.blocks

abbrev pub align_faults : Module → List Place
align_faults m = flat_map (global_align_fault m.types.defs) m.globals ++ flat_map (func_align_faults m.types.defs) m.funcs
