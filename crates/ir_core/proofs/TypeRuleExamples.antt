-- Modules that break a rule of types or of initialisers, each at its place, and offsets of constant addresses.
use Rattle.std.proofs.Common.{◌≡◌, inl, inr, ℕ, ◌<◌, false, List, [], ◌∷◌, codes, Option, None, pos, refl, sym, subst, arith}
use Rattle.oi_base.specs.declared.words.Width.TheVariants.{W8, W16, W32}
use Rattle.ir_core.specs.declared.ty.IrType.{IrType}
use Rattle.ir_core.specs.declared.ty.IrType as types
use Rattle.ir_core.specs.declared.ty.IrType.TheBlock as tree
use Rattle.ir_core.specs.declared.ty.TypeDef.{TypeDef}
use Rattle.ir_core.specs.declared.module.GlobalVar.{GlobalVar}
use Rattle.ir_core.specs.declared.module.Module.{Module}
use Rattle.ir_core.specs.declared.constant.Const.{Const}
use Rattle.ir_core.specs.declared.constant.Const as consts
use Rattle.ir_core.specs.Sizes.{layout}
use Rattle.ir_core.specs.ValidConsts.{Fits, FitsType, BreaksInitialisers, gep_offset}
use Rattle.ir_core.specs.ValidModule.{BreaksTotals}
use Rattle.ir_core.specs.ValidTypes.{BreaksTypeNames, BreaksSizes}
use Rattle.ir_core.proofs.RuleExamples.{at, of_funcs}

-- a global `@main` on line 1
abbrev global : IrType → Const → Option ℕ → GlobalVar
global t init align = record { place = at 1 1; name = record { 0 = 0 }; internal = false; constant = false; ty = t; init = init; align = align }

abbrev of_globals : List TypeDef → List GlobalVar → Module
of_globals defs gs = record (of_funcs []) { types = record { names = codes "T" ∷ []; defs = defs }; globals = gs }

abbrev bytes : ℕ → IrType
bytes n = types.Array n (types.Int W8)

-- `%T = type { [0 x %T] }` on line 3
abbrev itself : TypeDef
itself = record { place = at 3 1; name = record { 0 = 0 }; ty = types.Struct (types.Array 0 (types.Named (record { 0 = 0 })) ∷ []) }

holds_itself : BreaksTypeNames (of_globals (itself ∷ []) []) (at 3 1)
unfolding layout tree.hidden-the_row-IrType-0 tree.hidden-the_row-IrType-1 denote.Hole.Carrier.hidden types.out-IrType denote.Hole.Carrier.out tree.shown-the_row-IrType-0 tree.shown-the_row-IrType-1 denote.Hole.Carrier.shown
holds_itself = inr (inr (inr (itself, (0, omega arith, refl), refl, ([], (itself, refl, (0, omega arith, refl))))))

too_large : BreaksSizes (of_globals [] (global (bytes 16777217) consts.Zero None ∷ [])) (at 1 1)
unfolding layout tree.hidden-the_row-IrType-0 tree.hidden-the_row-IrType-1 denote.Hole.Carrier.hidden types.out-IrType denote.Hole.Carrier.out tree.shown-the_row-IrType-0 tree.shown-the_row-IrType-1 denote.Hole.Carrier.shown
too_large = inl (global (bytes 16777217) consts.Zero None, (0, omega arith, refl), refl, (bytes 16777217, (0, omega arith, refl), (bytes 16777217, inl refl, omega arith)))

-- no element of it stands in memory, and yet its element is too large
too_large_inside : BreaksSizes (of_globals [] (global (types.Array 0 (bytes 16777217)) consts.Zero None ∷ [])) (at 1 1)
unfolding layout tree.hidden-the_row-IrType-0 tree.hidden-the_row-IrType-1 denote.Hole.Carrier.hidden types.out-IrType denote.Hole.Carrier.out tree.shown-the_row-IrType-0 tree.shown-the_row-IrType-1 denote.Hole.Carrier.shown
too_large_inside = inl (global (types.Array 0 (bytes 16777217)) consts.Zero None, (0, omega arith, refl), refl, (types.Array 0 (bytes 16777217), (0, omega arith, refl), (bytes 16777217, inr ([], (0, omega arith, refl)), omega arith)))

too_many_data : BreaksTotals (of_globals [] (global (bytes 1048577) consts.Zero None ∷ [])) (at 1 1)
unfolding layout tree.hidden-the_row-IrType-0 tree.hidden-the_row-IrType-1 denote.Hole.Carrier.hidden types.out-IrType denote.Hole.Carrier.out tree.shown-the_row-IrType-0 tree.shown-the_row-IrType-1 denote.Hole.Carrier.shown
too_many_data = inl (0, global (bytes 1048577) consts.Zero None, refl, refl, omega arith)

-- `i8 256`
large_number : BreaksInitialisers (of_globals [] (global (types.Int W8) (consts.Int (pos 256)) None ∷ [])) (at 1 1)
large_number = (global (types.Int W8) (consts.Int (pos 256)) None, (0, omega arith, refl), refl, fits_not)
  where
    fits_not : FitsType (types.Int W8) (pos 256) → ⊥
    fits_not h = let same : W8 ≡ h.0 = cc in let lt : 256 < 256 = subst (λ w. Fits w (pos 256)) (sym same) h.2 in omega (arith, lt)

-- the second field of an `i16` and an `i32`, and 4 bytes before an array of `i32`
second_field : gep_offset [] (types.Struct (types.Int W16 ∷ types.Int W32 ∷ [])) (record { ty = types.Int W32; count = pos 0 } ∷ record { ty = types.Int W32; count = pos 1 } ∷ []) ≡ 4
unfolding layout tree.hidden-the_row-IrType-0 tree.hidden-the_row-IrType-1 denote.Hole.Carrier.hidden types.out-IrType denote.Hole.Carrier.out tree.shown-the_row-IrType-0 tree.shown-the_row-IrType-1 denote.Hole.Carrier.shown
second_field = refl

one_before : gep_offset [] (types.Array 8 (types.Int W32)) (record { ty = types.Int W8; count = pos 0 } ∷ record { ty = types.Int W8; count = pos 255 } ∷ []) ≡ 4294967292
unfolding layout tree.hidden-the_row-IrType-0 tree.hidden-the_row-IrType-1 denote.Hole.Carrier.hidden types.out-IrType denote.Hole.Carrier.out tree.shown-the_row-IrType-0 tree.shown-the_row-IrType-1 denote.Hole.Carrier.shown
one_before = refl
