-- The rules of a module as a whole: `main`, names after `@`, sums of sizes, and the target.
use Rattle.std.specs.Prelude.{◌≡◌, ◌≢◌, ◌⊎◌, ℕ, ◌+◌, ◌<◌, max, false, IsTrue, List, [], ◌++◌, length, map, filter, fold, take, sum_by, codes, Option, Some, None, slice_get, Contains}
use Rattle.std.specs.Int.{next_multiple_of}
use Rattle.oi_base.specs.declared.ids.Place.{Place}
use Rattle.oi_base.specs.declared.words.Width.TheVariants.{W32}
use Rattle.ir_core.specs.declared.limits.TheConstants.{MOST_DATA, MOST_NAME_BYTES, NAME_EXTRA}
use Rattle.ir_core.specs.declared.ty.TypeDef.{TypeDef}
use Rattle.ir_core.specs.declared.ty.IrType.{Int}
use Rattle.ir_core.specs.declared.module.SymId.{SymId}
use Rattle.ir_core.specs.declared.module.GlobalVar.{GlobalVar}
use Rattle.ir_core.specs.declared.module.Declaration.{Declaration}
use Rattle.ir_core.specs.declared.module.Module.{Module}
use Rattle.ir_core.specs.declared.func.Func.{Func}
use Rattle.ir_core.specs.Sizes.{size, align}
use Rattle.ir_core.specs.Operands.{start, is_up_to, symbol_text}

-- ---- main

abbrev pub HasMain : Module → Type 0
HasMain m =
    (f : Func) × Contains m.funcs f × (symbol_text m f.name ≡ codes "main") × (f.internal ≡ false) × (f.params ≡ []) × (f.result ≡ Int W32)

-- Rule 1. There is an external definition `@main` without parameters and with result `i32`.
abbrev pub BreaksMain : Module → Place → Type 0
BreaksMain m p = (p ≡ start) × (HasMain m → ⊥)

-- ---- names after `@`

-- a global, a definition or a declaration: its name and its place
pub record Introduced : Type 0 where
  pub name : SymId
  pub place : Place

abbrev pub introduced_globals : Module → List Introduced
introduced_globals m = map (λ (g : GlobalVar). record { name = g.name; place = g.place }) m.globals

abbrev pub introduced_funcs : Module → List Introduced
introduced_funcs m = map (λ (f : Func). record { name = f.name; place = f.place }) m.funcs

abbrev pub introduced : Module → List Introduced
introduced m = introduced_globals m ++ introduced_funcs m ++ map (λ (d : Declaration). record { name = d.name; place = d.place }) m.declared

-- Rule 2. No name after `@` is introduced twice; the rule is broken at the second.
abbrev pub BreaksSymbolTwice : Module → Place → Type 0
BreaksSymbolTwice m p =
    (i j : ℕ) × (a b : Introduced) × (i ≢ j) × (slice_get (introduced m) i ≡ Some a) × (slice_get (introduced m) j ≡ Some b)
    × (a.name ≡ b.name) × IsTrue (is_up_to a.place b.place) × (b.place ≡ p)

-- ---- sums

-- the stated alignment, where 0 counts as 1, else the type's
abbrev pub global_align : List TypeDef → GlobalVar → ℕ
global_align defs g = stated g.align
  where
    stated : Option ℕ → ℕ
    stated None = align defs g.ty
    stated (Some a) = max a 1

-- where the data end once these globals stand one after the other, each at the next multiple of its alignment
abbrev pub data_end : List TypeDef → List GlobalVar → ℕ
data_end defs globals = fold (λ (end : ℕ) (g : GlobalVar). next_multiple_of end (global_align defs g) + size defs g.ty) 0 globals

-- a global with which the data are too large
abbrev pub HasTooMuchData : Module → Place → Type 0
HasTooMuchData m p = (i : ℕ) × (g : GlobalVar) × (slice_get m.globals i ≡ Some g) × (g.place ≡ p) × (MOST_DATA < data_end m.types.defs (take (i + 1) m.globals))

-- definitions and globals
abbrev pub named : Module → List Introduced
named m = introduced_globals m ++ introduced_funcs m

-- the bytes of the names up to a place, with 17 more for each
abbrev pub name_bytes : Module → Place → ℕ
name_bytes m p = sum_by (λ (a : Introduced). length (symbol_text m a.name) + NAME_EXTRA) (filter (λ (a : Introduced). is_up_to a.place p) (named m))

-- a definition or a global with which the names are too long
abbrev pub HasTooManyNames : Module → Place → Type 0
HasTooManyNames m p = (a : Introduced) × Contains (named m) a × (a.place ≡ p) × (MOST_NAME_BYTES < name_bytes m p)

-- Rule 6. The data, in which an `align` of 0 counts as 1, have at most 1,048,576 bytes, and the names of all definitions
-- and globals, with 17 bytes more for each, at most 67,108,864. It is broken at each with which a sum is greater.
abbrev pub BreaksTotals : Module → Place → Type 0
BreaksTotals m p = HasTooMuchData m p ⊎ HasTooManyNames m p

-- ---- the target

-- what stands before a part of a text whose parts stand between signs `-`, and what stands after it
abbrev pub EndsAPart : List ℕ → Type 0
EndsAPart before = (before ≡ []) ⊎ ((more : List ℕ) × (before ≡ more ++ codes "-"))

abbrev pub BeginsAPart : List ℕ → Type 0
BeginsAPart after = (after ≡ []) ⊎ ((more : List ℕ) × (after ≡ codes "-" ++ more))

abbrev pub HasPart : List ℕ → List ℕ → Type 0
HasPart part text = (before after : List ℕ) × (text ≡ before ++ part ++ after) × EndsAPart before × BeginsAPart after

abbrev pub IsLayout : List ℕ → Type 0
IsLayout text = HasPart (codes "e") text × HasPart (codes "p:32:32") text

abbrev pub IsTriple : List ℕ → Type 0
IsTriple text = (rest : List ℕ) × (text ≡ codes "riscv32" ++ rest)

-- a text that is there and isn't as it must be
abbrev pub IsWrong : (List ℕ → Type 0) → Option (List ℕ) → Type 0
IsWrong Is None = ⊥
IsWrong Is (Some text) = Is text → ⊥

-- Rule 8. A datalayout's parts between the signs `-` contain `e` and `p:32:32`, and a triple begins with `riscv32`.
abbrev pub BreaksTarget : Module → Place → Type 0
BreaksTarget m p = (p ≡ start) × (IsWrong IsLayout m.layout ⊎ IsWrong IsTriple m.triple)
