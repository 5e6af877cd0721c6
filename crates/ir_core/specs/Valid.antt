-- Modules that meet all rules: none is broken at any place.
use Rattle.std.specs.Prelude.{All}
use Rattle.oi_base.specs.declared.ids.Place.{Place}
use Rattle.ir_core.specs.declared.module.Module.{Module}
use Rattle.ir_core.specs.declared.func.Func.{Func}
use Rattle.ir_core.specs.ValidModule.{BreaksMain, BreaksSymbolTwice, BreaksTotals, BreaksTarget}
use Rattle.ir_core.specs.ValidTypes.{BreaksTypeNames, BreaksSizes, BreaksAlignments}
use Rattle.ir_core.specs.ValidConsts.{BreaksInitialisers}
use Rattle.ir_core.specs.ValidFunc.{BreaksNames, BreaksReferences, BreaksPositions, BreaksEntry}
use Rattle.ir_core.specs.ValidOps.{BreaksTypes, BreaksConstants, BreaksCalls, BreaksCases}
use Rattle.ir_core.specs.ValidPaths.{BreaksPhis, BreaksAssignment}

-- the rules 9 to 18 of a function
pub record IsValidFunc (m : Module) (f : Func) : Type 0 where
  pub names : (p : Place) → BreaksNames f p → ⊥
  pub references : (p : Place) → BreaksReferences m f p → ⊥
  pub positions : (p : Place) → BreaksPositions f p → ⊥
  pub entry : (p : Place) → BreaksEntry f p → ⊥
  pub types : (p : Place) → BreaksTypes m f p → ⊥
  pub constants : (p : Place) → BreaksConstants f p → ⊥
  pub calls : (p : Place) → BreaksCalls m f p → ⊥
  pub phis : (p : Place) → BreaksPhis m f p → ⊥
  pub cases : (p : Place) → BreaksCases m f p → ⊥
  pub assignment : (p : Place) → BreaksAssignment f p → ⊥

-- the rules 1 to 8 of a module, and those of its functions
pub record IsValid (m : Module) : Type 0 where
  pub main : (p : Place) → BreaksMain m p → ⊥
  pub symbol_twice : (p : Place) → BreaksSymbolTwice m p → ⊥
  pub type_names : (p : Place) → BreaksTypeNames m p → ⊥
  pub sizes : (p : Place) → BreaksSizes m p → ⊥
  pub initialisers : (p : Place) → BreaksInitialisers m p → ⊥
  pub totals : (p : Place) → BreaksTotals m p → ⊥
  pub alignments : (p : Place) → BreaksAlignments m p → ⊥
  pub target : (p : Place) → BreaksTarget m p → ⊥
  pub each_func : All (IsValidFunc m) m.funcs
