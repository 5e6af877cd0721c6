-- A module without the places of its parts in a text.
use Rattle.std.specs.Prelude.{◌≡◌, map}
use Rattle.oi_base.specs.declared.ids.Place.{Place}
use Rattle.ir_core.specs.declared.ty.TypeDef.{TypeDef}
use Rattle.ir_core.specs.declared.func.Instr.{Instr}
use Rattle.ir_core.specs.declared.func.Block.{Block}
use Rattle.ir_core.specs.declared.func.Func.{Func}
use Rattle.ir_core.specs.declared.module.GlobalVar.{GlobalVar}
use Rattle.ir_core.specs.declared.module.Declaration.{Declaration}
use Rattle.ir_core.specs.declared.module.Module as modules

-- the place that stands for none
abbrev pub no_place : Place
no_place = record { line = 0; column = 0 }

abbrev pub unplaced_instr : Instr → Instr
unplaced_instr i = record i { place = no_place }

abbrev pub unplaced_block : Block → Block
unplaced_block b = record b { place = no_place; code = map unplaced_instr b.code; end_place = no_place }

abbrev pub unplaced_func : Func → Func
unplaced_func f = record f { place = no_place; blocks = map unplaced_block f.blocks }

abbrev pub unplaced_type : TypeDef → TypeDef
unplaced_type d = record d { place = no_place }

abbrev pub unplaced_global : GlobalVar → GlobalVar
unplaced_global g = record g { place = no_place }

abbrev pub unplaced_declaration : Declaration → Declaration
unplaced_declaration d = record d { place = no_place }

abbrev pub unplaced : modules.Module → modules.Module
unplaced m = record m {
  types = record m.types { defs = map unplaced_type m.types.defs };
  globals = map unplaced_global m.globals;
  funcs = map unplaced_func m.funcs;
  declared = map unplaced_declaration m.declared;
}

-- one module, but for the places of its parts
abbrev pub AreSameButForPlaces : modules.Module → modules.Module → Type 0
AreSameButForPlaces m n = unplaced m ≡ unplaced n
