-- Whether a module has the function `@main` that it has to have.
use Rattle.std.specs.Prelude.{Bool, true, false, not, ◌&&◌, List, []}
use Rattle.ir_core.specs.declared.module.Module.{Module}
use Rattle.ir_core.specs.declared.func.Func.{Func}
use Rattle.ir_core.specs.declared.func.Param.{Param}
use Rattle.ir_core.specs.Source.{is_main}
use Rattle.ir_core.specs.Types.{is_word}

abbrev pub is_empty : List Param → Bool
is_empty [] = true
is_empty _ = false

unfoldable pub is_good_main : Module → Func → Bool
is_good_main m f = is_main m f && (not f.internal && (is_empty f.params && is_word f.result))
