use Rattle.std.proofs.Common.{◌≡◌, ℕ, ◌<◌, false, get_or}
use Rattle.ir_core.specs.declared.func.Func.{Func}
use Rattle.ir_core.specs.Source.{is_main}
use Rattle.image_layout.proofs.entries.main_function.Given as goal

abbrev pub invariant-loop-number : goal.invariant-loop-number
invariant-loop-number l = (k : ℕ) (d : Func) → k < l.number → is_main l.m (get_or l.m.funcs k d) ≡ false
