use Rattle.std.proofs.Common.{refl, [], ◌∷◌}
use Rattle.std.proofs.Math.Path.{fun_ext}
use Rattle.rv_isa.specs.Memory.{stack_end}
use Rattle.rv_machine.proofs.ZeroArrays.{one_word}
use Rattle.rv_machine.proofs.registers.Registers.at_load.Goals as goal

pub returns : goal.returns
returns c = fun_ext (λ q. one_word stack_end (0 ∷ 0 ∷ 0 ∷ 0 ∷ 0 ∷ 0 ∷ 0 ∷ 0 ∷ 0 ∷ 0 ∷ 0 ∷ 0 ∷ 0 ∷ 0 ∷ 0 ∷ 0 ∷ 0 ∷ 0 ∷ 0 ∷ 0 ∷ 0 ∷ 0 ∷ 0 ∷ 0 ∷ 0 ∷ 0 ∷ 0 ∷ 0 ∷ 0 ∷ []) q refl)
