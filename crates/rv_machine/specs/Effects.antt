-- The effects of instructions that the code has, as those of the machine's definition.
use Rattle.std.specs.Prelude.{ℕ, ◌^◌}
use Rattle.rv_isa.specs.Arithmetic.{sign_extended}
use Rattle.rv_isa.specs.Isa as isa
use Rattle.rv_machine.specs.Bytes.{size_of}
use Rattle.rv_machine.specs.declared.bytes.Size.{Size}
use Rattle.rv_machine.specs.declared.bytes.Size.TheVariants.{Byte, Half, Word}
use Rattle.rv_machine.specs.declared.effect.Extension.{Extension}
use Rattle.rv_machine.specs.declared.effect.Extension.TheVariants.{Zero, Sign}
use Rattle.rv_machine.specs.declared.effect.Effect.{Effect}
use Rattle.rv_machine.specs.declared.effect.Effect.TheVariants.{Sets, Jumps, Branches, Loads, Stores, Continues, Calls, Breaks}

-- the word of a loaded number
abbrev pub extended : Size → Extension → ℕ → ℕ
extended Byte Sign a = sign_extended (2 ^ 8) a
extended Half Sign a = sign_extended (2 ^ 16) a
extended Word Sign a = a
extended size Zero a = a

abbrev pub effect_of : Effect → isa.Effect
effect_of (Sets rd v) = isa.Sets rd v
effect_of (Jumps rd target) = isa.Jumps rd target
effect_of (Branches test target) = isa.Branches test target
effect_of (Loads rd a size extension) = isa.Loads rd a (size_of size) (extended size extension)
effect_of (Stores a size v) = isa.Stores a (size_of size) v
effect_of Continues = isa.Continues
effect_of Calls = isa.Calls
effect_of Breaks = isa.Breaks
