-- What folding answers, against what an operation gives where it runs.
use Rattle.std.specs.Prelude.{◌≡◌, ◌⊎◌}
use Rattle.ir_core.specs.Words.{Outcome, Known, NoWord, NoMeaning}
use Rattle.ir_core.specs.Memory.{Poisoned}
use Rattle.ir_core.specs.Rows.{Answer, Gives, NoGood}
use Rattle.ir_meaning.specs.declared.fold.Folded.{Folded}
use Rattle.ir_meaning.specs.declared.fold.Folded.TheVariants.{Word, Unfolded}

-- an operation gives no value, as its behaviour is undefined, or poison
abbrev pub GivesNoWord : Answer → Type 0
GivesNoWord answer = (answer ≡ Gives Poisoned) ⊎ (answer ≡ NoGood)

-- the folding of an outcome
abbrev pub folded : Outcome → Folded
folded (Known a) = Word a
folded NoWord = Unfolded
folded NoMeaning = Unfolded
