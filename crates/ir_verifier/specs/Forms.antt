-- What the form of a value says.
use Rattle.ir_core.specs.ValidConsts.{Meaning, OfLocal, IsWord, IsNull, IsAddress, IsPoison, HasNone}
use Rattle.ir_verifier.specs.declared.meanings.Form.{Form}
use Rattle.ir_verifier.specs.declared.meanings.Form.TheVariants.{Local, Word, Null, Address, Poison, Nothing}

abbrev pub meant : Form → Meaning
meant (Local x) = OfLocal x
meant (Word a) = IsWord a
meant Null = IsNull
meant (Address g a) = IsAddress g a
meant Poison = IsPoison
meant Nothing = HasNone
