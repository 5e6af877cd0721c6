-- A text has one module.
use Rattle.std.proofs.Common.{◌≡◌, ℕ, false, List}
use Rattle.ir_core.specs.declared.module.Module as modules
use Rattle.ir_grammar.specs.Names.{no_names}
use Rattle.ir_grammar.specs.Pieces.{Piece, pieces}
use Rattle.ir_grammar.specs.Tokens.{Limits, stated}
use Rattle.ir_grammar.specs.Entities.{text_form}
use Rattle.ir_grammar.specs.Reading.{ReadsPieces, Reads, ReadsWithinLimits}
use Rattle.ir_grammar.proofs.LawsOfOperations.{AnyParams}
use Rattle.ir_grammar.proofs.LawsOfEntities.{AnyFunctions, law_text_form}
use Rattle.ir_grammar.proofs.Exact.{one_value}

limited_params : (l : Limits) → AnyParams false l
limited_params l e = absurd cc

limited_functions : (l : Limits) → AnyFunctions false l
limited_functions l e = absurd cc

one_of_pieces : (l : Limits) (ts : List Piece) (m n : modules.Module) → ReadsPieces l ts m → ReadsPieces l ts n → m ≡ n
one_of_pieces l ts m n h k = (one_value (text_form l) _ (law_text_form l (limited_params l) (limited_functions l)) no_names ts m n h.0 k.0 h.1 k.1).0

pub one_module : (bytes : List ℕ) (m n : modules.Module) → Reads bytes m → Reads bytes n → m ≡ n
one_module bytes m n h k = one_of_pieces _ (pieces bytes) m n h k

pub one_module_within : (bytes : List ℕ) (m n : modules.Module) → ReadsWithinLimits bytes m → ReadsWithinLimits bytes n → m ≡ n
one_module_within bytes m n h k = one_of_pieces stated (pieces bytes) m n h k
