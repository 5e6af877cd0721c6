-- The accepted text, and the module of a text.
use Rattle.std.specs.Prelude.{◌≡◌, ℕ, ◌<◌, All, List, [], ◌∷◌, ◌++◌, length}
use Rattle.ir_lexer.specs.declared.table.Spot.{Spot}
use Rattle.ir_core.specs.declared.module.Module as modules
use Rattle.ir_core.specs.Places.{AreSameButForPlaces}
use Rattle.ir_grammar.specs.declared.which.Which.{Which}
use Rattle.ir_grammar.specs.Pieces.{Piece, Is, pieces}
use Rattle.ir_grammar.specs.Names.{Names, no_names}
use Rattle.ir_grammar.specs.Forms.{Outcome}
use Rattle.ir_grammar.specs.Tokens.{Limits, stated, unlimited}
use Rattle.ir_grammar.specs.Entities.{text_form}

-- these pieces are those of a text of the module, within the limits
abbrev pub ReadsPieces : Limits → List Piece → modules.Module → Type 0
ReadsPieces l ts m = (s : Names) × (text_form l).reads no_names ts m s

-- a text of the module: its levels need no limit, since it has no more of them than tokens
abbrev pub Reads : List ℕ → modules.Module → Type 0
Reads bytes m = ReadsPieces (unlimited (length (pieces bytes))) (pieces bytes) m

-- a text of the module within the limits but that on call sites
abbrev pub ReadsWithinLimits : List ℕ → modules.Module → Type 0
ReadsWithinLimits bytes m = ReadsPieces stated (pieces bytes) m

-- some text of bytes is one of this module, but for places
abbrev pub IsReadable : modules.Module → Type 0
IsReadable m = (bytes : List ℕ) × (read : modules.Module) × All (λ b. b < 256) bytes × Reads bytes read × AreSameButForPlaces read m

-- some text of bytes within the limits is
abbrev pub IsReadableWithinLimits : modules.Module → Type 0
IsReadableWithinLimits m = (bytes : List ℕ) × (read : modules.Module) × All (λ b. b < 256) bytes × ReadsWithinLimits bytes read × AreSameButForPlaces read m

-- some accepted text begins with these pieces
abbrev pub IsFront : List Piece → Type 0
IsFront u = (n : ℕ) × (v : List Piece) × (m : modules.Module) × ReadsPieces (unlimited n) (u ++ v) m

-- a text is these pieces, this one and these after it: an accepted text begins with those before it, and none goes on
-- with it
abbrev pub FirstRefused : List ℕ → List Piece → Piece → List Piece → Type 0
FirstRefused bytes u t rest = (pieces bytes ≡ u ++ t ∷ rest) × IsFront u × (IsFront (u ++ t ∷ []) → ⊥)

-- A text is these pieces, this token and the pieces after it: after those before it the token exceeds this limit.
-- It is the `define` of one function too many; what stands after the last parameter or argument that may be and a
-- comma; the bracket that opens one level of a type or an initialiser too many; or an integer out of range that is a
-- length, a count or an alignment.
abbrev pub ExceedsAt : List ℕ → Which → List Piece → Spot → List Piece → Type 0
ExceedsAt bytes w u t rest = (pieces bytes ≡ u ++ Is t ∷ rest) × (text_form stated).exceeds no_names (u ++ Is t ∷ []) w

-- how a text is read within the limits, but for that on call sites: from left to right with one token in view
abbrev pub read : List ℕ → Outcome modules.Module
read bytes = (text_form stated).parse (record { names = no_names; tokens = pieces bytes })
