-- The signs that a group awaits, by what the next token does to them.
use Rattle.std.specs.Prelude.{ℕ, Bool, false, List, [], ◌∷◌, Option, None}
use Rattle.ir_phrases.specs.declared.groups.Step.{Step}
use Rattle.ir_phrases.specs.declared.groups.Step.TheVariants as steps
use Rattle.ir_grammar.specs.Pieces.{Piece}
use Rattle.ir_grammar.specs.Groups.{awaits, is_noinline}

-- the signs that are awaited after a step, where this one was the next one and these come after it
abbrev pub put_back : ℕ → List ℕ → Step → List ℕ
put_back a as' steps.Closes = as'
put_back a as' (steps.Opens c) = c ∷ a ∷ as'
put_back a as' steps.Stays = a ∷ as'

abbrev pub head_awaits : ℕ → List ℕ → List Piece → Option (List ℕ)
head_awaits a as' [] = None
head_awaits a as' (t ∷ ts) = awaits a as' t

abbrev pub head_noinline : List Piece → Bool
head_noinline [] = false
head_noinline (t ∷ ts) = is_noinline t
