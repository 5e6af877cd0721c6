-- Tokens read one after another.
use Rattle.std.proofs.Common.{◌≡◌, false, List, [], ◌∷◌, ◌++◌, Ok, refl, ap, ◌∙◌}
use Rattle.ir_lexer.specs.declared.table.Spot.{Spot}
use Rattle.ir_lexer.specs.Lexing.{Unread, next_token, is_end, Passes}

-- one more token
pub one_more : (u : Unread) (ss : List Spot) (v w : Unread) (s : Spot) → Passes u ss v → next_token v ≡ Ok ((s.token, s.place), w) → is_end s.token ≡ false → Passes u (ss ++ s ∷ []) w
one_more u [] v w s e next more = (w, ap next_token e ∙ next, more, refl)
one_more u (t ∷ ss) v w s h next more = (h.0, h.1, h.2, one_more h.0 ss v w s h.3 next more)
